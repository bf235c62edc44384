-- A run that an extent is in the way of stands free at no sector before the extent's end, so nothing is missed by moving there; and where no extent moves it, none is in the way.
use mathlib.Core.Path.{◌≡◌, sym, ap, ◌∙◌}
use mathlib.Core.Bool.{Bool, true, false, ◌&&◌, not, and-false, or-true}
use mathlib.Core.List.{List, [], ◌∷◌}
use Prim.Native.Nat.{ℕ, suc, ◌+◌, ◌≤◌, ◌<◌, min, max}
use native.Mathlib.Numerals.{add-one}
use native.Mathlib.Omega.{arith}
use native.Mathlib.Decide.{dec_lt}
use lib.Dec.{ltb}
use lib.ListN.{length, drop, drop_of_length-le}
use lib.Seq.{drop-cons}
use borrow.Author.Tests.{lt-ltb, le-ltb, ltb-true, not-true}
use Rattle.geometry.proofs.Tests.{either, chosen, not_chosen, and_left, and_right}
use Rattle.directory.specs.declared.Entry.{Entry}
use Rattle.directory.specs.Entries.{is_free, free_entry, entry_at}
use Rattle.gaps.specs.Gaps.{used_by, is_taken, stands_free, lowest_gap}
use Rattle.gaps.specs.Sweep.{behind, swept}
use Rattle.gaps.proofs.Taken.{uses, used-used, used-within, taken_none, taken-cons}
use Rattle.gaps.proofs.Gaps.{stands-there, stands-not, stands-outside, gap_is}

-- ---- one entry

module _ (n p : ℕ) (e : Entry) where
  abbrev end : ℕ
  end = e.first + e.sectors

  abbrev meets : Bool
  meets = ltb (max p e.first) (min (p + n) end)

  abbrev moves : Bool
  moves = not (is_free e) && meets

  pub behind-free : is_free e ≡ true → behind n p e ≡ p
  unfolding behind
  behind-free f = not_chosen moves end p (rw f)

  pub behind-apart : min (p + n) end ≤ max p e.first → behind n p e ≡ p
  unfolding behind
  behind-apart h = not_chosen moves end p (rw (le-ltb (max p e.first) (min (p + n) end) h, and-false (not (is_free e))))

  pub behind-met : is_free e ≡ false → max p e.first < min (p + n) end → behind n p e ≡ end
  unfolding behind
  behind-met u h = chosen moves end p (rw (u, lt-ltb (max p e.first) (min (p + n) end) h))

  -- whichever it is
  moved : {P : Type 0} → (is_free e ≡ false → max p e.first < min (p + n) end → behind n p e ≡ end → P) → (moves ≡ false → behind n p e ≡ p → P) → P
  unfolding behind
  moved f g =
      either moves
      (λ (h : moves ≡ true). f (not-true (is_free e) (and_left (not (is_free e)) meets h)) (ltb-true (max p e.first) (min (p + n) end) (and_right (not (is_free e)) meets h)) (chosen moves end p h))
      (λ (h : moves ≡ false). g h (not_chosen moves end p h))

  behind-on : p ≤ behind n p e
  behind-on = moved (λ u l q. omega arith) (λ h q. omega arith)

  -- a sector of the extent is in each run from a sector before its end
  behind-past : (q : ℕ) → p ≤ q → q < behind n p e → (used_by e (max q e.first) ≡ true) × (max q e.first < q + n)
  behind-past q l h = moved (λ u m r. (uses e (max q e.first) u (omega arith) (omega arith), omega arith)) (λ m r. absurd (omega arith))

  behind-still : behind n p e ≡ p → (k : ℕ) → p ≤ k → k < p + n → used_by e k ≡ false
  behind-still s k l h = either (used_by e k) (λ (y : used_by e k ≡ true).
      let w = used-within e k y in
      absurd (omega (arith, behind-met (used-used e k y) (omega arith)))) (λ (y : used_by e k ≡ false). y)

-- ---- a table

-- a sector that is in the way of n sectors from q on
record Stopped (t : List Entry) (n q : ℕ) : Type 0 where
  at : ℕ
  low : q ≤ at
  high : at < q + n
  taken : is_taken t at ≡ true

module _ (n : ℕ) where
  pub swept-on : (p : ℕ) (t : List Entry) → p ≤ swept n p t
  unfolding swept
  swept-on p [] = omega arith
  swept-on p (e ∷ es) = omega (arith, behind-on n p e, swept-on (behind n p e) es)

  swept-past : (p : ℕ) (t : List Entry) (q : ℕ) → p ≤ q → q < swept n p t → Stopped t n q
  unfolding swept
  swept-past p [] q l h = absurd (omega arith)
  swept-past p (e ∷ es) q l h = go (dec_lt q (behind n p e)) λ y. swept-past (behind n p e) es q y h
    where
      go : Dec (q < behind n p e) → (behind n p e ≤ q → Stopped es n q) → Stopped (e ∷ es) n q
      go (yes y) more =
          let w = behind-past n p e q l y in
          record { at = max q e.first; low = omega arith; high = w.1; taken = taken-cons e es (max q e.first) ∙ rw w.0 }
      go (no y) more =
          let s = more (omega arith) in
          record { at = s.at; low = s.low; high = s.high; taken = taken-cons e es s.at ∙ rw (s.taken, or-true (used_by e s.at)) }

  swept-still : (p : ℕ) (t : List Entry) → swept n p t ≡ p → (k : ℕ) → p ≤ k → k < p + n → is_taken t k ≡ false
  unfolding swept
  swept-still p [] h k l u = taken_none k
  swept-still p (e ∷ es) h k l u =
      let b : behind n p e ≡ p = omega (arith, behind-on n p e, swept-on (behind n p e) es) in
      let s : swept n p es ≡ p = ap (λ (q : ℕ). swept n q es) (sym b) ∙ h in
      taken-cons e es k ∙ rw (behind-still n p e b k l u, swept-still p es s k l u)

-- the first i entries gone over, from sector p on to q
module _ (t : List Entry) (n p q i : ℕ) (s : swept n p t ≡ swept n q (drop i t)) where
  pub sweeping-on : i < length t → (r : ℕ) → r ≡ behind n q (entry_at t i) → swept n p t ≡ swept n r (drop (i + 1) t)
  unfolding swept
  sweeping-on h r e =
      s ∙ ap (swept n q) (drop-cons t i free_entry h) ∙ ap (λ (x : ℕ). swept n x (drop (suc i) t)) (sym e) ∙ ap (λ (k : ℕ). swept n r (drop k t)) (sym (add-one i))

  pub sweeping-whole : length t ≤ i → q ≡ swept n p t
  unfolding swept
  sweeping-whole h = sym (s ∙ rw (drop_of_length-le t h))

-- ---- going on until nothing is in the way

module _ (t : List Entry) (N n p : ℕ) (passed : (q : ℕ) → q < p → stands_free (is_taken t) N n q ≡ false) where
  pub passed_on : (r : ℕ) → r ≡ swept n p t → (q : ℕ) → q < r → stands_free (is_taken t) N n q ≡ false
  passed_on r e q h = go (dec_lt q p)
    where
      go : Dec (q < p) → stands_free (is_taken t) N n q ≡ false
      go (yes l) = passed q l
      go (no l) =
          let s = swept-past n p t q (omega arith) (omega arith) in
          stands-not (is_taken t) N n q s.at s.low s.high s.taken

  pub rests : 1 ≤ p → p + n ≤ N → (r : ℕ) → r ≡ swept n p t → r ≡ p → p ≡ lowest_gap (is_taken t) N n
  rests s l r e q = sym (gap_is (is_taken t) N n p (omega arith) passed λ h. stands-there (is_taken t) N n p s l (swept-still n p t (sym e ∙ q)))

  pub leaves : N < p + n → N ≡ lowest_gap (is_taken t) N n
  leaves l = sym (gap_is (is_taken t) N n N (omega arith) below (λ h. absurd (omega arith)))
    where
      below : (q : ℕ) → q < N → stands_free (is_taken t) N n q ≡ false
      below q h = go (dec_lt q p)
        where
          go : Dec (q < p) → stands_free (is_taken t) N n q ≡ false
          go (yes y) = passed q y
          go (no y) = stands-outside (is_taken t) N n q (omega arith)
