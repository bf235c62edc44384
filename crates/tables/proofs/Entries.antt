-- An entry where it lies: what is tested of its bytes is tested of the entry that they hold.
use mathlib.Core.Path.{◌≡◌, refl, sym, ap, ◌∙◌}
use mathlib.Core.Bool.{Bool, true, false, false≢true, ◌&&◌, and-true, and-false}
use mathlib.Core.List.{List}
use Prim.Native.Nat.{ℕ, ◌+◌, ◌-◌, ◌*◌, ◌≤◌}
use native.Mathlib.Omega.{arith}
use native.Mathlib.Decide.{ℕ_discrete}
use lib.Dec.{eqb}
use lib.ListN.{length, take, drop}
use borrow.Author.Tests.{eq-eqb, ne_eqb}
use Rattle.geometry.specs.Bytes.{part, padded, word_at}
use Rattle.geometry.specs.Lists.{every}
use Rattle.geometry.proofs.Bytes.{length_part, part-split, padded-long}
use Rattle.names.specs.Names.{is_name}
use Rattle.directory.specs.Entries.{entry_bytes}
use Rattle.directory.specs.Grouped.{is_zero, entry_good, used_good}
use Rattle.directory.proofs.Free.{every_append, zero-entry, free-good, other-good}
use Rattle.directory.specs.declared.Entry.{Entry}
use Rattle.tables.specs.Numbers.{long_at, number_in}
use Rattle.tables.specs.Tables.{Wide, count_at, entry_in}
use Rattle.tables.proofs.Numbers.{zero-byte, zero-sum, zero_number, zero_word}

-- the name, of which no byte is past the end
pub name-is : (b : List ℕ) (at : ℕ) → at + 8 ≤ length b → padded 0 8 (part b at 8) ≡ part b at 8
name-is b at h = padded-long 0 8 (part b at 8) (omega (arith, length_part b at 8 h))

-- the count
pub count-one : (w : ℕ) (b : List ℕ) (at : ℕ) → w ≡ 20 → count_at w b at ≡ word_at b at
unfolding count_at
count-one w b at e = rw (eq-eqb w 20 e, count_at)

pub count-two : (w : ℕ) (b : List ℕ) (at : ℕ) → ¬ (w ≡ 20) → count_at w b at ≡ long_at b at
unfolding count_at
count-two w b at e = rw (ne_eqb w 20 e, count_at)

-- ---- zero bytes

module _ (b : List ℕ) where
  -- the first k bytes, and m behind them
  front-zero : (k m at n next : ℕ) (r : Bool) → n ≡ k + m → next ≡ at + k → every zero-byte (part b next m) ≡ r
      → every zero-byte (part b at n) ≡ (every zero-byte (part b at k) && r)
  front-zero k m at n next r h e p =
      let d : n - k ≡ m = omega arith in
      ap (every zero-byte) (part-split b at n k (omega arith))
      ∙ every_append zero-byte (part b at k) (part b (at + k) (n - k))
      ∙ ap (λ (q : Bool). every zero-byte (part b at k) && q) (ap (λ (j : ℕ). every zero-byte (part b j (n - k))) (sym e) ∙ ap (λ (j : ℕ). every zero-byte (part b next j)) d ∙ p)

  -- the same, the first two told as a word
  next-zero : (m at n next : ℕ) (r : Bool) → n ≡ 2 + m → next ≡ at + 2 → at + 2 ≤ length b → every zero-byte (part b next m) ≡ r
      → every zero-byte (part b at n) ≡ (eqb (word_at b at) 0 && r)
  next-zero m at n next r h e l p = front-zero 2 m at n next r h e p ∙ ap (λ (q : Bool). q && r) (zero_word b at l)

  -- two parts of eight of which the second begins k bytes behind the first
  twice : (x y z : Bool) → (x && (y && z)) ≡ ((x && y) && (y && z))
  twice false y z = refl
  twice true false z = refl
  twice true true z = refl

  over_zero : (k at n next last : ℕ) → k ≤ 8 → n ≡ k + 8 → next ≡ at + k → last ≡ at + 8
      → every zero-byte (part b at n) ≡ (every zero-byte (part b at 8) && every zero-byte (part b next 8))
  over_zero k at n next last h e p q =
      let whole : every zero-byte (part b at n) ≡ (every zero-byte (part b at k) && every zero-byte (part b next 8)) = front-zero k 8 at n next _ e p refl in
      let first : every zero-byte (part b at 8) ≡ (every zero-byte (part b at k) && every zero-byte (part b next (8 - k))) = front-zero k (8 - k) at 8 next _ (omega arith) p refl in
      let second : every zero-byte (part b next 8) ≡ (every zero-byte (part b next (8 - k)) && every zero-byte (part b last k)) = front-zero (8 - k) k next 8 last _ (omega arith) (omega arith) refl in
      rw (whole, first, second) (twice (every zero-byte (part b at k)) (every zero-byte (part b next (8 - k))) (every zero-byte (part b last k)))

  module _ (w at : ℕ) (wide : Wide w) (room : at + w ≤ length b) where
    -- as three numbers of eight bytes
    by-eight : every zero-byte (part b at w)
        ≡ (eqb (number_in (part b at 8)) 0 && (eqb (number_in (part b (at + 8) 8)) 0 && eqb (number_in (part b (at + (w - 8)) 8)) 0))
    by-eight =
        front-zero 8 (w - 8) at w (at + 8) _ (omega arith) refl (over_zero (w - 16) (at + 8) (w - 8) (at + (w - 8)) (at + 16) (omega arith) (omega arith) (omega arith) (omega arith))
        ∙ rw (zero_number (part b at 8), zero_number (part b (at + 8) 8), zero_number (part b (at + (w - 8)) 8))

    zero-count : every zero-byte (part b (at + 16) (w - 18)) ≡ eqb (count_at w b (at + 16)) 0
    unfolding long_at
    zero-count = go (ℕ_discrete w 20)
      where
        go : Dec (w ≡ 20) → every zero-byte (part b (at + 16) (w - 18)) ≡ eqb (count_at w b (at + 16)) 0
        go (yes e) =
            let s : w - 18 ≡ 2 = omega arith in
            rw (s, count-one w b (at + 16) e) (zero_word b (at + 16) (omega arith))
        go (no e) =
            let s : w - 18 ≡ 4 = omega (arith, e) in
            rw (s, count-two w b (at + 16) e)
            (next-zero 2 (at + 16) 4 ((at + 16) + 2) _ refl refl (omega arith) (zero_word b ((at + 16) + 2) (omega (arith, e)))
            ∙ sym (zero-sum (65536 * word_at b (at + 16) + word_at b ((at + 16) + 2)) (word_at b (at + 16)) (word_at b ((at + 16) + 2))
            (λ (q : 65536 * word_at b (at + 16) + word_at b ((at + 16) + 2) ≡ 0). (omega arith, omega arith)) (λ (x : word_at b (at + 16) ≡ 0) (y : word_at b ((at + 16) + 2) ≡ 0). omega arith)))

    -- as the name and the numbers of an entry
    by_field : every zero-byte (part b at w) ≡ every zero-byte (entry_bytes (entry_in w b at))
    unfolding entry_in
    by_field =
        front-zero 8 (w - 8) at w (at + 8) _ (omega arith) refl
        (next-zero (w - 10) (at + 8) (w - 8) (at + 10) _ (omega arith) (omega arith) (omega arith)
        (next-zero (w - 12) (at + 10) (w - 10) (at + 12) _ (omega arith) (omega arith) (omega arith)
        (next-zero (w - 14) (at + 12) (w - 12) (at + 14) _ (omega arith) (omega arith) (omega arith)
        (next-zero (w - 16) (at + 14) (w - 14) (at + 16) _ (omega arith) (omega arith) (omega arith)
        (front-zero (w - 18) 2 (at + 16) (w - 16) (at + (w - 2)) _ (omega arith) (omega arith) (zero_word b (at + (w - 2)) (omega arith))
        ∙ ap (λ (q : Bool). q && eqb (word_at b (at + (w - 2))) 0) zero-count)))))
        ∙ sym (zero-entry (entry_in w b at) ∙ rw (name-is b at (omega arith)))

    abbrev zeros : Bool
    zeros = is_zero (entry_in w b at)

    -- read one after another, the last eight first, up to those that are not zero
    by_number : zeros ≡ (eqb (number_in (part b at 8)) 0 && (eqb (number_in (part b (at + 8) 8)) 0 && eqb (number_in (part b (at + (w - 8)) 8)) 0))
    by_number = sym by_field ∙ by-eight

    module _ (z : ℕ) (r : z ≡ number_in (part b (at + (w - 8)) 8)) where
      pub zero-not : ¬ (z ≡ 0) → false ≡ zeros
      zero-not h =
          sym (by_number ∙ rw (sym r, ne_eqb z 0 h, and-false (eqb (number_in (part b (at + 8) 8)) 0), and-false (eqb (number_in (part b at 8)) 0)))

      module _ (e : z ≡ 0) (y : ℕ) (q : y ≡ number_in (part b (at + 8) 8)) where
        pub zero-not-next : ¬ (y ≡ 0) → false ≡ zeros
        zero-not-next h = sym (by_number ∙ rw (sym q, ne_eqb y 0 h, and-false (eqb (number_in (part b at 8)) 0)))

        pub zero-first : y ≡ 0 → (x : ℕ) → x ≡ number_in (part b at 8) → eqb x 0 ≡ zeros
        zero-first f x p = sym (by_number ∙ rw (sym r, eq-eqb z 0 e, sym q, eq-eqb y 0 f, sym p, and-true (eqb x 0)))

    -- ---- the rules of one entry, which is not zero

    module _ (N : ℕ) (other : zeros ≡ false) where
      module _ (r : Bool) (p : r ≡ is_name (take ((at + 8) - at) (drop at b))) where
        named : is_name (entry_in w b at).name ≡ r
        unfolding entry_in part
        named =
            let e : (at + 8) - at ≡ 8 = omega arith in
            ap is_name (name-is b at (omega arith)) ∙ ap (λ (n : ℕ). is_name (take n (drop at b))) (sym e) ∙ sym p

        pub unnamed_told : r ≡ false → false ≡ entry_good N (entry_in w b at)
        unnamed_told f = sym (other-good N (entry_in w b at) other ∙ rw (named, f))

        pub used-told : r ≡ true → (e : Entry) (s : Bool) → e ≡ entry_in w b at → s ≡ used_good N e → s ≡ entry_good N (entry_in w b at)
        used-told t e s q m = m ∙ ap (used_good N) q ∙ sym (other-good N (entry_in w b at) other ∙ rw (named, t))

      -- a good one is used
      pub good-used : entry_good N (entry_in w b at) ≡ true → ¬ (word_at b (at + 8) ≡ 0)
      unfolding entry_in
      good-used t k = false≢true (sym other ∙ sym (free-good N (entry_in w b at) k) ∙ t)
