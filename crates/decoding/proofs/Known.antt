-- What the decoder's answer tells. A good record has R characters, and its code is the first e bytes and at least one, whatever stands behind them;
-- a bad code's offset lies in the bytes read or at their end. By induction on the bytes: one control byte is obeyed, the rest is known.
use mathlib.Core.Path.{◌≡◌, refl, sym, ap, ◌∙◌}
use mathlib.Core.Logic.{◌≢◌}
use mathlib.Core.Bool.{Bool, true, false, ◌&&◌}
use mathlib.Core.List.{List, [], ◌∷◌, ◌++◌}
use Prim.Native.Nat.{ℕ, zero, suc, ◌+◌, ◌-◌, ◌≤◌, ◌<◌}
use native.Mathlib.Nat.{sub-zero}
use native.Mathlib.Omega.{arith}
use native.Mathlib.Decide.{dec_lt}
use lib.ListN.{length, take, drop, get_or, replicate, length-append, length-take, length-replicate, take-append-drop}
use lib.Seq.{length-take-le, take-take}
use lib.Dec.{leb}
use Rattle.geometry.specs.Sizes.{blank, sector}
use Rattle.decoding.specs.Decode.{Control, stop, go_on, characters, blanks, control, Decoded, good, bad, before, obey, decode_from, characters_from, decode}
use Rattle.decoding.proofs.Reader.{at-stop, at-go_on, at-short, at-over, at_on, at-full, at-blanks}

no-good : (k : ℕ) (xs : List ℕ) (e : ℕ) → bad k ≡ good xs e → ⊥
no-good k xs e h = let z : ◌≡◌ {A = ℕ} 0 1 = cc in omega arith

-- a good record that ys are put before
before-good : (ys : List ℕ) (f : Decoded) (xs : List ℕ) (e : ℕ) → before ys f ≡ good xs e → (zs : List ℕ) × (f ≡ good zs e) × (xs ≡ ys ++ zs)
unfolding before
before-good ys (good zs d) xs e h = (zs, (cc), (cc))
before-good ys (bad k) xs e h = absurd (no-good k xs e h)

before-none : (f : Decoded) → f ≡ before [] f
unfolding before
before-none (good xs e) = refl
before-none (bad k) = refl

-- ---- good records

-- what f reads of s, from offset `at` on, is the good record of so many characters xs with e behind it, more than k bytes further
record Known (f : List ℕ → Decoded) (size k at : ℕ) (s xs : List ℕ) (e : ℕ) : Type 0 where
  all : length xs ≡ size
  later : at + k < e
  inside : e ≤ at + length s
  alike : (t : List ℕ) → f (take (e - at) s ++ t) ≡ good xs e

-- one byte c before it, for which the characters ys are given
known_step : (f g : List ℕ → Decoded) (c size k n j at : ℕ) (s ys xs : List ℕ) (e : ℕ) → f (c ∷ s) ≡ good xs e → length ys + n ≡ size → k ≤ suc j
    → ((zs : List ℕ) → g s ≡ good zs e → Known g n j (at + 1) s zs e)
    → f (c ∷ s) ≡ before ys (g s)
    → ((t : List ℕ) → at + 1 + j < e → e ≤ at + 1 + length t → f (c ∷ t) ≡ before ys (g t))
    → Known f size k at (c ∷ s) xs e
unfolding before
known_step f g c size k n j at s ys xs e h total near rest here gives =
    let b = before-good ys (g s) xs e (sym here ∙ h) in
    let zs = b.0 in
    let r = rest zs b.1 in
    let later = r.later in
    let inside = r.inside in
    let m = e - (at + 1) in
    let one : e - at ≡ suc m = omega arith in
    let taken : length (take m s) ≡ m = length-take-le m s (omega arith) in
    record {
      all = ap length b.2 ∙ length-append ys zs ∙ (let z = r.all in omega arith);
      later = omega arith;
      inside = omega arith;
      alike = λ t. rw one (gives (take m s ++ t) later (rw length-append (omega arith)) ∙ ap (before ys) (r.alike t) ∙ ap (λ (l : List ℕ). good l e) (sym b.2));
    }

-- the control byte c
module _ (c room at : ℕ) (s xs : List ℕ) (e : ℕ) (h : decode_from room at (c ∷ s) ≡ good xs e)
    (next : (room at : ℕ) (zs : List ℕ) → decode_from room at s ≡ good zs e → Known (decode_from room at) room 0 at s zs e)
    (run : (n room at : ℕ) (zs : List ℕ) → characters_from n room at s ≡ good zs e → Known (characters_from n room at) (suc n + room) n at s zs e) where
  no-bad : decode_from room at (c ∷ s) ≡ bad at → ⊥
  no-bad is = no-good at xs e (sym is ∙ h)

  known-stop : c ≡ 0 → Known (decode_from room at) room 0 at (c ∷ s) xs e
  known-stop z =
      let is : (t : List ℕ) → decode_from room at (c ∷ t) ≡ good (replicate room blank) (at + 1) = λ t. at-stop room at (c ∷ t) (omega arith) z in
      let same : good (replicate room blank) (at + 1) ≡ good xs e = sym (is s) ∙ h in
      let blanks : replicate room blank ≡ xs = cc in
      let behind : at + 1 ≡ e = cc in
      let one : e - at ≡ 1 = omega arith in
      record { all = ap length (sym blanks) ∙ length-replicate room blank; later = omega arith; inside = omega arith; alike = λ t. rw one (is t ∙ same) }

  known-run : c ≢ 0 → c < 128 → Dec (length s < c) → Dec (room < c) → Known (decode_from room at) room 0 at (c ∷ s) xs e
  known-run more few (yes l) r = absurd (no-bad (at-short room at (c ∷ s) (omega arith) more few l))
  known-run more few (no l) (yes r) = absurd (no-bad (at-over room at (c ∷ s) (omega arith) more few (omega arith) r))
  known-run more few (no l) (no r) =
      let total : 0 + (suc (c - 1) + (room - c)) ≡ room = omega arith in
      let on : (t : List ℕ) → c ≤ length t → decode_from room at (c ∷ t) ≡ before [] (characters_from (c - 1) (room - c) (at + 1) t) =
      λ t g. at_on room at (c ∷ t) (omega arith) more few g (omega arith) ∙ before-none _ in
      known_step (decode_from room at) (characters_from (c - 1) (room - c) (at + 1)) c room 0 (suc (c - 1) + (room - c)) (c - 1) at s [] xs e h total (omega arith)
      (run (c - 1) (room - c) (at + 1)) (on s (omega arith)) (λ t far long. on t (omega arith))

  known-blanks : 128 < c → Dec (room < c - 128) → Known (decode_from room at) room 0 at (c ∷ s) xs e
  known-blanks most (yes r) = absurd (no-bad (at-full room at (c ∷ s) (omega arith) most r))
  known-blanks most (no r) =
      let m = c - 128 in
      let size : length (replicate m blank) ≡ m = length-replicate m blank in
      let on : (t : List ℕ) → decode_from room at (c ∷ t) ≡ before (replicate m blank) (decode_from (room - m) (at + 1) t) =
      λ t. at-blanks room at (c ∷ t) (omega arith) most (omega arith) in
      known_step (decode_from room at) (decode_from (room - m) (at + 1)) c room 0 (room - m) 0 at s (replicate m blank) xs e h (omega arith) (omega arith)
      (next (room - m) (at + 1)) (on s) (λ t far long. on t)

  known-control : Dec (0 < c) → Dec (c < 128) → Dec (128 < c) → Known (decode_from room at) room 0 at (c ∷ s) xs e
  known-control (no z) b d = known-stop (omega arith)
  known-control (yes z) (yes b) d = known-run (λ e. omega arith) b (dec_lt (length s) c) (dec_lt room c)
  known-control (yes z) (no b) (yes d) = known-blanks d (dec_lt room (c - 128))
  known-control (yes z) (no b) (no d) = absurd (no-bad (at-go_on room at (c ∷ s) (omega arith) (omega arith)))

known : (s : List ℕ) (e : ℕ)
    → ((room at : ℕ) (xs : List ℕ) → decode_from room at s ≡ good xs e → Known (decode_from room at) room 0 at s xs e)
    × ((n room at : ℕ) (xs : List ℕ) → characters_from n room at s ≡ good xs e → Known (characters_from n room at) (suc n + room) n at s xs e)
unfolding decode_from
known [] e = (λ room at xs h. absurd (no-good at xs e h), λ n room at xs h. absurd (no-good at xs e h))
known (c ∷ s) e =
    let i = known s e in (
      λ room at xs h. known-control c room at s xs e h i.0 i.1 (dec_lt 0 c) (dec_lt c 128) (dec_lt 128 c),
      λ n room at xs h. go i n room at xs h,
    )
  where
    go : ((room at : ℕ) (xs : List ℕ) → decode_from room at s ≡ good xs e → Known (decode_from room at) room 0 at s xs e)
        × ((n room at : ℕ) (xs : List ℕ) → characters_from n room at s ≡ good xs e → Known (characters_from n room at) (suc n + room) n at s xs e)
        → (n room at : ℕ) (xs : List ℕ) → characters_from n room at (c ∷ s) ≡ good xs e → Known (characters_from n room at) (suc n + room) n at (c ∷ s) xs e
    go i zero room at xs h =
        known_step (characters_from 0 room at) (decode_from room (at + 1)) c (1 + room) 0 room 0 at s (c ∷ []) xs e h (omega arith) (omega arith) (i.0 room (at + 1)) refl (λ t far long. refl)
    go i (suc n) room at xs h =
        known_step (characters_from (suc n) room at) (characters_from n room (at + 1)) c (suc (suc n) + room) (suc n) (suc n + room) n at s (c ∷ []) xs e h (omega arith) (omega arith) (i.1 n room (at + 1)) refl (λ t far long. refl)

-- in a sector's bytes
module _ (R : ℕ) (s x : List ℕ) (e : ℕ) (h : decode R s ≡ good x e) where
  is : Known (decode_from R 0) R 0 0 (take sector s) x e
  unfolding decode
  is = (known (take sector s) e).0 R 0 x h

  pub decode-good : (length x ≡ R) × (1 ≤ e) × (e ≤ length s)
  decode-good =
      let inside = is.inside in
      let later = is.later in
      let some = length-take sector s in
      (is.all, omega arith, omega arith)

  pub decode-near : e ≤ sector
  decode-near =
      let inside = is.inside in
      let some = length-take sector s in
      omega arith

  alike : (t : List ℕ) → take e t ≡ take e s → decode_from R 0 t ≡ good x e
  alike t same =
      let a : decode_from R 0 (take e (take sector s) ++ drop e t) ≡ good x e = rw sub-zero at (is.alike (drop e t)) in
      rw (take-take e sector s decode-near, ← same, take-append-drop) at a

  -- the bytes behind a sector's do not count
  pub decode-all : decode_from R 0 s ≡ good x e
  decode-all = alike s refl

  -- a good record reads the same whatever stands behind it
  pub decode-upto : (t : List ℕ) → take e t ≡ take e s → e ≤ length t → decode R t ≡ good x e
  unfolding decode
  decode-upto t same long = alike (take sector t) (take-take e sector t decode-near ∙ same)

  -- 128 starts no record
  pub decode-128 : get_or s 0 0 ≢ 128
  decode-128 first = let g = decode-good in no-good 0 x e (sym (at-go_on R 0 s (omega arith) first) ∙ decode-all)

-- ---- bad codes

-- the offset that is answered
abbrev offset : Decoded → ℕ
offset (good xs e) = e
offset (bad k) = k

offset-before : (xs : List ℕ) (f : Decoded) → offset (before xs f) ≡ offset f
unfolding before
offset-before xs (good ys e) = refl
offset-before xs (bad k) = refl

reach-if : (t : Bool) (f : Decoded) (at m : ℕ) → at ≤ m → (t ≡ true → offset f ≤ m) → offset (elim t [ true ↦ f | false ↦ bad at ]) ≤ m
reach-if true f at m h g = g refl
reach-if false f at m h g = h

reach-control : (o : Control) (room at : ℕ) (s : List ℕ) (run : ℕ → ℕ → ℕ → Decoded) (next : ℕ → ℕ → Decoded)
    → ((n room at : ℕ) → offset (run n room at) ≤ at + length s) → ((room at : ℕ) → offset (next room at) ≤ at + length s)
    → offset (obey o room at s run next) ≤ at + suc (length s)
unfolding obey
reach-control stop room at s run next f g = omega arith
reach-control go_on room at s run next f g = omega arith
reach-control (characters n) room at s run next f g =
    reach-if (leb n (length s) && leb n room) _ at _ (omega arith) (λ t. let h = f (n - 1) (room - n) (at + 1) in omega arith)
reach-control (blanks n) room at s run next f g =
    reach-if (leb n room) _ at _ (omega arith) (λ t. rw offset-before (let h = g (room - n) (at + 1) in omega arith))

reach : (s : List ℕ) → ((room at : ℕ) → offset (decode_from room at s) ≤ at + length s) × ((n room at : ℕ) → offset (characters_from n room at s) ≤ at + length s)
unfolding decode_from
reach [] = (λ room at. omega arith, λ n room at. omega arith)
reach (c ∷ s) = let i = reach s in (λ room at. reach-control (control c) room at s _ _ i.1 i.0, λ n room at. go i n room at)
  where
    go : ((room at : ℕ) → offset (decode_from room at s) ≤ at + length s) × ((n room at : ℕ) → offset (characters_from n room at s) ≤ at + length s)
        → (n room at : ℕ) → offset (characters_from n room at (c ∷ s)) ≤ at + suc (length s)
    go i zero room at = rw offset-before (let h = i.0 room (at + 1) in omega arith)
    go i (suc n) room at = rw offset-before (let h = i.1 n room (at + 1) in omega arith)

-- the byte that cannot be obeyed is one of those read, or the one behind them
pub decode-bad : (R : ℕ) (s : List ℕ) (k : ℕ) → decode R s ≡ bad k → k ≤ length s
unfolding decode
decode-bad R s k h = let i = (reach (take sector s)).0 R 0 in let is = ap offset h in let some = length-take sector s in omega arith
