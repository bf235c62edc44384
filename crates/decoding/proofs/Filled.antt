-- What is read of a good code: blanks are there already, characters are laid, and the rest of the code is read behind them.
use mathlib.Core.Path.{◌≡◌, refl, sym, ap, ◌∙◌}
use mathlib.Core.Logic.{◌≢◌}
use mathlib.Core.Bool.{true, true≢false}
use mathlib.Core.List.{List, [], ◌++◌, append_assoc}
use Prim.Native.Nat.{ℕ, ◌+◌, ◌-◌, ◌≤◌, ◌<◌}
use native.Mathlib.Nat.{add-zero, sub-zero}
use native.Mathlib.Omega.{arith}
use native.Mathlib.Decide.{dec_lt}
use lib.ListN.{length, take, drop, get_or, replicate, length-append, length-drop, length-replicate, take-append-drop, replicate-append-replicate}
use lib.Seq.{take_at, drop_at, take-add, drop-drop, get_or-drop, length-take-le}
use Rattle.geometry.specs.Sizes.{blank}
use Rattle.geometry.specs.Bytes.{lay}
use Rattle.std.specs.Prelude.{Ok, Err}
use Rattle.decoding.specs.declared.BadCode.{BadCode}
use Rattle.decoding.specs.Decode.{Decoded, good, bad, before, decode_from, decode, answer, given, is_good, Awaited, filled}
use Rattle.geometry.proofs.Bytes.{lay-fits, lay-all, length-lay}
use Rattle.decoding.proofs.Reader.{at-end, at-stop, at-go_on, at-short, at-over, at-run, at-full, at-blanks, answer-good, answer-bad}
use Rattle.decoding.proofs.Known.{decode-all}

-- ---- good codes

not-bad : (f : Decoded) (k : ℕ) → is_good f ≡ true → f ≡ bad k → ⊥
unfolding is_good
not-bad f k g e = true≢false (sym g ∙ rw e)

-- characters before a good record
good-before : (xs : List ℕ) (f : Decoded) → is_good (before xs f) ≡ true → (is_good f ≡ true) × (given (before xs f) [] ≡ xs ++ given f [])
unfolding before is_good given
good-before xs (good ys e) g = (refl, refl)
good-before xs (bad k) g = absurd (true≢false (sym g))

-- what a good code asks for is there
module _ (room at : ℕ) (s : List ℕ) where
  good-some : is_good (decode_from room at s) ≡ true → 0 < length s
  good-some g = go (dec_lt 0 (length s))
    where
      go : Dec (0 < length s) → 0 < length s
      go (yes h) = h
      go (no h) = absurd (not-bad _ at g (at-end room at s (omega arith)))

  good-blanks : is_good (decode_from room at s) ≡ true → 128 < get_or s 0 0 → get_or s 0 0 - 128 ≤ room
  good-blanks g most = go (dec_lt room (get_or s 0 0 - 128))
    where
      go : Dec (room < get_or s 0 0 - 128) → get_or s 0 0 - 128 ≤ room
      go (yes h) = absurd (not-bad _ at g (at-full room at s (good-some g) most h))
      go (no h) = omega arith

  good-few : is_good (decode_from room at s) ≡ true → get_or s 0 0 ≤ 128 → get_or s 0 0 < 128
  good-few g few = go (dec_lt (get_or s 0 0) 128)
    where
      go : Dec (get_or s 0 0 < 128) → get_or s 0 0 < 128
      go (yes h) = h
      go (no h) = absurd (not-bad _ at g (at-go_on room at s (good-some g) (omega arith)))

  good-run : is_good (decode_from room at s) ≡ true → get_or s 0 0 ≢ 0 → get_or s 0 0 < 128 → (get_or s 0 0 ≤ length (drop 1 s)) × (get_or s 0 0 ≤ room)
  good-run g more few = go (dec_lt (length (drop 1 s)) (get_or s 0 0)) (dec_lt room (get_or s 0 0))
    where
      go : Dec (length (drop 1 s) < get_or s 0 0) → Dec (room < get_or s 0 0) → (get_or s 0 0 ≤ length (drop 1 s)) × (get_or s 0 0 ≤ room)
      go (yes h) l = absurd (not-bad _ at g (at-short room at s (good-some g) more few h))
      go (no h) (yes l) = absurd (not-bad _ at g (at-over room at s (good-some g) more few (omega arith) l))
      go (no h) (no l) = (omega arith, omega arith)

-- n of the blanks that are awaited, and the others
blanks-split : (out : List ℕ) (to n : ℕ) → to + n ≤ length out → drop to out ≡ replicate (length out - to) blank
    → drop to out ≡ replicate n blank ++ replicate (length out - (to + n)) blank
blanks-split out to n fits empty =
    let left : length out - to ≡ n + (length out - (to + n)) = omega arith in
    empty ∙ ap (λ k. replicate k blank) left ∙ sym (replicate-append-replicate n (length out - (to + n)) blank)

-- what is laid stands behind what was there before it, and before what was there behind it
laid_in : (out xs new : List ℕ) (to n : ℕ) → length xs ≡ n → to + n ≤ length out → new ≡ lay out to xs
    → (take (to + n) new ≡ take to out ++ xs) × (drop (to + n) new ≡ drop (to + n) out)
laid_in out xs new to n size fits e =
    let front : length (take to out ++ xs) ≡ to + n = length-append (take to out) xs ∙ rw (length-take-le to out (omega arith), size) in
    let is : new ≡ (take to out ++ xs) ++ drop (to + n) out =
    e ∙ lay-fits out to xs (rw size fits) ∙ ap (λ (k : ℕ). take to out ++ (xs ++ drop (to + k) out)) size ∙ sym (append_assoc (take to out) xs (drop (to + n) out)) in
    (ap (take (to + n)) is ∙ take_at (take to out ++ xs) _ (to + n) front, ap (drop (to + n)) is ∙ drop_at (take to out ++ xs) _ (to + n) front)

-- ---- one run: out becomes new, with the n characters xs behind those that it had, and what follows is read by g

one-run : (f g : Decoded) (xs out new : List ℕ) (to n : ℕ) → f ≡ before xs g → to + n ≤ length out → length new ≡ length out
    → take (to + n) new ≡ take to out ++ xs → drop (to + n) new ≡ drop (to + n) out → Awaited f out to
    → Awaited g new (to + n) × (filled f out to ≡ filled g new (to + n))
unfolding filled
one-run f g xs out new to n is fits long front behind w =
    let b = good-before xs g (rw is at w.sound) in
    let left : drop (to + n) out ≡ replicate (length out - (to + n)) blank =
    sym (drop-drop n to out) ∙ ap (drop n) (blanks-split out to n fits w.empty) ∙ drop_at (replicate n blank) _ n (length-replicate n blank) in (
      record { sound = b.0; fits = omega arith; empty = behind ∙ left ∙ ap (λ k. replicate (k - (to + n)) blank) (sym long) },
      ap (λ (d : Decoded). take to out ++ given d []) is ∙ ap (λ (l : List ℕ). take to out ++ l) b.1 ∙ sym (append_assoc (take to out) xs (given g []))
          ∙ ap (λ (l : List ℕ). l ++ given g []) (sym front),
    )

-- ---- at the control byte at offset `at` of s, with room in out from `to` on

abbrev pub Next : List ℕ → ℕ → List ℕ → ℕ → Decoded
Next s at out to = decode_from (length out - to) at (drop at s)

-- a run of n blanks is passed over
abbrev pub Passed : List ℕ → ℕ → List ℕ → ℕ → ℕ → Type 0
Passed s at out to n =
    (to + n ≤ length out) × Awaited (Next s (at + 1) out (to + n)) out (to + n) × (filled (Next s at out to) out to ≡ filled (Next s (at + 1) out (to + n)) out (to + n))

-- a run of n characters is laid
abbrev pub Laid : List ℕ → ℕ → ℕ → List ℕ → ℕ → List ℕ → Type 0
Laid s at n out to new =
    Awaited (Next s (at + 1 + n) new (to + n)) new (to + n) × (filled (Next s at out to) out to ≡ filled (Next s (at + 1 + n) new (to + n)) new (to + n))

module _ (s : List ℕ) (at : ℕ) (out : List ℕ) (to : ℕ) where
  first : get_or (drop at s) 0 0 ≡ get_or s at 0
  first = rw (get_or-drop, add-zero)

  module _ (w : Awaited (Next s at out to) out to) where
    some : 0 < length (drop at s)
    some = good-some (length out - to) at (drop at s) w.sound

    pub inside : at < length s
    inside = let h = some in let l = length-drop at s in omega arith

    pub stops : get_or s at 0 ≡ 0 → out ≡ filled (Next s at out to) out to
    unfolding filled given
    stops z = rw (at-stop (length out - to) at (drop at s) some (first ∙ z), ← w.empty) (sym (take-append-drop to out))

    pub passes : 128 < get_or s at 0 → Passed s at out to (get_or s at 0 - 128)
    passes most =
        let n = get_or s at 0 - 128 in
        let m : get_or (drop at s) 0 0 - 128 ≡ n = rw first refl in
        let most' : 128 < get_or (drop at s) 0 0 = rw first most in
        let fits : n ≤ length out - to = rw m at (good-blanks (length out - to) at (drop at s) w.sound most') in
        let within = w.fits in
        let rest : length out - to - n ≡ length out - (to + n) = omega arith in
        let is : Next s at out to ≡ before (replicate n blank) (Next s (at + 1) out (to + n)) =
        rw (m, rest, drop-drop) at (at-blanks (length out - to) at (drop at s) some most' (rw m fits)) in
        let split = blanks-split out to n (omega arith) w.empty in
        let front : take (to + n) out ≡ take to out ++ replicate n blank =
        take-add to n out ∙ ap (λ (l : List ℕ). take to out ++ take n l) split ∙ ap (λ (l : List ℕ). take to out ++ l) (take_at (replicate n blank) _ n (length-replicate n blank)) in
        let r = one-run _ _ (replicate n blank) out out to n is (omega arith) refl front refl w in
        (omega arith, r.0, r.1)

    -- at 128 no good code goes on
    pub over : 128 ≤ get_or s at 0 → 128 < get_or s at 0
    over most = go (dec_lt 128 (get_or s at 0))
      where
        go : Dec (128 < get_or s at 0) → 128 < get_or s at 0
        go (yes h) = h
        go (no h) = let f = good-few (length out - to) at (drop at s) w.sound (rw first (omega arith)) in let g : get_or s at 0 < 128 = rw first at f in omega arith

    -- a run of characters
    module _ (more : get_or s at 0 ≢ 0) (few : get_or s at 0 < 128) where
      abbrev n : ℕ
      n = get_or s at 0

      ready : (n ≤ length (drop (at + 1) s)) × (n ≤ length out - to)
      ready = rw (first, drop-drop) at (good-run (length out - to) at (drop at s) w.sound (rw first more) (rw first few))

      pub run_fits : (at + 1 + n ≤ length s) × (to + n ≤ length out)
      run_fits =
          let r = ready in
          let l = length-drop (at + 1) s in
          let i = inside in
          let within = w.fits in
          (omega arith, omega arith)

      pub laid : (new : List ℕ) → new ≡ lay out to (take n (drop (at + 1) s)) → Laid s at n out to new
      laid new e =
          let r = ready in
          let f = run_fits in
          let xs = take n (drop (at + 1) s) in
          let size : length xs ≡ n = length-take-le n (drop (at + 1) s) r.0 in
          let long : length new ≡ length out = ap length e ∙ length-lay out to xs in
          let rest : length out - to - n ≡ length new - (to + n) = omega arith in
          let fits : n ≤ length (drop 1 (drop at s)) = rw drop-drop r.0 in
          let is : Next s at out to ≡ before xs (Next s (at + 1 + n) new (to + n)) =
          rw (first, rest, drop-drop, drop-drop) at (at-run (length out - to) at (drop at s) some (rw first more) (rw first few) (rw first fits) (rw first r.1)) in
          let l = laid_in out xs new to n size f.1 e in
          one-run _ _ xs out new to n is f.1 long l.0 l.1 w

-- ---- measured first

-- what is good in a sector's bytes is so in all
whole : (R : ℕ) (s : List ℕ) (e : ℕ) → Ok e ≡ answer (decode R s) → (x : List ℕ) × (decode_from R 0 s ≡ good x e) × (decode R s ≡ good x e)
whole R s e is = let g = answer-good (decode R s) e (sym is) in (g.0, decode-all R s g.0 e g.1, g.1)

-- a buffer that is filled with blanks awaits a good record
pub awaited : (s old out : List ℕ) (e : ℕ) → Ok e ≡ answer (decode (length old) s) → out ≡ lay old 0 (replicate (length old) blank) → Awaited (decode_from (length out) 0 s) out 0
unfolding is_good
awaited s old out e is laid =
    let g = whole (length old) s e is in
    let long : length out ≡ length old = ap length laid ∙ length-lay old 0 _ in
    let blanks : out ≡ replicate (length old) blank = laid ∙ lay-all (length old) old _ refl (length-replicate (length old) blank) in
    record { sound = rw (long, g.1); fits = omega arith; empty = rw (sub-zero, long) blanks }

-- which is then in it
pub decoded-good : (s old out new : List ℕ) (e : ℕ) → Ok e ≡ answer (decode (length old) s) → length out ≡ length old → new ≡ filled (decode_from (length out) 0 s) out 0
    → (Ok e ≡ answer (decode (length old) s)) × (new ≡ given (decode (length old) s) old)
unfolding given filled
decoded-good s old out new e is long left =
    let g = whole (length old) s e is in
    (is, left ∙ rw (long, g.1, g.2))

pub decoded-bad : (f : Decoded) (b : BadCode) (old : List ℕ) → Err b ≡ answer f → (Err b ≡ answer f) × (old ≡ given f old)
unfolding given
decoded-bad f b old is = (is, rw (answer-bad f b.at (sym is)))
