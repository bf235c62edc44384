-- The reader's definition, a law for each branch of the code: each is the definition, opened at a known control byte.
use mathlib.Core.Path.{◌≡◌, refl, sym, ap, ◌∙◌}
use mathlib.Core.Logic.{◌≢◌}
use mathlib.Core.List.{List, [], ◌∷◌, ◌++◌, append_assoc}
use Prim.Native.Nat.{ℕ, zero, suc, ◌+◌, ◌-◌, ◌≤◌, ◌<◌}
use native.Mathlib.Numerals.{add-one}
use native.Mathlib.Omega.{arith}
use lib.ListN.{length, take, drop, get_or, replicate}
use borrow.Author.Tests.{lt-ltb, le-ltb, le-leb, lt-leb, ne_eqb}
use Rattle.geometry.specs.Sizes.{blank}
use Rattle.std.specs.Prelude.{Ok}
use Rattle.decoding.specs.declared.BadCode.{BadCode}
use Rattle.decoding.specs.Decode.{Decoded, bad_at, answer, Control, stop, go_on, characters, blanks, control, good, bad, before, obey, decode_from, characters_from}

-- ---- control bytes

pub control-characters : (n : ℕ) → 0 < n → n < 128 → control n ≡ characters n
unfolding control
control-characters n some few = simp (control, ne_eqb n 0 (λ e. omega arith), lt-ltb n 128 few)

pub control-blanks : (c : ℕ) → 128 < c → control c ≡ blanks (c - 128)
unfolding control
control-blanks c most = simp (control, ne_eqb c 0 (λ e. omega arith), le-ltb c 128 (omega arith), ne_eqb c 128 (λ e. omega arith))

-- ---- runs of characters

before-before : (xs ys : List ℕ) (f : Decoded) → before xs (before ys f) ≡ before (xs ++ ys) f
unfolding before
before-before xs ys (good zs e) = ap (λ (l : List ℕ). good l e) (sym (append_assoc xs ys zs))
before-before xs ys (bad k) = refl

-- n characters, and what follows them
pub passes : (n room at : ℕ) (s : List ℕ) → n < length s → characters_from n room at s ≡ before (take (suc n) s) (decode_from room (at + suc n) (drop (suc n) s))
unfolding decode_from
passes n room at [] h = absurd (omega arith)
passes zero room at (c ∷ s) h = rw add-one
passes (suc n) room at (c ∷ s) h =
    let there : at + 1 + suc n ≡ at + suc (suc n) = omega arith in
    ap (before (c ∷ [])) (passes n room (at + 1) s (omega arith) ∙ rw there) ∙ before-before (c ∷ []) (take (suc n) s) _

-- what is asked for behind the control byte: n characters
module _ (n room at : ℕ) (s : List ℕ) (run : ℕ → ℕ → ℕ → Decoded) (next : ℕ → ℕ → Decoded) where
  obey-short : length s < n → obey (characters n) room at s run next ≡ bad at
  unfolding obey
  obey-short f = rw (lt-leb n (length s) f, obey)

  obey-full : n ≤ length s → room < n → obey (characters n) room at s run next ≡ bad at
  unfolding obey
  obey-full g f = rw (le-leb n (length s) g, lt-leb n room f, obey)

  obey-on : n ≤ length s → n ≤ room → obey (characters n) room at s run next ≡ run (n - 1) (room - n) (at + 1)
  unfolding obey
  obey-on g f = rw (le-leb n (length s) g, le-leb n room f, obey)

module _ (room at : ℕ) where
  pub at-end : (s : List ℕ) → length s ≡ 0 → decode_from room at s ≡ bad at
  unfolding decode_from
  at-end [] e = refl
  at-end (c ∷ s) e = absurd (omega arith)

  -- the control byte that a list begins with
  at-control : (k : Control) (s : List ℕ) → 0 < length s → control (get_or s 0 0) ≡ k
      → decode_from room at s ≡ obey k room at (drop 1 s) (λ n r a. characters_from n r a (drop 1 s)) (λ r a. decode_from r a (drop 1 s))
  unfolding decode_from
  at-control k [] h e = absurd (omega arith)
  at-control k (c ∷ s) h e = rw e

  module _ (s : List ℕ) (some : 0 < length s) where
    pub at-stop : get_or s 0 0 ≡ 0 → decode_from room at s ≡ good (replicate room blank) (at + 1)
    unfolding control obey
    at-stop e = at-control stop s some (rw e)

    pub at-go_on : get_or s 0 0 ≡ 128 → decode_from room at s ≡ bad at
    unfolding control obey
    at-go_on e = at-control go_on s some (rw e)

    -- a run of characters
    module _ (more : get_or s 0 0 ≢ 0) (few : get_or s 0 0 < 128) where
      abbrev n : ℕ
      n = get_or s 0 0

      is : decode_from room at s ≡ obey (characters n) room at (drop 1 s) (λ n r a. characters_from n r a (drop 1 s)) (λ r a. decode_from r a (drop 1 s))
      is = at-control (characters n) s some (control-characters n (omega arith) few)

      pub at-short : length (drop 1 s) < n → decode_from room at s ≡ bad at
      at-short f = is ∙ obey-short n room at (drop 1 s) _ _ f

      pub at-over : n ≤ length (drop 1 s) → room < n → decode_from room at s ≡ bad at
      at-over g f = is ∙ obey-full n room at (drop 1 s) _ _ g f

      pub at_on : n ≤ length (drop 1 s) → n ≤ room → decode_from room at s ≡ characters_from (n - 1) (room - n) (at + 1) (drop 1 s)
      at_on g f = is ∙ obey-on n room at (drop 1 s) _ _ g f

      pub at-run : n ≤ length (drop 1 s) → n ≤ room → decode_from room at s ≡ before (take n (drop 1 s)) (decode_from (room - n) (at + 1 + n) (drop n (drop 1 s)))
      at-run g f =
          let one : suc (n - 1) ≡ n = omega arith in
          at_on g f ∙ rw one at (passes (n - 1) (room - n) (at + 1) (drop 1 s) (omega arith))

    -- a run of blanks
    module _ (most : 128 < get_or s 0 0) where
      abbrev m : ℕ
      m = get_or s 0 0 - 128

      pub at-full : room < m → decode_from room at s ≡ bad at
      unfolding obey
      at-full f = at-control (blanks m) s some (control-blanks (get_or s 0 0) most) ∙ rw (lt-leb m room f, obey)

      pub at-blanks : m ≤ room → decode_from room at s ≡ before (replicate m blank) (decode_from (room - m) (at + 1) (drop 1 s))
      unfolding obey
      at-blanks f = at-control (blanks m) s some (control-blanks (get_or s 0 0) most) ∙ rw (le-leb m room f, obey)

-- ---- what is answered

pub answer-good : (f : Decoded) (e : ℕ) → answer f ≡ Ok e → (x : List ℕ) × (f ≡ good x e)
unfolding answer
answer-good (good x d) e h = (x, ap (good x) (cc))
answer-good (bad k) e h = let z : ◌≡◌ {A = ℕ} 0 1 = cc in absurd (omega arith)

pub answer-bad : (f : Decoded) (k : ℕ) → answer f ≡ bad_at k → f ≡ bad k
unfolding answer
answer-bad (good x e) k h = let z : ◌≡◌ {A = ℕ} 0 1 = cc in absurd (omega arith)
answer-bad (bad j) k h = let is : ◌≡◌ {A = BadCode} (record { at = j }) (record { at = k }) = cc in ap (λ (b : BadCode). bad b.at) is
