-- A name is read from its front: a capital or digit is no blank, so what stands behind it decides; where there is none, only blanks may stand.
use mathlib.Core.Path.{◌≡◌, refl, sym, ap, ◌∙◌}
use mathlib.Core.Bool.{Bool, true, false, ◌&&◌, ◌||◌, or-false, true≢false}
use mathlib.Core.List.{List, [], ◌∷◌}
use Prim.Native.Nat.{ℕ, suc, ◌+◌, ◌<◌, ◌≤◌}
use native.Mathlib.Nat.{suc-ne-zero}
use native.Mathlib.Numerals.{add-one}
use lib.ListN.{length, drop, get_or, drop_of_length-le}
use lib.Seq.{drop-cons}
use lib.Dec.{eqb}
use borrow.Author.Tests.{eq-eqb, ne_eqb}
use Rattle.geometry.specs.Lists.{every}
use Rattle.geometry.specs.Sizes.{blank}
use Rattle.geometry.proofs.Left.{every-on, every-off, every-end}
use Rattle.names.specs.Names.{capital, digit, is_name, rest_of_name}

no-blank : (c : ℕ) → (capital c || digit c) ≡ true → eqb c blank ≡ false
unfolding capital digit
no-blank c q = ne_eqb c blank λ (e : c ≡ blank). true≢false (sym q ∙ rw e)

module _ (x : List ℕ) (k : ℕ) where
  rest_end : length x ≤ k → rest_of_name (drop k x) ≡ every (λ b. eqb b blank) (drop k x)
  unfolding rest_of_name every
  rest_end h = rw (drop_of_length-le x h)

  module _ (h : k < length x) where
    abbrev c : ℕ
    c = get_or x k 0

    rest-on : (capital c || digit c) ≡ true → rest_of_name (drop k x) ≡ rest_of_name (drop (k + 1) x)
    unfolding rest_of_name every
    rest-on q = rw (add-one, drop-cons x k 0, q, no-blank c q) (or-false (rest_of_name (drop (suc k) x)))

    rest-off : (capital c || digit c) ≡ false → rest_of_name (drop k x) ≡ every (λ b. eqb b blank) (drop k x)
    unfolding rest_of_name
    rest-off q = rw (drop-cons x k 0, q)

-- what is asked of the bytes from k on: only blanks behind a blank, else what may stand behind a name's first byte
abbrev pub left : List ℕ → Bool → ℕ → Bool
left x true k = every (λ b. eqb b blank) (drop k x)
left x false k = rest_of_name (drop k x)

module _ (x : List ℕ) (k : ℕ) where
  pub left_end : (e : Bool) → length x ≤ k → left x e k ≡ true
  left_end true h = every-end _ x k h
  left_end false h = rest_end x k h ∙ every-end _ x k h

  module _ (h : k < length x) (e f : Bool) where
    -- behind a blank
    pub blank-on : e ≡ true → get_or x k 0 ≡ blank → f ≡ e → left x e k ≡ left x f (k + 1)
    blank-on t b q = rw (q, t) (every-on _ x k 0 h (eq-eqb (get_or x k 0) blank b))

    pub blank-off : e ≡ true → ¬ (get_or x k 0 ≡ blank) → left x e k ≡ false
    blank-off t b = rw t (every-off _ x k 0 h (ne_eqb (get_or x k 0) blank b))

    -- behind capitals and digits
    module _ (t : e ≡ false) (r : Bool) (p : r ≡ (capital (get_or x k 0) || digit (get_or x k 0))) where
      pub name-on : r ≡ true → f ≡ e → left x e k ≡ left x f (k + 1)
      name-on n q = rw (q, t) (rest-on x k h (sym p ∙ n))

      module _ (n : r ≡ false) where
        ends : left x e k ≡ left x true k
        ends = rw t (rest-off x k h (sym p ∙ n))

        pub name-ends : get_or x k 0 ≡ blank → f ≡ true → left x e k ≡ left x f (k + 1)
        name-ends b q = ends ∙ rw q (every-on _ x k 0 h (eq-eqb (get_or x k 0) blank b))

        pub name-off : ¬ (get_or x k 0 ≡ blank) → left x e k ≡ false
        name-off b = ends ∙ every-off _ x k 0 h (ne_eqb (get_or x k 0) blank b)

-- a name's first byte, and what stands behind it
pub name-whole : (x : List ℕ) → 1 ≤ length x → is_name x ≡ (capital (get_or x 0 0) && rest_of_name (drop 1 x))
unfolding is_name
name-whole x h = ap is_name (drop-cons x 0 0 h)

pub name-none : (x : List ℕ) → length x ≡ 0 → is_name x ≡ false
unfolding is_name
name-none [] h = refl
name-none (c ∷ x) h = absurd (suc-ne-zero (length x) h)
