-- A list that has something for each of n numbers; and how many of these a test holds of.
use mathlib.Core.Path.{◌≡◌, refl, sym, ap, ◌∙◌}
use mathlib.Core.Bool.{Bool, true, false, ◌||◌}
use mathlib.Core.List.{List, [], ◌∷◌, map}
use Prim.Native.Nat.{ℕ, zero, suc, ◌+◌, ◌≤◌, ◌<◌}
use native.Mathlib.Omega.{arith}
use native.Mathlib.Decide.{ℕ_discrete}
use lib.Dec.{eqb}
use lib.ListN.{length, get_or, length-map}
use borrow.Author.Tests.{eq-eqb, ne_eqb}
use Rattle.geometry.specs.Lists.{how_many, numbers_from}
use Rattle.geometry.proofs.Tests.{either}

pub length-numbers : (a n : ℕ) → length (numbers_from a n) ≡ n
length-numbers a zero = refl
length-numbers a (suc n) = ap suc (length-numbers (suc a) n)

module _ {B : Type 0} (f : ℕ → B) where
  pub length-numbered : (a n : ℕ) → length (map f (numbers_from a n)) ≡ n
  length-numbered a n = length-map (numbers_from a n) f ∙ length-numbers a n

  pub get_d_numbered : (a n i : ℕ) (d : B) → i < n → get_or (map f (numbers_from a n)) i d ≡ f (a + i)
  get_d_numbered a zero i d h = absurd (omega arith)
  get_d_numbered a (suc n) zero d h = let e : a ≡ a + 0 = omega arith in ap f e
  get_d_numbered a (suc n) (suc i) d h =
      let e : suc a + i ≡ a + suc i = omega arith in
      get_d_numbered (suc a) n i d (omega arith) ∙ ap f e

-- ---- counting

-- one member more
abbrev plus : Bool → ℕ → ℕ
plus b n = elim b [ true ↦ suc n | false ↦ n ]

module _ {A B : Type 0} where
  pub many-map : (p : B → Bool) (f : A → B) (xs : List A) → how_many p (map f xs) ≡ how_many (λ x. p (f x)) xs
  unfolding how_many
  many-map p f [] = refl
  many-map p f (x ∷ xs) = ap (plus (p (f x))) (many-map p f xs)

pub many-alike : (p q : ℕ → Bool) (a n : ℕ) → ((i : ℕ) → a ≤ i → i < a + n → p i ≡ q i) → how_many p (numbers_from a n) ≡ how_many q (numbers_from a n)
unfolding how_many
many-alike p q a zero h = refl
many-alike p q a (suc n) h =
    ap (plus (p a)) (many-alike p q (suc a) n (λ i l k. h i (omega arith) (omega arith)))
    ∙ ap (λ (b : Bool). plus b (how_many q (numbers_from (suc a) n))) (h a (omega arith) (omega arith))

-- one number more
pub many-or : (p : ℕ → Bool) (j a n : ℕ) → a ≤ j → j < a + n → p j ≡ false
    → how_many (λ i. eqb j i || p i) (numbers_from a n) ≡ suc (how_many p (numbers_from a n))
unfolding how_many
many-or p j a zero l h e = absurd (omega arith)
many-or p j a (suc n) l h e = go (ℕ_discrete j a) λ k. many-or p j (suc a) n k (omega arith) e
  where
    go : Dec (j ≡ a) → (suc a ≤ j → how_many (λ i. eqb j i || p i) (numbers_from (suc a) n) ≡ suc (how_many p (numbers_from (suc a) n)))
        → plus (eqb j a || p a) (how_many (λ i. eqb j i || p i) (numbers_from (suc a) n)) ≡ suc (plus (p a) (how_many p (numbers_from (suc a) n)))
    go (yes z) more =
        let w : p a ≡ false = ap p (sym z) ∙ e in
        rw (eq-eqb j a z, w) (ap suc (many-alike (λ i. eqb j i || p i) p (suc a) n λ i b c. ap (λ (t : Bool). t || p i) (ne_eqb j i (λ (y : j ≡ i). omega arith))))
    go (no z) more =
        rw (ne_eqb j a z, more (omega arith)) (either (p a) (λ (w : p a ≡ true). rw w) (λ (w : p a ≡ false). rw w))
