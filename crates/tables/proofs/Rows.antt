-- Rows of things in bytes, by going down the row: the i-th stands at w·i behind the first, the first i of a row are a row of i, and the next one is laid behind those before it.
use mathlib.Core.Path.{◌≡◌, refl, sym, ap, ◌∙◌}
use mathlib.Core.List.{List, [], ◌∷◌, ◌++◌, append_assoc, append-nil}
use Prim.Native.Nat.{ℕ, zero, suc, ◌+◌, ◌*◌, ◌≤◌, ◌<◌}
use native.Mathlib.Nat.{not-suc-le-zero, le_of_suc-le-suc}
use native.Mathlib.Numerals.{add-one, unary_clauses}
use native.Mathlib.Omega.{arith}
use lib.ListN.{length, take, get_or, length-append}
use lib.Seq.{take-suc}
use Rattle.geometry.specs.Bytes.{lay}
use Rattle.geometry.proofs.Bytes.{lay-nil, lay-append}
use Rattle.tables.specs.Rows.{row_of, row_in}

module _ {A : Type 0} (g : List ℕ → ℕ → A) (w : ℕ) where
  pub length-row : (n : ℕ) (b : List ℕ) (at : ℕ) → length (row_in g w n b at) ≡ n
  unfolding row_in
  length-row zero b at = refl
  length-row (suc n) b at = ap suc (length-row n b (at + w))

  pub get_or-row : (n : ℕ) (b : List ℕ) (at i : ℕ) (d : A) → i < n → get_or (row_in g w n b at) i d ≡ g b (at + w * i)
  unfolding row_in
  get_or-row zero b at i d h = absurd (not-suc-le-zero h)
  get_or-row (suc n) b at zero d h = let e : at ≡ at + w * 0 = omega arith in ap (g b) e
  get_or-row (suc n) b at (suc i) d h =
      let e : (at + w) + w * i ≡ at + w * suc i = simp unary_clauses (omega arith) in
      get_or-row n b (at + w) i d (le_of_suc-le-suc h) ∙ ap (g b) e

  pub take_row : (n i : ℕ) (b : List ℕ) (at : ℕ) → i ≤ n → take i (row_in g w n b at) ≡ row_in g w i b at
  unfolding row_in
  take_row n zero b at h = refl
  take_row zero (suc i) b at h = absurd (not-suc-le-zero h)
  take_row (suc n) (suc i) b at h = ap (λ (r : List A). g b at ∷ r) (take_row n i b (at + w) (le_of_suc-le-suc h))

-- ---- a row laid one by one

module _ {A : Type 0} (f : A → List ℕ) where
  row-append : (xs ys : List A) → row_of f (xs ++ ys) ≡ row_of f xs ++ row_of f ys
  unfolding row_of
  row-append [] ys = refl
  row-append (x ∷ xs) ys = ap (λ (r : List ℕ). f x ++ r) (row-append xs ys) ∙ sym (append_assoc (f x) (row_of f xs) (row_of f ys))

  module _ (xs : List A) (i : ℕ) (d : A) (h : i < length xs) where
    row_more : row_of f (take (i + 1) xs) ≡ row_of f (take i xs) ++ f (get_or xs i d)
    unfolding row_of
    row_more = rw (add-one, take-suc xs i d h, row-append (take i xs) (get_or xs i d ∷ []), append-nil (f (get_or xs i d)))

    -- with the next one, a row is as much longer
    size-more : length (row_of f (take (i + 1) xs)) ≡ length (row_of f (take i xs)) + length (f (get_or xs i d))
    size-more = ap length row_more ∙ length-append (row_of f (take i xs)) (f (get_or xs i d))

    -- and the next one is laid behind those before it
    laid_more : (b : List ℕ) (at m : ℕ) → length (row_of f (take i xs)) ≡ m → at + (m + length (f (get_or xs i d))) ≤ length b
        → lay (lay b at (row_of f (take i xs))) (at + m) (f (get_or xs i d)) ≡ lay b at (row_of f (take (i + 1) xs))
    laid_more b at m e k =
        ap (λ (n : ℕ). lay (lay b at (row_of f (take i xs))) (at + n) (f (get_or xs i d))) (sym e)
        ∙ sym (lay-append b at (row_of f (take i xs)) (f (get_or xs i d)) (omega arith))
        ∙ ap (lay b at) (sym row_more)

  -- a turn of a loop that lays a row
  pub turn : (b₀ b b' : List ℕ) (xs : List A) (i at m w p : ℕ) (d : A) → i < length xs → p ≡ at + m
      → b ≡ lay b₀ at (row_of f (take i xs)) → length (row_of f (take i xs)) ≡ m
      → b' ≡ lay b p (f (get_or xs i d)) → length (f (get_or xs i d)) ≡ w → at + (m + w) ≤ length b₀
      → (b' ≡ lay b₀ at (row_of f (take (i + 1) xs))) × (length (row_of f (take (i + 1) xs)) ≡ m + w)
  turn b₀ b b' xs i at m w p d h q e l e' l' k = (
    e' ∙ ap (λ (n : ℕ). lay b n (f (get_or xs i d))) q ∙ ap (λ (x : List ℕ). lay x (at + m) (f (get_or xs i d))) e ∙ laid_more xs i d h b₀ at m l (omega arith),
    size-more xs i d h ∙ omega arith,
  )

  -- a row of none
  pub laid_none : (b : List ℕ) (at : ℕ) (xs : List A) → b ≡ lay b at (row_of f (take 0 xs))
  unfolding row_of
  laid_none b at xs = sym (lay-nil b at)

  pub size_none : (xs : List A) → length (row_of f (take 0 xs)) ≡ 0
  unfolding row_of
  size_none xs = refl
