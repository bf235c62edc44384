-- Rows of things in bytes, by going down the row: what is told of each where it stands is told of a row; and one laid over the i-th is the row with
-- another one there.
use mathlib.Core.Path.{◌≡◌, refl, sym, ap, ◌∙◌}
use mathlib.Core.Bool.{Bool, true}
use mathlib.Core.List.{List, [], ◌∷◌, ◌++◌, map, append_assoc}
use Prim.Native.Nat.{ℕ, zero, suc, ◌+◌, ◌*◌, ◌≤◌, ◌<◌}
use native.Mathlib.Nat.{not-suc-le-zero, le_of_suc-le-suc, mul-le-mul_left, mul-suc}
use native.Mathlib.Numerals.{unary_clauses}
use native.Mathlib.Omega.{arith}
use native.Mathlib.Decide.{dec_lt}
use lib.Dec.{eqb}
use lib.ListN.{length, take, drop, set, length-append}
use lib.Seq.{take-append-le, drop-append-le, take-append-add, drop-append-add, set_out}
use borrow.Author.Tests.{eqb-true, eq-eqb}
use Rattle.geometry.specs.Bytes.{part, lay}
use Rattle.geometry.specs.Lists.{all, every}
use Rattle.geometry.proofs.Bytes.{lay-all, length_part, lay-fits}
use Rattle.geometry.proofs.Tests.{and_left, and_right, and_both}
use Rattle.tables.specs.Rows.{row_of, row_in}
use Rattle.storing.specs.Stored.{lay_part}
use Rattle.storing.proofs.Laid.{part-there, part-not}
use Rattle.storing.proofs.Parts.{Stands, cut, next}

-- ---- a row that stands in bytes

module _ {A : Type 0} (f : A → List ℕ) (p : A → Bool) (w : ℕ) (size : (x : A) → p x ≡ true → length (f x) ≡ w) where
  pub row-size : (xs : List A) → every p xs ≡ true → length (row_of f xs) ≡ w * length xs
  unfolding row_of every
  row-size [] h = omega arith
  row-size (x ∷ xs) h =
      let l : length (f x) ≡ w = size x (and_left (p x) (every p xs) h) in
      let r : length (row_of f xs) ≡ w * length xs = row-size xs (and_right (p x) (every p xs) h) in
      length-append (f x) (row_of f xs) ∙ rw (l, r) (simp unary_clauses (omega arith))

  -- what is told of each where it stands is told of a row
  pub row_told : {B : Type 0} (g : List ℕ → ℕ → B) (v : A → B) → ((x : A) → p x ≡ true → (b : List ℕ) (at : ℕ) → Stands b at (f x) → g b at ≡ v x)
      → (xs : List A) → every p xs ≡ true → (b : List ℕ) (at : ℕ) → Stands b at (row_of f xs) → row_in g w (length xs) b at ≡ map v xs
  unfolding row_of row_in every
  row_told {B} g v tells [] h b at s = refl
  row_told {B} g v tells (x ∷ xs) h b at s =
      let q : p x ≡ true = and_left (p x) (every p xs) h in
      let l : length (f x) ≡ w = size x q in
      let c = cut b at (f x) (row_of f xs) w (at + w) l refl s in
      rw (tells x q b at (ap (part b at) l ∙ c.0)) (ap (λ (r : List B). v x ∷ r) (row_told g v tells xs (and_right (p x) (every p xs) h) b (at + w) c.1))

module _ {A : Type 0} (f : A → List ℕ) (g : List ℕ → ℕ → A) (flags : List ℕ → ℕ → Bool) (w : ℕ) (b : List ℕ)
    (same : (at : ℕ) → at + w ≤ length b → flags b at ≡ true → f (g b at) ≡ part b at w) where
  pub row_same : (n at : ℕ) → at + w * n ≤ length b → all (row_in flags w n b at) ≡ true → row_of f (row_in g w n b at) ≡ part b at (w * n)
  unfolding row_of row_in all part
  row_same zero at h k = let z : 0 ≡ w * 0 = omega arith in ap (part b at) z
  row_same (suc n) at h k =
      let z : w + w * n ≡ w * suc n = simp unary_clauses (omega arith) in
      rw (same at (omega arith) (and_left (flags b at) _ k)) (next b at w (at + w) (w * n) refl (row_same n (at + w) (omega arith) (and_right (flags b at) _ k)) ∙ ap (part b at) z)

  -- each of them takes w bytes
  pub row_sized : (n at : ℕ) → at + w * n ≤ length b → all (row_in flags w n b at) ≡ true → every (λ x. eqb (length (f x)) w) (row_in g w n b at) ≡ true
  unfolding row_in all every
  row_sized zero at h k = refl
  row_sized (suc n) at h k =
      let z : w + w * n ≡ w * suc n = simp unary_clauses (omega arith) in
      let l : length (f (g b at)) ≡ w = ap length (same at (omega arith) (and_left (flags b at) _ k)) ∙ length_part b at w (omega arith) in
      and_both (eqb (length (f (g b at))) w) _ (eq-eqb (length (f (g b at))) w l) (row_sized n (at + w) (omega arith) (and_right (flags b at) _ k))

-- ---- laying over one of two lists, one behind the other

pub lay-first : (a r x : List ℕ) (at : ℕ) → at + length x ≤ length a → lay (a ++ r) at x ≡ lay a at x ++ r
lay-first a r x at h =
    let l : length (a ++ r) ≡ length a + length r = length-append a r in
    lay-fits (a ++ r) at x (omega arith)
    ∙ rw (take-append-le at a r (omega arith), drop-append-le (at + length x) a r h, lay-fits a at x h) (sym (append_assoc (take at a) (x ++ drop (at + length x) a) r ∙ ap (λ (t : List ℕ). take at a ++ t) (append_assoc x (drop (at + length x) a) r)))

lay-second : (a r x : List ℕ) (at k : ℕ) → length a + k ≡ at → k + length x ≤ length r → lay (a ++ r) at x ≡ a ++ lay r k x
lay-second a r x at k e h =
    let l : length (a ++ r) ≡ length a + length r = length-append a r in
    let z : at + length x ≡ length a + (k + length x) = omega arith in
    lay-fits (a ++ r) at x (omega arith)
    ∙ rw (z, sym e, take-append-add a r k, drop-append-add a r (k + length x), lay-fits r k x h) (append_assoc a (take k r) (x ++ drop (k + length x) r))

-- ---- a row with another one in it

module _ {A : Type 0} (f : A → List ℕ) (p : A → Bool) (w : ℕ) (size : (x : A) → p x ≡ true → length (f x) ≡ w) (y : A) (sized : length (f y) ≡ w) where
  row-set : (xs : List A) (i : ℕ) → every p xs ≡ true → i < length xs → row_of f (set xs i y) ≡ lay (row_of f xs) (w * i) (f y)
  unfolding row_of every
  row-set [] i h k = absurd (not-suc-le-zero k)
  row-set (x ∷ xs) zero h k =
      let l : length (f x) ≡ w = size x (and_left (p x) (every p xs) h) in
      let z : w * 0 ≡ 0 = omega arith in
      sym (rw (z, lay-first (f x) (row_of f xs) (f y) 0 (omega arith)) (ap (λ (t : List ℕ). t ++ row_of f xs) (lay-all w (f x) (f y) l sized)))
  row-set (x ∷ xs) (suc i) h k =
      let l : length (f x) ≡ w = size x (and_left (p x) (every p xs) h) in
      let q : every p xs ≡ true = and_right (p x) (every p xs) h in
      let r : length (row_of f xs) ≡ w * length xs = row-size f p w size xs q in
      let z : length (f x) + w * i ≡ w * suc i = simp unary_clauses (omega arith) in
      ap (λ (t : List ℕ). f x ++ t) (row-set xs i q (le_of_suc-le-suc k)) ∙ sym (lay-second (f x) (row_of f xs) (f y) (w * suc i) (w * i) z (inside (le_of_suc-le-suc k) sized r))
    where
      inside : i < length xs → length (f y) ≡ w → length (row_of f xs) ≡ w * length xs → w * i + length (f y) ≤ length (row_of f xs)
      inside a b c = omega (arith, mul-le-mul_left w a, mul-suc w i)

-- ---- a part of that number laid

below : (w i n : ℕ) → i < n → w * i + w ≤ w * n
below w i n h = omega (arith, mul-le-mul_left w h, mul-suc w i)

module _ {A : Type 0} (f : A → List ℕ) (w n : ℕ) where
  -- in a row of n that take w bytes each
  pub row_laid : (xs : List A) (i : ℕ) (y : A) → every (λ x. eqb (length (f x)) w) xs ≡ true → length xs ≡ n → length (f y) ≡ w
      → row_of f (set xs i y) ≡ lay_part n 0 w (row_of f xs) i (f y)
  row_laid xs i y h l ly = go (dec_lt i n)
    where
      go : Dec (i < n) → row_of f (set xs i y) ≡ lay_part n 0 w (row_of f xs) i (f y)
      go (yes k) = row-set f _ w (λ x q. eqb-true (length (f x)) w q) y ly xs i h (omega arith) ∙ sym (part-there n 0 w (row_of f xs) i (f y) (w * i) (omega arith) k)
      go (no k) = ap (row_of f) (set_out xs i y (omega arith)) ∙ sym (part-not n 0 w (row_of f xs) i (f y) (omega arith))

module _ (w n : ℕ) (a r x : List ℕ) (lx : length x ≡ w) (i : ℕ) where
  -- in the first of two lists
  pub part-first : length a ≡ w * n → lay_part n 0 w (a ++ r) i x ≡ lay_part n 0 w a i x ++ r
  part-first la = go (dec_lt i n)
    where
      go : Dec (i < n) → lay_part n 0 w (a ++ r) i x ≡ lay_part n 0 w a i x ++ r
      go (yes k) =
          let z : 0 + w * i ≡ w * i = omega arith in
          part-there n 0 w (a ++ r) i x (w * i) z k ∙ lay-first a r x (w * i) (omega (arith, below w i n k)) ∙ ap (λ (t : List ℕ). t ++ r) (sym (part-there n 0 w a i x (w * i) z k))
      go (no k) = part-not n 0 w (a ++ r) i x (omega arith) ∙ ap (λ (t : List ℕ). t ++ r) (sym (part-not n 0 w a i x (omega arith)))

  -- and in the second
  pub part-second : (at : ℕ) → length a ≡ at → w * n ≤ length r → lay_part n at w (a ++ r) i x ≡ a ++ lay_part n 0 w r i x
  part-second at la lr = go (dec_lt i n)
    where
      go : Dec (i < n) → lay_part n at w (a ++ r) i x ≡ a ++ lay_part n 0 w r i x
      go (yes k) =
          part-there n at w (a ++ r) i x (at + w * i) refl k ∙ lay-second a r x (at + w * i) (w * i) (omega arith) (omega (arith, below w i n k))
          ∙ ap (λ (t : List ℕ). a ++ t) (sym (part-there n 0 w r i x (w * i) (omega arith) k))
      go (no k) = part-not n at w (a ++ r) i x (omega arith) ∙ ap (λ (t : List ℕ). a ++ t) (sym (part-not n 0 w r i x (omega arith)))
