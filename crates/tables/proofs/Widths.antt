-- The two widths: what is tested of bytes before a table in them is read, and what that gives.
use mathlib.Core.Path.{◌≡◌, sym, ap, ◌∙◌}
use mathlib.Core.Bool.{true, false, ◌&&◌, ◌||◌}
use mathlib.Core.List.{List}
use Prim.Native.Nat.{ℕ, ◌+◌, ◌-◌, ◌*◌, ◌/◌, ◌≤◌, ◌<◌}
use native.Mathlib.Nat.{mul-le-mul_left, mul-suc, lt_of_mul-lt-mul_left, le_of_mul-le-mul_left}
use native.Mathlib.Omega.{arith}
use native.Mathlib.Decide.{ℕ_discrete}
use lib.Dec.{eqb, leb}
use lib.ListN.{length}
use borrow.Author.Tests.{eq-eqb, ne_eqb, eqb-true, le-leb, leb-true}
use Rattle.geometry.proofs.Tests.{alike, and_left, and_right, or-either}
use Rattle.tables.specs.Tables.{Wide, has_rows}

module _ (w n : ℕ) (b : List ℕ) where
  pub has_one : w ≡ 20 → leb n (length b / 20) ≡ has_rows w n b
  unfolding has_rows
  has_one e =
      rw e
      (alike (leb n (length b / 20)) (leb (20 * n) (length b)) (λ (h : leb n (length b / 20) ≡ true). le-leb (20 * n) (length b) (omega (arith, leb-true n (length b / 20) h)))
      (λ (h : leb (20 * n) (length b) ≡ true). le-leb n (length b / 20) (omega (arith, leb-true (20 * n) (length b) h))))

  pub has-two : w ≡ 22 → leb n (length b / 22) ≡ has_rows w n b
  unfolding has_rows
  has-two e =
      rw e
      (alike (leb n (length b / 22)) (leb (22 * n) (length b)) (λ (h : leb n (length b / 22) ≡ true). le-leb (22 * n) (length b) (omega (arith, leb-true n (length b / 22) h)))
      (λ (h : leb (22 * n) (length b) ≡ true). le-leb n (length b / 22) (omega (arith, leb-true (22 * n) (length b) h))))

  pub has-none : ¬ (w ≡ 20) → ¬ (w ≡ 22) → false ≡ has_rows w n b
  unfolding has_rows
  has-none h k = rw (ne_eqb w 20 h, ne_eqb w 22 k)

  pub rows-wide : has_rows w n b ≡ true → Wide w
  unfolding has_rows
  rows-wide h =
      or-either (eqb w 20) (eqb w 22) (and_left (eqb w 20 || eqb w 22) (leb (w * n) (length b)) h)
      (λ (q : eqb w 20 ≡ true). let e : w ≡ 20 = eqb-true w 20 q in (omega arith, omega arith, omega arith))
      (λ (q : eqb w 22 ≡ true). let e : w ≡ 22 = eqb-true w 22 q in (omega arith, omega arith, omega arith))

  pub rows_fit : has_rows w n b ≡ true → w * n ≤ length b
  unfolding has_rows
  rows_fit h = leb-true (w * n) (length b) (and_right (eqb w 20 || eqb w 22) (leb (w * n) (length b)) h)

  pub rows-there : Wide w → w * n ≤ length b → has_rows w n b ≡ true
  unfolding has_rows
  rows-there h k = rw (le-leb (w * n) (length b) k) (one_of h)
    where
      one_of : Wide w → ((eqb w 20 || eqb w 22) && true) ≡ true
      one_of h = go (ℕ_discrete w 20)
        where
          go : Dec (w ≡ 20) → ((eqb w 20 || eqb w 22) && true) ≡ true
          go (yes e) = rw (eq-eqb w 20 e)
          go (no e) = rw (ne_eqb w 20 e, eq-eqb w 22 (omega (arith, e)))

-- entry i of n lies within them
pub below : (w i n : ℕ) → i < n → w * i + w ≤ w * n
below w i n h = omega (arith, mul-le-mul_left w h, mul-suc w i)

pub room : (w i n : ℕ) (b : List ℕ) → w * n ≤ length b → i < n → w * i + w ≤ length b
room w i n b h l = omega (arith, below w i n l)

pub one_on : (w i : ℕ) → w * i + w ≡ w * (i + 1)
one_on w i = omega (arith, mul-suc w i)

-- and back
pub one_less : (w i : ℕ) → 0 < i → w * i ≡ w * (i - 1) + w
one_less w i h =
    let e : i ≡ (i - 1) + 1 = omega arith in
    ap (λ (n : ℕ). w * n) e ∙ sym (one_on w (i - 1))

-- which is before which
pub row_before : (w i j : ℕ) → w * i < w * j → i < j
row_before w i j h = lt_of_mul-lt-mul_left w h

pub row_upto : (w i j : ℕ) → 0 < w → w * i ≤ w * j → i ≤ j
row_upto w i j p h = le_of_mul-le-mul_left h p
