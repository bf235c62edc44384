-- Bytes that stand in other bytes: what is written behind one another stands behind one another, and parts behind one another are a part.
use mathlib.Core.Path.{◌≡◌, refl, sym, ap, ◌∙◌}
use mathlib.Core.Bool.{Bool, true, false}
use mathlib.Core.List.{List, [], ◌∷◌, ◌++◌}
use Prim.Native.Nat.{ℕ, zero, suc, ◌+◌, ◌-◌, ◌≤◌, ◌<◌, ◌^◌, min}
use native.Mathlib.Omega.{arith}
use lib.ListN.{length, take, get_or, length-append}
use lib.Seq.{take_at, drop_at, take-length, drop-cons}
use borrow.Author.Tests.{ltb-true, leb-true}
use Rattle.geometry.specs.Bytes.{part, is_byte}
use Rattle.geometry.specs.Lists.{every}
use Rattle.geometry.proofs.Bytes.{length_part, length-part-min, get_d_part, part-part, part-split}
use Rattle.geometry.proofs.Tests.{every-from, every-get_or}
use Rattle.tables.specs.Numbers.{number_in}
use Rattle.storing.specs.Numbers.{bytes_of, flag_of, is_set, is_flag}
use Rattle.storing.specs.Fits.{fits}
use Rattle.storing.proofs.Numbers.{number-back, bytes_back}

-- ---- what stands at a place

-- the bytes xs stand in b from byte `at` on
abbrev pub Stands : List ℕ → ℕ → List ℕ → Type 0
Stands b at xs = part b at (length xs) ≡ xs

-- two behind one another
pub cut : (b : List ℕ) (at : ℕ) (xs ys : List ℕ) (n at' : ℕ) → length xs ≡ n → at + n ≡ at' → Stands b at (xs ++ ys) → (part b at n ≡ xs) × Stands b at' ys
unfolding part
cut b at xs ys n at' l e s =
    let a : length (xs ++ ys) ≡ length xs + length ys = length-append xs ys in
    let z : at + 0 ≡ at = omega arith in (
      ap (λ (k : ℕ). part b k n) (sym z) ∙ sym (part-part b at (length (xs ++ ys)) 0 n (omega arith)) ∙ ap (λ (x : List ℕ). part x 0 n) s ∙ take_at xs ys n l,
      ap (λ (k : ℕ). part b k (length ys)) (sym e) ∙ sym (part-part b at (length (xs ++ ys)) n (length ys) (omega arith))
          ∙ ap (λ (x : List ℕ). part x n (length ys)) s
          ∙ ap (take (length ys)) (drop_at xs ys n l)
          ∙ take-length ys,
    )

-- a number that stands there
pub number_at : (b : List ℕ) (at n x : ℕ) → fits n x ≡ true → part b at n ≡ bytes_of n x → number_in (part b at n) ≡ x
unfolding fits
number_at b at n x h e = ap number_in e ∙ number-back n x (ltb-true x (256 ^ n) h)

-- a truth value that stands there
pub flag_at : (b : List ℕ) (at : ℕ) (u : Bool) → part b at 1 ≡ flag_of u ∷ [] → get_or b at 0 ≡ flag_of u
flag_at b at u e =
    let z : at ≡ at + 0 = omega arith in
    ap (λ (k : ℕ). get_or b k 0) z ∙ sym (get_d_part b at 1 0 0 (omega arith)) ∙ ap (λ (x : List ℕ). get_or x 0 0) e

pub set_back : (u : Bool) → is_set (flag_of u) ≡ u
unfolding flag_of
set_back true = refl
set_back false = refl

pub flag-good : (u : Bool) → is_flag (flag_of u) ≡ true
unfolding flag_of
flag-good true = refl
flag-good false = refl

-- ---- and back

-- a byte that says yes or no
pub flag_same : (x : ℕ) → is_flag x ≡ true → flag_of (is_set x) ≡ x
unfolding flag_of
flag_same zero h = refl
flag_same (suc zero) h = refl
flag_same (suc (suc x)) h = absurd (omega (arith, leb-true (suc (suc x)) 1 h))

module _ (b : List ℕ) where
  -- parts behind one another
  pub next : {r : List ℕ} (at n at' m : ℕ) → at + n ≡ at' → r ≡ part b at' m → part b at n ++ r ≡ part b at (n + m)
  next at n at' m e h =
      let z : (n + m) - n ≡ m = omega arith in
      ap (λ (x : List ℕ). part b at n ++ x) (h ∙ ap (λ (k : ℕ). part b k m) (sym e) ∙ ap (part b (at + n)) (sym z)) ∙ sym (part-split b at (n + m) n (omega arith))

  -- a byte, and a part behind it
  pub after : {r : List ℕ} (at at' m : ℕ) → at + 1 ≡ at' → at + 1 ≤ length b → r ≡ part b at' m → get_or b at 0 ∷ r ≡ part b at (1 + m)
  unfolding part
  after {r} at at' m e h k =
      ap (λ (x : List ℕ). x ++ r) one ∙ next at 1 at' m e k
    where
      one : get_or b at 0 ∷ [] ≡ part b at 1
      one = rw (drop-cons b at 0 (omega arith))

  module _ (all : every is_byte b ≡ true) where
    pub part_bytes : (at n : ℕ) → every is_byte (part b at n) ≡ true
    part_bytes at n =
        let l : length (part b at n) ≡ min n (length b - at) = length-part-min b at n in
        every-from is_byte (part b at n) 0 λ (i : ℕ) (q : i < length (part b at n)).
        rw (get_d_part b at n i 0 (omega arith)) (every-get_or is_byte b (at + i) 0 all (omega arith))

    -- the bytes of the number that stands there
    pub number_same : (at n : ℕ) → at + n ≤ length b → bytes_of n (number_in (part b at n)) ≡ part b at n
    number_same at n h = bytes_back (part b at n) n (length_part b at n h) (part_bytes at n)
