-- Reading a number goes digit by digit from the first on; of its decimal each digit brings back what dividing by ten took off.
use mathlib.Core.Path.{◌≡◌, refl, ap, ◌∙◌}
use mathlib.Core.Bool.{◌&&◌}
use mathlib.Core.List.{List, [], ◌∷◌, ◌++◌}
use Prim.Native.Nat.{ℕ, zero, suc, ◌+◌, ◌-◌, ◌*◌, ◌/◌, ◌%◌, ◌^◌, ◌<◌, ◌≤◌}
use native.Mathlib.Omega.{arith}
use native.Mathlib.Numerals.{add-one, sub-one, unary_clauses}
use lib.Dec.{leb, ltb}
use lib.ListN.{length, drop, get_or, length-append, drop_of_length-le}
use lib.Seq.{drop-cons}
use borrow.Author.Tests.{le-leb, lt-ltb, ltb-true, ltb-false}
use Rattle.geometry.proofs.Tests.{either, chosen, and_both}
use Rattle.std.specs.Prelude.{Option, Some, None}
use Rattle.texts.specs.Texts.{decimal_in, decimal, is_digit, with_digit, with_digits, number_in}
use Rattle.texts.proofs.Digits.{no-digits, one-digit, last-digit}

digits_append : (r : Option ℕ) (xs ys : List ℕ) → with_digits r (xs ++ ys) ≡ with_digits (with_digits r xs) ys
unfolding with_digits
digits_append r [] ys = refl
digits_append r (x ∷ xs) ys = digits_append (with_digit r x) xs ys

module _ (n : ℕ) (xs : List ℕ) (k : ℕ) where
  -- a turn of a loop from the front: n stands for the first k digits
  pub digits_next : (r : Option ℕ) → k < length xs → with_digit (Some n) (get_or xs k 0) ≡ r → with_digits (Some n) (drop k xs) ≡ with_digits r (drop (k + 1) xs)
  unfolding with_digits
  digits_next r l e = rw (drop-cons xs k 0 l, add-one, ← e)

  pub digits_end : length xs ≤ k → with_digits (Some n) (drop k xs) ≡ Some n
  unfolding with_digits
  digits_end l = rw (drop_of_length-le xs {i = k} l)

-- behind none stands nothing
pub none-behind : (xs : List ℕ) → with_digits None xs ≡ None
unfolding with_digits with_digit
none-behind [] = refl
none-behind (x ∷ xs) = none-behind xs

-- ---- one digit behind a number

module _ (n c : ℕ) where
  digit-fits : 48 ≤ c → c ≤ 57 → 10 * n + (c - 48) < 4294967296 → with_digit (Some n) c ≡ Some (10 * n + (c - 48))
  unfolding with_digit
  digit-fits h k l =
      chosen (is_digit c && ltb (10 * n + (c - 48)) 4294967296) (Some (10 * n + (c - 48))) None
      (and_both (is_digit c) _ (and_both (leb 48 c) (leb c 57) (le-leb 48 c h) (le-leb c 57 k)) (lt-ltb (10 * n + (c - 48)) 4294967296 l))

-- ---- how many digits a text may have

module _ (xs : List ℕ) where
  pub one-to-ten : 1 ≤ length xs → length xs ≤ 10 → number_in xs ≡ with_digits (Some 0) xs
  unfolding number_in
  one-to-ten h k =
      chosen (leb 1 (length xs) && leb (length xs) 10) (with_digits (Some 0) xs) None
      (and_both (leb 1 (length xs)) (leb (length xs) 10) (le-leb 1 (length xs) h) (le-leb (length xs) 10 k))

-- ---- a decimal read back

digits-one : (n d m : ℕ) → d < 10 → 10 * n + d ≡ m → m < 4294967296 → with_digits (Some n) ((48 + d) ∷ []) ≡ Some m
unfolding with_digits
digits-one n d m h e l =
    let s : 10 * n + ((48 + d) - 48) ≡ m = omega arith in
    digit-fits n (48 + d) (omega arith) (omega arith) (omega arith) ∙ ap Some s

digits-back : (k n : ℕ) → n < 10 ^ k → n < 4294967296 → with_digits (Some 0) (decimal_in k n) ≡ Some n
unfolding with_digits
digits-back zero n h l = let e : n ≡ 0 = omega arith in rw (no-digits n, e)
digits-back (suc k) n h l =
    either (ltb n 10)
    (λ t. rw (one-digit (suc k) n (omega arith) (ltb-true n 10 t)) (digits-one 0 (n % 10) n (omega arith) (omega (arith, ltb-true n 10 t)) l))
    (λ t.
    let p : 10 ^ suc k ≡ 10 ^ k * 10 = simp unary_clauses refl in
    let some : 10 ≤ n = ltb-false n 10 t in
    let q : n / 10 < 10 ^ k = omega arith in
    rw (last-digit (suc k) n (omega arith) some, sub-one, digits_append, digits-back k (n / 10) q (omega arith))
    (digits-one (n / 10) (n % 10) n (omega arith) (omega arith) l))

-- a number has at least one digit and at most k
pub digits-count : (k n : ℕ) → (length (decimal_in k n) ≤ k) × (0 < k → 1 ≤ length (decimal_in k n))
digits-count zero n = rw (no-digits n) (omega arith, λ h. absurd (omega arith))
digits-count (suc k) n =
    either (ltb n 10)
    (λ t. rw (one-digit (suc k) n (omega arith) (ltb-true n 10 t)) (omega arith, λ h. omega arith))
    (λ t.
    let m : length (decimal_in k (n / 10)) ≤ k = (digits-count k (n / 10)).0 in
    rw (last-digit (suc k) n (omega arith) (ltb-false n 10 t), sub-one, length-append) (omega arith, λ h. omega arith))

-- the decimal of a number of 32 bits says that number
pub reads-back : (n : ℕ) → n < 4294967296 → number_in (decimal n) ≡ Some n
unfolding decimal
reads-back n h = let m = digits-count 10 n in one-to-ten (decimal_in 10 n) (m.1 (omega arith)) m.0 ∙ digits-back 10 n (omega arith) h
