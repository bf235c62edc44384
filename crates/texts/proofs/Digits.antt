-- A number's digits: each is the definition's own equation.
use mathlib.Core.Path.{◌≡◌, refl}
use mathlib.Core.List.{[], ◌∷◌, ◌++◌}
use Prim.Native.Nat.{ℕ, zero, suc, ◌<◌, ◌≤◌, ◌+◌, ◌-◌, ◌/◌, ◌%◌}
use native.Mathlib.Numerals.{sub-one}
use native.Mathlib.Omega.{arith}
use borrow.Author.Tests.{lt-ltb, le-ltb}
use Rattle.texts.specs.Texts.{decimal_in}

pub no-digits : (n : ℕ) → decimal_in 0 n ≡ []
unfolding decimal_in
no-digits n = refl

pub one-digit : (k n : ℕ) → 0 < k → n < 10 → decimal_in k n ≡ (48 + n % 10) ∷ []
unfolding decimal_in
one-digit zero n h l = absurd (omega arith)
one-digit (suc k) n h l = let e : n % 10 ≡ n = omega arith in rw (decimal_in, lt-ltb n 10 l, e)

pub last-digit : (k n : ℕ) → 0 < k → 10 ≤ n → decimal_in k n ≡ decimal_in (k - 1) (n / 10) ++ ((48 + n % 10) ∷ [])
unfolding decimal_in
last-digit zero n h l = absurd (omega arith)
last-digit (suc k) n h l = rw (decimal_in, le-ltb n 10 l, sub-one)
