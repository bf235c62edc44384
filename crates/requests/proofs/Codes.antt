-- A code that is none of 1 to 13 stands at the beginning of the table of requests or behind it.
use mathlib.Core.Path.{◌≡◌}
use mathlib.Core.Logic.{◌≢◌}
use Prim.Native.Nat.{ℕ, suc, ◌≤◌, ◌<◌}
use native.Mathlib.Omega.{arith}
use native.Mathlib.Decide.{dec_lt}
use lib.ListN.{get_or-eq_default}
use Rattle.requests.specs.Codes.{codes, asked_for}
use Rattle.std.specs.Prelude.{None}

le-ne : (k n : ℕ) → k ≤ n → n ≢ k → suc k ≤ n
le-ne k n h e = omega arith

le-zero : (n : ℕ) → ¬ (0 < n) → n ≡ 0
le-zero n h = omega arith

module _ (code g : ℕ) (n1 : code ≢ 1) (n2 : code ≢ 2) (n3 : code ≢ 3) (n4 : code ≢ 4) (n5 : code ≢ 5) (n6 : code ≢ 6) (n7 : code ≢ 7) (n8 : code ≢ 8) (n9 : code ≢ 9)
    (n10 : code ≢ 10) (n11 : code ≢ 11) (n12 : code ≢ 12) (n13 : code ≢ 13) where
  pub none-asked : asked_for code g ≡ None
  unfolding asked_for codes
  none-asked = go (dec_lt 0 code)
    where
      go : Dec (0 < code) → asked_for code g ≡ None
      go (yes h) = get_or-eq_default (codes g) None (le-ne 13 code (le-ne 12 code (le-ne 11 code (le-ne 10 code (le-ne 9 code (le-ne 8 code (le-ne 7 code (le-ne 6 code (le-ne 5 code (le-ne 4 code (le-ne 3 code (le-ne 2 code (le-ne 1 code h n1) n2) n3) n4) n5) n6) n7) n8) n9) n10) n11) n12) n13)
      go (no h) = let z : code ≡ 0 = le-zero code h in rw z
