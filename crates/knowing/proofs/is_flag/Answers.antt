-- A truth value is 0 or 1, and what is lent are bytes.
use Prim.Native.Nat.{ℕ}
use native.Mathlib.Omega.{arith}
use mathlib.Core.Path.{refl}
use Rattle.storing.proofs.Read.{bytes}
use Rattle.knowing.proofs.is_flag.Goals as goal

pub returns : goal.returns
returns c = (refl, bytes c.args.b.now (λ (k : ℕ). omega (arith, c.type_inv.b k)))
