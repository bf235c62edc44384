-- `shapes::longest` meets its contract: one way for each branch.
use Prim.Native.Nat.{ℕ}
use mathlib.Core.Path.{◌≡◌, sym, ap}
use native.Mathlib.Omega.{arith}
use borrow.Author.Tests.{ne_eqb}
use Rattle.directory.specs.Rules.{longest}
use Rattle.shapes.proofs.longest.Goals as goal

pub returns-in-2 : goal.returns-in-2
unfolding longest
returns-in-2 c = ap longest (sym c.in-2.is)

pub returns-in-3 : goal.returns-in-3
unfolding longest
returns-in-3 c = ap longest (sym c.in-3.is)

pub returns-in_default : goal.returns-in_default
unfolding longest
returns-in_default c = other c.args.kind (λ e. omega arith) (λ e. omega arith)
  where
    other : (k : ℕ) → ¬ (k ≡ 2) → ¬ (k ≡ 3) → 3600 ≡ longest k
    other k h n = rw (ne_eqb k 2 h, ne_eqb k 3 n, longest)
