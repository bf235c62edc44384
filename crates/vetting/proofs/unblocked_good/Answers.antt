-- `directory::unblocked_good` meets its contract: R first, then the count.
use mathlib.Core.Path.{sym, ap, ◌∙◌}
use Prim.Native.Nat.{ℕ, ◌*◌, ◌≤◌}
use native.Mathlib.Nat.{mul-le-mul_left}
use native.Mathlib.Omega.{arith}
use lib.Dec.{leb}
use Rattle.geometry.specs.Places.{sectors_for}
use Rattle.directory.specs.Rules.{longest}
use Rattle.directory.proofs.Grouped.{sizes-off, sizes-unblocked}
use Rattle.vetting.proofs.unblocked_good.Goals as goal

pub returns-then-not-length_good : goal.returns-then-not-length_good
unfolding longest
returns-then-not-length_good c =
    let a = c.args in
    sym (sizes-off a.e 3600 (ap longest c.requires) (sym c.length_good.ensures ∙ c.if-not-length_good.true))

pub overflow_mul-result : goal.overflow_mul-result
unfolding sectors_for
overflow_mul-result c =
    let a = c.args in
    let s = c.sectors_for in
    let h : s.result ≤ 183 = rw s.ensures (omega arith) in
    let p : a.e.count * s.result ≤ a.e.count * 183 = mul-le-mul_left a.e.count h in
    omega arith

pub returns : goal.returns
returns c =
    let a = c.args in
    ap (λ (s : ℕ). leb (a.e.count * s) a.e.sectors) c.sectors_for.ensures ∙ sizes-unblocked a.e c.requires (sym c.length_good.ensures ∙ c.if-not-length_good.false)
