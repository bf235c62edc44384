-- `moving::lay_padded` meets its contract: padded bytes are laid as the bytes, and then what is missing behind them.
use mathlib.Core.Path.{◌≡◌, sym, ap, ◌∙◌}
use mathlib.Core.List.{List}
use Prim.Native.Nat.{ℕ, ◌+◌, ◌-◌, ◌≤◌, ◌<◌}
use native.Mathlib.Omega.{arith}
use lib.ListN.{length, replicate}
use borrow.Author.Tests.{leb-true, leb-false}
use Rattle.geometry.specs.Bytes.{lay, padded}
use Rattle.geometry.proofs.Bytes.{lay-short, lay-padded, padded-long, length-padded}
use Rattle.moving.proofs.lay_padded.Goals as goal

pub returns-then-fits : goal.returns-then-fits
returns-then-fits c =
    let a = c.args in
    let h : a.at + a.n ≤ length a.out.now = leb-true (a.at + a.n) (length a.out.now) (sym c.if-fits.ensures) in
    c.fill.ensures
    ∙ ap (λ (x : List ℕ). lay x (a.at + length a.xs.now) (replicate (a.n - length a.xs.now) a.b)) c.lay.ensures
    ∙ sym (lay-padded a.out.now a.at a.b a.n a.xs.now (omega arith) h)

pub returns-else-fits : goal.returns-else-fits
returns-else-fits c =
    let a = c.args in
    let l : length (padded a.b a.n a.xs.now) ≡ a.n = length-padded a.b a.n a.xs.now (omega arith) in
    let h : length a.out.now < a.at + a.n = leb-false (a.at + a.n) (length a.out.now) (sym c.if-fits.ensures) in
    sym (lay-short a.out.now a.at (padded a.b a.n a.xs.now) (omega arith))

pub returns-else-m-n : goal.returns-else-m-n
returns-else-m-n c =
    let a = c.args in
    c.lay-else-m-n.ensures ∙ ap (lay a.out.now a.at) (sym (padded-long a.b a.n a.xs.now c.if-m-n.false))
