-- `moving::lay` meets its contract: few bytes and many are laid alike.
use Rattle.std.specs.Prelude.{Bool, true, leb}
use mathlib.Core.Path.{◌≡◌, sym, ◌∙◌}
use Prim.Native.Nat.{ℕ, ◌+◌, ◌≤◌}
use lib.ListN.{length}
use borrow.Author.Tests.{leb-true, leb-false}
use Rattle.geometry.proofs.Bytes.{lay-short}
use Rattle.moving.proofs.lay.Goals as goal

-- the bytes fit
fit : (m n : ℕ) (r : Bool) → r ≡ leb m n → r ≡ true → m ≤ n
fit m n r e t = leb-true m n (sym e ∙ t)

pub lay_bytes-requires : goal.lay_bytes-requires
lay_bytes-requires c = fit _ _ _ c.fits.ensures c.if-fits.true

pub lay_pieces-requires : goal.lay_pieces-requires
lay_pieces-requires c = (c.if-xs-lt32.false, fit _ _ _ c.fits.ensures c.if-fits.true)

pub returns-then-xs-lt32 : goal.returns-then-xs-lt32
returns-then-xs-lt32 c = c.lay_bytes.ensures

pub returns-else-xs-lt32 : goal.returns-else-xs-lt32
returns-else-xs-lt32 c = c.lay_pieces.ensures

pub returns-else-fits : goal.returns-else-fits
returns-else-fits c =
    let a = c.args in
    sym (lay-short a.out.now a.at a.xs.now (leb-false (a.at + length a.xs.now) (length a.out.now) (sym c.fits.ensures ∙ c.if-fits.false)))
