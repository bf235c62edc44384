-- `showing::find_mounted` meets its contract: each step stops it, or leads to the next.
use mathlib.Core.Path.{refl, sym, ◌∙◌}
use Rattle.std.proofs.lemmas.Result.{err_from_is_err_and}
use Rattle.showing.proofs.Opening.{long-stops, refused-some, bad-stops, goes-on}
use Rattle.showing.proofs.find_mounted.Goals as goal

pub returns-then-not-is_short : goal.returns-then-not-is_short
returns-then-not-is_short c = sym (long-stops _ _ _ (sym c.is_short.ensures ∙ c.if-not-is_short.true))

pub returns-in_err-mount : goal.returns-in_err-mount
returns-in_err-mount c =
    let m = c.in_err-mount.ensures in
    let p = err_from_is_err_and c.from_residual.result c.from_residual.ensures.1 in
    rw (p.1, p.2) (sym (bad-stops _ _ _ (sym c.is_short.ensures ∙ c.if-not-is_short.false) _ _ m.0 m.1 (refused-some _)))

pub returns : goal.returns
returns c =
    let m = c.in_ok-mount.ensures in
    goes-on _ _ _ (sym c.is_short.ensures ∙ c.if-not-is_short.false) _ _ m.0 m.1 refl _ c.find_typed.ensures
