-- `mounting::count_decodes` meets its contract: of a compressed file, walking over its records leads to a place behind them or is lost.
use mathlib.Core.Path.{sym, ap, ◌∙◌}
use Rattle.std.specs.Result.{is_ok}
use Rattle.sessions.specs.Session.{extent}
use Rattle.mounting.specs.Mounting.{counted_walk}
use Rattle.mounting.proofs.Decodes.{none-counted, counted-ok}
use Rattle.mounting.proofs.count_decodes.Goals as goal

pub returns-then-e-ne-COMPRESSED : goal.returns-then-e-ne-COMPRESSED
returns-then-e-ne-COMPRESSED c =
    let a = c.args in
    sym (none-counted a.image.now a.e c.if-e-ne-COMPRESSED.true)

pub returns : goal.returns
unfolding extent counted_walk
returns c =
    let a = c.args in
    c.is_ok.ensures.value ∙ ap is_ok c.walk.ensures ∙ counted-ok a.image.now a.e c.if-e-ne-COMPRESSED.false c.part-bytes.result.now c.part-bytes.ensures
