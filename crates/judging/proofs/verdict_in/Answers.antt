-- The entry, the state and what is held are those of the session that the bytes are.
use mathlib.Core.Path.{ap, ◌∙◌}
use lib.Seq.{sets}
use Rattle.straight.specs.Straight.{code_given}
use Rattle.finding.specs.Lent.{lent_by, own_state, seen_in}
use Rattle.storing.specs.Stored.{lent_session}
use Rattle.finding.specs.declared.Seen.{Seen}
use Rattle.judging.proofs.Entered.{seen-stands, seen-lent, judged}
use Rattle.judging.proofs.verdict_in.Goals as goal

pub ruling_on-r-requires : goal.ruling_on-r-requires
ruling_on-r-requires c =
    let a = c.args in
    seen-stands a.image.now a.session.now a.i c.find_in-seen.result c.find_in-seen.ensures

pub returns : goal.returns
returns c =
    let a = c.args in
    let x = c.find_in-seen.result in
    let z = seen_in a.image.now a.session.now a.i in
    let j = judged a.image.now x (lent_by (own_state (lent_session a.session.now) a.i)) a.i a.q a.given.now c.encode_given-size.result a.buffer.now z c.lent_in-over.result.now
    c.encode_given-size.ensures.0 c.find_in-seen.ensures (c.lent_in-over.ensures ∙ seen-lent a.image.now a.session.now a.i x c.find_in-seen.ensures) _ _ _ c.next-v.result (c.ruling_on-r.ensures a.i) c.next-v.ensures in
    (j.0, j.1, c.encode_given-size.ensures.1 ∙ ap (λ (y : Seen). sets a.code.now 0 (code_given y.entry a.given.now)) c.find_in-seen.ensures)
