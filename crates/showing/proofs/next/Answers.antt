-- `showing::next` meets its contract: the record is read into the front of the room, and printed there.
use mathlib.Core.Path.{sym, ◌∙◌}
use mathlib.Core.List.{[]}
use lib.Seq.{length-take-le}
use Rattle.requests.specs.Codes.{codes, asked_for}
use Rattle.requests.specs.declared.Request.TheVariants.{Read}
use Rattle.asking.proofs.Asked.{told-by}
use Rattle.showing.proofs.Read.{room-is, shows}
use Rattle.showing.proofs.next.Goals as goal

pub slice_bounds-request-end-2 : goal.slice_bounds-request-end-2
slice_bounds-request-end-2 c = room-is _ _ _ c.room_for-n.ensures

pub slice_bounds-request-end-3 : goal.slice_bounds-request-end-3
slice_bounds-request-end-3 c = sym (length-take-le _ c.args.out.now (room-is _ _ _ c.room_for-n.ensures))

pub returns : goal.returns
unfolding asked_for codes
returns c =
    let a = c.args in
    let r = c.room_for-n in
    let q = c.request-answer in
    let t = told-by a.image.now a.session.now a.file.entry Read [] _ _ _ _ _ q.ensures in
    shows _ _ _ _ _ _ r.ensures _ _ _ _ t (q.auto.buffer ∙ length-take-le r.result a.out.now (room-is _ _ _ r.ensures)) _ _ c.put_printed-size.ensures
