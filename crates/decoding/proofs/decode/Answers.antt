-- `decoding::decode` meets its contract: a good code leaves the record in the buffer, and a bad one is found before the buffer is touched.
use lib.ListN.{length}
use Rattle.std.proofs.lemmas.Result.{err_from_is_err_and}
use Rattle.decoding.specs.Decode.{decode}
use Rattle.decoding.proofs.Filled.{awaited, decoded-good, decoded-bad}
use Rattle.decoding.proofs.decode.Goals as goal

pub returns-in_err-e : goal.returns-in_err-e
returns-in_err-e c =
    let a = c.args in
    let p = err_from_is_err_and c.from_residual.result c.from_residual.ensures.1 in
    rw (p.1, p.2) (decoded-bad (decode (length a.out.now) a.s.now) c.in_err-e.field-0.0 a.out.now c.in_err-e.ensures)

pub place-requires : goal.place-requires
place-requires c = let a = c.args in awaited a.s.now a.out.now c.fill.new.out c.in_ok-e.e c.in_ok-e.ensures c.fill.ensures

pub returns : goal.returns
returns c =
    let a = c.args in
    let f = c.fill in
    decoded-good a.s.now a.out.now f.new.out _ c.in_ok-e.e c.in_ok-e.ensures f.auto.out c.place.ensures
