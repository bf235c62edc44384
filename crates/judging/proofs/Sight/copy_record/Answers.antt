-- A blocked record whose sector is the held one lies in over at its byte offset; any other lies in the extent, at its byte offset in its sector.
use Rattle.judging.proofs.Fixed.{tested, held-ends, from-held, starts, tail-ends, from_tail}
use Rattle.geometry.specs.Bytes.{part, lay}
use native.Mathlib.Omega.{arith}
use Prim.Native.Nat.{ℕ}
use mathlib.Core.Path.{ap, ◌∙◌}
use Rattle.judging.proofs.Sight.copy_record.Goals as goal

pub lay_part-requires : goal.lay_part-requires
lay_part-requires c =
    let a = c.args in
    let x = a.self.now in
    omega (arith, c.byte_of_record-o.ensures, held-ends x.entry a.k x.extent.bytes.now x.extent.over.now x.extent.held c.requires (tested x.entry a.k x.extent.bytes.now x.extent.over.now x.extent.held c.requires _ _ _ c.sector_of_record-s.ensures c.is_held.ensures c.if-is_held.true))

pub overflow_mul-at : goal.overflow_mul-at
overflow_mul-at c =
    let a = c.args in
    let x = a.self.now in
    record { fits = omega (arith, starts x.entry a.k x.extent.bytes.now x.extent.over.now x.extent.held c.requires c.sector_of_record-s.result c.byte_of_record-o.result c.sector_of_record-s.ensures c.byte_of_record-o.ensures) }

pub slice_bounds-lay_part-count : goal.slice_bounds-lay_part-count
slice_bounds-lay_part-count c =
    let a = c.args in
    let x = a.self.now in
    starts x.entry a.k x.extent.bytes.now x.extent.over.now x.extent.held c.requires c.sector_of_record-s.result c.byte_of_record-o.result c.sector_of_record-s.ensures c.byte_of_record-o.ensures

pub slice_bounds-lay_part-start : goal.slice_bounds-lay_part-start
slice_bounds-lay_part-start c =
    let a = c.args in
    let x = a.self.now in
    starts x.entry a.k x.extent.bytes.now x.extent.over.now x.extent.held c.requires c.sector_of_record-s.result c.byte_of_record-o.result c.sector_of_record-s.ensures c.byte_of_record-o.ensures

pub lay_part-requires-else-is_held : goal.lay_part-requires-else-is_held
lay_part-requires-else-is_held c =
    let a = c.args in
    let x = a.self.now in
    tail-ends x.entry a.k x.extent.bytes.now x.extent.over.now x.extent.held c.requires c.sector_of_record-s.result c.byte_of_record-o.result c.sector_of_record-s.ensures c.byte_of_record-o.ensures

pub returns-then-is_held : goal.returns-then-is_held
returns-then-is_held c =
    let a = c.args in
    let x = a.self.now in
    c.lay_part.ensures ∙ ap (lay a.buffer.now 0) (ap (λ (o : ℕ). part x.extent.over.now o x.entry.length) c.byte_of_record-o.ensures
    ∙ from-held x.entry a.k x.extent.bytes.now x.extent.over.now x.extent.held c.requires (tested x.entry a.k x.extent.bytes.now x.extent.over.now x.extent.held c.requires _ _ _ c.sector_of_record-s.ensures c.is_held.ensures c.if-is_held.true))

pub returns-else-is_held : goal.returns-else-is_held
returns-else-is_held c =
    let a = c.args in
    let x = a.self.now in
    c.lay_part-else-is_held.ensures ∙ ap (lay a.buffer.now 0) (from_tail x.entry a.k x.extent.bytes.now x.extent.over.now x.extent.held c.requires c.sector_of_record-s.result c.byte_of_record-o.result c.sector_of_record-s.ensures c.byte_of_record-o.ensures (tested x.entry a.k x.extent.bytes.now x.extent.over.now x.extent.held c.requires _ _ _ c.sector_of_record-s.ensures c.is_held.ensures c.if-is_held.false))
