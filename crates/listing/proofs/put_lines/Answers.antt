-- Behind the first i entries the rest of the table is to be listed.
use mathlib.Core.Path.{◌≡◌}
use mathlib.Core.List.{[], ◌∷◌, ◌++◌}
use Prim.Native.Nat.{◌+◌}
use native.Mathlib.Omega.{arith}
use lib.ListN.{length, drop}
use Rattle.directory.specs.Entries.{entry_at, free_entry, table_of}
use Rattle.directory.proofs.Table.{length-table}
use Rattle.listing.specs.Listing.{lines_from}
use Rattle.texts.proofs.Writing.{leads-on, leads-end}
use Rattle.listing.proofs.Texts.{lines_more, lines_end}
use Rattle.listing.proofs.put_lines.Goals as goal

pub loop-i-init : goal.loop-i-init
loop-i-init c = λ new b w. w

pub loop-i-preserved : goal.loop-i-preserved
loop-i-preserved c =
    let l = c.loop-i in
    let p = c.put_entry-a in
    let t = table_of c.args.image.now in
    let s : length t ≡ 18 = length-table _ in
    let e : lines_from l.i (drop l.i t) ≡ lines_from l.i (entry_at t l.i ∷ []) ++ lines_from (l.i + 1) (drop (l.i + 1) t) =
    lines_more t l.i free_entry (omega arith) in
    leads-on (rw (e, ← c.entry_at-e.ensures) at l.invariant) p.ensures

pub returns : goal.returns
returns c =
    let l = c.loop-i in
    let t = table_of c.args.image.now in
    let s : length t ≡ 18 = length-table _ in
    let e : lines_from l.i (drop l.i t) ≡ [] = lines_end t l.i (omega arith) in
    leads-end (rw e at l.invariant)
