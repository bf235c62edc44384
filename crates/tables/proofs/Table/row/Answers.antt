-- `tables::Table::row` meets its contract: each field is read at its place.
use Prim.Native.Nat.{ℕ, ◌*◌}
use mathlib.Core.Path.{◌≡◌, sym, ap, ◌∙◌}
use native.Mathlib.Omega.{arith}
use Rattle.geometry.specs.Bytes.{part, padded}
use Rattle.tables.specs.Tables.{entry_in}
use Rattle.tables.proofs.Entries.{name-is}
use Rattle.tables.proofs.Widths.{room}
use Rattle.tables.proofs.Table.row.Goals as goal

pub returns : goal.returns
unfolding entry_in
returns c =
    let i = c.args.i in
    let t = c.args.self.now in
    let r = room t.width i t.rows t.bytes.now t.fits c.requires in
    let n : c.eight_bytes.result ≡ padded 0 8 (part t.bytes.now (t.width * i) 8) =
    c.eight_bytes.ensures ∙ ap (λ (k : ℕ). part t.bytes.now k 8) c.place.ensures.0 ∙ sym (name-is t.bytes.now (t.width * i) (omega (arith, r, t.wide.0))) in
    rw (n, c.word.ensures, c.word-2.ensures, c.word-3.ensures, c.word-4.ensures, c.count.ensures, c.word-5.ensures)
