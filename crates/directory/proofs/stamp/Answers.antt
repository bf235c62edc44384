-- `directory::stamp` meets its contract: the four bytes laid, if there is such an entry.
use mathlib.Core.Path.{◌∙◌, ap, sym}
use native.Mathlib.Omega.{arith}
use Rattle.geometry.specs.Bytes.{lay}
use Rattle.directory.proofs.Stamped.{stamped-in, stamped-none}
use Rattle.directory.proofs.stamp.Goals as goal

pub returns-then-i-lt-ENTRIES : goal.returns-then-i-lt-ENTRIES
returns-then-i-lt-ENTRIES c =
    let a = c.args in
    c.lay.ensures ∙ ap (lay a.image.now _) c.stamp_bytes-b.ensures ∙ sym (stamped-in a.image.now a.i a.count a.flags (omega arith))

pub returns-else-i-lt-ENTRIES : goal.returns-else-i-lt-ENTRIES
returns-else-i-lt-ENTRIES c =
    let a = c.args in
    sym (stamped-none a.image.now a.i a.count a.flags c.if-i-lt-ENTRIES.false)
