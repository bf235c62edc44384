-- The directory is a table of 20 bytes an entry.
use mathlib.Core.Path.{ap, ◌∙◌}
use mathlib.Core.List.{List}
use Rattle.directory.specs.Entries.{entry_at}
use Rattle.directory.specs.declared.Entry.{Entry}
use Rattle.mounting.proofs.Directory.{directory-is}
use Rattle.mounting.proofs.entry_of.Goals as goal

pub returns : goal.returns
returns c =
    let a = c.args in
    c.entry_in.ensures ∙ ap (λ (t : List Entry). entry_at t a.i) (directory-is a.image.now c.requires)
