-- `directory::entry_from` meets its contract: field by field, the code is the definition.
use Rattle.directory.specs.Entries.{entry_from}
use Rattle.directory.proofs.entry_from.Goals as goal

pub returns : goal.returns
unfolding entry_from
returns c =
    rw (c.name_from-name.ensures, c.word_at-kind.ensures, c.word_at-length.ensures, c.word_at-first.ensures, c.word_at-sectors.ensures, c.word_at-count.ensures, c.word_at-flags.ensures)
