-- The table is computed from its rule, all 256 bytes of it.
use borrow.Author.Rules.{rules}
use Rattle.geometry.specs.Lists.{first_with}
use Rattle.texts.specs.Texts.{spelled}
use Rattle.characters.specs.Characters.{listed, codes, across, ebcdic_of}
use Rattle.characters.proofs.Tables.{table_at}
use Rattle.characters.proofs.to_ebcdic.Goals as goal

pub returns : goal.returns
unfolding ebcdic_of across listed codes spelled first_with
returns c = table_at ebcdic_of c.args.c (search rules)
