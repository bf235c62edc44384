-- `directory::stamp_bytes` meets its contract: std's bytes of a word are the word's.
use Prim.Native.Nat.{◌%◌}
use mathlib.Core.Path.{refl, ◌∙◌}
use native.Mathlib.Omega.{arith}
use borrow.Author.Rules.{rules}
use Rattle.geometry.specs.Bytes.{word}
use Rattle.directory.specs.Stamp.{stamp_bytes}
use Rattle.directory.proofs.Fields.{word-bytes}
use Rattle.directory.proofs.stamp_bytes.Goals as goal

pub returns : goal.returns
unfolding stamp_bytes word
returns c =
    rw (c.to_be_bytes.ensures ∙ word-bytes (c.args.count % 65536) (omega arith), c.to_be_bytes-2.ensures ∙ word-bytes c.args.flags (search rules)) refl
