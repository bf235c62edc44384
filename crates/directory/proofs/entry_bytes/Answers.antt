-- `directory::entry_bytes` meets its contract: each field is laid behind those before it.
use mathlib.Core.Path.{◌≡◌, ap, ◌∙◌}
use Prim.Native.Nat.{◌%◌}
use native.Mathlib.Omega.{arith}
use borrow.Author.Rules.{rules}
use lib.ListN.{length, replicate, length-append}
use Rattle.geometry.specs.Bytes.{lay, word}
use Rattle.geometry.proofs.Bytes.{lay-all}
use Rattle.directory.specs.Entries.{entry_bytes, one_word}
use Rattle.directory.proofs.Fields.{word-bytes, behind, fields}
use Rattle.directory.proofs.entry_bytes.Goals as goal

pub returns : goal.returns
unfolding entry_bytes word
returns c =
    let e = c.args.e in
    let n : length e.name ≡ 8 = search rules in
    let last = behind _ _ _ 16 18 (word (e.count % 65536)) (word e.flags)
    (c.lay-6.ensures ∙ ap (lay _ _) (c.to_be_bytes-5.ensures ∙ word-bytes _ (omega arith))) (omega arith)
    (c.lay-7.ensures ∙ ap (lay _ _) (c.to_be_bytes-6.ensures ∙ word-bytes _ (search rules))) (search rules) in
    fields (replicate 20 0) _ _ _ _ _ _ 0 e.kind e.length e.first e.sectors e.name _ n (omega arith)
    c.lay.ensures
    (c.lay-2.ensures ∙ ap (lay _ _) (c.to_be_bytes.ensures ∙ word-bytes _ (search rules)))
    (c.lay-3.ensures ∙ ap (lay _ _) (c.to_be_bytes-2.ensures ∙ word-bytes _ (search rules)))
    (c.lay-4.ensures ∙ ap (lay _ _) (c.to_be_bytes-3.ensures ∙ word-bytes _ (search rules)))
    (c.lay-5.ensures ∙ ap (lay _ _) (c.to_be_bytes-4.ensures ∙ word-bytes _ (search rules)))
    last
    ∙ lay-all 20 (replicate 20 0) (entry_bytes (one_word e)) (omega arith) (length-append e.name _ ∙ omega (arith, n))
