-- The entry is that of a file that is added, and what is lent are bytes.
use mathlib.Core.Path.{◌≡◌, ap, ◌∙◌}
use mathlib.Core.List.{List}
use Prim.Native.Nat.{ℕ}
use native.Mathlib.Omega.{arith}
use borrow.Author.Rules.{rules}
use Rattle.geometry.specs.Sizes.{entries}
use Rattle.tables.specs.Tables.{one_word_wide, two_words_wide, lay_entry}
use Rattle.storing.proofs.Read.{bytes}
use Rattle.shapes.specs.Made.{file_made}
use Rattle.editing.proofs.put_file.Goals as goal

pub returns : goal.returns
unfolding file_made
returns c =
    let a = c.args in
    let own : c.unwrap-own.result ≡ a.name.now = search rules in (
      c.put_both.ensures.0 ∙ ap (λ (x : List ℕ). lay_entry one_word_wide entries a.image.now a.n (file_made a.kind a.length a.sectors x a.first)) own,
      c.put_both.ensures.1 ∙ ap (λ (x : List ℕ). lay_entry two_words_wide entries a.session.now a.n (file_made a.kind a.length a.sectors x a.first)) own,
      bytes a.name.now (λ (k : ℕ). omega (arith, c.type_inv.name k)),
    )
