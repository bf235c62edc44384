-- What is no name as it is typed finds no file: a file that it found would have its bytes for a name, and those are none.
use mathlib.Core.Path.{◌≡◌, sym, ap, ◌∙◌}
use mathlib.Core.Bool.{true, false, not}
use mathlib.Core.List.{List}
use Prim.Native.Nat.{ℕ}
use lib.Dec.{eqb}
use lib.ListN.{length}
use borrow.Author.Tests.{not-true}
use Rattle.geometry.proofs.Tests.{both_ways, and_left, and_right, and_both, or-either, denied, all_get_d, every-get_or, same_true}
use Rattle.names.specs.Names.{is_name}
use Rattle.directory.specs.Entries.{is_free, free_entry, entry_at}
use Rattle.directory.specs.Rules.{name_good, table_rules, table_good}
use Rattle.directory.specs.Search.{matches, told, find}
use Rattle.directory.specs.declared.Entry.{Entry}
use Rattle.std.specs.Prelude.{None}
use Rattle.directory.proofs.Find.{found_none}
use Rattle.shapes.specs.Made.{is_named}
use Rattle.typing.specs.Typing.{is_typed_name, name_of}
use Rattle.typing.proofs.Names.{names-alone}

module _ (name : List ℕ) (e : Entry) where
  matched : name_good e ≡ true → matches name e ≡ true → is_named name ≡ true
  unfolding name_good matches is_named
  matched g m =
      let r : _ = and_right (eqb (length name) 8) _ m in
      let s : e.name ≡ name = same_true e.name name (and_right (not (is_free e)) _ r) in
      let u : is_free e ≡ false = not-true (is_free e) (and_left (not (is_free e)) _ r) in
      and_both (eqb (length name) 8) (is_name name) (and_left (eqb (length name) 8) _ m)
      (or-either (is_free e) (is_name e.name) g (λ f. both_ways (is_free e) f u) (λ n. ap is_name (sym s) ∙ n))

pub unknown : (N : ℕ) (table : List Entry) → table_good N table ≡ true → (text : List ℕ) → is_typed_name text ≡ false → find table (name_of text) ≡ told None
unfolding table_good table_rules
unknown N table good text bad =
    found_none table (name_of text) free_entry λ j l.
    denied (matches (name_of text) (entry_at table j)) (is_named (name_of text))
    (matched (name_of text) (entry_at table j) (every-get_or name_good table j free_entry (all_get_d (table_rules N table) 2 good) l))
    (names-alone text ∙ bad)
