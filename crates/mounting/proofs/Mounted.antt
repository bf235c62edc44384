-- A mounted session is legal and of its type: the table is good or has no used entry, and nothing is open.
use mathlib.Core.Path.{◌≡◌, refl}
use mathlib.Core.Bool.{Bool, true, false}
use mathlib.Core.List.{List}
use Prim.Native.Nat.{ℕ}
use lib.ListN.{length, replicate}
use lib.Dec.{eqb}
use borrow.Author.Tests.{eq-eqb}
use Rattle.geometry.specs.Bytes.{word}
use Rattle.geometry.specs.Lists.{all, every, pairwise, how_many}
use Rattle.geometry.specs.Sizes.{entries, sectors_of, lawful_length}
use Rattle.geometry.proofs.Tests.{either, and_left, and_right, every-from}
use Rattle.directory.specs.Entries.{entry_bytes, table_of, free_entry}
use Rattle.directory.specs.Rules.{kind_known, free_is_zero, name_good, names_differ, extent_inside, extents_apart, flags_known, length_good, count_good, random_bare, table_rules, table_good}
use Rattle.directory.proofs.Table.{length-table, table-name}
use Rattle.sessions.specs.Session.{unheld, is_of, open_files, of_used_entry, of_other, position_good, beyond_good, places_good, saying_good, session_rules, legal, typed}
use Rattle.sessions.proofs.Unheld.{unheld-typed}
use Rattle.mounting.specs.Mounting.{mounts, start_with, plain_mount}
use Rattle.directory.specs.declared.Entry.{Entry}

-- ---- the two tables

pub free-good : (N : ℕ) → table_good N (replicate entries free_entry) ≡ true
unfolding table_good table_rules all every pairwise kind_known free_is_zero entry_bytes word name_good names_differ extent_inside extents_apart flags_known length_good count_good random_bare
free-good N = refl

pub mounts-length : (image : List ℕ) → mounts image ≡ true → lawful_length image ≡ true
unfolding mounts
mounts-length image m = and_left (lawful_length image) _ m

pub mounts-good : (image : List ℕ) → mounts image ≡ true → table_good (sectors_of image) (table_of image) ≡ true
unfolding mounts
mounts-good image m = and_left (table_good (sectors_of image) (table_of image)) _ (and_right (lawful_length image) _ m)

-- ---- legal

pub start-legal : (image : List ℕ) (table : List Entry) → lawful_length image ≡ true → table_good (sectors_of image) table ≡ true → legal image (start_with false table) ≡ true
unfolding legal session_rules all every pairwise start_with open_files how_many of_used_entry of_other is_of position_good beyond_good places_good saying_good
start-legal image table l g = rw (l, g)

-- one from a refused mounting has no used entry
refused-legal : (image : List ℕ) → lawful_length image ≡ true → legal image (start_with true (replicate entries free_entry)) ≡ true
unfolding legal session_rules all every pairwise start_with open_files how_many of_used_entry of_other is_of position_good beyond_good places_good saying_good
refused-legal image l = rw (l, free-good (sectors_of image))

pub mounted-legal : (image : List ℕ) → lawful_length image ≡ true → legal image (plain_mount image).session ≡ true
unfolding plain_mount
mounted-legal image l = either (mounts image)
    (λ (m : mounts image ≡ true). rw (m, plain_mount) (start-legal image (table_of image) l (mounts-good image m)))
    (λ (m : mounts image ≡ false). rw (m, plain_mount) (refused-legal image l))

-- ---- of its type

start-typed : (refused : Bool) (table : List Entry) → length table ≡ entries → every (λ e. eqb (length e.name) 8) table ≡ true → typed (unheld (start_with refused table)) ≡ true
unfolding start_with
start-typed refused table l n = unheld-typed (start_with refused table) l n refl

pub mounted-typed : (image : List ℕ) → typed (unheld (plain_mount image).session) ≡ true
unfolding plain_mount every
mounted-typed image = either (mounts image)
    (λ (m : mounts image ≡ true). rw (m, plain_mount) (start-typed false (table_of image) (length-table image) (every-from (λ e. eqb (length e.name) 8) (table_of image) free_entry (λ i l. eq-eqb _ 8 (table-name image i)))))
    (λ (m : mounts image ≡ false). rw (m, plain_mount) (start-typed true (replicate entries free_entry) refl refl))
