-- The directory of an image of lawful length is the table of 18 entries of 20 bytes that it begins with.
use mathlib.Core.Path.{◌≡◌, refl, sym, ◌∙◌}
use mathlib.Core.Bool.{Bool, true, ◌&&◌}
use mathlib.Core.List.{List}
use Prim.Native.Nat.{ℕ, ◌*◌, ◌≤◌}
use native.Mathlib.Omega.{arith}
use lib.ListN.{length}
use Rattle.geometry.specs.Sizes.{sector, entries, sectors_of, lawful_length}
use Rattle.geometry.proofs.Places.{lawful-whole, lawful-some}
use Rattle.directory.specs.Entries.{table_of}
use Rattle.directory.specs.Rules.{table_good}
use Rattle.tables.specs.Tables.{one_word_wide, has_rows, entries_in, table_in}
use Rattle.tables.proofs.Laws.{on-image}
use Rattle.tables.proofs.Widths.{rows-there}

pub sector-there : (image : List ℕ) → lawful_length image ≡ true → sector ≤ length image
sector-there image ok =
    let l : length image ≡ sector * sectors_of image = lawful-whole image ok in
    let s : 1 ≤ sectors_of image = lawful-some image ok in
    omega arith

has-directory : (image : List ℕ) → sector ≤ length image → has_rows one_word_wide entries image ≡ true
has-directory image room = rows-there one_word_wide entries image (omega arith, omega arith, refl) room

pub directory-is : (image : List ℕ) → sector ≤ length image → table_in one_word_wide entries image ≡ table_of image
unfolding table_in
directory-is image room = rw (has-directory image room, table_in) (on-image image)

-- as the program tests it
pub table-tested : (image : List ℕ) → lawful_length image ≡ true → (n : ℕ) → n ≡ sectors_of image → (r : Bool)
    → r ≡ (has_rows one_word_wide entries image && table_good n (entries_in one_word_wide entries image)) → table_good (sectors_of image) (table_of image) ≡ r
table-tested image ok n en r h = sym (h ∙ rw (has-directory image (sector-there image ok), on-image image, en))
