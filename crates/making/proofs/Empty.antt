-- An image of zeros mounts: each of its 18 entries is read from zeros, and so is free, and a table of free entries keeps every rule.
use mathlib.Core.Path.{◌≡◌, refl, sym, ap, ◌∙◌}
use mathlib.Core.Bool.{true, false}
use mathlib.Core.List.{List, ◌∷◌}
use Prim.Native.Nat.{ℕ, zero, suc, ◌*◌, ◌/◌, ◌%◌, ◌≤◌}
use native.Mathlib.Omega.{arith}
use lib.Dec.{eqb, leb}
use lib.ListN.{length, take, replicate, length-replicate}
use borrow.Author.Tests.{le-leb, eq-eqb}
use Rattle.geometry.specs.Lists.{every}
use Rattle.geometry.specs.Bytes.{part, padded, word_at, lay}
use Rattle.geometry.specs.Sizes.{sector, entries, sectors_of, lawful_length, most_sectors}
use Rattle.geometry.proofs.Tests.{chosen, not_chosen, and_both}
use Rattle.geometry.proofs.Bytes.{lay-all}
use Rattle.directory.specs.Entries.{entry_from, entries_from, table_of, free_entry}
use Rattle.directory.proofs.Table.{table-part}
use Rattle.mounting.specs.Mounting.{count_decodes, mounts}
use Rattle.mounting.proofs.Directory.{sector-there}
use Rattle.mounting.proofs.Mounted.{free-good}
use Rattle.making.specs.Making.{emptied}

abbrev zeros : ℕ → List ℕ
zeros n = replicate n 0

-- ---- the table

first-zeros : (n m : ℕ) → n ≤ m → take n (zeros m) ≡ zeros n
first-zeros zero m h = refl
first-zeros (suc n) zero h = absurd (omega arith)
first-zeros (suc n) (suc m) h = ap (◌∷◌ 0) (first-zeros n m (omega arith))

first-sector : (m : ℕ) → sector ≤ m → part (zeros m) 0 sector ≡ zeros sector
unfolding part
first-sector m h = first-zeros sector m h

free-table : table_of (zeros sector) ≡ replicate entries free_entry
unfolding table_of entries_from entry_from part padded word_at
free-table = refl

pub no-files : (m : ℕ) → sector ≤ m → table_of (zeros m) ≡ replicate entries free_entry
no-files m h = sym (table-part (zeros m)) ∙ ap table_of (first-sector m h) ∙ free-table

-- ---- mounting

free-decodes : (image : List ℕ) → every (count_decodes image) (replicate entries free_entry) ≡ true
unfolding every count_decodes
free-decodes image = refl

zeros-mount : (m : ℕ) → lawful_length (zeros m) ≡ true → mounts (zeros m) ≡ true
unfolding mounts
zeros-mount m h =
    let l : length (zeros m) ≡ m = length-replicate m 0 in
    let s : sector ≤ length (zeros m) = sector-there (zeros m) h in
    rw (h, no-files m (omega arith), free-good (sectors_of (zeros m)), free-decodes (zeros m))

-- an image of n sectors of zeros, n from 1 to 4,096
pub empty-mounts : (n : ℕ) → 1 ≤ n → n ≤ most_sectors → mounts (zeros (sector * n)) ≡ true
unfolding lawful_length sectors_of
empty-mounts n h k =
    let l : length (zeros (sector * n)) ≡ sector * n = length-replicate (sector * n) 0 in
    zeros-mount (sector * n)
    (and_both (eqb (length (zeros (sector * n)) % sector) 0) _ (eq-eqb (length (zeros (sector * n)) % sector) 0 (omega arith))
    (and_both (leb 1 (length (zeros (sector * n)) / sector)) _ (le-leb 1 (length (zeros (sector * n)) / sector) (omega arith)) (le-leb (length (zeros (sector * n)) / sector) most_sectors (omega arith))))

-- ---- bytes that are lent

lawful-zeros : (bytes : List ℕ) → lawful_length (zeros (length bytes)) ≡ lawful_length bytes
unfolding lawful_length sectors_of
lawful-zeros bytes = let l : length (zeros (length bytes)) ≡ length bytes = length-replicate (length bytes) 0 in rw l

module _ (bytes : List ℕ) where
  emptied-lawful : lawful_length bytes ≡ true → emptied bytes ≡ zeros (length bytes)
  unfolding emptied
  emptied-lawful h = chosen (lawful_length bytes) (zeros (length bytes)) bytes h

  pub emptied-unlawful : lawful_length bytes ≡ false → emptied bytes ≡ bytes
  unfolding emptied
  emptied-unlawful h = not_chosen (lawful_length bytes) (zeros (length bytes)) bytes h

  -- zeros laid over all of them
  pub emptied-laid : lawful_length bytes ≡ true → lay bytes 0 (zeros (length bytes)) ≡ emptied bytes
  emptied-laid h = lay-all (length bytes) bytes (zeros (length bytes)) refl (length-replicate (length bytes) 0) ∙ sym (emptied-lawful h)

  -- what is made mounts, whenever something is made
  pub emptied-mounts : lawful_length bytes ≡ true → mounts (emptied bytes) ≡ true
  emptied-mounts h = rw (emptied-lawful h) (zeros-mount (length bytes) (lawful-zeros bytes ∙ h))
