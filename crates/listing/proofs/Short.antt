-- A listing has at most 1,596 bytes: a number has at most ten digits, a name eight letters, and there are 18 entries.
use mathlib.Core.Bool.{Bool, true, false}
use mathlib.Core.List.{List, [], ◌∷◌}
use Prim.Native.Nat.{ℕ, zero, suc, ◌≤◌, ◌+◌, ◌*◌}
use native.Mathlib.Omega.{arith}
use lib.Dec.{eqb}
use lib.ListN.{length, take, drop, length-append, length-replicate}
use Rattle.geometry.specs.Sizes.{blank, entries, entry_size}
use Rattle.geometry.specs.Bytes.{padded}
use Rattle.geometry.proofs.Bytes.{length-part-min}
use Rattle.directory.specs.declared.Entry.{Entry}
use Rattle.directory.specs.Entries.{entry_from, entries_from, table_of, is_free}
use Rattle.texts.specs.Texts.{spelled, decimal, spaced}
use Rattle.texts.proofs.Reading.{digits-count}
use Rattle.listing.specs.Listing.{header, bad_image, name_text, line, lines_from, lists, listing}

either-short : (b : Bool) (xs ys : List ℕ) (n : ℕ) → length xs ≤ n → length ys ≤ n → length {A = ℕ} (elim b [ true ↦ xs | false ↦ ys ]) ≤ n
either-short true xs ys n h k = h
either-short false xs ys n h k = k

number_short : (n : ℕ) → length (decimal n) ≤ 10
unfolding decimal
number_short n = (digits-count 10 n).0

name-short : (x : List ℕ) → length (name_text x) ≤ length x
unfolding name_text
name-short [] = omega arith
name-short (c ∷ cs) =
    let more : length (name_text cs) ≤ length cs = name-short cs in
    either-short (eqb c blank) _ _ (suc (length cs)) (omega arith) (omega arith)

line-short : (i : ℕ) (e : Entry) → length e.name ≤ 8 → length (line i e) ≤ 86
unfolding line spaced
line-short i e h =
    simp length-append
    (omega (arith, number_short i, name-short e.name, number_short e.kind, number_short e.length, number_short e.first, number_short e.sectors, number_short e.count, number_short e.flags))

eight : (b : List ℕ) → length (entry_from b).name ≤ 8
unfolding entry_from padded
eight b = simp (length-append, length-replicate, length-part-min) (omega arith)

lines-short : (n i : ℕ) (b : List ℕ) → length (lines_from i (entries_from n b)) ≤ 86 * n
unfolding entries_from lines_from
lines-short zero i b = omega arith
lines-short (suc n) i b =
    let e : Entry = entry_from (take entry_size b) in
    let more : length (lines_from (i + 1) (entries_from n (drop entry_size b))) ≤ 86 * n = lines-short n (i + 1) (drop entry_size b) in
    let this : length (line i e) ≤ 86 = line-short i e (eight (take entry_size b)) in
    either-short (is_free e) _ _ (86 * suc n) (omega arith) (rw length-append (omega arith))

pub short : (image : List ℕ) → length (listing image) ≤ 1596
unfolding listing table_of header bad_image spelled
short image =
    let more : length (lines_from 0 (entries_from entries image)) ≤ 86 * entries = lines-short entries 0 image in
    either-short (lists image) _ _ 1596 (rw length-append (omega arith)) (omega arith)
