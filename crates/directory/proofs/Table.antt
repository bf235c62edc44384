-- The table of a directory: entry i is read from the 20 bytes at 20·i, and so only the first 360 bytes matter.
use mathlib.Core.Path.{◌≡◌, refl, sym, ap, ◌∙◌, subst}
use mathlib.Core.List.{List, [], ◌∷◌}
use Prim.Native.Nat.{ℕ, zero, suc, ◌+◌, ◌*◌, ◌-◌, ◌≤◌, ◌<◌, min}
use native.Mathlib.Nat.{not-suc-le-zero, le_of_suc-le-suc}
use native.Mathlib.Omega.{arith}
use native.Mathlib.Decide.{dec_lt}
use lib.ListN.{length, take, drop, get_or, replicate, length-replicate, get_or-replicate, get_or-eq_default}
use lib.Seq.{drop-drop, ext_get_or}
use Rattle.geometry.specs.Bytes.{part, lay, padded}
use Rattle.geometry.proofs.Bytes.{where-is, same_bytes, length-lay, length-part-min, length-padded, get_or-lay-in, get_or-lay-behind, get_or-padded-in, get_or-padded-behind, part-lay-apart, part-part}
use Rattle.geometry.specs.Sizes.{entries, entry_size}
use Rattle.directory.specs.declared.Entry.{Entry}
use Rattle.directory.specs.Entries.{entry_from, entries_from, table_of, free_entry, entry_at}

-- within a list it is no matter what stands past its end
pub get_d_any : {A : Type 0} (l : List A) (i : ℕ) (a b : A) → i < length l → get_or l i a ≡ get_or l i b
get_d_any [] i a b h = absurd (not-suc-le-zero h)
get_d_any (x ∷ l) zero a b h = refl
get_d_any (x ∷ l) (suc i) a b h = get_d_any l i a b (le_of_suc-le-suc h)

-- bytes laid over as many of one byte as they shall be padded to
pub lay-over : (b n : ℕ) (xs : List ℕ) → length xs ≤ n → lay (replicate n b) 0 xs ≡ padded b n xs
lay-over b n xs h =
    let r : length (replicate n b) ≡ n = length-replicate n b in
    let l : length (lay (replicate n b) 0 xs) ≡ length (replicate n b) = length-lay (replicate n b) 0 xs in
    let p : length (padded b n xs) ≡ n = length-padded b n xs h in
    same_bytes _ _ (l ∙ r ∙ sym p) λ (i : ℕ) (q : i < length (lay (replicate n b) 0 xs)).
    where-is i 0 (length xs)
    (λ (u : i < 0). absurd (omega arith))
    (λ (u : 0 ≤ i) (v : i < 0 + length xs).
    let e : i - 0 ≡ i = omega arith in
    get_or-lay-in (replicate n b) 0 xs i 0 (omega arith) u v ∙ ap (λ (k : ℕ). get_or xs k 0) e ∙ sym (get_or-padded-in b n xs i 0 (omega arith)))
    (λ (u : 0 + length xs ≤ i). get_or-lay-behind (replicate n b) 0 xs i 0 u ∙ get_or-replicate n i b 0 (omega arith) ∙ sym (get_or-padded-behind b n xs i 0 (omega arith) (omega arith)))

-- ---- the entries

length-entries : (n : ℕ) (b : List ℕ) → length (entries_from n b) ≡ n
unfolding entries_from
length-entries zero b = refl
length-entries (suc n) b = ap suc (length-entries n (drop entry_size b))

pub length-table : (image : List ℕ) → length (table_of image) ≡ 18
unfolding table_of
length-table image = length-entries entries image

entries_at : (n : ℕ) (b : List ℕ) (i : ℕ) → i < n → get_or (entries_from n b) i free_entry ≡ entry_from (part b (entry_size * i) entry_size)
unfolding entries_from part
entries_at zero b i h = absurd (not-suc-le-zero h)
entries_at (suc n) b zero h = refl
entries_at (suc n) b (suc i) h =
    let e : entry_size + entry_size * i ≡ entry_size * suc i = omega arith in
    entries_at n (drop entry_size b) i (le_of_suc-le-suc h) ∙ ap (λ (z : List ℕ). entry_from (take entry_size z)) (drop-drop (entry_size * i) entry_size b ∙ ap (λ (k : ℕ). drop k b) e)

pub table_at : (image : List ℕ) (i : ℕ) → i < 18 → entry_at (table_of image) i ≡ entry_from (part image (20 * i) 20)
unfolding table_of
table_at image i h = entries_at entries image i h

-- ---- what the table depends on

-- parts that are the same make the same table
same_tables : (a b : List ℕ) → ((i : ℕ) → i < 18 → part a (20 * i) 20 ≡ part b (20 * i) 20) → table_of a ≡ table_of b
same_tables a b h =
    let l : length (table_of a) ≡ 18 = length-table a in
    ext_get_or free_entry (table_of a) (table_of b) (l ∙ sym (length-table b)) λ (i : ℕ) (q : i < length (table_of a)).
    let p : i < 18 = omega arith in
    table_at a i p ∙ ap entry_from (h i p) ∙ sym (table_at b i p)

pub table-part : (image : List ℕ) → table_of (part image 0 360) ≡ table_of image
table-part image = same_tables (part image 0 360) image λ (i : ℕ) (p : i < 18).
    let e : 0 + 20 * i ≡ 20 * i = omega arith in
    part-part image 0 360 (20 * i) 20 (omega arith) ∙ ap (λ (k : ℕ). part image k 20) e

pub table-lay : (image : List ℕ) (at : ℕ) (xs : List ℕ) → 360 ≤ at → table_of (lay image at xs) ≡ table_of image
table-lay image at xs h = same_tables (lay image at xs) image λ (i : ℕ) (p : i < 18). part-lay-apart image at xs (20 * i) 20 (omega arith)

-- ---- names and words

pub length-name : (b : List ℕ) → length (entry_from b).name ≡ 8
unfolding entry_from
length-name b =
    let l : length (part b 0 8) ≡ min 8 (length b - 0) = length-part-min b 0 8 in
    length-padded 0 8 (part b 0 8) (omega arith)

-- of entry i, or of a free one
of_entry : (P : Entry → Type 0) (image : List ℕ) (i : ℕ) → (i < 18 → P (entry_from (part image (20 * i) 20))) → P free_entry → P (entry_at (table_of image) i)
of_entry P image i f g = go (dec_lt i 18)
  where
    go : Dec (i < 18) → P (entry_at (table_of image) i)
    go (yes h) = subst P (sym (table_at image i h)) (f h)
    go (no h) =
        let l : length (table_of image) ≡ 18 = length-table image in
        subst P (sym (get_or-eq_default (table_of image) free_entry {n = i} (omega arith))) g

pub table-name : (image : List ℕ) (i : ℕ) → length (entry_at (table_of image) i).name ≡ 8
table-name image i = of_entry (λ (e : Entry). length e.name ≡ 8) image i (λ h. length-name (part image (20 * i) 20)) refl
