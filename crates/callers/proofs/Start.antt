-- A session that is mounted fits its bytes: the directory's rules bound every number of an entry, and a name is of capitals, digits and blanks.
use mathlib.Core.Path.{◌≡◌, refl, sym, ◌∙◌}
use mathlib.Core.Bool.{Bool, true, false, ◌&&◌}
use mathlib.Core.List.{List, [], ◌∷◌, map}
use Prim.Native.Nat.{ℕ, ◌≤◌}
use native.Mathlib.Omega.{arith}
use lib.Dec.{eqb}
use lib.ListN.{length, replicate, length-map}
use borrow.Author.Tests.{eqb-true, eqb-false, eq-eqb}
use Rattle.geometry.specs.Bytes.{word, is_byte}
use Rattle.geometry.specs.Lists.{all, every}
use Rattle.geometry.specs.Sizes.{entries, most_open, most_sectors, sectors_of}
use Rattle.geometry.proofs.Places.{lawful-most}
use Rattle.geometry.proofs.Tests.{and_left, and_right, and_both, either, all_get_d, every_any, every-from}
use Rattle.directory.specs.Entries.{free_entry, entry_at, is_free, entry_bytes, table_of}
use Rattle.directory.specs.Rules.{free_is_zero, table_rules, table_good}
use Rattle.directory.proofs.Free.{zero-entry}
use Rattle.directory.proofs.Good.{lies}
use Rattle.directory.proofs.Table.{length-table, table-name}
use Rattle.directory.specs.declared.Entry.{Entry}
use Rattle.sessions.specs.Session.{idle, fresh, unheld}
use Rattle.sessions.specs.declared.OpenFile.{OpenFile}
use Rattle.sessions.specs.declared.Session.{Session}
use Rattle.mounting.specs.Mounting.{mounts, start_with, plain_mount, buffered_mount}
use Rattle.mounting.proofs.Mounted.{mounts-length, mounts-good}
use Rattle.storing.specs.Fits.{fits, are_bytes, are_all, entry_fits, file_fits, held_fits, session_fits, buffered_fits}
use Rattle.editing.proofs.Entries.{every-weaker, same_byte, are-bytes, used-fits}
use Rattle.callers.proofs.Read.{pow-some, fresh-fits}
use Rattle.callers.proofs.Next.{below, entry_whole, table-every, table-many, files-every, files-four}

-- ---- an entry of a good table

zero-fits : (n x : ℕ) → eqb x 0 ≡ true → fits n x ≡ true
zero-fits n x h = below n x (omega (arith, eqb-true x 0 h, pow-some n))

free-zero-fits : (e : Entry) → length e.name ≡ 8 → every (λ b. eqb b 0) (entry_bytes e) ≡ true → entry_fits e ≡ true
free-zero-fits e n z =
    let h = sym (zero-entry e) ∙ z in
    let a = and_right (every (λ b. eqb b 0) e.name) (eqb e.kind 0 && (eqb e.length 0 && (eqb e.first 0 && (eqb e.sectors 0 && (eqb e.count 0 && eqb e.flags 0))))) h in
    let b = and_right (eqb e.kind 0) (eqb e.length 0 && (eqb e.first 0 && (eqb e.sectors 0 && (eqb e.count 0 && eqb e.flags 0)))) a in
    let c = and_right (eqb e.length 0) (eqb e.first 0 && (eqb e.sectors 0 && (eqb e.count 0 && eqb e.flags 0))) b in
    let d = and_right (eqb e.first 0) (eqb e.sectors 0 && (eqb e.count 0 && eqb e.flags 0)) c in
    let f = and_right (eqb e.sectors 0) (eqb e.count 0 && eqb e.flags 0) d in
    entry_whole e (record {
      name = are-bytes 8 e.name n (every-weaker (λ b. eqb b 0) is_byte (same_byte 0 (omega arith)) e.name (and_left (every (λ b. eqb b 0) e.name) _ h));
      kind = zero-fits 2 e.kind (and_left (eqb e.kind 0) _ a);
      length = zero-fits 2 e.length (and_left (eqb e.length 0) _ b);
      first = zero-fits 2 e.first (and_left (eqb e.first 0) _ c);
      sectors = zero-fits 2 e.sectors (and_left (eqb e.sectors 0) _ d);
      count = zero-fits 4 e.count (and_left (eqb e.count 0) _ f);
      flags = zero-fits 2 e.flags (and_right (eqb e.count 0) (eqb e.flags 0) f);
    })

module _ (N : ℕ) (t : List Entry) (few : N ≤ most_sectors) (ok : table_good N t ≡ true) (named : (i : ℕ) → length (entry_at t i).name ≡ 8) where
  zeros : every free_is_zero t ≡ true
  unfolding table_good table_rules
  zeros = all_get_d (table_rules N t) 1 ok

  zero-at : (i : ℕ) → is_free (entry_at t i) ≡ true → every (λ b. eqb b 0) (entry_bytes (entry_at t i)) ≡ true
  unfolding free_is_zero entry_bytes every word
  zero-at i u = let h : free_is_zero (entry_at t i) ≡ true = every_any free_is_zero t i free_entry zeros refl in rw (u, free_is_zero) at h

  good-at : (i : ℕ) → entry_fits (entry_at t i) ≡ true
  good-at i = either (is_free (entry_at t i)) (λ u. free-zero-fits (entry_at t i) (named i) (zero-at i u))
      (λ (u : is_free (entry_at t i) ≡ false). used-fits N (entry_at t i) few (named i) (lies N t ok i (eqb-false (entry_at t i).kind 0 u)))

  pub good-fits : length t ≡ entries → are_all entries entry_fits t ≡ true
  unfolding are_all
  good-fits l = and_both _ _ (eq-eqb (length t) entries l) (every-from entry_fits t free_entry (λ i q. good-at i))

-- ---- a session with nothing open

idles-fit : are_all most_open file_fits (replicate most_open idle) ≡ true
unfolding are_all every file_fits all fits
idles-fit = refl

start_fits : (r : Bool) (t : List Entry) → are_all entries entry_fits t ≡ true → session_fits (start_with r t) ≡ true
unfolding session_fits start_with
start_fits r t h = and_both _ _ h idles-fit

frees-fit : are_all entries entry_fits (replicate entries free_entry) ≡ true
unfolding are_all every entry_fits all fits are_bytes
frees-fit = refl

pub mount-fits : (image : List ℕ) → session_fits (plain_mount image).session ≡ true
unfolding plain_mount
mount-fits image = either (mounts image)
    (λ (m : mounts image ≡ true). rw (m, plain_mount) (start_fits false (table_of image)
    (good-fits (sectors_of image) (table_of image) (lawful-most image (mounts-length image m)) (mounts-good image m) (table-name image) (length-table image))))
    (λ (m : mounts image ≡ false). rw (m, plain_mount) (start_fits true (replicate entries free_entry) frees-fit))

-- ---- and with buffers that hold nothing

freshes-fit : (fs : List OpenFile) → every file_fits fs ≡ true → every held_fits (map fresh fs) ≡ true
unfolding every
freshes-fit [] h = refl
freshes-fit (f ∷ fs) h = and_both (held_fits (fresh f)) _ (fresh-fits f (and_left (file_fits f) (every file_fits fs) h)) (freshes-fit fs (and_right (file_fits f) (every file_fits fs) h))

pub unheld-fits : (s : Session) → session_fits s ≡ true → buffered_fits (unheld s) ≡ true
unfolding buffered_fits unheld are_all
unheld-fits s h =
    and_both _ _ (and_both _ _ (eq-eqb (length s.table) entries (table-many s h)) (table-every s h))
    (and_both _ _ (eq-eqb (length (map fresh s.files)) most_open (length-map s.files fresh ∙ files-four s h)) (freshes-fit s.files (files-every s h)))

pub mount-fits-buffered : (image : List ℕ) → buffered_fits (buffered_mount image).session ≡ true
unfolding buffered_mount
mount-fits-buffered image = unheld-fits (plain_mount image).session (mount-fits image)
