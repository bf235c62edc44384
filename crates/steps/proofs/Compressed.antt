-- A compressed file, as a request finds it: what is read at its place, where a record is written, and that the places behind lie in the extent,
-- as the packing's laws say.
use mathlib.Core.Path.{◌≡◌, refl, sym, ap, ◌∙◌}
use mathlib.Core.Bool.{true, false, false≢true}
use Prim.Native.Nat.{ℕ, ◌≤◌, ◌<◌}
use native.Mathlib.Omega.{arith}
use lib.ListN.{length}
use lib.Dec.{ltb}
use borrow.Author.Tests.{lt-ltb, le-leb, ltb-true, leb-true, not-false}
use Rattle.geometry.specs.Sizes.{compressed}
use Rattle.geometry.specs.Places.{origin}
use Rattle.geometry.specs.declared.Place.{Place}
use Rattle.geometry.proofs.Tests.{and_left, and_right}
use Rattle.coding.specs.Encode.{code_of}
use Rattle.directory.specs.Entries.{is_kind}
use Rattle.packing.specs.Placing.{behind_new}
use Rattle.packing.specs.Reading.{Got, got, lost, Recorded, read_behind, decodes, records_of, behind}
use Rattle.packing.proofs.One.{Within, Told, told}
use Rattle.packing.proofs.Walks.{decodes-walked, walk-within}
use Rattle.sessions.specs.Session.{place_good}
use Rattle.mounting.specs.Mounting.{counted_walk}
use Rattle.steps.specs.Next.{Scene, record_here, is_lost, behind_got, the_counted, the_next, bad_in, code_length, behind_written, end_place}
use Rattle.directory.specs.declared.Entry.{Entry}

-- ---- a place that is good

pub good-within : (e : Entry) (p : Place) → place_good e p ≡ true → Within e.sectors p
unfolding place_good
good-within e p h = (ltb-true _ _ (and_left _ _ h), leb-true _ _ (and_right (ltb p.sector e.sectors) _ h))

pub within-good : (e : Entry) (p : Place) → Within e.sectors p → place_good e p ≡ true
unfolding place_good
within-good e p h = rw (lt-ltb _ _ h.0, le-leb _ _ h.1)

pub origin-within : (n : ℕ) → 1 ≤ n → Within n origin
origin-within n h = (omega arith, omega arith)

-- ---- what is read of a compressed file, and where it is written

module _ (c : Scene) (k : is_kind compressed c.entry ≡ true) where
  pub here-read : record_here c ≡ read_behind c.entry.length c.entry.sectors c.bytes c.file.here
  unfolding record_here
  here-read = rw (k, record_here)

  pub here-written : behind_written c ≡ behind_new c.file.here (length (code_of c.entry.length c.given))
  unfolding behind_written
  here-written = rw (k, behind_written)

  pub end_is : end_place c ≡ behind (records_of (counted_walk c.entry c.bytes)) c.entry.count
  unfolding end_place
  end_is = rw (k, end_place)

  pub code_is : length c.given ≤ c.entry.length → code_length c.entry c.given ≡ length (code_of c.entry.length c.given)
  unfolding code_length
  code_is h = rw (k, le-leb _ _ h, code_length)

  -- a record that is not lost
  pub found : c.file.position < c.entry.count → bad_in the_next c ≡ false → (r : Recorded) × (record_here c ≡ got r)
  unfolding bad_in is_lost
  found h b = go (record_here c) refl (rw (lt-ltb _ _ h) at b)
    where
      go : (g : Got) → record_here c ≡ g → is_lost (record_here c) ≡ false → (r : Recorded) × (record_here c ≡ got r)
      go (got r) e l = (r, e)
      go (lost p) e l = absurd (false≢true (sym l ∙ ap is_lost e))

  -- the place behind it lies in the extent
  pub read-within : c.file.position < c.entry.count → bad_in the_next c ≡ false → Within c.entry.sectors (behind_got (record_here c))
  unfolding behind_got
  read-within h b =
      let f = found h b in
      let t : Told c.entry.length c.entry.sectors c.file.here f.0 = told _ _ c.bytes c.file.here f.0 (sym here-read ∙ f.1) in
      rw f.1 t.inside

  -- the place behind the records counted
  pub end-within : 1 ≤ c.entry.sectors → bad_in the_counted c ≡ false → Within c.entry.sectors (end_place c)
  unfolding bad_in behind counted_walk
  end-within n b =
      let d : decodes (counted_walk c.entry c.bytes) ≡ true = not-false _ (rw k at b) in
      rw end_is (walk-within _ _ c.bytes c.entry.count origin _ (origin-within _ n) (decodes-walked _ d) c.entry.count (omega arith))
