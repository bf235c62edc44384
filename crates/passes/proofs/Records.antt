-- What the tape of a mounted file keeps: each record has R bytes, R is at most 3,600, and there are at most 65,535 records, since the directory is good and the
-- counted records lie or decode in the extent.
use mathlib.Core.Path.{◌≡◌, ap, ◌∙◌}
use mathlib.Core.Bool.{true, false}
use mathlib.Core.List.{List}
use Prim.Native.Nat.{ℕ, ◌≤◌, ◌<◌}
use native.Mathlib.Omega.{arith}
use lib.ListN.{length, get_or}
use lib.Dec.{eqb}
use Rattle.geometry.specs.Places.{place_of, byte_of, origin}
use Rattle.geometry.specs.Sizes.{free, blocked, compressed, random, most_records}
use Rattle.geometry.proofs.Bytes.{length_part}
use Rattle.geometry.proofs.Places.{record-inside}
use Rattle.geometry.proofs.Tests.{either}
use Rattle.directory.specs.Entries.{table_of, entry_at, is_free, is_kind, is_marked}
use Rattle.directory.specs.Rules.{longest}
use Rattle.directory.specs.declared.Entry.{Entry}
use Rattle.packing.specs.Reading.{Recorded, walked, walk, records_of}
use Rattle.packing.proofs.One.{told}
use Rattle.packing.proofs.Walks.{nowhere, decodes-walked, walk-length, walk_at}
use Rattle.mounting.specs.Mounting.{mounts, counted_walk, start_with}
use Rattle.sessions.specs.Session.{idle, extent}
use Rattle.tapes.specs.Tape.{Tape, fixed_record, records_in, tape_of}
use Rattle.tapes.specs.Model.{shape_of}
use Rattle.serving.proofs.ByRule.{length-list_of, get_or-list_of}
use Rattle.serving.proofs.Fixed.{blocked-small, records-fixed}
use Rattle.serving.proofs.Mounted.{mounted-stands, nothing-open}
use Rattle.serving.proofs.Solo.{Sound}
use Rattle.serving.proofs.Taped.{of-both}

longest-most : (kind : ℕ) → longest kind ≤ 3600
unfolding longest
longest-most kind = of-both Short (eqb kind blocked) (omega arith) (of-both Short (eqb kind compressed) (omega arith) (omega arith))
  where
    Short : ℕ → Type 0
    Short n = n ≤ 3600

-- so many records, each of so many bytes
pub record Even (R n : ℕ) (rs : List Recorded) : Type 0 where
  pub many : length rs ≡ n
  pub long : (p : ℕ) → p < n → length (get_or rs p nowhere).bytes ≡ R

module _ (e : Entry) (bytes : List ℕ) (s : Sound e idle bytes) where
  -- a compressed file's are a walk
  packed-even : is_kind compressed e ≡ true → Even e.length e.count (records_in (shape_of e) bytes e.count)
  unfolding records_in shape_of counted_walk
  packed-even k = rw (k, records_in) (record {
    many = walk-length e.length e.sectors bytes e.count origin rs whole;
    long = λ p l. (told e.length e.sectors bytes _ _ (walk_at e.length e.sectors bytes e.count origin rs whole p l)).long;
  })
    where
      rs : List Recorded
      rs = records_of (counted_walk e bytes)

      whole : walk e.length e.sectors bytes e.count origin ≡ walked rs
      whole = decodes-walked _ (s.sound k)

  -- another's stand where its kind and R say
  fixed-even : is_kind compressed e ≡ false → is_kind random e ≡ false → Even e.length e.count (records_in (shape_of e) bytes e.count)
  fixed-even k r = rw (records-fixed e bytes e.count k) (record {
    many = length-list_of (fixed_record (shape_of e) bytes) e.count;
    long = λ p l. ap (λ (x : Recorded). length x.bytes) (get_or-list_of (fixed_record (shape_of e) bytes) e.count p nowhere l) ∙ long-at p l;
  })
    where
      long-at : (p : ℕ) → p < e.count → length (fixed_record (shape_of e) bytes p).bytes ≡ e.length
      long-at p l = unfold fixed_record shape_of in
          length_part bytes (byte_of (place_of e.kind e.length p)) e.length
          (omega (
            arith,
            s.size,
            record-inside e.kind e.length (omega (arith, s.lawful.long)) (blocked-small e s.lawful.short) p e.sectors
                (omega (arith, s.lawful.counted k r)),
          ))

-- a tape whose file can be listed
pub record Listed (t : Tape) : Type 0 where
  pub used : eqb t.shape.kind free ≡ false
  pub sequential : eqb t.shape.kind random ≡ false
  pub short : t.shape.record_length ≤ 3600
  pub few : length t.records ≤ most_records
  pub long : (p : ℕ) → p < length t.records → length (get_or t.records p nowhere).bytes ≡ t.shape.record_length

module _ (image : List ℕ) (ok : mounts image ≡ true) (i : ℕ) where
  abbrev e : Entry
  e = entry_at (table_of image) i

  module _ (used : is_free e ≡ false) (sequential : is_kind random e ≡ false) where
    sound : Sound e idle (extent e image)
    unfolding start_with
    sound = rw (nothing-open (table_of image) i) at ((mounted-stands image ok).sound i used)

    even : Even e.length e.count (records_in (shape_of e) (extent e image) e.count)
    even = either (is_kind compressed e) (packed-even e (extent e image) sound) (λ k. fixed-even e (extent e image) sound k sequential)

    pub listed : Listed (tape_of (shape_of e) (is_marked e) e.count (extent e image))
    unfolding tape_of shape_of
    listed = record {
      used = used;
      sequential = sequential;
      short = omega (arith, sound.lawful.short, longest-most e.kind);
      few = omega (arith, even.many, sound.lawful.words);
      long = λ p l. even.long p (omega (arith, even.many));
    }
