-- A mounted session shows what the image shows, and so does every session with nothing open: mounting its image afresh gives the same tapes and rows.
use mathlib.Core.Path.{◌≡◌, refl, sym, ◌∙◌}
use mathlib.Core.Bool.{true, false, not}
use mathlib.Core.List.{List}
use Prim.Native.Nat.{ℕ, ◌*◌}
use native.Mathlib.Omega.{arith}
use lib.ListN.{length-map, get_or-map}
use lib.Seq.{ext_get_or}
use borrow.Author.Tests.{eqb-true, eqb-false, ne_eqb, not-true}
use Rattle.geometry.specs.Lists.{first_with}
use Rattle.geometry.specs.Sizes.{sector, compressed, sectors_of, free, lawful_length}
use Rattle.geometry.proofs.Bytes.{length_part}
use Rattle.geometry.proofs.Places.{lawful-whole}
use Rattle.geometry.proofs.Tests.{either, both_ways, and_left, and_right, and_both, every_any, every-from}
use Rattle.directory.specs.Entries.{table_of, entry_at, free_entry, is_free, is_kind}
use Rattle.directory.specs.Rules.{table_good}
use Rattle.directory.proofs.Good.{Lies, lies}
use Rattle.directory.proofs.Table.{length-table}
use Rattle.packing.specs.Reading.{behind, behind_from}
use Rattle.sessions.specs.Session.{idle, is_of, file_of, extent, legal}
use Rattle.sessions.proofs.Legal.{lawful-length, good-table}
use Rattle.sessions.proofs.Distinct.{file-idle}
use Rattle.mounting.proofs.Mounted.{start-legal}
use Rattle.mounting.specs.Mounting.{count_decodes, mounts, start_with, plain_mount}
use Rattle.steps.proofs.Inside.{lawful}
use Rattle.steps.proofs.Lawful.{Lawful}
use Rattle.tapes.specs.Tape.{tape_of}
use Rattle.tapes.specs.Row.{row_of}
use Rattle.tapes.specs.Model.{Model, nothing, shape_of, model_of, models_of, model_at, is_open_model, nothing_open}
use Rattle.serving.proofs.Solo.{shows, Sound}
use Rattle.serving.proofs.View.{shows_at, view, length-view, view-at, open_at}
use Rattle.serving.proofs.Lifting.{Stands}
use Rattle.directory.specs.declared.Entry.{Entry}
use Rattle.sessions.specs.declared.Session.{Session}

-- ---- a session with nothing open

pub nothing-open : (table : List Entry) (i : ℕ) → file_of (start_with false table).files i ≡ idle
unfolding file_of first_with is_of start_with
nothing-open table i = refl

-- a used entry whose counted records decode is sound where its file is not open
pub idle-sound : (image : List ℕ) (e : Entry) → lawful_length image ≡ true → Lies (sectors_of image) e → Lawful e idle → count_decodes image e ≡ true → Sound e idle (extent e image)
unfolding behind behind_from extent count_decodes
idle-sound image e ok l w d = record {
  lawful = w;
  size = length_part image (sector * e.first) (sector * e.sectors) (omega (arith, lawful-whole image ok, l.ends));
  sound = λ k. rw k at d;
  here = λ k. refl;
  end = λ k h. both_ways false h refl;
  nowhere = λ k. (refl, refl);
  closed = λ h. (refl, refl);
}

-- ---- an image's models are what a session shows that has the image's table and nothing open

pub idle-shows : (image : List ℕ) (e : Entry) → model_of image e ≡ shows e idle (extent e image)
unfolding model_of shows row_of tape_of shape_of
idle-shows image e = refl

none-shown : (image : List ℕ) → model_of image free_entry ≡ nothing
unfolding model_of
none-shown image = refl

pub model-at : (image : List ℕ) (i : ℕ) → model_at (models_of image) i ≡ model_of image (entry_at (table_of image) i)
unfolding models_of
model-at image i = rw (none-shown image) at (get_or-map (model_of image) (table_of image) i free_entry)

idle-view : (image : List ℕ) (s : Session) → table_of image ≡ s.table → ((i : ℕ) → file_of s.files i ≡ idle) → models_of image ≡ view image s
unfolding models_of shows_at
idle-view image s t f =
    ext_get_or nothing (models_of image) (view image s) (length-map (table_of image) (model_of image) ∙ length-table image ∙ sym (length-view image s)) λ i l.
    at_i i ∙ sym (view-at image s (rw (← t) (length-table image)) i)
  where
    at_i : (i : ℕ) → model_at (models_of image) i ≡ shows (entry_at s.table i) (file_of s.files i) (extent (entry_at s.table i) image)
    at_i i = model-at image i ∙ rw (t, f i) (idle-shows image (entry_at s.table i))

-- ---- mounting

module _ (image : List ℕ) (ok : mounts image ≡ true) where
  abbrev s : Session
  s = start_with false (table_of image)

  m-length : lawful_length image ≡ true
  unfolding mounts
  m-length = and_left (lawful_length image) _ ok

  m-table : table_good (sectors_of image) (table_of image) ≡ true
  unfolding mounts
  m-table = and_left (table_good (sectors_of image) (table_of image)) _ (and_right (lawful_length image) _ ok)

  m-decodes : (i : ℕ) → count_decodes image (entry_at (table_of image) i) ≡ true
  unfolding mounts count_decodes
  m-decodes i =
      every_any (count_decodes image) (table_of image) i free_entry
      (and_right (table_good (sectors_of image) (table_of image)) _ (and_right (lawful_length image) _ ok)) refl

  pub mounted-session : (plain_mount image).session ≡ s
  unfolding plain_mount
  mounted-session = rw (ok, plain_mount)

  legal-start : legal image s ≡ true
  legal-start = start-legal image (table_of image) m-length m-table

  sound-start : (i : ℕ) → is_free (entry_at (table_of image) i) ≡ false → Sound (entry_at (table_of image) i) idle (extent (entry_at (table_of image) i) image)
  unfolding start_with
  sound-start i u =
      idle-sound image (entry_at (table_of image) i) m-length
      (lies (sectors_of image) (table_of image) m-table i (eqb-false (entry_at (table_of image) i).kind free u))
      (rw (nothing-open (table_of image) i) at (lawful image s legal-start i u)) (m-decodes i)

  pub mounted-stands : Stands image s
  unfolding start_with
  mounted-stands = record {
    ok = legal-start;
    said = refl;
    many = length-table image;
    four = refl;
    sound = λ i u. rw (nothing-open (table_of image) i) (sound-start i u);
    alike = λ i. refl;
    stored = λ i h. refl;
  }

  pub mounted-view : view image s ≡ models_of image
  mounted-view = sym (idle-view image s (unfold start_with in refl) (nothing-open (table_of image)))

-- ---- mounting afresh

module _ (image : List ℕ) (s : Session) (v : Stands image s) (none : nothing_open (view image s) ≡ true) where
  pub none_open : (i : ℕ) → (file_of s.files i).used ≡ false
  unfolding nothing_open is_open_model
  none_open i =
      sym (open_at image s v.ok i)
      ∙ rw (← (view-at image s v.many i)) (not-true _ (every_any (λ (m : Model). not (is_open_model m)) (view image s) i nothing none refl))

  same-table : table_of image ≡ s.table
  same-table = sym (ext_get_or free_entry s.table (table_of image) (v.many ∙ sym (length-table image)) λ i l. v.stored i (none_open i))

  pub afresh-view : models_of image ≡ view image s
  afresh-view = idle-view image s same-table (λ i. file-idle s.files i (none_open i))

  pub afresh-mounts : mounts image ≡ true
  unfolding mounts
  afresh-mounts =
      and_both (lawful_length image) _ (lawful-length image s v.ok)
      (and_both (table_good (sectors_of image) (table_of image)) _ (rw same-table (good-table image s v.ok))
      (every-from (count_decodes image) (table_of image) free_entry λ i l. rw same-table (decoded i)))
    where
      decoded : (i : ℕ) → count_decodes image (entry_at s.table i) ≡ true
      decoded i = unfold count_decodes in
          either (is_kind compressed (entry_at s.table i))
          (λ (k : is_kind compressed (entry_at s.table i) ≡ true).
          let u : is_free (entry_at s.table i) ≡ false = ne_eqb (entry_at s.table i).kind free (omega (arith, eqb-true (entry_at s.table i).kind compressed k)) in
          rw (k, (v.sound i u).sound k))
          (λ (k : is_kind compressed (entry_at s.table i) ≡ false). rw k)
