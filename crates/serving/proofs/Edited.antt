-- An edit in the plain engine: the answer, the number told and what the session then shows are those of the tapes and rows that it shows, and what holds from a mounting
-- on still holds: what an edit answered 0 makes is a file that is not open and has no record, or none, and every other entry keeps its own bytes.
use mathlib.Core.Path.{◌≡◌, refl, sym, ap, ◌∙◌}
use mathlib.Core.Logic.{◌≢◌}
use mathlib.Core.Bool.{true, false, not, or-true}
use mathlib.Core.List.{List, []}
use Prim.Native.Nat.{ℕ, ◌≤◌}
use native.Mathlib.Omega.{arith}
use native.Mathlib.Decide.{ℕ_discrete}
use lib.Dec.{eqb}
use lib.ListN.{length, get_or, set, length-set}
use lib.Seq.{get_or-set_same, get_or-set_other, ext_get_or}
use borrow.Author.Tests.{eqb-false, ne_eqb}
use Rattle.geometry.specs.Sizes.{entries, compressed, random, sectors_of, free, lawful_length}
use Rattle.geometry.proofs.Places.{lawful-whole, lawful-some}
use Rattle.geometry.proofs.Tests.{either}
use Rattle.directory.specs.Entries.{entry_at, table_of, free_entry, is_free, is_kind, is_marked}
use Rattle.directory.specs.Stamp.{restamped}
use Rattle.directory.proofs.Good.{Lies, lies}
use Rattle.directory.proofs.Table.{length-table}
use Rattle.tables.specs.Tables.{one_word_wide, lay_entry}
use Rattle.shapes.specs.Made.{file_made}
use Rattle.packing.specs.Reading.{walk, decodes, records_of}
use Rattle.sessions.specs.Session.{idle, file_of, extent, legal}
use Rattle.sessions.proofs.Legal.{lawful-length, good-table}
use Rattle.sessions.proofs.Distinct.{file-idle}
use Rattle.mounting.specs.Mounting.{counted_walk, count_decodes}
use Rattle.steps.specs.Edit.{edited_number, edited_entry, Edited, edit_by, plain_edit_answer, plain_edit}
use Rattle.steps.proofs.Edited.{Edits, edits-done, edit-either, legal-edited}
use Rattle.steps.proofs.Inside.{lawful}
use Rattle.steps.proofs.Laid.{length-laid, table-laid, extent-laid}
use Rattle.tapes.specs.Edits.{edit_answer, model_number, model_made, models_edited, edit_step, model_told}
use Rattle.tapes.specs.Model.{Model, nothing, tape, row, shape_of, model_of, if_done}
use Rattle.tapes.specs.Row.{row_of}
use Rattle.tapes.specs.Tape.{tape_of, records_in, fixed_records}
use Rattle.serving.proofs.Lifting.{Stands}
use Rattle.serving.proofs.Mounted.{idle-sound}
use Rattle.serving.proofs.Solo.{shows, Sound}
use Rattle.serving.proofs.Sought.{edit-number, editing, answer-same, made-shows, told_same}
use Rattle.serving.proofs.View.{shows_at, view, shows_same, length-view, view-at}
use Rattle.directory.specs.declared.Entry.{Entry}
use Rattle.requests.specs.declared.Answer.TheVariants.{Done}
use Rattle.requests.specs.declared.Edit.{Edit}
use Rattle.sessions.specs.declared.Session.{Session}

-- ---- what an edit that is answered 0 leaves

-- a file with no record decodes
pub none-decode : (image : List ℕ) (e : Entry) → e.count ≡ 0 → count_decodes image e ≡ true
unfolding count_decodes counted_walk walk decodes
none-decode image e c = rw c (or-true (not (is_kind compressed e)))

module _ (image : List ℕ) (s : Session) (v : Stands image s) (n : ℕ) (e : Entry) (h : Edits (sectors_of image) s n e) where
  abbrev image' : List ℕ
  image' = lay_entry one_word_wide entries image n e

  abbrev s' : Session
  s' = record { says = s.says; table = set s.table n e; files = s.files }

  long : length image' ≡ length image
  long = length-laid image n e

  lawful_then : lawful_length image' ≡ true
  unfolding lawful_length sectors_of
  lawful_then = rw long (lawful-length image s v.ok)

  sectors-then : sectors_of image' ≡ sectors_of image
  unfolding sectors_of
  sectors-then = rw long

  legal-then : legal image' s' ≡ true
  legal-then = legal-edited image image' s n e v.ok h long

  -- entry n itself
  entry_here : entry_at s'.table n ≡ e
  entry_here = get_or-set_same s.table n e free_entry (omega (arith, h.inside, v.many))

  file-here : file_of s.files n ≡ idle
  file-here = file-idle s.files n h.shut

  table-then : table_of image' ≡ set (table_of image) n e
  table-then =
      let ok : lawful_length image ≡ true = lawful-length image s v.ok in
      table-laid image n e h.eight h.none h.inside (omega (arith, lawful-whole image ok, lawful-some image ok))

  listed_here : entry_at (table_of image') n ≡ e
  listed_here = rw table-then (get_or-set_same (table_of image) n e free_entry (omega (arith, h.inside, length-table image)))

  lies-here : is_free e ≡ false → Lies (sectors_of image) e
  lies-here u = rw entry_here at (lies (sectors_of image) s'.table h.good n (rw entry_here (eqb-false e.kind free u)))

  sound-here : is_free e ≡ false → Sound e idle (extent e image')
  sound-here u =
      idle-sound image' e lawful_then (rw sectors-then (lies-here u)) (rw (entry_here, file-here) at (lawful image' s' legal-then n (rw entry_here u)))
      (none-decode image' e h.none)

  -- the others
  entry-there : (j : ℕ) → j ≢ n → entry_at s'.table j ≡ entry_at s.table j
  entry-there j d = get_or-set_other s.table n j e free_entry d

  listed-there : (j : ℕ) → j ≢ n → entry_at (table_of image') j ≡ entry_at (table_of image) j
  listed-there j d = rw table-then (get_or-set_other (table_of image) n j e free_entry d)

  bytes-there : (j : ℕ) → is_free (entry_at s.table j) ≡ false → extent (entry_at s.table j) image' ≡ extent (entry_at s.table j) image
  bytes-there j u =
      extent-laid image n e h.eight h.inside (entry_at s.table j)
      (lies (sectors_of image) s.table (good-table image s v.ok) j (eqb-false (entry_at s.table j).kind free u)).starts

  stands-edited : Stands image' s'
  stands-edited = record {
    ok = legal-then;
    said = v.said;
    many = length-set s.table n e ∙ v.many;
    four = v.four;
    sound = λ j. sound-at j (ℕ_discrete j n);
    alike = λ j. alike_at j (ℕ_discrete j n);
    stored = λ j. stored_at j (ℕ_discrete j n);
  }
    where
      sound-at : (j : ℕ) → Dec (j ≡ n) → is_free (entry_at s'.table j) ≡ false
          → Sound (entry_at s'.table j) (file_of s.files j) (extent (entry_at s'.table j) image')
      sound-at j (yes z) u = rw (z, entry_here, file-here) (sound-here (rw (z, entry_here) at u))
      sound-at j (no d) u =
          let w : is_free (entry_at s.table j) ≡ false = rw (entry-there j d) at u in
          rw (entry-there j d, bytes-there j w) (v.sound j w)

      alike_at : (j : ℕ) → Dec (j ≡ n) → restamped (entry_at s'.table j) 0 0 ≡ restamped (entry_at (table_of image') j) 0 0
      alike_at j (yes z) = rw (z, entry_here, listed_here)
      alike_at j (no d) = rw (entry-there j d, listed-there j d) (v.alike j)

      stored_at : (j : ℕ) → Dec (j ≡ n) → (file_of s.files j).used ≡ false → entry_at s'.table j ≡ entry_at (table_of image') j
      stored_at j (yes z) u = rw (z, entry_here, listed_here)
      stored_at j (no d) u = rw (entry-there j d, listed-there j d) (v.stored j u)

  view-edited : view image' s' ≡ set (view image s) n (shows e idle (extent e image))
  unfolding shows_at
  view-edited =
      ext_get_or nothing (view image' s') (set (view image s) n new) (length-view image' s' ∙ sym (length-view image s) ∙ sym (length-set (view image s) n new)) λ j l.
      view-at image' s' stands-edited.many j ∙ go j (ℕ_discrete j n)
    where
      new : Model
      new = shows e idle (extent e image)

      go : (j : ℕ) → Dec (j ≡ n) → shows (entry_at s'.table j) (file_of s.files j) (extent (entry_at s'.table j) image') ≡ get_or (set (view image s) n (shows e idle (extent e image))) j nothing
      go j (yes z) =
          rw (z, get_or-set_same (view image s) n (shows e idle (extent e image)) nothing (omega (arith, length-view image s, h.inside)), entry_here, file-here)
          (shows_same e idle _ _ (λ u. extent-laid image n e h.eight h.inside e (lies-here u).starts))
      go j (no d) =
          rw (get_or-set_other (view image s) n j (shows e idle (extent e image)) nothing d, view-at image s v.many j, entry-there j d)
          (shows_same (entry_at s.table j) (file_of s.files j) _ _ (bytes-there j))

-- ---- an edit

module _ (image : List ℕ) (s : Session) (v : Stands image s) (i : ℕ) (x : Edit) (name : List ℕ) where
  abbrev ms : List Model
  ms = view image s

  abbrev n : ℕ
  n = edited_number x s.table i

  abbrev e : Entry
  e = edited_entry x (sectors_of image) s.table name

  abbrev session : List Entry → Session
  session table = record { says = s.says; table = table; files = s.files }

  pub edit-answer : (plain_edit image s i x name).answer ≡ edit_answer ms (editing i x name) image
  unfolding edit_by
  edit-answer = answer-same image s v i name x

  pub edit-told : (plain_edit image s i x name).told ≡ if_done (edit_answer ms (editing i x name) image) (model_told x (model_number x ms i))
  unfolding if_done
  edit-told =
      rw (← (answer-same image s v i name x))
      (edit-either (legal image s) session image s i x name (λ (r : Edited Session). r.told ≡ if_done (plain_edit_answer image s i x name) (model_told x (model_number x ms i)))
      (λ h. rw h (told_same x n ∙ ap (model_told x) (edit-number image s v.many x i)))
      (λ y h. rw h))

  -- what it leaves, where it is done
  made : plain_edit_answer image s i x name ≡ Done → Edits (sectors_of image) s n e
  made h = edits-done image s v.ok v.many (legal image s) i x name h

  pub edit-stands : Stands (plain_edit image s i x name).image (plain_edit image s i x name).session
  edit-stands =
      edit-either (legal image s) session image s i x name (λ (r : Edited Session). Stands r.image r.session) (λ h. stands-edited image s v n e (made h)) (λ y h. v)

  pub edit-view : view (plain_edit image s i x name).image (plain_edit image s i x name).session ≡ edit_step ms (editing i x name) image
  unfolding edit_step models_edited
  edit-view =
      rw (← (answer-same image s v i name x))
      (edit-either (legal image s) session image s i x name
      (λ (r : Edited Session). view r.image r.session ≡ models_edited (plain_edit_answer image s i x name) ms (model_number x ms i) (model_made x ms name image))
      (λ h.
      rw h (view-edited image s v n e (made h)
      ∙ ap (λ (m : ℕ). set ms m (shows e idle (extent e image))) (edit-number image s v.many x i)
      ∙ ap (set ms (model_number x ms i)) (sym (made-shows image s v.many name x))))
      (λ y h. rw h))

-- ---- a file that is added has no record; a random one has the granules that lie there

pub added-tape : (image : List ℕ) (k l n : ℕ) (name : List ℕ) (p : ℕ) → 1 ≤ k → k ≤ 3
    → model_of image (file_made k l n name p) ≡ tape (record { shape = shape_of (file_made k l n name p); is_open = false; records = []; position = 0; marked = false; beyond = false })
unfolding model_of file_made is_marked tape_of records_in fixed_records shape_of records_of walk
added-tape image k l n name p some few =
    rw (ne_eqb k free (λ z. omega arith), ne_eqb k random (λ z. omega arith), model_of)
    (either (eqb k compressed) (λ (c : eqb k compressed ≡ true). rw (c, records_in)) (λ (c : eqb k compressed ≡ false). rw (c, records_in)))

pub added-row : (image : List ℕ) (l n : ℕ) (name : List ℕ) (p : ℕ)
    → model_of image (file_made random l n name p) ≡ row (row_of (shape_of (file_made random l n name p)) (extent (file_made random l n name p) image))
unfolding model_of file_made
added-row image l n name p = refl
