-- The entry that an edit makes fits its bytes, so an edited session is read back from those that it is stored in.
use mathlib.Core.Path.{◌≡◌, refl, ◌∙◌}
use mathlib.Core.Bool.{Bool, true}
use mathlib.Core.List.{List}
use Prim.Native.Nat.{ℕ}
use lib.Dec.{eqb}
use lib.ListN.{length, set, length-set}
use borrow.Author.Tests.{eqb-true, eq-eqb}
use Rattle.geometry.specs.Lists.{all, every}
use Rattle.geometry.specs.Sizes.{entries, most_open, sectors_of}
use Rattle.geometry.proofs.Places.{lawful-most}
use Rattle.geometry.proofs.Tests.{and_left, and_right, and_both, every_set}
use Rattle.directory.specs.Entries.{free_entry}
use Rattle.shapes.specs.Made.{file_made}
use Rattle.sessions.specs.Session.{bare, legal, buffered_legal}
use Rattle.sessions.proofs.Legal.{lawful-length, bare-legal}
use Rattle.steps.specs.Edit.{edited_number, edited_entry, Edited, edit_answer_by, edit_by, plain_edit, buffered_edit}
use Rattle.steps.proofs.Edited.{done-legal, eight-done, added-done, edit-either}
use Rattle.storing.specs.Fits.{fits, are_bytes, are_all, entry_fits, file_fits, held_fits, session_fits, buffered_fits}
use Rattle.editing.proofs.Entries.{used-fits}
use Rattle.directory.specs.declared.Entry.{Entry}
use Rattle.requests.specs.declared.Answer.TheVariants.{Done}
use Rattle.requests.specs.declared.Edit.{Edit}
use Rattle.requests.specs.declared.Edit.TheVariants.{Add, Delete}
use Rattle.sessions.specs.declared.BufferedSession.{BufferedSession}
use Rattle.sessions.specs.declared.Session.{Session}

-- ---- an entry

pub free-fits : entry_fits free_entry ≡ true
unfolding entry_fits all are_bytes fits every
free-fits = refl

-- the one that an edit makes, on a session that the facts say is legal
module _ (image : List ℕ) (s : Session) (lawful : Bool) (ok : lawful ≡ true → legal image s ≡ true) (many : length s.table ≡ entries) (i : ℕ) where
  pub made-fits : (x : Edit) (name : List ℕ) → edit_answer_by lawful image s i x name ≡ Done
      → entry_fits (edited_entry x (sectors_of image) s.table name) ≡ true
  unfolding edited_entry file_made
  made-fits (Add k l m) name h =
      let yes : legal image s ≡ true = ok (done-legal lawful image s i (Add k l m) name h) in
      used-fits (sectors_of image) (edited_entry (Add k l m) (sectors_of image) s.table name) (lawful-most image (lawful-length image s yes))
      (eight-done lawful image s i (Add k l m) name h) (added-done image s yes many lawful i k l m name h).lies
  made-fits Delete name h = free-fits

-- ---- a session

-- what holds of a session with any table that fits holds of the edited one
module _ {S : Type 0} (P : S → Type 0) (tabled : List Entry → S) (holds : (t : List Entry) → are_all entries entry_fits t ≡ true → P (tabled t)) where
  edit-fits : (image : List ℕ) (s : Session) → are_all entries entry_fits s.table ≡ true → (lawful : Bool) → (lawful ≡ true → legal image s ≡ true) → (i : ℕ) (x : Edit) (name : List ℕ)
      → P (edit_by lawful tabled image s i x name).session
  unfolding are_all
  edit-fits image s h lawful ok i x name =
      let many : length s.table ≡ entries = eqb-true (length s.table) entries (and_left (eqb (length s.table) entries) (every entry_fits s.table) h) in
      let each : every entry_fits s.table ≡ true = and_right (eqb (length s.table) entries) (every entry_fits s.table) h in
      edit-either lawful tabled image s i x name (λ (r : Edited S). P r.session)
      (λ d.
      let n : ℕ = edited_number x s.table i in
      let e : Entry = edited_entry x (sectors_of image) s.table name in
      holds (set s.table n e)
      (and_both _ _ (eq-eqb (length (set s.table n e)) entries (length-set s.table n e ∙ many)) (every_set entry_fits s.table n e each (made-fits image s lawful ok many i x name d))))
      (λ y d. holds s.table h)

module _ (image : List ℕ) (i : ℕ) (x : Edit) (name : List ℕ) where
  pub plain-edited-fits : (s : Session) → session_fits s ≡ true → session_fits (plain_edit image s i x name).session ≡ true
  unfolding session_fits
  plain-edited-fits s h =
      edit-fits (λ (z : Session). session_fits z ≡ true) (λ table. record { says = s.says; table = table; files = s.files })
      (λ t q. and_both _ _ q (and_right (are_all entries entry_fits s.table) (are_all most_open file_fits s.files) h))
      image s (and_left (are_all entries entry_fits s.table) (are_all most_open file_fits s.files) h) (legal image s) (λ q. q) i x name

  pub edited-fits : (s : BufferedSession) → buffered_fits s ≡ true → buffered_fits (buffered_edit image s i x name).session ≡ true
  unfolding buffered_fits bare
  edited-fits s h =
      edit-fits (λ (z : BufferedSession). buffered_fits z ≡ true) (λ table. record { says = s.says; table = table; files = s.files })
      (λ t q. and_both _ _ q (and_right (are_all entries entry_fits s.table) (are_all most_open held_fits s.files) h))
      image (bare s) (and_left (are_all entries entry_fits s.table) (are_all most_open held_fits s.files) h) (buffered_legal image s) (λ q. bare-legal image s q) i x name
