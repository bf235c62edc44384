-- An edit in the buffered engine, its buffers laid back, is that edit in the plain engine: no open file is of the entry that it changes, so what is held stays
-- held, and that lies behind the directory, where the entry's bytes are laid.
use mathlib.Core.Path.{◌≡◌, refl, sym, ap, ap₂, ◌∙◌}
use mathlib.Core.Bool.{true, false}
use mathlib.Core.List.{List}
use Prim.Native.Nat.{ℕ, ◌*◌, ◌/◌}
use native.Mathlib.Omega.{arith}
use lib.ListN.{length, set, length-map}
use lib.Seq.{ext_get_or, get_or-set_other}
use Rattle.geometry.specs.Bytes.{part, lay}
use Rattle.geometry.specs.Lists.{every}
use Rattle.geometry.specs.Sizes.{sector, entries, sectors_of}
use Rattle.geometry.proofs.Bytes.{outside-part}
use Rattle.geometry.proofs.Places.{lawful-whole, lawful-some}
use Rattle.geometry.proofs.Tests.{either, both_ways, and_both, every-alike}
use Rattle.directory.specs.Entries.{entry_at, free_entry}
use Rattle.tables.specs.Tables.{one_word_wide, entry_of, lay_entry}
use Rattle.tables.proofs.Laid.{length-entry, row-there}
use Rattle.tables.proofs.Widths.{rows-there}
use Rattle.sessions.specs.Session.{is_of, fresh, idle, bare, held_good, legal, buffered_legal, typed}
use Rattle.sessions.proofs.Files.{is-of}
use Rattle.sessions.proofs.Distinct.{file-not}
use Rattle.sessions.proofs.Legal.{lawful-length, bare-legal, all_held}
use Rattle.steps.specs.Edit.{Edited, edited_number, edited_entry, told_by, image_edited, table_edited, edit_answer_by, edit_by, plain_edit_answer, plain_edit, buffered_edit_answer, buffered_edit}
use Rattle.steps.specs.Effects.{sector_at}
use Rattle.steps.specs.Step.{held_of}
use Rattle.steps.proofs.Laid.{length-laid, laid-outside}
use Rattle.steps.proofs.Edited.{Edits, edits-done, legal-edited}
use Rattle.steps.proofs.Standing.{held_at, bare-at}
use Rattle.settling.proofs.Settle.{empty, all_back, held_by, hold_of, settle, back-lay}
use Rattle.settling.proofs.Kept.{Kept, InStep, holds, hold_at_lem, hold-used, hold-unused, used-entry, entry-room, holds-behind, table-length, typed-entry}
use Rattle.settling.proofs.Scene.{length-settle, settled-legal}
use Rattle.directory.specs.declared.Entry.{Entry}
use Rattle.requests.specs.declared.Answer.{Answer}
use Rattle.requests.specs.declared.Answer.TheVariants.{Done, Met, Refused}
use Rattle.requests.specs.declared.Edit.{Edit}
use Rattle.sessions.specs.declared.BufferedFile.{BufferedFile}
use Rattle.sessions.specs.declared.BufferedSession.{BufferedSession}
use Rattle.sessions.specs.declared.Session.{Session}

-- what the two engines make of one edit: the same answer and number told, and image and session that the settled ones are; what is kept stays so
pub record EditAgrees (r : Edited BufferedSession) (p : Edited Session) : Type 0 where
  pub answer : r.answer ≡ p.answer
  pub told : r.told ≡ p.told
  pub image : settle r.image r.session ≡ p.image
  pub session : bare r.session ≡ p.session
  pub stays : Kept r.image r.session

-- ---- an entry that no state in use is of, changed

-- what a state goes by stays
module _ (table : List Entry) (n : ℕ) (e : Entry) (b : BufferedFile) (other : b.file.used ≡ true → ¬ (b.file.entry ≡ n)) where
  entry-stays : b.file.used ≡ true → entry_at (set table n e) b.file.entry ≡ entry_at table b.file.entry
  entry-stays u = get_or-set_other table n b.file.entry e free_entry (other u)

  hold-stays : hold_of (set table n e) b ≡ hold_of table b
  hold-stays = either b.file.used
      (λ (u : b.file.used ≡ true). hold-used (set table n e) b u ∙ ap (λ (x : Entry). held_by x b) (entry-stays u) ∙ sym (hold-used table b u))
      (λ (u : b.file.used ≡ false). hold-unused (set table n e) b u ∙ sym (hold-unused table b u))

  good-stays : held_good (set table n e) b ≡ held_good table b
  unfolding held_good
  good-stays = either b.file.used (λ (u : b.file.used ≡ true). rw (entry-stays u)) (λ (u : b.file.used ≡ false). rw u)

module _ (image : List ℕ) (s : BufferedSession) (ok : buffered_legal image s ≡ true) (n : ℕ) (e : Entry) (z : Edits (sectors_of image) (bare s) n e) where
  -- no state in use is of it
  other : (j : ℕ) → (held_at s j).file.used ≡ true → ¬ ((held_at s j).file.entry ≡ n)
  other j u q = both_ways (is_of n (held_at s j).file) (is-of n (held_at s j).file u q) (ap (is_of n) (sym (bare-at s j)) ∙ file-not (bare s).files n z.shut j)

  pub entry-legal : buffered_legal (lay_entry one_word_wide entries image n e) (record { says = s.says; table = set s.table n e; files = s.files }) ≡ true
  unfolding buffered_legal bare
  entry-legal =
      and_both _ (every (held_good (set s.table n e)) s.files) (legal-edited image (lay_entry one_word_wide entries image n e) (bare s) n e (bare-legal image s ok) z (length-laid image n e))
      (every-alike (held_good (set s.table n e)) (held_good s.table) s.files (fresh idle) (λ j q. good-stays s.table n e (held_at s j) (other j)) ∙ all_held image s ok)

module _ (image : List ℕ) (s : BufferedSession) (ok : Kept image s) (n : ℕ) (e : Entry) (z : Edits (sectors_of image) (bare s) n e) where
  abbrev laid : List ℕ → List ℕ
  laid b = lay_entry one_word_wide entries b n e

  abbrev next : BufferedSession
  next = record { says = s.says; table = set s.table n e; files = s.files }

  plain-legal : legal image (bare s) ≡ true
  plain-legal = bare-legal image s ok.is_legal

  -- its bytes lie in sector 0, of this image and of the settled one
  entry-laid : (b : List ℕ) → length b ≡ length image → laid b ≡ lay b (one_word_wide * n) (entry_of one_word_wide e)
  entry-laid b q =
      let l = lawful-length image (bare s) plain-legal in
      row-there one_word_wide entries b n 0 (entry_of one_word_wide e) (one_word_wide * n) (omega arith)
      (rows-there one_word_wide entries b (omega arith, omega arith, refl) (omega (arith, lawful-whole image l, lawful-some image l))) z.inside

  same-holds : holds next ≡ holds s
  same-holds =
      ext_get_or empty (holds next) (holds s) (length-map s.files (hold_of next.table) ∙ sym (length-map s.files (hold_of s.table)))
      λ j l. hold_at_lem next j ∙ hold-stays s.table n e (held_at s j) (other image s ok.is_legal n e z j) ∙ sym (hold_at_lem s j)

  settle-laid : settle (laid image) next ≡ laid (settle image s)
  unfolding settle
  settle-laid =
      let l : length (entry_of one_word_wide e) ≡ one_word_wide = length-entry e z.eight one_word_wide (omega arith, omega arith, refl) in
      ap₂ all_back same-holds (entry-laid image refl)
      ∙ back-lay (holds s) image (one_word_wide * n) (entry_of one_word_wide e) (λ j. omega (arith, holds-behind image s ok j, z.inside))
      ∙ sym (entry-laid (settle image s) (length-settle image s))

  -- an unchanged buffer's sector lies behind the directory
  laid-step : (j : ℕ) → InStep (laid image) next.table (held_at s j)
  laid-step j u h c =
      let x : Entry = entry_at s.table (held_at s j).file.entry in
      let q : entry_at next.table (held_at s j).file.entry ≡ x = entry-stays s.table n e (held_at s j) (other image s ok.is_legal n e z j) u in
      let a : ℕ = sector_at x (held_at s j).held in
      ok.in_step j u (rw q at h) c
      ∙ sym (outside-part (laid image) image (one_word_wide * n) one_word_wide a sector (laid-outside image n e z.eight) (omega (arith, z.inside, (entry-room image s ok (held_at s j).file.entry (used-entry image s ok j u).1).0)))
      ∙ ap (λ (y : Entry). part (laid image) (sector_at y (held_at s j).held) sector) (sym q)

  laid_kept : Kept (laid image) next
  laid_kept = record { is_legal = entry-legal image s ok.is_legal n e z; is_typed = typed-entry s ok.is_typed n e z.eight; in_step = laid-step }

-- ---- an edit, whatever is asked

-- one that is answered 0
pub buffered-edits : (image : List ℕ) (s : BufferedSession) → buffered_legal image s ≡ true → typed s ≡ true → (i : ℕ) (x : Edit) (name : List ℕ)
    → buffered_edit_answer image s i x name ≡ Done → Edits (sectors_of image) (bare s) (edited_number x s.table i) (edited_entry x (sectors_of image) s.table name)
unfolding bare
buffered-edits image s ok types i x name d = edits-done image (bare s) (bare-legal image s ok) (table-length s types) (buffered_legal image s) i x name d

module _ (image : List ℕ) (s : BufferedSession) (ok : Kept image s) (i : ℕ) (x : Edit) (name : List ℕ) where
  same-sectors : sectors_of (settle image s) ≡ sectors_of image
  unfolding sectors_of
  same-sectors = ap (λ (n : ℕ). n / sector) (length-settle image s)

  same-edit : buffered_edit_answer image s i x name ≡ plain_edit_answer (settle image s) (bare s) i x name
  unfolding edit_answer_by
  same-edit = rw (ok.is_legal, settled-legal image s ok i, same-sectors)

  abbrev n : ℕ
  n = edited_number x s.table i

  abbrev e : Entry
  e = edited_entry x (sectors_of image) s.table name

  found : buffered_edit_answer image s i x name ≡ Done → Edits (sectors_of image) (bare s) n e
  found d = buffered-edits image s ok.is_legal ok.is_typed i x name d

  -- an edit answered 0; any other changes nothing
  pub edit-agrees : EditAgrees (buffered_edit image s i x name) (plain_edit (settle image s) (bare s) i x name)
  unfolding edit_by bare told_by image_edited table_edited
  edit-agrees =
      let cases : (a : Answer) → buffered_edit_answer image s i x name ≡ a
      → EditAgrees
      (record { answer = a; told = told_by a x n; image = image_edited a image n e; session = record { says = s.says; table = table_edited a s.table n e; files = s.files } })
      (record { answer = a; told = told_by a x n; image = image_edited a (settle image s) n e; session = record { says = s.says; table = table_edited a s.table n e; files = (bare s).files } }) =
      λ (a : Answer). elim a as (λ (a : Answer). buffered_edit_answer image s i x name ≡ a
      → EditAgrees
      (record { answer = a; told = told_by a x n; image = image_edited a image n e; session = record { says = s.says; table = table_edited a s.table n e; files = s.files } })
      (record { answer = a; told = told_by a x n; image = image_edited a (settle image s) n e; session = record { says = s.says; table = table_edited a s.table n e; files = (bare s).files } })) [
        | Done ↦ λ d. record { answer = refl; told = refl; image = settle-laid image s ok n e (found d); session = refl; stays = laid_kept image s ok n e (found d) }
        | Met y ↦ λ d. record { answer = refl; told = refl; image = refl; session = refl; stays = ok }
        | Refused y ↦ λ d. record { answer = refl; told = refl; image = refl; session = refl; stays = ok }
      ] in
      rw (← same-edit, same-sectors) (cases (buffered_edit_answer image s i x name) refl)

-- no file is opened or closed, and each holds what it held
pub edit-held : (image : List ℕ) (s : BufferedSession) (i : ℕ) (x : Edit) (name : List ℕ) (k : ℕ) → held_of (buffered_edit image s i x name).session k ≡ held_of s k
unfolding edit_by held_of bare
edit-held image s i x name k = refl
