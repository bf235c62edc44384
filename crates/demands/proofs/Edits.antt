-- One edit, in both engines, whatever the session is: refused, it changes nothing; done, it changes one entry, whose file is not open, so every state in use keeps
-- its own. A plain session is one that holds nothing, and an edit looks at nothing that is held.
use mathlib.Core.Path.{◌≡◌, refl, sym, ap, subst, ◌∙◌}
use mathlib.Core.Bool.{Bool, true, false, ◌&&◌}
use mathlib.Core.List.{List, []}
use Prim.Native.Nat.{ℕ, ◌+◌, ◌*◌, ◌≤◌, ◌<◌}
use native.Mathlib.Omega.{arith}
use lib.Dec.{leb, ltb}
use borrow.Author.Tests.{eqb-false, leb-false, ltb-false}
use lib.ListN.{length}
use Rattle.geometry.specs.Lists.{every}
use Rattle.geometry.specs.Sizes.{entries, entry_size, sectors_of}
use Rattle.geometry.proofs.Bytes.{Apart}
use Rattle.geometry.proofs.Tests.{either, both_ways}
use Rattle.geometry.specs.Bytes.{lay}
use Rattle.geometry.proofs.Places.{lawful-most}
use Rattle.directory.specs.Entries.{entry_at, free_entry, is_free}
use Rattle.directory.proofs.Good.{Lies, lies}
use Rattle.tables.specs.Tables.{one_word_wide, has_rows, entry_of, lay_row, lay_entry}
use Rattle.shapes.specs.Made.{file_made}
use Rattle.requests.specs.Judge.{edit_tests, place_in_line, in_order}
use Rattle.requests.proofs.InOrder.{edits-in-order}
use Rattle.sessions.specs.Session.{bare, unheld, extent, legal, buffered_legal, typed}
use Rattle.sessions.proofs.Legal.{lawful-length, good-table, bare-legal}
use Rattle.sessions.proofs.Unheld.{unheld-legal}
use Rattle.steps.specs.Edit.{edited_number, edited_entry, told_of, table_edited, Edited, edit_answer_by, edit_by, plain_edit, buffered_edit_answer, buffered_edit}
use Rattle.steps.proofs.Edited.{Edits, done-legal, eight-done, added-done, edit-either, longest-most}
use Rattle.steps.proofs.Laid.{length-laid, laid-outside, extent-laid}
use Rattle.steps.proofs.Unheld.{held_none, plain-as-held}
use Rattle.settling.proofs.Edited.{entry-legal, buffered-edits}
use Rattle.settling.proofs.Kept.{table-length, typed-entry}
use Rattle.demands.specs.Engine.{Engine, plain_engine, buffered_engine, sound}
use Rattle.demands.specs.Demand1.{in_line, with_entry, ProperEdit, Orderly}
use Rattle.demands.proofs.ReadsBack.{is_refusal}
use Rattle.demands.proofs.Bytes.{Bytes, lay-bytes, entry-bytes}
use Rattle.demands.proofs.Sound.{sound-image, sound-typed, sound-buffers, sound-of}
use Rattle.directory.specs.declared.Entry.{Entry}
use Rattle.requests.specs.declared.Answer.TheVariants.{Done, Refused}
use Rattle.requests.specs.declared.Edit.{Edit}
use Rattle.requests.specs.declared.Edit.TheVariants.{Add, Delete}
use Rattle.requests.specs.declared.Refusal.{Refusal}
use Rattle.sessions.specs.declared.BufferedSession.{BufferedSession}
use Rattle.sessions.specs.declared.Session.{Session}

pub edits-along : (x : Edit) → (in_order (edit_tests x) ≡ true) × (every in_line (edit_tests x) ≡ true)
unfolding every in_line edit_tests place_in_line
edits-along (Add kind length sectors) = (edits-in-order (Add kind length sectors), refl)
edits-along Delete = (edits-in-order Delete, refl)

-- a byte that is not in a range
pub apart : (j at n : ℕ) → (leb at j && ltb j (at + n)) ≡ false → Apart j 1 at n
apart j at n e = either (leb at j)
    (λ (h : leb at j ≡ true). let k : at + n ≤ j = ltb-false j (at + n) (rw h at e) in omega arith)
    (λ (h : leb at j ≡ false). let k : j < at = leb-false at j h in omega arith)

-- ---- what is laid are bytes

lies-bytes : (N : ℕ) (e : Entry) → N ≤ 4096 → Lies N e → Bytes e.name → Bytes (entry_of one_word_wide e)
lies-bytes N e few l h =
    entry-bytes e h (omega (arith, l.known)) (omega (arith, l.most, longest-most e.kind)) (omega (arith, l.ends)) (omega (arith, l.ends)) (omega (arith, l.flagged))

free_bytes : Bytes (entry_of one_word_wide free_entry)
free_bytes = entry-bytes free_entry (unfold every in refl) (omega arith) (omega arith) (omega arith) (omega arith) (omega arith)

laid-bytes : (image : List ℕ) (n : ℕ) (e : Entry) → Bytes image → Bytes (entry_of one_word_wide e) → Bytes (lay_entry one_word_wide entries image n e)
unfolding lay_row
laid-bytes image n e b h = go (has_rows one_word_wide entries image && ltb n entries)
  where
    go : (t : Bool) → Bytes (elim t [ true ↦ lay image (one_word_wide * n + 0) (entry_of one_word_wide e) | false ↦ image ])
    go true = lay-bytes image (one_word_wide * n + 0) (entry_of one_word_wide e) b h
    go false = b

-- the entry that an edit answered 0 makes
module _ (image : List ℕ) (s : Session) (ok : legal image s ≡ true) (many : length s.table ≡ entries) (b : Bool) (i : ℕ) (name : List ℕ) (gives : Bytes name) where
  made_bytes : (x : Edit) → edit_answer_by b image s i x name ≡ Done → Bytes (entry_of one_word_wide (edited_entry x (sectors_of image) s.table name))
  unfolding edited_entry file_made
  made_bytes (Add kind size sectors) d =
      lies-bytes (sectors_of image) _ (lawful-most image (lawful-length image s ok)) (added-done image s ok many b i kind size sectors name d).lies gives
  made_bytes Delete d = free_bytes

-- ---- the buffered engine

module _ (image : List ℕ) (s : BufferedSession) (i : ℕ) (x : Edit) (name : List ℕ) where
  abbrev n : ℕ
  n = edited_number x s.table i

  abbrev e : Entry
  e = edited_entry x (sectors_of image) s.table name

  -- of an edit: what holds of one that lays an entry, and of one that is refused
  either_way : (P : Edited BufferedSession → Type 0)
      → (buffered_edit_answer image s i x name ≡ Done → P (record { answer = Done; told = told_of x n; image = lay_entry one_word_wide entries image n e; session = with_entry s n e }))
      → ((y : Refusal) → buffered_edit_answer image s i x name ≡ Refused y → P (record { answer = Refused y; told = []; image = image; session = s }))
      → P (buffered_edit image s i x name)
  unfolding bare
  either_way P done refused = edit-either (buffered_legal image s) (λ table. record { says = s.says; table = table; files = s.files }) image (bare s) i x name P done refused

  pub buffered-proper-edit : ProperEdit buffered_engine image s i x name (buffered_edit image s i x name)
  unfolding bare is_refusal
  buffered-proper-edit =
      either_way (ProperEdit buffered_engine image s i x name)
      (λ d. record {
        ordered = sym d;
        refused = λ h. absurd (h refl);
        one = λ k m p f q. rw (p, q) (refl, refl, refl);
        others = λ m p j h. (laid-outside image n e (eight-done (buffered_legal image s) image (bare s) i x name d)).byte j (apart j (entry_size * n) entry_size (rw p at h));
        size = length-laid image n e;
      })
      (λ y d. record {
        ordered = sym d;
        refused = λ h. (y, refl, refl, refl, refl);
        one = λ k. both_ways true refl (ap is_refusal k);
        others = λ m p j h. refl;
        size = refl;
      })

  -- what lies behind the directory stays
  pub extent-edited : typed s ≡ true → (k : ℕ) → is_free (entry_at s.table k) ≡ false
      → extent (entry_at s.table k) (buffered_edit image s i x name).image ≡ extent (entry_at s.table k) image
  unfolding bare
  extent-edited t k u =
      either_way (λ (r : Edited BufferedSession). extent (entry_at s.table k) r.image ≡ extent (entry_at s.table k) image)
      (λ d.
      let ok : buffered_legal image s ≡ true = done-legal (buffered_legal image s) image (bare s) i x name d in
      let z : Edits (sectors_of image) (bare s) n e = buffered-edits image s ok t i x name d in
      extent-laid image n e z.eight z.inside (entry_at s.table k) (lies (sectors_of image) s.table (good-table image (bare s) (bare-legal image s ok)) k (eqb-false _ 0 u)).starts)
      (λ y d. refl)

  module _ (fine : sound image s ≡ true) (ok : buffered_legal image s ≡ true) (gives : Bytes name) where
    edits : buffered_edit_answer image s i x name ≡ Done → Edits (sectors_of image) (bare s) n e
    edits d = buffered-edits image s ok (sound-typed image s fine) i x name d

    made : buffered_edit_answer image s i x name ≡ Done → Bytes (entry_of one_word_wide e)
    unfolding bare
    made d = made_bytes image (bare s) (bare-legal image s ok) (table-length s (sound-typed image s fine)) (buffered_legal image s) i name gives x d

    pub buffered-edit-passes : (sound (buffered_edit image s i x name).image (buffered_edit image s i x name).session ≡ true)
        × (buffered_legal (buffered_edit image s i x name).image (buffered_edit image s i x name).session ≡ true)
    buffered-edit-passes =
        either_way (λ (r : Edited BufferedSession). (sound r.image r.session ≡ true) × (buffered_legal r.image r.session ≡ true))
        (λ d. (
          sound-of (lay_entry one_word_wide entries image n e) (with_entry s n e) (laid-bytes image n e (sound-image image s fine) (made d))
              (typed-entry s (sound-typed image s fine) n e (edits d).eight) (sound-buffers image s fine),
          entry-legal image s ok n e (edits d),
        ))
        (λ y d. (fine, ok))

-- ---- the plain engine: an edit looks at nothing that is held

module _ (image : List ℕ) (s : Session) (i : ℕ) (x : Edit) (name : List ℕ) where
  stays_plain : (y : Refusal) → (plain_edit image s i x name).answer ≡ Refused y → (plain_edit image s i x name).session ≡ s
  unfolding edit_by table_edited
  stays_plain y h = rw h

  pub plain-proper-edit : ProperEdit plain_engine image s i x name (plain_edit image s i x name)
  plain-proper-edit =
      let p : ProperEdit buffered_engine image (unheld s) i x name (held_none (plain_edit image s i x name)) =
      subst (ProperEdit buffered_engine image (unheld s) i x name) (plain-as-held image s i x name) (buffered-proper-edit image (unheld s) i x name) in
      record {
        ordered = p.ordered;
        refused = λ h. let r = p.refused h in (r.0, r.1, r.2, stays_plain r.0 r.1, r.4);
        one = p.one;
        others = p.others;
        size = p.size;
      }

  module _ (fine : sound image (unheld s) ≡ true) (ok : legal image s ≡ true) (gives : Bytes name) where
    pub plain-edit-passes : (sound (plain_edit image s i x name).image (unheld (plain_edit image s i x name).session) ≡ true)
        × (buffered_legal (plain_edit image s i x name).image (unheld (plain_edit image s i x name).session) ≡ true)
    plain-edit-passes =
        subst (λ (r : Edited BufferedSession). (sound r.image r.session ≡ true) × (buffered_legal r.image r.session ≡ true)) (plain-as-held image s i x name)
        (buffered-edit-passes image (unheld s) i x name fine (unheld-legal image s ∙ ok) gives)

-- ---- any orderly engine: in a session that is not legal nothing is edited

pub nothing-edited : (E : Engine) → Orderly E → (image : List ℕ) (s : E.Session) (i : ℕ) (x : Edit) (name : List ℕ) → buffered_legal image (E.seen s) ≡ false
    → ((E.edit image s i x name).image ≡ image) × ((E.edit image s i x name).session ≡ s)
nothing-edited E orderly image s i x name l =
    let p : ProperEdit E image s i x name (E.edit image s i x name) = orderly.every-edit image s i x name in
    let n = p.refused (λ d. both_ways (buffered_legal image (E.seen s)) (done-legal _ image (bare (E.seen s)) i x name (sym p.ordered ∙ d)) l) in
    (n.2, n.3)
