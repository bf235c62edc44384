-- ADD and DELETE in any orderly engine: their answers are the first of tests on the session's table, and one that is done changes that one entry. The lowest entry
-- and the lowest gap are what the laws of gaps say; a deleted file's name, shape and sectors passed the directory's rules and are no other file's, so the
-- same file may be added again.
use mathlib.Core.Path.{◌≡◌, refl, sym, ap, ap₂, ◌∙◌}
use mathlib.Core.Bool.{true, false, not}
use mathlib.Core.List.{List, [], ◌∷◌}
use Prim.Native.Nat.{ℕ, ◌*◌, ◌≤◌, ◌<◌}
use native.Mathlib.Omega.{arith}
use native.Mathlib.Decide.{dec_lt, ℕ_discrete}
use lib.Dec.{eqb, ltb}
use lib.ListN.{length, set, replicate, length-set}
use lib.Seq.{get_or-set_same, get_or-set_other}
use borrow.Author.Tests.{le-leb, lt-ltb, le-ltb, ltb-true, eq-eqb, eqb-true, eqb-false, not-true}
use Rattle.geometry.specs.Bytes.{part, word}
use Rattle.geometry.specs.Lists.{every, pairwise, same}
use Rattle.geometry.specs.Sizes.{entries, entry_size, sectors_of}
use Rattle.geometry.proofs.Bytes.{part-lay-same}
use Rattle.geometry.proofs.Places.{lawful-whole, lawful-some}
use Rattle.geometry.proofs.Tests.{either, both_ways, all_get_d, every_any, every-from, pairwise-get_or}
use Rattle.directory.specs.Entries.{entry_at, free_entry, is_free, table_of}
use Rattle.directory.specs.Rules.{names_differ, table_rules, table_good}
use Rattle.directory.specs.Search.{matches}
use Rattle.directory.proofs.Good.{Lies, lies, used-inside}
use Rattle.directory.proofs.Table.{length-table}
use Rattle.tables.specs.Tables.{one_word_wide, count_of, entry_of, lay_entry}
use Rattle.tables.proofs.Laid.{row-there}
use Rattle.tables.proofs.Widths.{rows-there}
use Rattle.gaps.specs.Gaps.{lowest_free, is_taken, stands_free, lowest_gap}
use Rattle.shapes.specs.Made.{is_named, shape_good, file_made}
use Rattle.gaps.proofs.Gaps.{free-lowest, free-below, gap-stands, gap-lowest, gap-given}
use Rattle.gaps.proofs.Taken.{gap-freed, gap-again}
use Rattle.requests.specs.Judge.{no_gap, whether, or_else, first_of, edit_tests, judge_edit, EditFacts}
use Rattle.requests.proofs.Edits.{Adds, done-edits}
use Rattle.requests.proofs.First.{not_there}
use Rattle.sessions.specs.Session.{bare, file_of, buffered_legal, typed}
use Rattle.sessions.proofs.Legal.{lawful-length, good-table, honest, bare-legal}
use Rattle.steps.specs.Edit.{is_taken_name, edit_facts, edited_number, edited_entry, told_of, edit_answer_by, buffered_edit_answer}
use Rattle.steps.specs.Next.{facts_of}
use Rattle.steps.specs.Step.{buffered_scene, buffered_answer}
use Rattle.steps.proofs.Edited.{same-swap, shape-some, Edits}
use Rattle.steps.proofs.Laid.{length-laid, table-laid}
use Rattle.settling.proofs.Edited.{entry-legal, buffered-edits}
use Rattle.settling.proofs.Kept.{table-length, names-eight}
use Rattle.tapes.specs.Edits.{Editing}
use Rattle.demands.specs.Engine.{Engine, Standing, answered, edited, edit_of}
use Rattle.demands.specs.Demand1.{Orderly, Passes, adding, deleting, with_entry}
use Rattle.promises.specs.Edits.{table_at, runs_free, Lowest, checks_before16, Editable}
use Rattle.demands.proofs.ReadsBack.{is_refusal, passed}
use Rattle.demands.proofs.Sound.{sound-typed}
use Rattle.directory.specs.declared.Entry.{Entry}
use Rattle.requests.specs.declared.Answer.TheVariants.{Done, Refused}
use Rattle.requests.specs.declared.Edit.{Edit}
use Rattle.requests.specs.declared.Edit.TheVariants.{Add, Delete}
use Rattle.requests.specs.declared.Refusal.TheVariants.{NotThere, BadImage, NoGap}
use Rattle.requests.specs.declared.Request.{Request}
use Rattle.sessions.specs.declared.BufferedSession.{BufferedSession}

-- ---- a file that was there may be added again

module _ (N : ℕ) (t : List Entry) (ok : table_good N t ≡ true) (i : ℕ) (used : is_free (entry_at t i) ≡ false) where
  lie : Lies N (entry_at t i)
  lie = lies N t ok i (eqb-false (entry_at t i).kind 0 used)

  shape-again : shape_good (entry_at t i).kind (entry_at t i).length (entry_at t i).sectors ≡ true
  unfolding shape_good file_made
  shape-again =
      rw (le-leb 1 _ lie.used, le-leb _ 4 lie.known, eq-eqb _ 0 lie.even, le-leb 2 _ lie.least, le-leb _ _ lie.most, le-leb 1 _ lie.some)

  -- no other file has its name
  other_name : (j : ℕ) → ¬ (j ≡ i) → j < length t → is_free (entry_at t j) ≡ false → same (entry_at t j).name (entry_at t i).name ≡ false
  unfolding table_good table_rules names_differ
  other_name j d l u = go (dec_lt j i)
    where
      pairs : pairwise names_differ t ≡ true
      pairs = all_get_d (table_rules N t) 3 ok

      go : Dec (j < i) → same (entry_at t j).name (entry_at t i).name ≡ false
      go (yes h) = not-true _ (rw (used, u) at (pairwise-get_or names_differ t j i free_entry pairs h (used-inside t i (eqb-false (entry_at t i).kind 0 used))))
      go (no h) = same-swap (entry_at t i).name (entry_at t j).name (not-true _ (rw (used, u) at (pairwise-get_or names_differ t i j free_entry pairs (omega (arith, d)) l)))

  module _ (eight : length (entry_at t i).name ≡ 8) where
    named_again : is_named (entry_at t i).name ≡ true
    unfolding is_named
    named_again = rw (eq-eqb _ 8 eight, lie.named)

    name-again : is_taken_name (set t i free_entry) (entry_at t i).name ≡ false
    unfolding is_taken_name matches
    name-again = ap not (every-from (λ f. not (matches (entry_at t i).name f)) (set t i free_entry) free_entry λ j l. ap not (go j (omega (arith, length-set t i free_entry)) (ℕ_discrete j i)))
      where
        other : (j : ℕ) → ¬ (j ≡ i) → j < length t → matches (entry_at t i).name (entry_at t j) ≡ false
        other j d l = either (is_free (entry_at t j))
            (λ (f : is_free (entry_at t j) ≡ true). rw (eq-eqb _ 8 eight, f))
            (λ (u : is_free (entry_at t j) ≡ false). rw (eq-eqb _ 8 eight, u, other_name j d l u))

        go : (j : ℕ) → j < length t → Dec (j ≡ i) → matches (entry_at t i).name (entry_at (set t i free_entry) j) ≡ false
        go j l (yes q) = rw (q, get_or-set_same t i free_entry free_entry (omega arith), eq-eqb _ 8 eight)
        go j l (no d) = rw (get_or-set_other t i j free_entry free_entry d) (other j d l)

  entry-again : lowest_free (set t i free_entry) < length t
  entry-again = go (dec_lt i (lowest_free (set t i free_entry)))
    where
      inside : i < length t
      inside = used-inside t i (eqb-false (entry_at t i).kind 0 used)

      go : Dec (i < lowest_free (set t i free_entry)) → lowest_free (set t i free_entry) < length t
      go (yes h) = both_ways true refl (ap is_free (sym (get_or-set_same t i free_entry free_entry inside)) ∙ free-below (set t i free_entry) i h)
      go (no h) = omega (arith, inside)

-- ---- the bytes of a deleted entry

zeroed : (image : List ℕ) (n : ℕ) → n < entries → 360 ≤ length image → part (lay_entry one_word_wide entries image n free_entry) (entry_size * n) entry_size ≡ replicate entry_size 0
unfolding entry_of count_of word
zeroed image n inside long =
    ap (λ (x : List ℕ). part x (20 * n) 20) (row-there one_word_wide entries image n 0 (entry_of one_word_wide free_entry) (20 * n) (omega arith) (rows-there one_word_wide entries image (omega arith, omega arith, refl) (omega arith)) inside)
    ∙ part-lay-same image (20 * n) (entry_of one_word_wide free_entry) 20 refl (omega arith)

-- ---- the answers

-- the shape is among what ADD's tests before 16 ask about: with a gap it is done
checked : (kind size sectors : ℕ) (f : EditFacts) → first_of checks_before16 f ≡ Done → f.shaped ≡ true
checked kind size sectors f lawful = (done-edits (Add kind size sectors) roomy done).shaped
  where
    roomy : EditFacts
    roomy = record { legal = f.legal; refused = f.refused; used = f.used; opened = f.opened; named = f.named; shaped = f.shaped; taken = f.taken; entry = f.entry; gap = true }

    done : judge_edit (Add kind size sectors) roomy ≡ Done
    done = unfold judge_edit edit_tests first_of or_else is_refusal every whether in passed checks_before16 roomy (or_else (no_gap ∷ []) roomy Done) refl lawful

module _ (image : List ℕ) (s : BufferedSession) (types : typed s ≡ true) (ok : buffered_legal image s ≡ true) where
  abbrev N : ℕ
  N = sectors_of image

  abbrev t : List Entry
  t = s.table

  many : length t ≡ entries
  many = table-length s types

  good : table_good N t ≡ true
  unfolding bare
  good = good-table image (bare s) (bare-legal image s ok)

  long : 360 ≤ length image
  long =
      let l = lawful-length image (bare s) (bare-legal image s ok) in
      omega (arith, lawful-whole image l, lawful-some image l)

  -- what an edit answered 0 makes of its entry
  edits : (x : Edit) (i : ℕ) (name : List ℕ) → buffered_edit_answer image s i x name ≡ Done → Edits N (bare s) (edited_number x t i) (edited_entry x N t name)
  edits x i name d = buffered-edits image s ok types i x name d

  module _ (kind size sectors : ℕ) (name : List ℕ) where
    abbrev facts : EditFacts
    facts = edit_facts true N (bare s) 0 (Add kind size sectors) name

    add-answer : buffered_edit_answer image s 0 (Add kind size sectors) name ≡ judge_edit (Add kind size sectors) facts
    unfolding edit_answer_by
    add-answer = rw ok

    -- the last test decides
    room-answer : first_of checks_before16 facts ≡ Done → buffered_edit_answer image s 0 (Add kind size sectors) name ≡ whether (not (ltb (lowest_gap (is_taken t) N sectors) N)) (Refused NoGap) Done
    unfolding judge_edit edit_tests first_of or_else is_refusal every edit_facts bare
    room-answer lawful = add-answer ∙ passed checks_before16 facts (or_else (no_gap ∷ []) facts Done) refl lawful

    room-none : first_of checks_before16 facts ≡ Done → ((p : ℕ) → stands_free (is_taken t) N sectors p ≡ false) → buffered_edit_answer image s 0 (Add kind size sectors) name ≡ Refused NoGap
    unfolding whether
    room-none lawful h = room-answer lawful ∙ go (dec_lt (lowest_gap (is_taken t) N sectors) N)
      where
        go : Dec (lowest_gap (is_taken t) N sectors < N) → whether (not (ltb (lowest_gap (is_taken t) N sectors) N)) (Refused NoGap) Done ≡ Refused NoGap
        go (yes l) = both_ways _ (gap-stands (is_taken t) N sectors l) (h (lowest_gap (is_taken t) N sectors))
        go (no l) = rw (le-ltb (lowest_gap (is_taken t) N sectors) N (omega arith))

    room-some : first_of checks_before16 facts ≡ Done → (p : ℕ) → stands_free (is_taken t) N sectors p ≡ true → buffered_edit_answer image s 0 (Add kind size sectors) name ≡ Done
    unfolding whether
    room-some lawful p h =
        let n : 1 ≤ sectors = shape-some kind size sectors (unfold edit_facts in checked kind size sectors facts lawful) in
        room-answer lawful ∙ rw (lt-ltb (lowest_gap (is_taken t) N sectors) N (gap-given (is_taken t) N sectors p h n))

  delete-done : (i : ℕ) → is_free (entry_at t i) ≡ false → (file_of (bare s).files i).used ≡ false → buffered_edit_answer image s i Delete [] ≡ Done
  unfolding edit_answer_by edit_facts judge_edit edit_tests first_of or_else whether bare
  delete-done i used shut = rw (ok, used, shut)

  deleted-used : (i : ℕ) → buffered_edit_answer image s i Delete [] ≡ Done → is_free (entry_at t i) ≡ false
  unfolding edit_answer_by edit_facts bare
  deleted-used i d = not-true (is_free (entry_at t i)) (done-edits Delete _ d).used

  -- behind a DELETE of entry i
  module _ (i : ℕ) (d : buffered_edit_answer image s i Delete [] ≡ Done) where
    abbrev laid : List ℕ
    laid = lay_entry one_word_wide entries image i free_entry

    used : is_free (entry_at t i) ≡ false
    used = deleted-used i d

    gone : Edits N (bare s) i free_entry
    unfolding edited_number edited_entry
    gone = edits Delete i [] d

    same-sectors : sectors_of laid ≡ N
    unfolding sectors_of
    same-sectors = rw (length-laid image i free_entry)

    eight : length (entry_at t i).name ≡ 8
    eight = eqb-true _ 8 (every_any (λ e. eqb (length e.name) 8) t i free_entry (names-eight s types) refl)

    free-again : stands_free (is_taken (set t i free_entry)) (sectors_of laid) (entry_at t i).sectors (entry_at t i).first ≡ true
    free-again = rw same-sectors (gap-freed N t good i used)

    add-again : buffered_edit_answer laid (with_entry s i free_entry) 0 (Add (entry_at t i).kind (entry_at t i).length (entry_at t i).sectors) (entry_at t i).name ≡ Done
    unfolding edit_answer_by edit_facts judge_edit edit_tests first_of or_else whether bare
    add-again =
        rw (
          entry-legal image s ok i free_entry gone,
          honest image (bare s) (bare-legal image s ok) i used,
          named_again N t good i used eight,
          shape-again N t good i used,
          name-again N t good i used eight,
          same-sectors,
          lt-ltb (lowest_free (set t i free_entry)) entries (omega (arith, many, entry-again N t good i used)),
          lt-ltb (lowest_gap (is_taken (set t i free_entry)) N (entry_at t i).sectors) N (gap-again N t good i used),
        )

  -- a session that says that it is from a refused mounting has no used entry
  module _ (says : s.says.refused ≡ true) where
    none-used : (i : ℕ) → is_free (entry_at t i) ≡ true
    unfolding bare
    none-used i = either (is_free (entry_at t i)) (λ (f : is_free (entry_at t i) ≡ true). f) (λ (u : is_free (entry_at t i) ≡ false). both_ways _ says (honest image (bare s) (bare-legal image s ok) i u))

    refused-add : (kind size sectors : ℕ) (name : List ℕ) → buffered_edit_answer image s 0 (Add kind size sectors) name ≡ Refused BadImage
    unfolding edit_answer_by edit_facts judge_edit edit_tests first_of or_else whether bare
    refused-add kind size sectors name = rw (ok, says)

    refused-delete : (i : ℕ) → buffered_edit_answer image s i Delete [] ≡ Refused NotThere
    unfolding edit_answer_by edit_facts judge_edit edit_tests first_of or_else whether bare
    refused-delete i = rw (ok, none-used i)

    refused-request : (i : ℕ) (q : Request) (given : List ℕ) (buffer : ℕ) → buffered_answer image s i q given buffer ≡ Refused NotThere
    unfolding buffered_answer facts_of buffered_scene
    refused-request i q given buffer = not_there q _ ok (none-used i)

-- ---- in an engine

module _ (E : Engine) (orderly : Orderly E) (w : Standing E.Session) (p : Passes E w) where
  abbrev seen : BufferedSession
  seen = E.seen w.session

  typed-seen : typed seen ≡ true
  typed-seen = sound-typed w.image seen p.is_sound

  answer-is : (x : Editing) → (edited E w x).answer ≡ buffered_edit_answer w.image seen x.entry x.edit x.name
  unfolding edited
  answer-is x = (orderly.every-edit w.image w.session x.entry x.edit x.name).ordered

  -- what an edit that is done leaves
  module _ (x : Editing) (d : (edited E w x).answer ≡ Done) where
    abbrev number : ℕ
    number = edited_number x.edit (table_at E w) x.entry

    abbrev new : Entry
    new = edited_entry x.edit (sectors_of w.image) (table_at E w) x.name

    left : ((edited E w x).told ≡ told_of x.edit number) × (E.seen (edited E w x).session ≡ with_entry seen number new) × ((edited E w x).image ≡ lay_entry one_word_wide entries w.image number new)
    unfolding edited
    left = (orderly.every-edit w.image w.session x.entry x.edit x.name).one d number refl new refl

    edits-it : Edits (sectors_of w.image) (bare seen) number new
    edits-it = edits w.image seen typed-seen p.is_legal x.edit x.entry x.name (sym (answer-is x) ∙ d)

    entry-then : entry_at (table_at E (edit_of E w x)) number ≡ new
    unfolding edit_of
    entry-then =
        ap (λ (z : BufferedSession). entry_at z.table number) left.1
        ∙ get_or-set_same (table_at E w) number new free_entry (omega (arith, edits-it.inside, many w.image seen typed-seen p.is_legal))

    stored-then : entry_at (table_of (edited E w x).image) number ≡ new
    stored-then =
        ap (λ (y : List ℕ). entry_at (table_of y) number) left.2
        ∙ ap (λ (y : List Entry). entry_at y number) (table-laid w.image number new edits-it.eight edits-it.none edits-it.inside (long w.image seen typed-seen p.is_legal))
        ∙ get_or-set_same (table_of w.image) number new free_entry (omega (arith, edits-it.inside, length-table w.image))

  -- ADD
  module _ (kind size sectors : ℕ) (name : List ℕ) (d : (edited E w (adding kind size sectors name)).answer ≡ Done) where
    abbrev gap : ℕ
    gap = lowest_gap (is_taken (table_at E w)) (sectors_of w.image) sectors

    allowed : Adds (edit_facts true (sectors_of w.image) (bare seen) 0 (Add kind size sectors) name)
    allowed = done-edits (Add kind size sectors) _ (sym (add-answer w.image seen typed-seen p.is_legal kind size sectors name) ∙ sym (answer-is (adding kind size sectors name)) ∙ d)

    lowest-is : Lowest E w (edit_of E w (adding kind size sectors name)) kind size sectors name (lowest_free (table_at E w)) (file_made kind size sectors name gap)
    unfolding file_made edit_of edit_facts bare edited_number edited_entry
    lowest-is =
        let free : lowest_free (table_at E w) < entries = ltb-true (lowest_free (table_at E w)) entries allowed.entry in
        record {
          made = refl;
          stored = stored-then (adding kind size sectors name) d;
          entry = (free, free-lowest (table_at E w) (omega (arith, many w.image seen typed-seen p.is_legal)), free-below (table_at E w));
          gap = (gap-stands (is_taken (table_at E w)) (sectors_of w.image) sectors (ltb-true gap (sectors_of w.image) allowed.gap), gap-lowest (is_taken (table_at E w)) (sectors_of w.image) sectors);
        }

    lowest-told : (n : ℕ) × ((edited E w (adding kind size sectors name)).told ≡ n ∷ [])
        × Lowest E w (edit_of E w (adding kind size sectors name)) kind size sectors name n (entry_at (table_at E (edit_of E w (adding kind size sectors name))) n)
    unfolding told_of edited_number edited_entry
    lowest-told = (lowest_free (table_at E w), (left (adding kind size sectors name) d).0, rw (entry-then (adding kind size sectors name) d) lowest-is)

  -- DELETE
  deletes-it : (i : ℕ) → (edited E w (deleting i)).answer ≡ Done
      → (entry_at (table_at E (edit_of E w (deleting i))) i ≡ free_entry) × (part (edited E w (deleting i)).image (entry_size * i) entry_size ≡ replicate entry_size 0)
  unfolding edited_number edited_entry
  deletes-it i d = (
    entry-then (deleting i) d,
    ap (λ (y : List ℕ). part y (entry_size * i) entry_size) (left (deleting i) d).2 ∙ zeroed w.image i (edits-it (deleting i) d).inside (long w.image seen typed-seen p.is_legal),
  )

  module _ (i : ℕ) (d : (edited E w (deleting i)).answer ≡ Done) where
    deleted : buffered_edit_answer w.image seen i Delete [] ≡ Done
    deleted = sym (answer-is (deleting i)) ∙ d

    abbrev then : Standing E.Session
    then = edit_of E w (deleting i)

    seen-then : E.seen then.session ≡ with_entry seen i free_entry
    unfolding edit_of edited_number edited_entry
    seen-then = (left (deleting i) d).1

    image-then : then.image ≡ lay_entry one_word_wide entries w.image i free_entry
    unfolding edit_of edited_number edited_entry
    image-then = (left (deleting i) d).2

    runs-again : runs_free E then (entry_at (table_at E w) i).sectors (entry_at (table_at E w) i).first ≡ true
    runs-again =
        ap₂ (λ (z : BufferedSession) (y : List ℕ). stands_free (is_taken z.table) (sectors_of y) (entry_at (table_at E w) i).sectors (entry_at (table_at E w) i).first) seen-then image-then
        ∙ free-again w.image seen typed-seen p.is_legal i deleted

    adds_again : (edited E then (adding (entry_at (table_at E w) i).kind (entry_at (table_at E w) i).length (entry_at (table_at E w) i).sectors (entry_at (table_at E w) i).name)).answer ≡ Done
    unfolding edited
    adds_again =
        (orderly.every-edit then.image then.session 0 (Add _ _ _) (entry_at (table_at E w) i).name).ordered
        ∙ ap₂ (λ (z : BufferedSession) (y : List ℕ). buffered_edit_answer y z 0 (Add (entry_at (table_at E w) i).kind (entry_at (table_at E w) i).length (entry_at (table_at E w) i).sectors) (entry_at (table_at E w) i).name) seen-then image-then
        ∙ add-again w.image seen typed-seen p.is_legal i deleted

pub editable : (E : Engine) → Orderly E → Editable E
unfolding answered
editable E orderly = record {
  lowest = λ w p kind size sectors name d behind is. rw is (lowest-told E orderly w p kind size sectors name d);
  room = λ w p kind size sectors name f is lawful. (
    (λ none. answer-is E orderly w p (adding kind size sectors name) ∙ room-none w.image (E.seen w.session) (typed-seen E orderly w p) p.is_legal kind size sectors name (rw is at lawful) none),
    (λ q run. answer-is E orderly w p (adding kind size sectors name) ∙ room-some w.image (E.seen w.session) (typed-seen E orderly w p) p.is_legal kind size sectors name (rw is at lawful) q run),
  );
  deletes = λ w p i used shut.
      let d : (edited E w (deleting i)).answer ≡ Done = answer-is E orderly w p (deleting i) ∙ delete-done w.image (E.seen w.session) (typed-seen E orderly w p) p.is_legal i used shut in
      let z = deletes-it E orderly w p i d in
      (d, z.0, z.1);
  again = λ w p i d e its behind is. rw (is, its) (runs-again E orderly w p i d, adds_again E orderly w p i d);
  from_refused = λ w p says. (
    (λ kind size sectors name. answer-is E orderly w p (adding kind size sectors name) ∙ refused-add w.image (E.seen w.session) (typed-seen E orderly w p) p.is_legal says kind size sectors name),
    (λ i. answer-is E orderly w p (deleting i) ∙ refused-delete w.image (E.seen w.session) (typed-seen E orderly w p) p.is_legal says i),
    (λ a. (orderly.every-request w.image w.session a.entry a.request a.given a.buffer).ordered ∙ refused-request w.image (E.seen w.session) (typed-seen E orderly w p) p.is_legal says a.entry a.request a.given (length a.buffer)),
  );
}
