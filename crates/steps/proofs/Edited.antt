-- An edit that is answered 0 leaves a legal session: the tests that it passed say that the new entry keeps the rules of one entry and of two, and no open file is
-- of it. It lays the bytes of that entry, and no other byte of the image.
use mathlib.Core.Path.{◌≡◌, refl, sym, ap, ◌∙◌}
use mathlib.Core.Logic.{◌≢◌}
use mathlib.Core.Bool.{Bool, true, false, ◌&&◌, ◌||◌, not, or-true}
use mathlib.Core.List.{List, [], ◌∷◌}
use Prim.Native.Nat.{ℕ, ◌+◌, ◌*◌, ◌≤◌, ◌<◌}
use native.Mathlib.Omega.{arith}
use lib.Dec.{eqb, leb}
use lib.ListN.{length, set}
use lib.Seq.{get_or-set_same}
use borrow.Author.Tests.{le-leb, leb-true, ltb-true, eqb-true, eqb-false, eq-eqb, ne_eqb, not-true, not-false}
use Rattle.geometry.specs.Bytes.{word}
use Rattle.geometry.specs.Lists.{every, pairwise, same}
use Rattle.geometry.specs.Places.{capacity}
use Rattle.geometry.specs.Sizes.{entries, unblocked, blocked, random, most_records, sectors_of}
use Rattle.geometry.proofs.Bytes.{Outside, outside-same}
use Rattle.geometry.proofs.Tests.{either, and_left, and_right, and_both, denied, every-get_or, every-from, every-and, every_set, same_true}
use Rattle.names.specs.Names.{is_name}
use Rattle.directory.specs.Entries.{entry_bytes, free_entry, entry_at, is_free, is_marked}
use Rattle.directory.specs.Grouped.{entry_good, sizes_good, used_good, two_good}
use Rattle.directory.specs.Rules.{longest, kind_known, names_differ, extents_apart, flags_known, length_fits, count_good, random_bare, table_good}
use Rattle.directory.specs.Search.{matches}
use Rattle.directory.proofs.Free.{zero-good}
use Rattle.directory.proofs.Good.{Lies, lies, used-inside}
use Rattle.directory.proofs.Grouped.{grouped, used-good, two-free, free-apart}
use Rattle.tables.specs.Tables.{one_word_wide, lay_entry}
use Rattle.gaps.specs.Gaps.{lowest_free, is_taken, stands_free, lowest_gap}
use Rattle.shapes.specs.Made.{is_named, shape_good, file_made}
use Rattle.gaps.proofs.Gaps.{stands-inside, gap-stands, free-lowest}
use Rattle.gaps.proofs.Taken.{pairwise-set, gap-extents, gap-extents-back, good-sectors}
use Rattle.requests.proofs.Edits.{Adds, Deletes, done-edits, never_met}
use Rattle.sessions.specs.Session.{file_of, legal}
use Rattle.sessions.proofs.Legal.{good-table, honest, legal-length}
use Rattle.sessions.proofs.Distinct.{free-shut}
use Rattle.sessions.proofs.Kept.{legal-elsewhere}
use Rattle.steps.proofs.Laid.{laid-outside}
use Rattle.steps.specs.Edit.{is_taken_name, edit_facts, edited_number, edited_entry, told_of, told_by, image_edited, table_edited, Edited, edit_answer_by, edit_by}
use Rattle.directory.specs.declared.Entry.{Entry}
use Rattle.requests.specs.declared.Answer.{Answer}
use Rattle.requests.specs.declared.Answer.TheVariants.{Done, Met, Refused}
use Rattle.requests.specs.declared.Edit.{Edit}
use Rattle.requests.specs.declared.Edit.TheVariants.{Add, Delete}
use Rattle.requests.specs.declared.Refusal.{Refusal}
use Rattle.sessions.specs.declared.Session.{Session}

-- ---- a good table with another entry

module _ (N : ℕ) (t : List Entry) (ok : table_good N t ≡ true) where
  good-set : (n : ℕ) (e : Entry) → entry_good N e ≡ true → every (λ a. two_good a e) t ≡ true → every (two_good e) t ≡ true → table_good N (set t n e) ≡ true
  good-set n e one before behind =
      let h : (every (entry_good N) t && pairwise two_good t) ≡ true = sym (grouped N t) ∙ ok in
      grouped N (set t n e)
      ∙ and_both (every (entry_good N) (set t n e)) (pairwise two_good (set t n e))
      (every_set (entry_good N) t n e (and_left (every (entry_good N) t) (pairwise two_good t) h) one)
      (pairwise-set two_good t n e (and_right (every (entry_good N) t) (pairwise two_good t) h) before behind)

  -- a free one
  good-freed : (n : ℕ) → table_good N (set t n free_entry) ≡ true
  good-freed n =
      good-set n free_entry (zero-good N free_entry (unfold entry_bytes word every in refl)) (free-apart free_entry refl t)
      (every-from (two_good free_entry) t free_entry λ i l. two-free free_entry (entry_at t i) refl)

-- ---- names that differ

same_self : (x : List ℕ) → same x x ≡ true
unfolding same
same_self [] = refl
same_self (n ∷ x) = rw (eq-eqb n n refl, same_self x)

pub same-swap : (x y : List ℕ) → same x y ≡ false → same y x ≡ false
same-swap x y h = denied (same y x) (same x y) (λ (q : same y x ≡ true). ap (λ (z : List ℕ). same z y) (sym (same_true y x q)) ∙ same_self y) h

module _ (new a : Entry) (eight : length new.name ≡ 8) (h : matches new.name a ≡ false) where
  other_name : is_free a ≡ false → same a.name new.name ≡ false
  unfolding matches
  other_name u = rw (eq-eqb (length new.name) 8 eight, u) at h

  differs : names_differ a new ≡ true
  unfolding names_differ
  differs =
      either (is_free a) (λ (f : is_free a ≡ true). rw f)
      (λ (u : is_free a ≡ false). rw (u, other_name u, or-true (is_free new)))

  differs-back : names_differ new a ≡ true
  unfolding names_differ
  differs-back =
      either (is_free a) (λ (f : is_free a ≡ true). rw (f, or-true (is_free new)))
      (λ (u : is_free a ≡ false). rw (u, same-swap a.name new.name (other_name u), or-true (is_free new)))

-- ---- a file that is added

module _ (k l n : ℕ) (shaped : shape_good k l n ≡ true) where
  abbrev made : List ℕ → ℕ → Entry
  made name p = file_made k l n name p

  behind-kind : (leb k random && (length_fits (made [] 0) && leb 1 n)) ≡ true
  unfolding shape_good
  behind-kind = and_right (leb unblocked k) _ shaped

  sized : (length_fits (made [] 0) && leb 1 n) ≡ true
  sized = and_right (leb k random) _ behind-kind

  pub shape-kind : (1 ≤ k) × (k ≤ 4)
  unfolding shape_good
  shape-kind = (leb-true unblocked k (and_left (leb unblocked k) _ shaped), leb-true k random (and_left (leb k random) _ behind-kind))

  pub shape-some : 1 ≤ n
  shape-some = leb-true 1 n (and_right (length_fits (made [] 0)) (leb 1 n) sized)

  made-counts : (name : List ℕ) (p : ℕ) → count_good (made name p) ≡ true
  unfolding count_good file_made
  made-counts name p = go (eqb k unblocked || eqb k blocked)
    where
      go : (b : Bool) → elim b [ true ↦ leb 0 (capacity k l n) | false ↦ leb 0 most_records ] ≡ true
      go true = le-leb 0 (capacity k l n) (omega arith)
      go false = refl

  made-bare : (name : List ℕ) (p : ℕ) → random_bare (made name p) ≡ true
  unfolding random_bare is_marked file_made
  made-bare name p = or-true (not (eqb k random))

  made-good : (N p : ℕ) (name : List ℕ) → is_name name ≡ true → 1 ≤ p → p + n ≤ N → entry_good N (made name p) ≡ true
  unfolding file_made used_good sizes_good kind_known flags_known
  made-good N p name named starts ends =
      let u : k ≢ 0 = λ (z : k ≡ 0). omega (arith, shape-kind) in
      used-good N (made name p) u
      ∙ rw (named, ne_eqb k 0 u, le-leb k 4 shape-kind.1, le-leb 1 p starts, le-leb 1 n shape-some, le-leb (p + n) N ends, and_left (length_fits (made [] 0)) (leb 1 n) sized, made-counts name p, made-bare name p)

  -- where its name is in no entry and its extent stands free, it is one more entry of a good table
  module _ (N : ℕ) (t : List Entry) (ok : table_good N t ≡ true) (p : ℕ) (stands : stands_free (is_taken t) N n p ≡ true) (name : List ℕ) (eight : length name ≡ 8)
      (named : is_name name ≡ true) (untaken : is_taken_name t name ≡ false) where
    no-match : (i : ℕ) → i < length t → matches name (entry_at t i) ≡ false
    unfolding is_taken_name
    no-match i l = not-true (matches name (entry_at t i)) (every-get_or (λ e. not (matches name e)) t i free_entry (not-false (every (λ e. not (matches name e)) t) untaken) l)

    before : every (λ a. two_good a (made name p)) t ≡ true
    unfolding two_good file_made
    before =
        every-and (λ a. names_differ a (made name p)) (λ a. extents_apart a (made name p)) t
        ∙ and_both (every (λ a. names_differ a (made name p)) t) (every (λ a. extents_apart a (made name p)) t)
        (every-from (λ a. names_differ a (made name p)) t free_entry λ i l. differs (made name p) (entry_at t i) eight (no-match i l))
        (gap-extents t N n p stands shape-some (made name p) refl refl (good-sectors N t ok))

    behind : every (two_good (made name p)) t ≡ true
    unfolding two_good file_made
    behind =
        every-and (names_differ (made name p)) (extents_apart (made name p)) t
        ∙ and_both (every (names_differ (made name p)) t) (every (extents_apart (made name p)) t)
        (every-from (names_differ (made name p)) t free_entry λ i l. differs-back (made name p) (entry_at t i) eight (no-match i l))
        (gap-extents-back t N n p stands shape-some (made name p) refl refl (good-sectors N t ok))

    good-added : (i : ℕ) → table_good N (set t i (made name p)) ≡ true
    good-added i =
        good-set N t ok i (made name p)
        (made-good N p name named (stands-inside (is_taken t) N n p stands).0 (stands-inside (is_taken t) N n p stands).1) before behind

-- ---- what an edit that is answered 0 makes of entry n

pub record Edits (N : ℕ) (s : Session) (n : ℕ) (e : Entry) : Type 0 where
  pub inside : n < entries
  pub eight : length e.name ≡ 8
  pub none : e.count ≡ 0
  pub good : table_good N (set s.table n e) ≡ true
  pub shut : (file_of s.files n).used ≡ false
  pub said : s.says.refused ≡ false

-- and an ADD: a file of the directory, where there was none, in a gap
pub record Added (N : ℕ) (t : List Entry) (n : ℕ) (e : Entry) : Type 0 where
  pub unused : is_free (entry_at t n) ≡ true
  pub clear : stands_free (is_taken t) N e.sectors e.first ≡ true
  pub lies : Lies N e

name-added : (lawful : Bool) (N : ℕ) (s : Session) (i k l n : ℕ) (name : List ℕ) → Adds (edit_facts lawful N s i (Add k l n) name) → (length name ≡ 8) × (is_name name ≡ true)
unfolding edit_facts is_named
name-added lawful N s i k l n name a =
    (eqb-true (length name) 8 (and_left (eqb (length name) 8) (is_name name) a.named), and_right (eqb (length name) 8) (is_name name) a.named)

module _ (lawful : Bool) (image : List ℕ) (s : Session) (i : ℕ) where
  -- in a legal session alone
  pub done-legal : (x : Edit) (name : List ℕ) → edit_answer_by lawful image s i x name ≡ Done → lawful ≡ true
  unfolding edit_answer_by edit_facts
  done-legal (Add k l n) name h = (done-edits (Add k l n) _ h).legal
  done-legal Delete name h = (done-edits Delete _ h).legal

  pub eight-done : (x : Edit) (name : List ℕ) → edit_answer_by lawful image s i x name ≡ Done → length (edited_entry x (sectors_of image) s.table name).name ≡ 8
  unfolding edit_answer_by edited_entry file_made
  eight-done (Add k l n) name h = (name-added lawful (sectors_of image) s i k l n name (done-edits (Add k l n) _ h)).0
  eight-done Delete name h = refl

module _ (image : List ℕ) (s : Session) (ok : legal image s ≡ true) (many : length s.table ≡ entries) (b : Bool) (i : ℕ) where
  abbrev N : ℕ
  N = sectors_of image

  module _ (k l n : ℕ) (name : List ℕ) (a : Adds (edit_facts b N s i (Add k l n) name)) where
    abbrev new : Entry
    new = file_made k l n name (lowest_gap (is_taken s.table) N n)

    shaped : shape_good k l n ≡ true
    unfolding edit_facts
    shaped = a.shaped

    stands : stands_free (is_taken s.table) N n (lowest_gap (is_taken s.table) N n) ≡ true
    unfolding edit_facts
    stands = gap-stands (is_taken s.table) N n (ltb-true (lowest_gap (is_taken s.table) N n) N a.gap)

    lowest : lowest_free s.table < entries
    unfolding edit_facts
    lowest = ltb-true (lowest_free s.table) entries a.entry

    unused : is_free (entry_at s.table (lowest_free s.table)) ≡ true
    unused = free-lowest s.table (omega (arith, lowest, many))

    add-edits : Edits N s (lowest_free s.table) new
    unfolding file_made edit_facts
    add-edits = record {
      inside = lowest;
      eight = (name-added b N s i k l n name a).0;
      none = refl;
      good = good-added k l n shaped N s.table (good-table image s ok) (lowest_gap (is_taken s.table) N n) stands name (name-added b N s i k l n name a).0 (name-added b N s i k l n name a).1 a.untaken (lowest_free s.table);
      shut = free-shut image s ok (lowest_free s.table) unused;
      said = a.mounted;
    }

    add-added : Added N s.table (lowest_free s.table) new
    unfolding file_made
    add-added = record {
      unused = unused;
      clear = stands;
      lies =
          let h : entry_at (set s.table (lowest_free s.table) new) (lowest_free s.table) ≡ new = get_or-set_same s.table (lowest_free s.table) new free_entry (omega (arith, lowest, many)) in
          rw h at (lies N (set s.table (lowest_free s.table) new) add-edits.good (lowest_free s.table) (rw h (λ (z : k ≡ 0). omega (arith, shape-kind k l n shaped))));
    }

  module _ (name : List ℕ) (d : Deletes (edit_facts b N s i Delete name)) where
    used : is_free (entry_at s.table i) ≡ false
    unfolding edit_facts
    used = not-true (is_free (entry_at s.table i)) d.used

    delete-edits : Edits N s i free_entry
    unfolding edit_facts
    delete-edits = record {
      inside = omega (arith, many, used-inside s.table i (eqb-false (entry_at s.table i).kind 0 used));
      eight = refl;
      none = refl;
      good = good-freed N s.table (good-table image s ok) i;
      shut = d.shut;
      said = honest image s ok i used;
    }

  pub edits-done : (x : Edit) (name : List ℕ) → edit_answer_by b image s i x name ≡ Done → Edits N s (edited_number x s.table i) (edited_entry x N s.table name)
  unfolding edit_answer_by edited_number edited_entry
  edits-done (Add k l n) name h = add-edits k l n name (done-edits (Add k l n) _ h)
  edits-done Delete name h = delete-edits name (done-edits Delete _ h)

  pub added-done : (k l n : ℕ) (name : List ℕ) → edit_answer_by b image s i (Add k l n) name ≡ Done
      → Added N s.table (edited_number (Add k l n) s.table i) (edited_entry (Add k l n) N s.table name)
  unfolding edit_answer_by edited_number edited_entry
  added-done k l n name h = add-added k l n name (done-edits (Add k l n) _ h)

-- ---- the session stays legal

pub legal-edited : (image image' : List ℕ) (s : Session) (n : ℕ) (e : Entry) → legal image s ≡ true → Edits (sectors_of image) s n e → length image' ≡ length image
    → legal image' (record { says = s.says; table = set s.table n e; files = s.files }) ≡ true
legal-edited image image' s n e ok h long =
    legal-length image' image _ long ∙ legal-elsewhere image s ok n h.shut e h.said h.good

-- ---- an edit, in either engine

module _ {S : Type 0} (lawful : Bool) (tabled : List Entry → S) (image : List ℕ) (s : Session) (i : ℕ) (x : Edit) (name : List ℕ) where
  abbrev n : ℕ
  n = edited_number x s.table i

  abbrev e : Entry
  e = edited_entry x (sectors_of image) s.table name

  -- it is answered 0, and one entry is another; or it is refused, and nothing is
  pub edit-either : (P : Edited S → Type 0)
      → (edit_answer_by lawful image s i x name ≡ Done
      → P (record { answer = Done; told = told_of x n; image = lay_entry one_word_wide entries image n e; session = tabled (set s.table n e) }))
      → ((y : Refusal) → edit_answer_by lawful image s i x name ≡ Refused y → P (record { answer = Refused y; told = []; image = image; session = tabled s.table }))
      → P (edit_by lawful tabled image s i x name)
  unfolding edit_by edit_answer_by told_by image_edited table_edited
  edit-either P done refused = go (edit_answer_by lawful image s i x name) refl
    where
      go : (a : Answer) → edit_answer_by lawful image s i x name ≡ a
          → P (record { answer = a; told = told_by a x n; image = image_edited a image n e; session = tabled (table_edited a s.table n e) })
      go Done h = done h
      go (Met y) h = absurd (never_met x _ y h)
      go (Refused y) h = refused y h

  -- every byte but the 20 of its entry is as it was, and so is the length
  pub outside-edit : Outside (edit_by lawful tabled image s i x name).image image (20 * n) 20
  outside-edit =
      edit-either (λ (r : Edited S). Outside r.image image (20 * n) 20)
      (λ h. laid-outside image n e (eight-done lawful image s i x name h))
      (λ y h. outside-same image (20 * n) 20)

-- ---- the greatest length of any kind

pub longest-most : (kind : ℕ) → longest kind ≤ 3600
unfolding longest
longest-most kind = go (eqb kind 2) (eqb kind 3)
  where
    go : (a b : Bool) → elim a [ true ↦ 360 | false ↦ elim b [ true ↦ 132 | false ↦ 3600 ] ] ≤ 3600
    go true b = omega arith
    go false true = omega arith
    go false false = omega arith
