-- An edit looks for the same in a session's table as in the tapes and rows that the session shows, so it is answered alike: an entry is free where nothing is shown, and
-- the shape of a file that is shown is its entry's.
use mathlib.Core.Path.{◌≡◌, refl, sym, ap, ◌∙◌}
use mathlib.Core.Bool.{Bool, true, false, ◌&&◌, not}
use mathlib.Core.List.{List, [], ◌∷◌, map}
use Prim.Native.Nat.{ℕ, suc}
use native.Mathlib.Omega.{arith}
use lib.Dec.{eqb}
use lib.ListN.{length, length-map, get_or-map}
use lib.Seq.{ext_get_or}
use borrow.Author.Tests.{eqb-true, eq-eqb}
use Rattle.geometry.specs.Lists.{every, first_with, same}
use Rattle.geometry.specs.Sizes.{entries, random, sectors_of}
use Rattle.geometry.proofs.Tests.{either, and_left}
use Rattle.names.specs.Names.{is_name}
use Rattle.directory.specs.Entries.{entry_at, free_entry, is_free, is_kind}
use Rattle.directory.specs.Search.{matches}
use Rattle.directory.proofs.Table.{get_d_any}
use Rattle.gaps.specs.Gaps.{lowest_free, used_by, is_taken, lowest_gap}
use Rattle.shapes.specs.Made.{is_named}
use Rattle.gaps.proofs.Gaps.{gap_same}
use Rattle.requests.specs.Judge.{judge_edit}
use Rattle.requests.proofs.Edits.{bad-name}
use Rattle.sessions.specs.Session.{idle, file_of, extent, legal}
use Rattle.steps.specs.Edit.{is_taken_name, edit_facts, edited_number, edited_entry, told_of, edit_answer_by, plain_edit_answer}
use Rattle.tapes.specs.Edits.{Editing, of_shape, is_nothing, model_named, model_has, model_taken, model_free, model_gap, model_edit_facts, edit_answer, model_number, model_made, model_told}
use Rattle.tapes.specs.Model.{Model, nothing, shape_of}
use Rattle.tapes.specs.Tape.{Shape}
use Rattle.serving.proofs.Lifting.{Stands}
use Rattle.serving.proofs.Mounted.{idle-shows}
use Rattle.serving.proofs.Solo.{shows}
use Rattle.serving.proofs.View.{shows_at, view, shows-free, length-view, view-at, open_at}
use Rattle.directory.specs.declared.Entry.{Entry}
use Rattle.requests.specs.declared.Edit.{Edit}
use Rattle.requests.specs.declared.Edit.TheVariants.{Add, Delete}
use Rattle.sessions.specs.declared.OpenFile.{OpenFile}
use Rattle.sessions.specs.declared.Session.{Session}

-- ---- what an entry shows, and what its table says of it

module _ (e : Entry) (f : OpenFile) (bytes : List ℕ) where
  nothing-shows : is_nothing (shows e f bytes) ≡ is_free e
  unfolding shows is_nothing
  nothing-shows =
      either (is_free e) (λ (u : is_free e ≡ true). rw (u, shows))
      λ (u : is_free e ≡ false). either (is_kind random e) (λ (r : is_kind random e ≡ true). rw (u, r, shows)) (λ (r : is_kind random e ≡ false). rw (u, r, shows))

  shape-shows : (g : Shape → Bool) → of_shape g false (shows e f bytes) ≡ (not (is_free e) && g (shape_of e))
  unfolding shows of_shape
  shape-shows g =
      either (is_free e) (λ (u : is_free e ≡ true). rw (u, shows))
      λ (u : is_free e ≡ false). either (is_kind random e) (λ (r : is_kind random e ≡ true). rw (u, r, shows)) (λ (r : is_kind random e ≡ false). rw (u, r, shows))

  has-shows : (k : ℕ) → model_has k (shows e f bytes) ≡ used_by e k
  unfolding model_has used_by shape_of
  has-shows k = shape-shows _

  named-shows : (name : List ℕ) → length name ≡ 8 → model_named name (shows e f bytes) ≡ matches name e
  unfolding model_named matches shape_of
  named-shows name eight = rw (eq-eqb (length name) 8 eight) (shape-shows (λ g. same g.name name))

-- a test of every member goes by what it says of each, and so does a search
module _ {A : Type 0} (p : A → Bool) where
  every-said : (xs : List A) → every p xs ≡ every (λ b. b) (map p xs)
  unfolding every
  every-said [] = refl
  every-said (x ∷ xs) = ap (λ (b : Bool). p x && b) (every-said xs)

  first_said : (xs : List A) → first_with p xs ≡ first_with (λ b. b) (map p xs)
  unfolding first_with
  first_said [] = refl
  first_said (x ∷ xs) = ap (λ (n : ℕ). elim (p x) [ true ↦ 0 | false ↦ suc n ]) (first_said xs)

module _ (image : List ℕ) (s : Session) (many : length s.table ≡ entries) where
  module _ (p : Model → Bool) (q : Entry → Bool) (h : (i : ℕ) → p (shows_at image s i) ≡ q (entry_at s.table i)) where
    said-alike : map p (view image s) ≡ map q s.table
    said-alike =
        let l : length (map p (view image s)) ≡ entries = length-map (view image s) p ∙ length-view image s in
        let m : length (map q s.table) ≡ entries = length-map s.table q ∙ many in
        ext_get_or (p nothing) (map p (view image s)) (map q s.table) (l ∙ sym m) λ i k.
        get_or-map p (view image s) i nothing
        ∙ ap p (view-at image s many i)
        ∙ h i
        ∙ sym (get_or-map q s.table i free_entry)
        ∙ get_d_any (map q s.table) i (q free_entry) (p nothing) (omega (arith, l, m))

    every-view : every p (view image s) ≡ every q s.table
    every-view = every-said p (view image s) ∙ ap (every (λ b. b)) said-alike ∙ sym (every-said q s.table)

    first-view : first_with p (view image s) ≡ first_with q s.table
    first-view = first_said p (view image s) ∙ ap (first_with (λ b. b)) said-alike ∙ sym (first_said q s.table)

  -- ---- what an edit looks for

  nothing-at : (i : ℕ) → is_nothing (shows_at image s i) ≡ is_free (entry_at s.table i)
  unfolding shows_at
  nothing-at i = nothing-shows (entry_at s.table i) (file_of s.files i) _

  free-view : lowest_free s.table ≡ model_free (view image s)
  unfolding lowest_free model_free
  free-view = sym (first-view is_nothing is_free nothing-at)

  pub taken-view : (k : ℕ) → is_taken s.table k ≡ model_taken (view image s) k
  unfolding is_taken model_taken shows_at
  taken-view k = sym (ap not (every-view (λ m. not (model_has k m)) (λ e. not (used_by e k)) λ i. ap not (has-shows (entry_at s.table i) (file_of s.files i) _ k)))

  pub gap-view : (N n : ℕ) → lowest_gap (is_taken s.table) N n ≡ model_gap (view image s) N n
  unfolding model_gap
  gap-view N n = gap_same (is_taken s.table) N n (model_taken (view image s)) taken-view

  name-view : (name : List ℕ) → length name ≡ 8 → is_taken_name s.table name ≡ not (every (λ m. not (model_named name m)) (view image s))
  unfolding is_taken_name shows_at
  name-view name eight =
      sym (ap not (every-view (λ m. not (model_named name m)) (λ e. not (matches name e)) λ i. ap not (named-shows (entry_at s.table i) (file_of s.files i) _ name eight)))

  pub edit-number : (x : Edit) (i : ℕ) → edited_number x s.table i ≡ model_number x (view image s) i
  unfolding edited_number model_number
  edit-number (Add k l n) i = free-view
  edit-number Delete i = refl

-- ---- the answer

abbrev pub editing : ℕ → Edit → List ℕ → Editing
editing i x name = record { entry = i; edit = x; name = name }

module _ (image : List ℕ) (s : Session) (v : Stands image s) (i : ℕ) (name : List ℕ) where
  abbrev N : ℕ
  N = sectors_of image

  abbrev ms : List Model
  ms = view image s

  add-facts : (k l n : ℕ) → length name ≡ 8 → edit_facts (legal image s) N s i (Add k l n) name ≡ model_edit_facts N ms i (Add k l n) name
  unfolding edit_facts model_edit_facts
  add-facts k l n eight = rw (v.ok, name-view image s v.many name eight, free-view image s v.many, gap-view image s v.many N n, v.said)

  delete-facts : edit_facts (legal image s) N s i Delete name ≡ model_edit_facts N ms i Delete name
  unfolding edit_facts model_edit_facts
  delete-facts = rw (v.ok, view-at image s v.many i, nothing-at image s v.many i, open_at image s v.ok i, v.said)

  pub answer-same : (x : Edit) → plain_edit_answer image s i x name ≡ edit_answer ms (editing i x name) image
  unfolding edit_answer_by edit_answer is_named
  answer-same (Add k l n) =
      either (is_named name)
      (λ (h : is_named name ≡ true). ap (judge_edit (Add k l n)) (add-facts k l n (eqb-true (length name) 8 (and_left (eqb (length name) 8) (is_name name) h))))
      (λ (h : is_named name ≡ false).
      bad-name k l n (edit_facts (legal image s) N s i (Add k l n) name) (unfold edit_facts in v.ok) (unfold edit_facts in v.said) (unfold edit_facts in h)
      ∙ sym (bad-name k l n (model_edit_facts N ms i (Add k l n) name) (unfold model_edit_facts in refl) (unfold model_edit_facts in refl) (unfold model_edit_facts in h)))
  answer-same Delete = ap (judge_edit Delete) delete-facts

-- what it makes
pub made-shows : (image : List ℕ) (s : Session) → length s.table ≡ entries → (name : List ℕ) (x : Edit)
    → model_made x (view image s) name image ≡ shows (edited_entry x (sectors_of image) s.table name) idle (extent (edited_entry x (sectors_of image) s.table name) image)
unfolding model_made edited_entry
made-shows image s many name (Add k l n) = rw (← (gap-view image s many (sectors_of image) n)) (idle-shows image _)
made-shows image s many name Delete = sym (shows-free free_entry idle _ refl)

pub told_same : (x : Edit) (n : ℕ) → told_of x n ≡ model_told x n
unfolding told_of model_told
told_same (Add k l c) n = refl
told_same Delete n = refl
