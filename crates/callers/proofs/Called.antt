-- The calls are the engines in lent bytes: their contracts cite the same definitions, and the number of the bytes says which engine.
use mathlib.Core.Path.{◌≡◌, refl, sym, ap, ◌∙◌}
use mathlib.Core.Bool.{Bool, true, false}
use mathlib.Core.List.{List, []}
use Prim.Native.Nat.{ℕ}
use Rattle.std.specs.Prelude.{Some}
use lib.Dec.{eqb}
use lib.ListN.{length, replicate}
use borrow.Author.Tests.{eq-eqb}
use Rattle.geometry.specs.Sizes.{most_open}
use Rattle.geometry.proofs.Tests.{either, chosen}
use Rattle.requests.specs.Numbers.{number_of}
use Rattle.sessions.specs.Session.{idle, fresh, bare, unheld, spot_of}
use Rattle.mounting.specs.Mounting.{mounts, start_with, plain_mount, buffered_mount}
use Rattle.steps.specs.Edit.{edit_facts, edited_number, edited_entry, edit_answer_by, edit_by, plain_edit, buffered_edit}
use Rattle.steps.specs.Look.{plain_look, buffered_look}
use Rattle.steps.specs.Step.{plain_step, buffered_step}
use Rattle.storing.specs.Stored.{size_of, has_buffers, is_session, session_in, stored, plain_in, plain_stored, lay_start}
use Rattle.storing.proofs.Read.{told-by-size}
use Rattle.judging.specs.Lent.{lent_after}
use Rattle.engines.specs.Engines as Engines
use Rattle.looking.specs.Looking.{look_in}
use Rattle.editing.specs.Editing.{lent_edited, edited_in}
use Rattle.calling.specs.Mounted.{mount_number, mount_bytes}
use Rattle.asking.specs.Requested.{requested}
use Rattle.looking.proofs.Shown.{look_is}
use Rattle.callers.specs.Lent.{lent_engine, left_of, Called}
use Rattle.requests.specs.declared.Edit.{Edit}
use Rattle.requests.specs.declared.Edit.TheVariants.{Add, Delete}
use Rattle.requests.specs.declared.Request.{Request}

-- ---- by the number of the bytes

module _ (image b : List ℕ) (i : ℕ) (q : Request) (given buffer : List ℕ) where
  in-rattle : Engines.requested image b i q given buffer ≡ (lent_engine (has_buffers b)).request image b i q given buffer
  unfolding Engines.requested
  in-rattle = by (has_buffers b)
    where
      by : (u : Bool) → elim u [
        | true ↦ lent_after (is_session true b) (stored true) b (buffered_step image (session_in true b) i q given buffer)
        | false ↦ lent_after (is_session false b) plain_stored b (plain_step image (plain_in b) i q given buffer)
      ] ≡ (lent_engine u).request image b i q given buffer
      by true = refl
      by false = refl

  from-c : requested image b i (Some q) given buffer ≡ left_of ((lent_engine (has_buffers b)).request image b i q given buffer)
  unfolding requested
  from-c = ap left_of in-rattle

-- ---- an edit

edits-are : (image b : List ℕ) (i : ℕ) (x : Edit) (name : List ℕ) → edited_in image b i x name ≡ (lent_engine (has_buffers b)).edit image b i x name
unfolding edited_in
edits-are image b i x name = by (has_buffers b)
  where
    by : (u : Bool) → elim u [
      | true ↦ lent_edited (is_session true b) (stored true) b (buffered_edit image (session_in true b) i x name)
      | false ↦ lent_edited (is_session false b) plain_stored b (plain_edit image (plain_in b) i x name)
    ] ≡ (lent_engine u).edit image b i x name
    by true = refl
    by false = refl

-- an adding does not look at the entry's number that it is given, nor a deleting at the name
adds_same : (image b : List ℕ) (i kind size sectors : ℕ) (name : List ℕ) → edited_in image b 0 (Add kind size sectors) name ≡ edited_in image b i (Add kind size sectors) name
unfolding edited_in edit_by edit_answer_by edit_facts edited_number
adds_same image b i kind size sectors name = refl

deletes-same : (image b : List ℕ) (i : ℕ) (name : List ℕ) → edited_in image b i Delete [] ≡ edited_in image b i Delete name
unfolding edited_in edit_by edit_answer_by edit_facts edited_entry
deletes-same image b i name = refl

shows : (image b : List ℕ) (i g : ℕ) → look_in image b i g ≡ (lent_engine (has_buffers b)).look image b i g
unfolding look_in
shows image b i g = by (has_buffers b)
  where
    by : (u : Bool) → elim u [ true ↦ buffered_look image (session_in true b) i g | false ↦ plain_look image (plain_in b) i g ] ≡ (lent_engine u).look image b i g
    by true = refl
    by false = refl

position : (u : Bool) (b : List ℕ) (i : ℕ) → spot_of (bare (session_in u b)) i ≡ (lent_engine u).position b i
position true b i = refl
position false b i = refl

-- ---- mounting

-- with nothing open
start_is : (image : List ℕ) → record { says = (plain_mount image).session.says; table = (plain_mount image).session.table; files = replicate most_open (fresh idle) } ≡ unheld (plain_mount image).session
unfolding plain_mount start_with unheld
start_is image = either (mounts image) (λ (m : mounts image ≡ true). rw (m, plain_mount)) (λ (m : mounts image ≡ false). rw (m, plain_mount))

answer-is : (u : Bool) (image : List ℕ) → (plain_mount image).answer ≡ ((lent_engine u).mount image).answer
answer-is true image = unfold buffered_mount in refl
answer-is false image = refl

bytes-are : (u : Bool) (image : List ℕ) → stored u (unheld (plain_mount image).session) ≡ ((lent_engine u).mount image).session
bytes-are true image = unfold buffered_mount in refl
bytes-are false image = refl

module _ (u : Bool) (image b : List ℕ) (l : length b ≡ size_of u) where
  told : has_buffers b ≡ u
  told = told-by-size u b l

  sized : eqb (length b) (size_of (has_buffers b)) ≡ true
  sized = eq-eqb (length b) (size_of (has_buffers b)) (l ∙ ap size_of (sym told))

  number-told : mount_number image b ≡ number_of ((lent_engine u).mount image).answer
  unfolding mount_number
  number-told = chosen (eqb (length b) (size_of (has_buffers b))) _ _ sized ∙ ap number_of (answer-is u image)

  session-told : mount_bytes image b ≡ ((lent_engine u).mount image).session
  unfolding mount_bytes lay_start
  session-told =
      chosen (eqb (length b) (size_of (has_buffers b))) _ _ sized
      ∙ ap (stored (has_buffers b)) (start_is image)
      ∙ ap (λ (v : Bool). stored v (unheld (plain_mount image).session)) told
      ∙ bytes-are u image

pub called : Called
called = record {
  in_rattle = in-rattle;
  requests = from-c;
  edits = edits-are;
  adds = adds_same;
  deletes = deletes-same;
  positions = λ b. position (has_buffers b) b;
  shows = shows;
  places = look_is;
  number = number-told;
  session = session-told;
}
