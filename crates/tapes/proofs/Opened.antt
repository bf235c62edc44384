-- Only an opening answered 0 makes a file open that was not: no other request does, and no edit.
use mathlib.Core.Path.{◌≡◌, refl, ap}
use mathlib.Core.Logic.{◌⊎◌, inl, inr}
use mathlib.Core.Bool.{true, false}
use mathlib.Core.List.{List}
use Prim.Native.Nat.{ℕ, ◌<◌}
use native.Mathlib.Omega.{arith}
use native.Mathlib.Decide.{dec_lt, ℕ_discrete}
use lib.Dec.{eqb}
use lib.ListN.{length, set}
use lib.Seq.{get_or-set_same, get_or-set_other, set_out}
use Rattle.geometry.specs.Sizes.{random}
use Rattle.geometry.proofs.Tests.{and_both, either, both_ways}
use Rattle.directory.specs.Entries.{is_free, is_kind}
use Rattle.requests.specs.Numbers.{number_of}
use Rattle.requests.proofs.Done.{Live, done-allows, met-meets}
use Rattle.requests.proofs.Live.{Alive, done-live, met-live}
use Rattle.tapes.specs.Tape.{tape_of, tape_facts, tape_next}
use Rattle.tapes.specs.Row.{row_of, row_facts, row_next}
use Rattle.tapes.specs.Model.{Model, nothing, tape, row, model_of, Asked, model_at, model_facts, model_next, is_open_model, open_models, model_answer, model_step, is_opening, opens_now}
use Rattle.tapes.specs.Edits.{Editing, model_made, models_edited, edit_answer, model_number, edit_step}
use Rattle.directory.specs.declared.Entry.{Entry}
use Rattle.requests.specs.declared.Edit.{Edit}
use Rattle.requests.specs.declared.Edit.TheVariants.{Add, Delete}
use Rattle.requests.specs.declared.Answer.{Answer}
use Rattle.requests.specs.declared.Answer.TheVariants.{Done, Met, Refused}
use Rattle.requests.specs.declared.Facts.{Facts}
use Rattle.requests.specs.declared.Refusal.{Refusal}
use Rattle.requests.specs.declared.Request.{Request}
use Rattle.requests.specs.declared.Request.TheVariants.{Open, Read, Write, GranuleRead, GranuleWrite, GranuleLook, Position}

-- a refusal leaves a tape or row as it is
pub refused-stays : (q : Request) (x : Refusal) (given : List ℕ) (m : Model) → model_next q (Refused x) given m ≡ m
unfolding model_next tape_next row_next
refused-stays q x given nothing = refl
refused-stays q x given (tape t) = refl
refused-stays q x given (row w) = refl

opened-facts : (files : ℕ) (given : List ℕ) (buffer : ℕ) (m : Model) → (model_facts files given buffer m).opened ≡ is_open_model m
unfolding model_facts is_open_model tape_facts row_facts
opened-facts files given buffer nothing = refl
opened-facts files given buffer (tape t) = refl
opened-facts files given buffer (row w) = refl

module _ (ms : List Model) (a : Asked) where
  abbrev m : Model
  m = model_at ms a.entry

  abbrev facts : Facts
  facts = model_facts (open_models ms) a.given (length a.buffer) m

  live-open : Live facts → is_open_model m ≡ true
  live-open l = rw (opened-facts (open_models ms) a.given (length a.buffer) m) at l.opened

  -- answered 0: it was open, or is opened now
  done-open : (q : Request) → Alive q facts → (is_open_model m ≡ true) ⊎ (q ≡ Open)
  done-open Open l = inr refl
  done-open Read l = inl (live-open l)
  done-open Write l = inl (live-open l)
  done-open (GranuleRead g) l = inl (live-open l)
  done-open (GranuleWrite g) l = inl (live-open l)
  done-open (GranuleLook g) l = inl (live-open l)
  done-open (Position o) l = inl (live-open l)

  opens : a.request ≡ Open → model_answer ms a ≡ Done → opens_now ms a ≡ true
  unfolding opens_now is_opening
  opens q e = and_both (is_opening a.request) _ (ap is_opening q) (ap (λ (b : Answer). eqb (number_of b) 0) e)

  itself : (b : Answer) → model_answer ms a ≡ b → is_open_model (model_next a.request b a.given m) ≡ true → (is_open_model m ≡ true) ⊎ (opens_now ms a ≡ true)
  unfolding model_answer
  itself Done e h = go (done-open a.request (done-live a.request facts (done-allows a.request facts e)))
    where
      go : (is_open_model m ≡ true) ⊎ (a.request ≡ Open) → (is_open_model m ≡ true) ⊎ (opens_now ms a ≡ true)
      go (inl k) = inl k
      go (inr k) = inr (opens k e)
  itself (Met x) e h = inl (live-open (met-live facts a.request x (met-meets a.request facts x e)))
  itself (Refused x) e h = inl (rw (refused-stays a.request x a.given m) at h)

  pub open_after : (k : ℕ) → is_open_model (model_at (model_step ms a) k) ≡ true → (is_open_model (model_at ms k) ≡ true) ⊎ ((k ≡ a.entry) × (opens_now ms a ≡ true))
  unfolding model_step
  open_after k h = go (ℕ_discrete k a.entry) (dec_lt a.entry (length ms))
    where
      go : Dec (k ≡ a.entry) → Dec (a.entry < length ms) → (is_open_model (model_at ms k) ≡ true) ⊎ ((k ≡ a.entry) × (opens_now ms a ≡ true))
      go (yes z) (yes l) = out (itself (model_answer ms a) refl (rw (z, get_or-set_same ms a.entry (model_next a.request (model_answer ms a) a.given m) nothing l) at h))
        where
          out : (is_open_model m ≡ true) ⊎ (opens_now ms a ≡ true) → (is_open_model (model_at ms k) ≡ true) ⊎ ((k ≡ a.entry) × (opens_now ms a ≡ true))
          out (inl o) = inl (rw z o)
          out (inr o) = inr (z, o)
      go (yes z) (no l) = inl (rw (set_out ms a.entry (model_next a.request (model_answer ms a) a.given m) (omega arith)) at h)
      go (no d) l = inl (rw (get_or-set_other ms a.entry k (model_next a.request (model_answer ms a) a.given m) nothing d) at h)

-- ---- an edit opens no file

shut-of : (image : List ℕ) (e : Entry) → is_open_model (model_of image e) ≡ false
unfolding model_of is_open_model tape_of row_of
shut-of image e =
    either (is_free e) (λ (u : is_free e ≡ true). rw (u, model_of))
    λ (u : is_free e ≡ false). either (is_kind random e) (λ (r : is_kind random e ≡ true). rw (u, r, model_of)) (λ (r : is_kind random e ≡ false). rw (u, r, model_of))

shut-made : (x : Edit) (ms : List Model) (name lies : List ℕ) → is_open_model (model_made x ms name lies) ≡ false
unfolding model_made
shut-made (Add kind length sectors) ms name lies = shut-of lies _
shut-made Delete ms name lies = unfold is_open_model in refl

-- and one that is open behind it is as it was
pub open-edited : (ms : List Model) (x : Editing) (lies : List ℕ) (k : ℕ) → is_open_model (model_at (edit_step ms x lies) k) ≡ true → model_at (edit_step ms x lies) k ≡ model_at ms k
unfolding edit_step
open-edited ms x lies k = go (edit_answer ms x lies)
  where
    n : ℕ
    n = model_number x.edit ms x.entry

    made : Model
    made = model_made x.edit ms x.name lies

    at : Dec (k ≡ n) → Dec (n < length ms) → is_open_model (model_at (set ms n made) k) ≡ true → model_at (set ms n made) k ≡ model_at ms k
    at (yes z) (yes l) h = both_ways (is_open_model made) (rw (z, get_or-set_same ms n made nothing l) at h) (shut-made x.edit ms x.name lies)
    at (yes z) (no l) h = rw (set_out ms n made (omega arith))
    at (no d) l h = get_or-set_other ms n k made nothing d

    go : (a : Answer) → is_open_model (model_at (models_edited a ms n made) k) ≡ true → model_at (models_edited a ms n made) k ≡ model_at ms k
    go Done = unfold models_edited in at (ℕ_discrete k n) (dec_lt n (length ms))
    go (Met y) = unfold models_edited in λ h. refl
    go (Refused y) = unfold models_edited in λ h. refl
