-- The count and the flags that a closing stores are those of the file, in the plain engine: behind it nothing of the file is open, so the image's directory
-- has the entry as the session has it, and the session's entry has the count and the flags of the tape or row that it shows.
use mathlib.Core.Path.{◌≡◌, refl, sym, ap, ◌∙◌}
use mathlib.Core.Bool.{Bool, true, false}
use mathlib.Core.List.{List, []}
use Prim.Native.Nat.{ℕ, ◌+◌, ◌%◌, ◌≤◌}
use native.Mathlib.Omega.{arith}
use lib.Dec.{eqb, leb}
use borrow.Author.Tests.{eqb-true, eqb-false, leb-true, leb-false}
use Rattle.geometry.specs.Sizes.{random, sectors_of}
use Rattle.geometry.specs.Bytes.{word}
use Rattle.geometry.specs.Lists.{every}
use Rattle.geometry.proofs.Tests.{either, all_get_d, every_any, and_left, and_right}
use Rattle.directory.specs.Entries.{entry_at, entry_bytes, free_entry, table_of, is_free, is_kind, is_marked, is_protected}
use Rattle.directory.specs.Rules.{free_is_zero, table_rules, table_good}
use Rattle.directory.proofs.Free.{zero-entry}
use Rattle.sessions.specs.Session.{file_of, extent}
use Rattle.sessions.proofs.Legal.{good-table}
use Rattle.mounting.specs.Mounting.{mounts}
use Rattle.tapes.specs.Tape.{tape_next, tape_done}
use Rattle.tapes.specs.Row.{row_next, row_done}
use Rattle.tapes.specs.Model.{Model, nothing, tape, row, shape_of, model_at, model_next, model_step, is_open_model}
use Rattle.tapes.specs.Runs.{Asking}
use Rattle.serving.proofs.Lifting.{Stands}
use Rattle.serving.proofs.Step.{tape-counts}
use Rattle.serving.proofs.Solo.{shows}
use Rattle.serving.proofs.Taped.{shows-tape}
use Rattle.serving.proofs.View.{shows_at, view-at, open_at}
use Rattle.demands.specs.Engine.{plain_engine, Standing, answered, step_of, run, mounted, models_then, in_bytes}
use Rattle.demands.specs.Demand2.{count_of, flags_of, closing, CountsStored}
use Rattle.demands.proofs.Answers.{no_bytes, bytes_one, step-at, same_answer}
use Rattle.demands.proofs.Plain.{stands-then, view_then, then-stands, then-view, plain-faithful}
use Rattle.directory.specs.declared.Entry.{Entry}
use Rattle.requests.specs.declared.Answer.TheVariants.{Done}
use Rattle.requests.specs.declared.Order.TheVariants.{RewindOffline}
use Rattle.requests.specs.declared.Request.TheVariants.{Position}
use Rattle.sessions.specs.declared.Session.{Session}

-- ---- an entry has the count and the flags of what it shows

flag : ℕ → Bool → ℕ
flag n b = elim b [ true ↦ n | false ↦ 0 ]

flagged : (e : Entry) → e.flags ≤ 3 → e.flags ≡ flag 1 (is_marked e) + flag 2 (is_protected e)
unfolding flag is_marked is_protected
flagged e l = go (eqb (e.flags % 2) 1) (leb 2 e.flags) refl refl
  where
    go : (a b : Bool) → eqb (e.flags % 2) 1 ≡ a → leb 2 e.flags ≡ b → e.flags ≡ elim a [ true ↦ 1 | false ↦ 0 ] + elim b [ true ↦ 2 | false ↦ 0 ]
    go true true x y = omega (arith, eqb-true (e.flags % 2) 1 x, leb-true 2 e.flags y)
    go true false x y = omega (arith, eqb-true (e.flags % 2) 1 x, leb-false 2 e.flags y)
    go false true x y = let n = eqb-false (e.flags % 2) 1 x in omega (arith, leb-true 2 e.flags y)
    go false false x y = let n = eqb-false (e.flags % 2) 1 x in omega (arith, leb-false 2 e.flags y)

module _ (image : List ℕ) (s : Session) (v : Stands image s) (i : ℕ) where
  abbrev e : Entry
  e = entry_at s.table i

  -- a free entry is 20 zero bytes
  free-zero : free_is_zero e ≡ true
  unfolding table_good table_rules free_is_zero entry_bytes every word
  free-zero = every_any free_is_zero s.table i free_entry (all_get_d (table_rules (sectors_of image) s.table) 1 (good-table image s v.ok)) refl

  zeros : is_free e ≡ true → (e.count ≡ 0) × (e.flags ≡ 0)
  unfolding free_is_zero
  zeros u =
      let h : every (λ b. eqb b 0) (entry_bytes e) ≡ true = rw u at free-zero in
      let k = and_right (eqb e.sectors 0) _ (and_right (eqb e.first 0) _ (and_right (eqb e.length 0) _ (and_right (eqb e.kind 0) _ (and_right (every (λ b. eqb b 0) e.name) _ (sym (zero-entry e) ∙ h))))) in
      (eqb-true e.count 0 (and_left (eqb e.count 0) _ k), eqb-true e.flags 0 (and_right (eqb e.count 0) _ k))

  tells : (e.count ≡ count_of (shows_at image s i)) × (e.flags ≡ flags_of (shows_at image s i))
  unfolding shows_at shows count_of flags_of flag shape_of
  tells = either (is_free e)
      (λ (u : is_free e ≡ true). rw (u, shows) (zeros u))
      λ (u : is_free e ≡ false). either (is_kind random e)
      (λ (r : is_kind random e ≡ true).
      let b = (v.sound i u).lawful.bare r in
      let f : e.flags ≡ flag 1 false + flag 2 (is_protected e) = rw b.1 at (flagged e (v.sound i u).lawful.flags) in
      rw (u, r, shows) (b.0, omega arith))
      (λ (r : is_kind random e ≡ false). rw (u, r, shows) ((tape-counts image s v i _ (shows-tape e (file_of s.files i) (extent e image) u r)).0, flagged e (v.sound i u).lawful.flags))

-- ---- a closing

-- what it leaves of a file
closed : (m : Model) (given : List ℕ) → (count_of (model_next (Position RewindOffline) Done given m) ≡ count_of m) × (flags_of (model_next (Position RewindOffline) Done given m) ≡ flags_of m)
    × (is_open_model (model_next (Position RewindOffline) Done given m) ≡ false)
unfolding model_next tape_next tape_done row_next row_done count_of flags_of is_open_model
closed nothing given = (refl, refl, refl)
closed (tape t) given = (refl, refl, refl)
closed (row w) given = (refl, refl, refl)

module _ (image : List ℕ) (ok : mounts image ≡ true) (before : List Asking) (i : ℕ) (fit : in_bytes image before ≡ true) where
  abbrev w : Standing Session
  w = run plain_engine (mounted plain_engine image) before

  abbrev ms : List Model
  ms = models_then plain_engine image before

  v : Stands w.image w.session
  v = then-stands image ok before

  abbrev w' : Standing Session
  w' = step_of plain_engine w (closing i)

  v' : Stands w'.image w'.session
  v' = stands-then w v (closing i)

  module _ (done : (answered plain_engine w (closing i)).answer ≡ Done) where
    shows-closed : shows_at w'.image w'.session i ≡ model_next (Position RewindOffline) Done [] (model_at ms i)
    shows-closed =
        sym (view-at w'.image w'.session v'.many i)
        ∙ ap (λ (ms : List Model). model_at ms i) (view_then w v (closing i) ∙ ap (λ (ms : List Model). model_step ms (closing i)) (then-view image ok before))
        ∙ step-at ms (closing i) Done (sym (same_answer plain_engine plain-faithful image ok before (closing i) (bytes_one image before (closing i) fit no_bytes)) ∙ done)

    shut : (file_of w'.session.files i).used ≡ false
    shut = sym (open_at w'.image w'.session v'.ok i) ∙ ap is_open_model shows-closed ∙ (closed (model_at ms i) []).2

    counted : (entry_at (table_of (answered plain_engine w (closing i)).image) i).count ≡ count_of (model_at ms i)
    unfolding step_of
    counted = ap (λ (e : Entry). e.count) (sym (v'.stored i shut)) ∙ (tells w'.image w'.session v' i).0 ∙ ap count_of shows-closed ∙ (closed (model_at ms i) []).0

    marked : (entry_at (table_of (answered plain_engine w (closing i)).image) i).flags ≡ flags_of (model_at ms i)
    unfolding step_of
    marked = ap (λ (e : Entry). e.flags) (sym (v'.stored i shut)) ∙ (tells w'.image w'.session v' i).1 ∙ ap flags_of shows-closed ∙ (closed (model_at ms i) []).1

pub plain-counts : CountsStored plain_engine
plain-counts = record {
  stored = λ image ok before i fit m here done. (counted image ok before i fit done ∙ ap count_of here, marked image ok before i fit done ∙ ap flags_of here);
}
