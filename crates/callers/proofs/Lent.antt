-- The demands of the engines in lent bytes: the bytes keep what a mounting hands out and what a request leaves, so what is proved of the engines on
-- sessions as values holds of them. The first of each demand stands in Demands.antt.
use mathlib.Core.Path.{◌≡◌, sym, ap, ◌∙◌}
use mathlib.Core.Bool.{Bool, true, false, not}
use mathlib.Core.List.{List, [], ◌∷◌, ◌++◌}
use Prim.Native.Nat.{ℕ, ◌*◌}
use lib.ListN.{length, get_or}
use Rattle.geometry.specs.Bytes.{part}
use Rattle.geometry.specs.Lists.{every}
use Rattle.geometry.specs.Sizes.{sector}
use Rattle.directory.specs.Entries.{entry_at}
use Rattle.mounting.specs.Mounting.{mounts}
use Rattle.sessions.specs.Session.{extent}
use Rattle.sessions.specs.declared.BufferedSession.{BufferedSession}
use Rattle.steps.specs.Step.{held_of}
use Rattle.tapes.specs.Model.{Asked, models_of, nothing_open}
use Rattle.tapes.specs.Runs.{Asking, Heard, touched}
use Rattle.storing.specs.Stored.{session_in}
use Rattle.demands.specs.Engine.{plain_engine, buffered_engine, Standing, run, mounted, in_bytes}
use Rattle.demands.specs.Demand1.{Running}
use Rattle.demands.specs.Demand2.{closing, ReadsBack, RoomAlone}
use Rattle.promises.specs.Edits.{Editable, Adding}
use Rattle.demands.specs.Demand3.{belongs, Outside, Agreeing, Agree}
use Rattle.promises.specs.Buffer.{Buffering, Holding}
use Rattle.promises.specs.Writes.{plain_count, buffered_count, in_run, records, Counted, Writing, Saving}
use Rattle.promises.proofs.Adding.{adds}
use Rattle.demands.proofs.Agree.{agree}
use Rattle.promises.proofs.Editable.{editable}
use Rattle.promises.proofs.Buffering.{buffering}
use Rattle.promises.proofs.Holding.{holding}
use Rattle.promises.proofs.Writes.{plain-counted, buffered-counted, saving}
use Rattle.demands.proofs.Running.{running}
use Rattle.demands.proofs.ReadsBack.{reads-back, room-alone}
use Rattle.callers.specs.Lent.{engine_of, lent_engine, lent_plain, lent_buffered}
use Rattle.callers.proofs.Demands.{lent-orderly, lent-passing, lent-faithful, lent-buffering, plain-same, buffered-same, lent-counted, value-writing, lent-sum}
use Rattle.callers.proofs.Runs.{opened, then-opened, then-reports, then-heard, then-models, then-image}

-- ---- demand 1

pub lent-running : (u : Bool) → Running (lent_engine u)
lent-running u = running (lent_engine u) (lent-orderly u) (lent-passing u)

-- ---- demand 2

pub lent_back : (u : Bool) → ReadsBack (lent_engine u)
lent_back u = reads-back (lent_engine u) (lent-faithful u)

pub lent-room : (u : Bool) → RoomAlone (lent_engine u)
lent-room u = room-alone (lent_engine u) (lent-faithful u)

-- ---- ADD and DELETE

pub lent-editable : (u : Bool) → Editable (lent_engine u)
lent-editable u = editable (lent_engine u) (lent-orderly u)

pub lent-adding : (u : Bool) → Adding (lent_engine u)
lent-adding u = adds (lent_engine u) (lent-faithful u)

-- ---- demand 3

module _ (image : List ℕ) (ok : mounts image ≡ true) (asked : List Asking) (fit : in_bytes image asked ≡ true) where
  on_values : Agreeing plain_engine buffered_engine image asked
  on_values = agree.agreeing image ok asked fit

  plain-image : (run lent_plain (mounted lent_plain image) asked).image ≡ (run plain_engine (mounted plain_engine image) asked).image
  plain-image = then-image false image asked fit

  buffered-image : (run lent_buffered (mounted lent_buffered image) asked).image ≡ (run buffered_engine (mounted buffered_engine image) asked).image
  buffered-image = then-image true image asked fit

  buffered-session : session_in true (run lent_buffered (mounted lent_buffered image) asked).session ≡ (run buffered_engine (mounted buffered_engine image) asked).session
  buffered-session = ap (λ (v : Standing BufferedSession). v.session) (then-opened true image asked fit)

  outside : (u : Bool) (j : ℕ) → Outside (lent_engine u) image asked j → Outside (engine_of u) image asked j
  outside u j h = ap (λ (hs : List Heard). every (λ t. not (belongs j t)) (touched (models_of image) hs)) (sym (then-heard u image asked fit)) ∙ h

  lent-agreeing : Agreeing lent_plain lent_buffered image asked
  lent-agreeing = record {
    alike =
        then-reports false image asked fit
        ∙ on_values.alike
        ∙ sym (then-reports true image asked fit);
    same = then-models false image asked fit ∙ on_values.same ∙ sym (then-models true image asked fit);
    untouched = (
      (ap length plain-image ∙ on_values.untouched.0.0, λ j h. ap (λ (b : List ℕ). get_or b j 0) plain-image ∙ on_values.untouched.0.1 j (outside false j h)),
      (ap length buffered-image ∙ on_values.untouched.1.0, λ j h. ap (λ (b : List ℕ). get_or b j 0) buffered-image ∙ on_values.untouched.1.1 j (outside true j h)),
    );
    when_idle = λ z.
        let m = then-models false image asked fit in
        let n = on_values.when_idle (ap nothing_open (sym m) ∙ z) in
        (plain-image ∙ n.0 ∙ sym buffered-image, ap mounts plain-image ∙ n.1, ap models_of plain-image ∙ n.2 ∙ sym m);
    held = λ i e b p k q h.
        on_values.held i e b (ap (λ (s : BufferedSession). entry_at s.table i) (sym buffered-session) ∙ p) k (ap (λ (s : BufferedSession). held_of s i) (sym buffered-session) ∙ q) h
        ∙ ap (λ (x : List ℕ). part (extent e x) (sector * b.held) sector) (sym plain-image);
  }

pub lent-agree : Agree lent_plain lent_buffered
lent-agree = record { first = lent-faithful false; second = lent-faithful true; agreeing = lent-agreeing }

-- ---- the blocking buffer

pub lent-buffered-buffering : Buffering lent_buffered
lent-buffered-buffering = lent-buffering true buffering

pub lent-buffered-holding : Holding lent_buffered
lent-buffered-holding = holding lent_buffered lent-buffered-buffering

-- ---- the sectors written

pub lent-plain-counted : Counted lent_plain (plain_count lent_plain)
lent-plain-counted = lent-counted false (plain_count lent_plain) (plain_count plain_engine) (plain-same false) plain-counted

pub lent-buffered-counted : Counted lent_buffered (buffered_count lent_buffered)
lent-buffered-counted = lent-counted true (buffered_count lent_buffered) (buffered_count buffered_engine) (buffered-same true) buffered-counted

module _ (w : Standing (List ℕ)) (i p q : ℕ) (asked : List Asked) where
  plain-sum : Writing lent_plain w i p q asked → in_run lent_plain (plain_count lent_plain) w asked ≡ in_run plain_engine (plain_count plain_engine) (opened false w) asked
  plain-sum b = lent-sum false w i p q asked b (plain_count lent_plain) (plain_count plain_engine) (plain-same false)

  buffered-sum : Writing lent_buffered w i p q asked
      → in_run lent_buffered (buffered_count lent_buffered) w asked ≡ in_run buffered_engine (buffered_count buffered_engine) (opened true w) asked
  buffered-sum b = lent-sum true w i p q asked b (buffered_count lent_buffered) (buffered_count buffered_engine) (buffered-same true)

pub lent-saving : Saving lent_plain lent_buffered
lent-saving = record {
  plain = λ w i p q givens b.
      plain-sum w i p q (records i givens) b ∙ saving.plain _ i p q givens (value-writing false w i p q (records i givens) b);
  buffered = λ w i p q given givens b.
      let asked : List Asked = records i (given ∷ givens) in
      buffered-sum w i p q asked b ∙ saving.buffered _ i p q given givens (value-writing true w i p q asked b);
  in_sector = λ w i p q givens b e l.
      let r = saving.in_sector _ i p q givens (value-writing true w i p q (records i givens) b) e l in
      let z = buffered-sum w i p q (records i givens) b in
      (rw z r.0, λ c. z ∙ r.1 c);
  whole = λ w i q given givens c b.
      let asked : List Asked = records i (given ∷ givens) ++ (closing i ∷ []) in
      buffered-sum w i 0 q asked b ∙ saving.whole _ i q given givens c (value-writing true w i 0 q asked b);
}
