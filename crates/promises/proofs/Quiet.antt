-- A quiet request takes sectors and puts buffers back, and does nothing else to bytes. With no buffers that writes no sector; with buffers of which none has
-- changed it writes none either, and leaves none changed. So the image stays as it was mounted, since a mounting changes no buffer.
use mathlib.Core.Path.{◌≡◌, refl, ap, ◌∙◌}
use mathlib.Core.Bool.{Bool, true, false, ◌&&◌, not}
use mathlib.Core.List.{List, [], ◌∷◌, map}
use Prim.Native.Nat.{ℕ}
use native.Mathlib.Omega.{arith}
use lib.Dec.{eqb, ltb}
use lib.ListN.{length, get_or}
use borrow.Author.Tests.{not-true}
use Rattle.geometry.specs.Lists.{every}
use Rattle.geometry.specs.Sizes.{sector, blocked, compressed}
use Rattle.geometry.proofs.Tests.{both_ways, and_left, and_right, every_any, every_set}
use Rattle.directory.specs.Entries.{is_kind}
use Rattle.packing.specs.Reading.{goes_on}
use Rattle.requests.specs.declared.Answer.{Answer}
use Rattle.requests.specs.declared.Answer.TheVariants.{Done, Met, Refused}
use Rattle.requests.specs.declared.Order.TheVariants.{WriteMark, RewindOnline, RewindOffline, RecordForward, RecordBack, FileForward, FileBack}
use Rattle.requests.specs.declared.Request.{Request}
use Rattle.requests.specs.declared.Request.TheVariants.{Open, Read, Write, GranuleRead, GranuleWrite, GranuleLook, Position}
use Rattle.sessions.specs.Session.{idle, fresh, bare, file_of, slot_of, unheld, has_buffer}
use Rattle.sessions.specs.declared.BufferedFile.{BufferedFile}
use Rattle.sessions.specs.declared.BufferedSession.{BufferedSession}
use Rattle.sessions.specs.declared.OpenFile.{OpenFile}
use Rattle.mounting.specs.Mounting.{plain_mount, buffered_mount}
use Rattle.steps.specs.Effects.{Effect, hold, change, store, stamp, put_back, effects, read_effects, Bench, putting_back, loaded, taking, buffered_do, buffered_all}
use Rattle.steps.specs.Next.{Scene}
use Rattle.steps.specs.Step.{held_of, kept, buffered_scene, buffered_answer, buffered_after, buffered_step}
use Rattle.serving.proofs.Taped.{of-both}
use Rattle.tapes.specs.Model.{Asked}
use Rattle.tapes.specs.Runs.{Asking, of_file, of_directory}
use Rattle.demands.specs.Engine.{Engine, plain_engine, buffered_engine, Standing, answered, step_of, next, run, mounted}
use Rattle.promises.specs.Quiet.{is_quiet, asks_quietly, Quiet}
use Rattle.promises.specs.Writes.{plain_writes, buffered_writes, effects_of, plain_sum, buffered_sum, scene_at, bench_at, plain_count, buffered_count}
use Rattle.promises.proofs.Writes.{back-unchanged, take-unchanged, plain-counted, buffered-counted}

-- ---- what a quiet request does to bytes

-- it takes a sector, or puts the buffer back
unfoldable calm : Effect → Bool
calm (hold k) = true
calm (change x) = false
calm (store x) = false
calm (stamp xs) = false
calm put_back = true

read-calm : (c : Scene) → every calm (read_effects c) ≡ true
unfolding read_effects every calm
read-calm c =
    of-both Calm (is_kind blocked c.entry) refl
    (of-both Calm (is_kind compressed c.entry) (of-both Calm (goes_on c.bytes c.file.here && ltb c.file.here.byte sector) refl refl) refl)
  where
    Calm : List Effect → Type 0
    Calm xs = every calm xs ≡ true

quiet_calm : (q : Request) → is_quiet q ≡ true → (c : Scene) → every calm (effects q c) ≡ true
unfolding is_quiet effects every calm
quiet_calm Open h c = refl
quiet_calm Read h c = read-calm c
quiet_calm Write h c = both_ways false h refl
quiet_calm (GranuleRead g) h c = refl
quiet_calm (GranuleWrite g) h c = both_ways false h refl
quiet_calm (GranuleLook g) h c = refl
quiet_calm (Position WriteMark) h c = refl
quiet_calm (Position RewindOnline) h c = refl
quiet_calm (Position RewindOffline) h c = both_ways false h refl
quiet_calm (Position RecordForward) h c = refl
quiet_calm (Position RecordBack) h c = refl
quiet_calm (Position FileForward) h c = refl
quiet_calm (Position FileBack) h c = refl

-- whatever the answer
answered-calm : (x : Answer) (q : Request) → is_quiet q ≡ true → (c : Scene) → every calm (effects_of x q c) ≡ true
unfolding effects_of every
answered-calm Done q h c = quiet_calm q h c
answered-calm (Met x) q h c = refl
answered-calm (Refused x) q h c = refl

-- ---- that writes no sector

plain-one : (x : Effect) → calm x ≡ true → plain_writes x ≡ 0
unfolding calm plain_writes
plain-one (hold k) h = refl
plain-one (change x) h = both_ways false h refl
plain-one (store x) h = both_ways false h refl
plain-one (stamp xs) h = both_ways false h refl
plain-one put_back h = refl

plain-none : (xs : List Effect) → every calm xs ≡ true → plain_sum xs ≡ 0
unfolding every plain_sum
plain-none [] h = refl
plain-none (x ∷ xs) h = omega (arith, plain-one x (and_left (calm x) _ h), plain-none xs (and_right (calm x) _ h))

-- by way of a buffer that has not changed, which then has not changed either
abbrev Still : Bench → Type 0
Still w = w.file.changed ≡ false

module _ (c : Scene) where
  buffered-one : (x : Effect) (w : Bench) → calm x ≡ true → Still w → (buffered_writes c.entry x w ≡ 0) × Still (buffered_do c x w)
  unfolding calm buffered_writes buffered_do taking loaded putting_back
  buffered-one (hold k) w h u = (take-unchanged k w u, of-both Still (w.file.holds && eqb w.file.held k) u refl)
  buffered-one (change x) w h u = both_ways false h refl
  buffered-one (store x) w h u = both_ways false h refl
  buffered-one (stamp xs) w h u = both_ways false h refl
  buffered-one put_back w h u = (
    of-both (λ (n : ℕ). n ≡ 0) (has_buffer c.entry) (back-unchanged w u) refl,
    of-both Still (has_buffer c.entry) (of-both Still (w.file.holds && w.file.changed) refl u) u,
  )

  buffered-none : (xs : List Effect) (w : Bench) → every calm xs ≡ true → Still w → (buffered_sum c xs w ≡ 0) × Still (buffered_all c xs w)
  unfolding every buffered_sum buffered_all
  buffered-none [] w h u = (refl, u)
  buffered-none (x ∷ xs) w h u =
      let y = buffered-one x w (and_left (calm x) _ h) u in
      let z = buffered-none xs (buffered_do c x w) (and_right (calm x) _ h) y.1 in
      (omega (arith, y.0, z.0), z.1)

-- ---- a session of which no buffer has changed

abbrev same : BufferedFile → Bool
same b = not b.changed

abbrev Unchanged : BufferedSession → Type 0
Unchanged s = every same s.files ≡ true

held_same : (s : BufferedSession) (i : ℕ) → Unchanged s → (held_of s i).changed ≡ false
unfolding held_of
held_same s i h =
    let k : ℕ = slot_of (bare s).files i in
    let x : BufferedFile = get_or s.files k (fresh idle) in
    of-both (λ (b : BufferedFile). b.changed ≡ false) (file_of (bare s).files i).used {x = x} {y = fresh idle}
    (not-true x.changed (every_any same s.files k (fresh idle) h refl)) refl

kept_same : (f : OpenFile) (b : BufferedFile) → b.changed ≡ false → same (kept f b) ≡ true
unfolding kept
kept_same f b u = of-both (λ (x : BufferedFile). same x ≡ true) f.used (ap not u) refl

-- a mounting hands out one
fresh-same : (fs : List OpenFile) → every same (map fresh fs) ≡ true
unfolding every
fresh-same [] = refl
fresh-same (f ∷ fs) = fresh-same fs

-- and a quiet request leaves one
step_same : (image : List ℕ) (s : BufferedSession) (i : ℕ) (q : Request) (given buffer : List ℕ) → is_quiet q ≡ true → Unchanged s
    → Unchanged (buffered_step image s i q given buffer).session
unfolding buffered_step
step_same image s i q given buffer t h = go (buffered_answer image s i q given (length buffer))
  where
    c : Scene
    c = buffered_scene image s i given

    go : (a : Answer) → Unchanged (buffered_after a image s q c (held_of s i) buffer).session
    go Done = unfold buffered_after in
        every_set same s.files _ _ h
        (kept_same _ _ (buffered-none c (effects q c) (record { image = image; file = held_of s i }) (quiet_calm q t c) (held_same s i h)).1)
    go (Met x) = unfold buffered_after in every_set same s.files _ _ h (kept_same _ _ (held_same s i h))
    go (Refused x) = unfold buffered_after in h

-- ---- a run, in an engine of which each quiet request leaves the image and keeps what makes it so

module _ (E : Engine) (Calm : E.Session → Type 0) (begins : (image : List ℕ) → Calm (E.mount image).session)
    (leaves : (w : Standing E.Session) (a : Asked) → is_quiet a.request ≡ true → Calm w.session
    → ((answered E w a).image ≡ w.image) × Calm (answered E w a).session) where
  quiet-run : (asked : List Asking) (w : Standing E.Session) → every asks_quietly asked ≡ true → Calm w.session → (run E w asked).image ≡ w.image
  unfolding run every asks_quietly next step_of
  quiet-run [] w h t = refl
  quiet-run (of_file a ∷ asked) w h t =
      let l = leaves w a (and_left (is_quiet a.request) _ h) t in
      quiet-run asked (step_of E w a) (and_right (is_quiet a.request) _ h) l.1 ∙ l.0
  quiet-run (of_directory x ∷ asked) w h t = both_ways false h refl

  quiet-engine : Quiet E
  unfolding mounted
  quiet-engine = record { stays = λ image asked fit h. quiet-run asked (mounted E image) h (begins image) }

-- ---- both engines

pub plain_quiet : Quiet plain_engine
unfolding plain_count
plain_quiet = quiet-engine plain_engine (λ s. Unit {0}) (λ image. tt) λ w a t s.
    (plain-counted.none w a (plain-none _ (answered-calm (answered plain_engine w a).answer a.request t (scene_at plain_engine w a))), tt)

pub buffered-quiet : Quiet buffered_engine
unfolding buffered_count answered buffered_mount unheld
buffered-quiet = quiet-engine buffered_engine Unchanged (λ image. fresh-same (plain_mount image).session.files) λ w a t s.
    let c : Scene = scene_at buffered_engine w a in
    let b : Bench = bench_at buffered_engine w a.entry in (
      buffered-counted.none w a
          (buffered-none c _ b (answered-calm (answered buffered_engine w a).answer a.request t c) (held_same w.session a.entry s)).0,
      step_same w.image w.session a.entry a.request a.given a.buffer t s,
    )
