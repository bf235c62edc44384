-- How many sectors of the image each engine writes. "a blocking buffer of 360 bytes, put back before another sector takes it" is there to save
-- them: of a blocked file's records that lie in one sector the plain engine writes each, the buffered engine all at once. As statements over engines.
use Rattle.std.specs.Prelude.{◌≡◌, Bool, true, false, ◌&&◌, List, [], ◌∷◌, ◌++◌, map, ℕ, ◌+◌, ◌-◌, ◌/◌, ◌%◌, ◌≤◌, length, eqb}
use Rattle.geometry.specs.Lists.{every}
use Rattle.geometry.specs.Places.{per_sector, sectors_for}
use Rattle.geometry.specs.Sizes.{blocked}
use Rattle.directory.specs.Entries.{entry_at, is_kind}
use Rattle.sessions.specs.Session.{bare, file_of, has_buffer}
use Rattle.requests.specs.Numbers.{number_of}
use Rattle.steps.specs.Effects.{Effect, hold, change, store, stamp, put_back, effects, Bench, buffered_do}
use Rattle.steps.specs.Next.{Scene}
use Rattle.steps.specs.Step.{buffered_scene}
use Rattle.tapes.specs.Model.{Asked}
use Rattle.demands.specs.Engine.{Engine, Standing, answered, step_of, are_bytes, sound}
use Rattle.demands.specs.Demand2.{writing, closing}
use Rattle.promises.specs.Buffer.{file_at}
use Rattle.directory.specs.declared.Entry.{Entry}
use Rattle.requests.specs.declared.Answer.{Answer}
use Rattle.requests.specs.declared.Answer.TheVariants.{Done, Met, Refused}
use Rattle.requests.specs.declared.Request.{Request}
use Rattle.sessions.specs.declared.BufferedSession.{BufferedSession}

-- ---- the sectors that one effect writes

-- straight: the sector that changes; as many as a record or granule takes; the directory's, for count and flags
unfoldable pub plain_writes : Effect → ℕ
plain_writes (hold k) = 0
plain_writes (change x) = 1
plain_writes (store x) = sectors_for (length x.bytes)
plain_writes (stamp xs) = 1
plain_writes put_back = 0

-- a changed buffer goes back to its sector
unfoldable pub back_writes : Bench → ℕ
back_writes w = elim (w.file.holds && w.file.changed) [ true ↦ 1 | false ↦ 0 ]

-- "put back before another sector takes it"; none for the one that is "held already"
unfoldable pub take_writes : ℕ → Bench → ℕ
take_writes k w = elim (w.file.holds && eqb w.file.held k) [ true ↦ 0 | false ↦ back_writes w ]

-- by way of the buffer; a file that has none puts nothing back
unfoldable pub buffered_writes : Entry → Effect → Bench → ℕ
buffered_writes e (hold k) w = take_writes k w
buffered_writes e (change x) w = take_writes x.place.sector w
buffered_writes e (store x) w = plain_writes (store x)
buffered_writes e (stamp xs) w = plain_writes (stamp xs)
buffered_writes e put_back w = elim (has_buffer e) [ true ↦ back_writes w | false ↦ 0 ]

-- ---- one request

-- a request not answered 0 has no effect on bytes
unfoldable pub effects_of : Answer → Request → Scene → List Effect
effects_of Done q c = effects q c
effects_of (Met x) q c = []
effects_of (Refused x) q c = []

unfoldable pub plain_sum : List Effect → ℕ
plain_sum [] = 0
plain_sum (x ∷ xs) = plain_writes x + plain_sum xs

unfoldable pub buffered_sum : Scene → List Effect → Bench → ℕ
buffered_sum c [] w = 0
buffered_sum c (x ∷ xs) w = buffered_writes c.entry x w + buffered_sum c xs (buffered_do c x w)

module _ (E : Engine) where
  -- what a request finds: its file; and the image, and the buffer
  abbrev pub scene_at : Standing E.Session → Asked → Scene
  scene_at w a = buffered_scene w.image (E.seen w.session) a.entry a.given

  abbrev pub bench_at : Standing E.Session → ℕ → Bench
  bench_at w i = record { image = w.image; file = file_at E w i }

  -- an engine that writes straight, and one that writes by way of the buffer
  unfoldable pub plain_count : Standing E.Session → Asked → ℕ
  plain_count w a = plain_sum (effects_of (answered E w a).answer a.request (scene_at w a))

  unfoldable pub buffered_count : Standing E.Session → Asked → ℕ
  buffered_count w a = buffered_sum (scene_at w a) (effects_of (answered E w a).answer a.request (scene_at w a)) (bench_at w a.entry)

  -- ---- a run

  -- the sum over a run of what `count` says of each request
  unfoldable pub in_run : (Standing E.Session → Asked → ℕ) → Standing E.Session → List Asked → ℕ
  in_run count w [] = 0
  in_run count w (a ∷ rest) = count w a + in_run count (step_of E w a) rest

  -- every request of a run is answered 0
  unfoldable pub all_done : Standing E.Session → List Asked → Bool
  all_done w [] = true
  all_done w (a ∷ rest) = eqb (number_of (answered E w a).answer) 0 && all_done (step_of E w a) rest

-- records written to entry i one behind another
abbrev pub records : ℕ → List (List ℕ) → List Asked
records i givens = map (writing i) givens

-- ---- what is saved

-- what is counted as none changes nothing
pub record Counted (E : Engine) (count : Standing E.Session → Asked → ℕ) : Type 0 where
  pub none : (w : Standing E.Session) (a : Asked) → count w a ≡ 0 → (answered E w a).image ≡ w.image

-- entry i is a blocked file with q records in a sector, and stands at position p
pub record BlockedAt (s : BufferedSession) (i p q : ℕ) : Type 0 where
  pub kind : is_kind blocked (entry_at s.table i) ≡ true
  pub position : (file_of (bare s).files i).position ≡ p
  pub many : per_sector (entry_at s.table i).length ≡ q

-- and these are asked there, each answered 0
pub record Writing (E : Engine) (w : Standing E.Session) (i p q : ℕ) (asked : List Asked) : Type 0 where
  pub is_sound : sound w.image (E.seen w.session) ≡ true
  pub standing : BlockedAt (E.seen w.session) i p q
  pub bytes : every (λ a. are_bytes a.given) asked ≡ true
  pub done : all_done E w asked ≡ true

-- E writes straight, F by way of the buffer
pub record Saving (E F : Engine) : Type 0 where
  -- the first writes a sector for each record
  pub plain : (w : Standing E.Session) (i p q : ℕ) (givens : List (List ℕ)) → Writing E w i p q (records i givens)
      → in_run E (plain_count E) w (records i givens) ≡ length givens
  -- the second the changed one that it held before, if that is another, and one each time that the next record lies in another sector
  pub buffered : (w : Standing F.Session) (i p q : ℕ) (given : List ℕ) (givens : List (List ℕ)) → Writing F w i p q (records i (given ∷ givens))
      → in_run F (buffered_count F) w (records i (given ∷ givens)) ≡ take_writes (p / q) (bench_at F w i) + ((p + length givens) / q - p / q)
  -- so up to q records from a sector's first on write at most one sector, and none if nothing changed was held before
  pub in_sector : (w : Standing F.Session) (i p q : ℕ) (givens : List (List ℕ)) → Writing F w i p q (records i givens) → p % q ≡ 0 → length givens ≤ q
      → (in_run F (buffered_count F) w (records i givens) ≤ 1)
      × ((file_at F w i).changed ≡ false → in_run F (buffered_count F) w (records i givens) ≡ 0)
  -- and a whole file, written from the beginning on with nothing changed held, and closed: each of its sectors once, and the directory
  pub whole : (w : Standing F.Session) (i q : ℕ) (given : List ℕ) (givens : List (List ℕ)) → (file_at F w i).changed ≡ false
      → Writing F w i 0 q (records i (given ∷ givens) ++ (closing i ∷ []))
      → in_run F (buffered_count F) w (records i (given ∷ givens) ++ (closing i ∷ [])) ≡ (length givens / q + 1) + 1
