-- What the buffer saves: a write in a blocked file changes one sector by way of the buffer, and leaves it held and changed. So the next write puts
-- it back exactly if it lies in another sector, and the sum over a run is how many sectors the run goes on.
use mathlib.Core.Path.{◌≡◌, refl, sym, ap, subst, ◌∙◌}
use mathlib.Core.Logic.{◌⊎◌, inl, inr}
use mathlib.Core.Bool.{Bool, true, false, ◌&&◌, and-false}
use mathlib.Core.List.{List, [], ◌∷◌, ◌++◌}
use Prim.Native.Nat.{ℕ, zero, suc, ◌+◌, ◌-◌, ◌/◌, ◌%◌, ◌≤◌, ◌<◌}
use native.Mathlib.Omega.{arith}
use native.Mathlib.Decide.{dec_lt}
use native.Mathlib.Nat.{div-zero, zero-div, mod-lt, div-add-mod', div-eq_of_lt-le}
use lib.ListN.{length}
use lib.Seq.{get_or-set_same}
use lib.Dec.{eqb}
use borrow.Author.Tests.{eqb-true, eqb-false, eq-eqb, ne_eqb}
use Rattle.geometry.specs.Bytes.{lay}
use Rattle.geometry.specs.Lists.{every}
use Rattle.geometry.specs.Places.{per_sector, place_of, sectors_for}
use Rattle.geometry.specs.Sizes.{blocked}
use Rattle.geometry.proofs.Bytes.{lay-nil}
use Rattle.geometry.proofs.Places.{blocked-shares, place-shared}
use Rattle.geometry.proofs.Tests.{chosen, and_left, and_right, and_both}
use Rattle.directory.specs.Entries.{entry_at, free_entry, is_free, is_kind}
use Rattle.directory.proofs.Free.{every_append}
use Rattle.directory.proofs.Good.{used-inside}
use Rattle.requests.specs.Judge.{judge}
use Rattle.requests.specs.Numbers.{number_of}
use Rattle.requests.proofs.Done.{done-allows}
use Rattle.requests.proofs.Live.{done-real}
use Rattle.requests.proofs.Numbers.{done-is}
use Rattle.sessions.specs.Session.{bare, unheld, file_of, open_files, has_buffer, buffered_legal}
use Rattle.steps.specs.Effects.{Effect, hold, change, store, stamp, put_back, write_effects, blocked_effect, effects, Bench, putting_back, loaded, taking, working, plain_do, plain_all, buffered_do, buffered_all}
use Rattle.steps.specs.Next.{Scene, facts_of, counted, file_done, entry_done}
use Rattle.steps.specs.Step.{After, held_of, plain_scene, plain_answer, plain_after, plain_step, buffered_scene, buffered_answer, buffered_after, buffered_step}
use Rattle.steps.specs.Verdict.{file_next}
use Rattle.steps.proofs.Answered.{plain-is, buffered-answered, buffered-is}
use Rattle.steps.proofs.Buffer.{back-cases}
use Rattle.steps.proofs.Standing.{with_buffer, kept-used, held-file}
use Rattle.serving.proofs.Keeping.{done}
use Rattle.serving.proofs.Taped.{of-both}
use Rattle.settling.proofs.Bench.{takes-held}
use Rattle.settling.proofs.Next.{entry-shape, shape_at}
use Rattle.tapes.specs.Model.{Asked}
use Rattle.demands.specs.Engine.{Engine, plain_engine, buffered_engine, Standing, answered, step_of, are_bytes, sound}
use Rattle.demands.specs.Demand2.{writing, closing}
use Rattle.promises.specs.Writes.{plain_writes, back_writes, take_writes, buffered_writes, effects_of, plain_sum, buffered_sum, scene_at, bench_at, plain_count, buffered_count, in_run, all_done, records, Counted, BlockedAt, Writing, Saving}
use Rattle.demands.proofs.Orderly.{same-scene}
use Rattle.demands.proofs.Passing.{buffered-passing}
use Rattle.demands.proofs.Sound.{sound-typed}
use Rattle.promises.proofs.States.{held-open}
use Rattle.directory.specs.declared.Entry.{Entry}
use Rattle.requests.specs.declared.Answer.{Answer}
use Rattle.requests.specs.declared.Answer.TheVariants.{Done, Met, Refused}
use Rattle.requests.specs.declared.Order.TheVariants.{RewindOffline}
use Rattle.requests.specs.declared.Request.{Request}
use Rattle.requests.specs.declared.Request.TheVariants.{Write, Position}
use Rattle.sessions.specs.declared.BufferedFile.{BufferedFile}
use Rattle.sessions.specs.declared.BufferedSession.{BufferedSession}
use Rattle.sessions.specs.declared.OpenFile.{OpenFile}
use Rattle.sessions.specs.declared.Session.{Session}

-- ---- what is counted as none changes nothing

module _ (c : Scene) where
  store-none : (image : List ℕ) (at : ℕ) (xs : List ℕ) → sectors_for (length xs) ≡ 0 → lay image at xs ≡ image
  unfolding sectors_for
  store-none image at [] h = lay-nil image at
  store-none image at (x ∷ xs) h = absurd (omega arith)

  plain-none : (x : Effect) (image : List ℕ) → plain_writes x ≡ 0 → plain_do c x image ≡ image
  unfolding plain_writes plain_do
  plain-none (hold k) image h = refl
  plain-none (change x) image h = absurd (omega arith)
  plain-none (store x) image h = store-none image _ x.bytes h
  plain-none (stamp xs) image h = absurd (omega arith)
  plain-none put_back image h = refl

  plain-all-none : (xs : List Effect) (image : List ℕ) → plain_sum xs ≡ 0 → plain_all c xs image ≡ image
  unfolding plain_sum plain_all
  plain-all-none [] image h = refl
  plain-all-none (x ∷ xs) image h = plain-all-none xs (plain_do c x image) (omega arith) ∙ plain-none x image (omega arith)

  back_none : (w : Bench) → back_writes w ≡ 0 → (putting_back c.entry w).image ≡ w.image
  unfolding back_writes putting_back
  back_none w h = go (w.file.holds && w.file.changed) refl
    where
      go : (t : Bool) → (w.file.holds && w.file.changed) ≡ t → (putting_back c.entry w).image ≡ w.image
      go true t = absurd (omega (arith, rw (t, back_writes) at h))
      go false t = rw (t, putting_back)

  take_none : (k : ℕ) (w : Bench) → take_writes k w ≡ 0 → (taking c.entry k w).image ≡ w.image
  unfolding take_writes taking loaded
  take_none k w h = go (w.file.holds && eqb w.file.held k) refl
    where
      go : (t : Bool) → (w.file.holds && eqb w.file.held k) ≡ t → (taking c.entry k w).image ≡ w.image
      go true t = rw (t, taking)
      go false t = rw (t, taking) (back_none w (rw (t, take_writes) at h))

  buffered-none : (x : Effect) (w : Bench) → buffered_writes c.entry x w ≡ 0 → (buffered_do c x w).image ≡ w.image
  unfolding buffered_writes buffered_do working
  buffered-none (hold k) w h = take_none k w h
  buffered-none (change x) w h = take_none x.place.sector w h
  buffered-none (store x) w h = plain-none (store x) w.image h
  buffered-none (stamp xs) w h = plain-none (stamp xs) w.image h
  buffered-none put_back w h = back-cases (λ (v : Bench). v.image ≡ w.image) c w (λ b. back_none w (sym (chosen (has_buffer c.entry) (back_writes w) 0 b) ∙ h)) (λ b. refl)

  buffered-all-none : (xs : List Effect) (w : Bench) → buffered_sum c xs w ≡ 0 → (buffered_all c xs w).image ≡ w.image
  unfolding buffered_sum buffered_all
  buffered-all-none [] w h = refl
  buffered-all-none (x ∷ xs) w h = buffered-all-none xs (buffered_do c x w) (omega arith) ∙ buffered-none x w (omega arith)

  plain-after-none : (a : Answer) (image : List ℕ) (s : Session) (q : Request) (buffer : List ℕ)
      → plain_sum (effects_of (plain_after a image s q c buffer).answer q c) ≡ 0 → (plain_after a image s q c buffer).image ≡ image
  unfolding plain_after effects_of
  plain-after-none Done image s q buffer h = plain-all-none (effects q c) image h
  plain-after-none (Met x) image s q buffer h = refl
  plain-after-none (Refused x) image s q buffer h = refl

  buffered-after-none : (a : Answer) (image : List ℕ) (s : BufferedSession) (q : Request) (b : BufferedFile) (buffer : List ℕ)
      → buffered_sum c (effects_of (buffered_after a image s q c b buffer).answer q c) (record { image = image; file = b }) ≡ 0
      → (buffered_after a image s q c b buffer).image ≡ image
  unfolding buffered_after effects_of
  buffered-after-none Done image s q b buffer h = buffered-all-none (effects q c) (record { image = image; file = b }) h
  buffered-after-none (Met x) image s q b buffer h = refl
  buffered-after-none (Refused x) image s q b buffer h = refl

pub plain-counted : Counted plain_engine (plain_count plain_engine)
unfolding plain_count answered plain_step
plain-counted = record {
  none = λ w a h.
      plain-after-none (plain_scene w.image w.session a.entry a.given) (plain_answer w.image w.session a.entry a.request a.given (length a.buffer)) w.image w.session a.request a.buffer
      (rw (same-scene w.image w.session a.entry a.given) at h);
}

pub buffered-counted : Counted buffered_engine (buffered_count buffered_engine)
unfolding buffered_count answered buffered_step
buffered-counted = record {
  none = λ w a h.
      buffered-after-none (buffered_scene w.image w.session a.entry a.given) (buffered_answer w.image w.session a.entry a.request a.given (length a.buffer)) w.image w.session a.request (held_of w.session a.entry) a.buffer h;
}

-- ---- a run

module _ (E : Engine) where
  all_first : (w : Standing E.Session) (a : Asked) (rest : List Asked) → all_done E w (a ∷ rest) ≡ true
      → ((answered E w a).answer ≡ Done) × (all_done E (step_of E w a) rest ≡ true)
  unfolding all_done
  all_first w a rest h = (
    done-is (answered E w a).answer (eqb-true (number_of (answered E w a).answer) 0 (and_left (eqb (number_of (answered E w a).answer) 0) _ h)),
    and_right (eqb (number_of (answered E w a).answer) 0) _ h,
  )

  -- where requests on files lead
  unfoldable behind_all : Standing E.Session → List Asked → Standing E.Session
  behind_all w [] = w
  behind_all w (a ∷ rest) = behind_all (step_of E w a) rest

  -- one run behind another
  module _ (count : Standing E.Session → Asked → ℕ) (b : Asked) where
    then-sum : (asked : List Asked) (w : Standing E.Session) → in_run E count w (asked ++ (b ∷ [])) ≡ in_run E count w asked + count (behind_all w asked) b
    unfolding in_run behind_all
    then-sum [] w = omega arith
    then-sum (a ∷ asked) w = omega (arith, then-sum asked (step_of E w a))

    then-done : (asked : List Asked) (w : Standing E.Session) → all_done E w (asked ++ (b ∷ [])) ≡ true → (all_done E w asked ≡ true) × ((answered E (behind_all w asked) b).answer ≡ Done)
    unfolding all_done behind_all
    then-done [] w h = (refl, (all_first w b [] h).0)
    then-done (a ∷ asked) w h =
        let z : ((answered E w a).answer ≡ Done) × (all_done E (step_of E w a) (asked ++ (b ∷ [])) ≡ true) = all_first w a (asked ++ (b ∷ [])) h in
        let r = then-done asked (step_of E w a) z.1 in
        let first : Bool = eqb (number_of (answered E w a).answer) 0 in
        (and_both first _ (and_left first _ h) r.0, r.1)

-- ---- the plain engine

blocked-effects : (c : Scene) → is_kind blocked c.entry ≡ true → effects Write c ≡ blocked_effect c ∷ []
unfolding effects write_effects
blocked-effects c b = rw (b, write_effects)

module _ (w : Standing Session) (i : ℕ) (b : is_kind blocked (entry_at (unheld w.session).table i) ≡ true) (given : List ℕ) (d : (answered plain_engine w (writing i given)).answer ≡ Done) where
  plain-one : plain_count plain_engine w (writing i given) ≡ 1
  unfolding plain_count effects_of plain_sum plain_writes blocked_effect buffered_scene
  plain-one =
      ap (λ (a : Answer). plain_sum (effects_of a Write (scene_at plain_engine w (writing i given)))) d
      ∙ ap plain_sum (blocked-effects (scene_at plain_engine w (writing i given)) b)

  still-blocked : is_kind blocked (entry_at (unheld (step_of plain_engine w (writing i given)).session).table i) ≡ true
  unfolding step_of answered plain_after plain_scene unheld
  still-blocked =
      let scene : Scene = plain_scene w.image w.session i given in
      ap (λ (x : After Session). is_kind blocked (entry_at x.session.table i)) (plain-is w.image w.session i Write given [] Done d)
      ∙ ap (λ (k : ℕ). eqb k blocked) (shape_at w.session.table i (entry_done Write scene) (entry-shape Write scene) i).kind
      ∙ b

plain-run : (i : ℕ) (givens : List (List ℕ)) (w : Standing Session) → is_kind blocked (entry_at (unheld w.session).table i) ≡ true → all_done plain_engine w (records i givens) ≡ true
    → in_run plain_engine (plain_count plain_engine) w (records i givens) ≡ length givens
unfolding in_run
plain-run i [] w b h = refl
plain-run i (given ∷ givens) w b h =
    let z : ((answered plain_engine w (writing i given)).answer ≡ Done) × (all_done plain_engine (step_of plain_engine w (writing i given)) (records i givens) ≡ true) =
    all_first plain_engine w (writing i given) (records i givens) h in
    omega (arith, plain-one w i b given z.0, plain-run i givens (step_of plain_engine w (writing i given)) (still-blocked w i b given z.0) z.1)

-- ---- the buffered engine

abbrev count : Standing BufferedSession → Asked → ℕ
count = buffered_count buffered_engine

-- behind a write of record m: its sector is held and changed
record Behind (w : Standing BufferedSession) (i q m : ℕ) : Type 0 where
  is_sound : sound w.image w.session ≡ true
  blocked_at : BlockedAt w.session i (m + 1) q
  holds : (held_of w.session i).holds ≡ true
  held : (held_of w.session i).held ≡ m / q
  changed : (held_of w.session i).changed ≡ true

module _ (w : Standing BufferedSession) (fine : sound w.image w.session ≡ true) (i p q : ℕ) (at : BlockedAt w.session i p q) (given : List ℕ) (gives : are_bytes given ≡ true)
    (d : (answered buffered_engine w (writing i given)).answer ≡ Done) where
  abbrev image : List ℕ
  image = w.image

  abbrev s : BufferedSession
  s = w.session

  abbrev scene : Scene
  scene = buffered_scene image s i given

  abbrev found : Bench
  found = record { image = image; file = held_of s i }

  abbrev next : BufferedSession
  next = (buffered_step image s i Write given []).session

  -- the record's sector
  place_is : (place_of blocked (entry_at s.table i).length (file_of (bare s).files i).position).sector ≡ p / q
  place_is = rw (place-shared blocked (entry_at s.table i).length (file_of (bare s).files i).position (blocked-shares blocked _ refl), at.position, at.many)

  write-count : count w (writing i given) ≡ take_writes (p / q) found
  unfolding buffered_count effects_of buffered_sum buffered_writes blocked_effect buffered_scene
  write-count =
      ap (λ (a : Answer). buffered_sum scene (effects_of a Write scene) found) d
      ∙ ap (λ (xs : List Effect). buffered_sum scene xs found) (blocked-effects scene at.kind)
      ∙ omega arith
      ∙ ap (λ (k : ℕ). take_writes k found) place_is

  done-step : (buffered_step image s i Write given []).answer ≡ Done
  unfolding answered
  done-step = d

  judged : judge Write (facts_of (buffered_legal image s) (open_files (bare s).files) 0 Write scene) ≡ Done
  unfolding buffered_answer
  judged = sym (buffered-answered image s i Write given []) ∙ done-step

  ok : buffered_legal image s ≡ true
  unfolding facts_of
  ok = (done-real Write _ (done-allows Write _ judged)).legal

  used : is_free (entry_at s.table i) ≡ false
  unfolding facts_of buffered_scene
  used = (done-real Write _ (done-allows Write _ judged)).used

  held_then : held_of next i ≡ with_buffer (file_done Write scene) (buffered_do scene (blocked_effect scene) found).file
  unfolding buffered_after buffered_scene file_next file_done buffered_all
  held_then =
      ap (λ (x : After BufferedSession). held_of x.session i) (buffered-is image s i Write given [] Done done-step)
      ∙ held-open image s (sound-typed image s fine) ok i given 0 used Write Done (done (done-allows Write _ (rw ok at judged))) _ (buffered_all scene (effects Write scene) found).file refl
      ∙ kept-used (file_done Write scene) (buffered_all scene (effects Write scene) found).file refl
      ∙ ap (λ (xs : List Effect). with_buffer (file_done Write scene) (buffered_all scene xs found).file) (blocked-effects scene at.kind)

  entry-then : entry_at next.table i ≡ entry_done Write scene
  unfolding buffered_after buffered_scene
  entry-then =
      ap (λ (x : After BufferedSession). entry_at x.session.table i) (buffered-is image s i Write given [] Done done-step)
      ∙ get_or-set_same s.table i (entry_done Write scene) free_entry (used-inside s.table i (eqb-false (entry_at s.table i).kind 0 used))

  behind : Behind (step_of buffered_engine w (writing i given)) i q p
  unfolding step_of answered buffered_do working blocked_effect entry_done counted file_done buffered_scene
  behind = record {
    is_sound = (buffered-passing.requests w (record { is_sound = fine; is_legal = ok }) (writing i given) gives).is_sound;
    blocked_at = record {
      kind = ap (is_kind blocked) entry-then ∙ at.kind;
      position = ap (λ (f : OpenFile). f.position) (sym (held-file next i) ∙ ap (λ (b : BufferedFile). b.file) held_then) ∙ ap (λ (n : ℕ). n + 1) at.position;
      many = ap (λ (e : Entry). per_sector e.length) entry-then ∙ at.many;
    };
    holds = ap (λ (b : BufferedFile). b.holds) held_then;
    held = ap (λ (b : BufferedFile). b.held) held_then ∙ (takes-held (entry_at s.table i) _ found).1 ∙ place_is;
    changed = ap (λ (b : BufferedFile). b.changed) held_then;
  }

-- the next record lies in the same sector or in the next
next-sector : (m q : ℕ) → ((m + 1) / q ≡ m / q) ⊎ ((m + 1) / q ≡ m / q + 1)
next-sector m zero = inl (div-zero (m + 1) ∙ sym (div-zero m))
next-sector m (suc q) = go (dec_lt (m % suc q + 1) (suc q))
  where
    go : Dec (m % suc q + 1 < suc q) → ((m + 1) / suc q ≡ m / suc q) ⊎ ((m + 1) / suc q ≡ m / suc q + 1)
    go (yes l) = inl (div-eq_of_lt-le (suc q) (omega (arith, div-add-mod' m (suc q))) (omega (arith, div-add-mod' m (suc q))))
    go (no l) = inr (div-eq_of_lt-le (suc q) (omega (arith, div-add-mod' m (suc q), mod-lt m {m = suc q} (omega arith))) (omega (arith, div-add-mod' m (suc q), mod-lt m {m = suc q} (omega arith))))

-- a changed sector that is held is put back, where another is taken
back-changed : (w : Bench) → w.file.holds ≡ true → w.file.changed ≡ true → back_writes w ≡ 1
unfolding back_writes
back-changed w h c = rw (h, c, back_writes)

take_next : (w : Bench) (k j : ℕ) → w.file.holds ≡ true → w.file.changed ≡ true → w.file.held ≡ k → (j ≡ k) ⊎ (j ≡ k + 1) → take_writes j w + k ≡ j
unfolding take_writes
take_next w k j h c e (inl s) = rw (h, eq-eqb w.file.held j (e ∙ sym s), take_writes) (omega arith)
take_next w k j h c e (inr s) = rw (h, ne_eqb w.file.held j (omega arith), take_writes) (omega (arith, back-changed w h c))

run-behind : (i q : ℕ) (givens : List (List ℕ)) → every (λ a. are_bytes a.given) (records i givens) ≡ true → (w : Standing BufferedSession) (m : ℕ) → Behind w i q m → all_done buffered_engine w (records i givens) ≡ true
    → (in_run buffered_engine count w (records i givens) + m / q ≡ (m + length givens) / q) × Behind (behind_all buffered_engine w (records i givens)) i q (m + length givens)
unfolding in_run behind_all every
run-behind i q [] g w m b h =
    let n : m ≡ m + length {A = List ℕ} [] = omega arith in
    (omega (arith, ap (λ (k : ℕ). k / q) n), subst (Behind w i q) n b)
run-behind i q (given ∷ givens) g w m b h =
    let v : Standing BufferedSession = step_of buffered_engine w (writing i given) in
    let z : ((answered buffered_engine w (writing i given)).answer ≡ Done) × (all_done buffered_engine v (records i givens) ≡ true) = all_first buffered_engine w (writing i given) (records i givens) h in
    let y = and_left (are_bytes given) _ g in
    let o = write-count w b.is_sound i (m + 1) q b.blocked_at given y z.0 in
    let r = run-behind i q givens (and_right (are_bytes given) _ g) v (m + 1) (behind w b.is_sound i (m + 1) q b.blocked_at given y z.0) z.1 in
    let n : m + 1 + length givens ≡ m + length (given ∷ givens) = omega arith in
    let t : take_writes ((m + 1) / q) (bench_at buffered_engine w i) + m / q ≡ (m + 1) / q = take_next (bench_at buffered_engine w i) (m / q) ((m + 1) / q) b.holds b.changed b.held (next-sector m q) in
    (omega (arith, o, r.0, t) ∙ ap (λ (k : ℕ). k / q) n, subst (Behind (behind_all buffered_engine v (records i givens)) i q) n r.1)

-- the first write finds what was held before
buffered-run : (w : Standing BufferedSession) (i p q : ℕ) (given : List ℕ) (givens : List (List ℕ)) → Writing buffered_engine w i p q (records i (given ∷ givens))
    → (in_run buffered_engine count w (records i (given ∷ givens)) ≡ take_writes (p / q) (bench_at buffered_engine w i) + ((p + length givens) / q - p / q))
    × Behind (behind_all buffered_engine w (records i (given ∷ givens))) i q (p + length givens)
unfolding in_run behind_all every
buffered-run w i p q given givens b =
    let v : Standing BufferedSession = step_of buffered_engine w (writing i given) in
    let z : ((answered buffered_engine w (writing i given)).answer ≡ Done) × (all_done buffered_engine v (records i givens) ≡ true) = all_first buffered_engine w (writing i given) (records i givens) b.done in
    let y = and_left (are_bytes given) _ b.bytes in
    let o = write-count w b.is_sound i p q b.standing given y z.0 in
    let r = run-behind i q givens (and_right (are_bytes given) _ b.bytes) v p (behind w b.is_sound i p q b.standing given y z.0) z.1 in
    (omega (arith, o, r.0), r.1)

-- ---- in one sector, and a whole file

take-most : (k : ℕ) (w : Bench) → take_writes k w ≤ 1
unfolding take_writes back_writes
take-most k w = go (w.file.holds && eqb w.file.held k) (w.file.holds && w.file.changed)
  where
    go : (t u : Bool) → elim t [ true ↦ 0 | false ↦ elim u [ true ↦ 1 | false ↦ 0 ] ] ≤ 1
    go true u = omega arith
    go false true = omega arith
    go false false = omega arith

pub back-unchanged : (w : Bench) → w.file.changed ≡ false → back_writes w ≡ 0
unfolding back_writes
back-unchanged w u = rw (u, and-false w.file.holds, back_writes)

pub take-unchanged : (k : ℕ) (w : Bench) → w.file.changed ≡ false → take_writes k w ≡ 0
unfolding take_writes
take-unchanged k w u = of-both (λ (n : ℕ). n ≡ 0) (w.file.holds && eqb w.file.held k) refl (back-unchanged w u)

same-sector : (p n q : ℕ) → p % q ≡ 0 → n < q → (p + n) / q ≡ p / q
same-sector p n q e l = div-eq_of_lt-le q (omega (arith, div-add-mod' p q)) (omega (arith, div-add-mod' p q))

in-sector : (w : Standing BufferedSession) (i p q : ℕ) (givens : List (List ℕ)) → Writing buffered_engine w i p q (records i givens) → p % q ≡ 0 → length givens ≤ q
    → (in_run buffered_engine count w (records i givens) ≤ 1)
    × ((held_of w.session i).changed ≡ false → in_run buffered_engine count w (records i givens) ≡ 0)
unfolding in_run
in-sector w i p q [] b e l = (omega arith, λ c. refl)
in-sector w i p q (given ∷ givens) b e l =
    let r = (buffered-run w i p q given givens b).0 in
    let s : (p + length givens) / q ≡ p / q = same-sector p (length givens) q e (omega arith) in
    (omega (arith, r, s, take-most (p / q) (bench_at buffered_engine w i)), λ c. omega (arith, r, s, take-unchanged (p / q) (bench_at buffered_engine w i) c))

close-count : (w : Standing BufferedSession) (i q m : ℕ) → Behind w i q m → (answered buffered_engine w (closing i)).answer ≡ Done → count w (closing i) ≡ 2
unfolding buffered_count effects_of effects buffered_sum buffered_writes plain_writes buffered_scene
close-count w i q m b d =
    let c : Scene = scene_at buffered_engine w (closing i) in
    let z : is_kind blocked (entry_at w.session.table i) ≡ true = b.blocked_at.kind in
    let k : has_buffer (entry_at w.session.table i) ≡ true = rw z in
    ap (λ (a : Answer). buffered_sum c (effects_of a (Position RewindOffline) c) (bench_at buffered_engine w i)) d
    ∙ omega (arith, chosen (has_buffer (entry_at w.session.table i)) (back_writes (bench_at buffered_engine w i)) 0 k, back-changed (bench_at buffered_engine w i) b.holds b.changed)

whole-file : (w : Standing BufferedSession) (i q : ℕ) (given : List ℕ) (givens : List (List ℕ)) → (held_of w.session i).changed ≡ false
    → Writing buffered_engine w i 0 q (records i (given ∷ givens) ++ (closing i ∷ []))
    → in_run buffered_engine count w (records i (given ∷ givens) ++ (closing i ∷ [])) ≡ (length givens / q + 1) + 1
whole-file w i q given givens c b =
    let all : List Asked = records i (given ∷ givens) in
    let z : (all_done buffered_engine w all ≡ true) × ((answered buffered_engine (behind_all buffered_engine w all) (closing i)).answer ≡ Done) = then-done buffered_engine count (closing i) all w b.done in
    let g : every (λ a. are_bytes a.given) all ≡ true = and_left (every (λ a. are_bytes a.given) all) _ (sym (every_append (λ a. are_bytes a.given) all (closing i ∷ [])) ∙ b.bytes) in
    let r = buffered-run w i 0 q given givens (record { is_sound = b.is_sound; standing = b.standing; bytes = g; done = z.0 }) in
    let t : take_writes (0 / q) (bench_at buffered_engine w i) ≡ 0 = take-unchanged (0 / q) (bench_at buffered_engine w i) c in
    let k : count (behind_all buffered_engine w all) (closing i) ≡ 2 = close-count (behind_all buffered_engine w all) i q _ r.1 z.1 in
    let x : (0 + length givens) / q ≡ length givens / q = ap (λ (n : ℕ). n / q) (omega arith) in
    omega (arith, then-sum buffered_engine count (closing i) all w, r.0, t, k, x, zero-div q)

pub saving : Saving plain_engine buffered_engine
saving = record {
  plain = λ w i p q givens b. plain-run i givens w b.standing.kind b.done;
  buffered = λ w i p q given givens b. (buffered-run w i p q given givens b).0;
  in_sector = in-sector;
  whole = whole-file;
}
