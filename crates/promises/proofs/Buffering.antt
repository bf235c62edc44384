-- Document 01's promises of the blocking buffer, of the buffered engine: what a read takes and a write changes goes by way of the buffer, an order puts it
-- back first, and the state that is left has it. A sector that is held already is not taken again, so nothing is put back.
use mathlib.Core.Path.{◌≡◌, refl, sym, ap, ap₂, subst, ◌∙◌}
use mathlib.Core.Logic.{◌≢◌}
use mathlib.Core.Bool.{Bool, true, false, ◌&&◌, and-true}
use mathlib.Core.List.{List, [], ◌∷◌, map}
use Prim.Native.Nat.{ℕ, ◌+◌, ◌*◌, ◌<◌}
use native.Mathlib.Omega.{arith}
use lib.Dec.{eqb, ltb}
use lib.ListN.{length, replicate}
use borrow.Author.Tests.{eqb-true, eqb-false, ne_eqb}
use Rattle.geometry.specs.Bytes.{lay, word}
use Rattle.geometry.specs.Lists.{every}
use Rattle.geometry.specs.Places.{place_of}
use Rattle.geometry.specs.Sizes.{sector, entry_size, entries, blocked, compressed, random, sectors_of}
use Rattle.geometry.proofs.Bytes.{part-lay-apart}
use Rattle.geometry.proofs.Places.{lawful-whole}
use Rattle.geometry.proofs.Tests.{either, both_ways, chosen, and_left, and_right, or-either}
use Rattle.directory.specs.Entries.{entry_at, is_free, is_kind}
use Rattle.directory.specs.Stamp.{stamp_bytes}
use Rattle.directory.proofs.Good.{Lies, lies, used-inside, extents-apart}
use Rattle.packing.specs.Reading.{start_of, goes_on}
use Rattle.packing.specs.Placing.{Change}
use Rattle.requests.specs.Judge.{judge}
use Rattle.requests.proofs.Done.{done-allows, met-meets}
use Rattle.requests.proofs.Live.{done-real, met-live}
use Rattle.sessions.specs.Session.{bare, file_of, open_files, has_buffer, holds_one, extent, extent_with, legal, buffered_legal, typed}
use Rattle.sessions.proofs.Legal.{lawful-length, bare-legal, good-table}
use Rattle.steps.specs.Effects.{Effect, hold, change, put_back, read_effects, write_effects, blocked_effect, effects, Bench, putting_back, taking, working, plain_do, buffered_do, buffered_all}
use Rattle.steps.specs.Next.{Scene, facts_of, file_done, file_met}
use Rattle.steps.specs.Step.{held_of, buffered_scene, buffered_answer, buffered_after, buffered_step}
use Rattle.steps.specs.Verdict.{file_next}
use Rattle.steps.proofs.Answered.{buffered-answered}
use Rattle.steps.proofs.Inside.{AllSuit, no_buffer, lawful, suit}
use Rattle.steps.proofs.Standing.{kept-used, held-file}
use Rattle.serving.proofs.Keeping.{done, met}
use Rattle.settling.proofs.Bench.{Elsewhere}
use Rattle.settling.proofs.Kept.{table-length}
use Rattle.tapes.specs.Model.{Asked}
use Rattle.tapes.specs.Edits.{Editing}
use Rattle.settling.proofs.Edited.{edit-held}
use Rattle.demands.proofs.Edits.{extent-edited}
use Rattle.demands.specs.Engine.{buffered_engine, Standing, answered, step_of, edited, edit_of, sound}
use Rattle.promises.specs.Buffer.{Desk, desk_of, seen_on, back, taken, worked, closed, in_turn, read_in, changes_of, desk_done, desk_next, taken_by, puts_back, within, desk_at, file_at, Buffering}
use Rattle.promises.proofs.Desk.{desk, Ready, desk-back, desk-takes, desk-works, same-all}
use Rattle.demands.proofs.Illegal.{answers-12, nothing-changed}
use Rattle.demands.proofs.Orderly.{buffered-orderly}
use Rattle.demands.proofs.Passing.{held-within}
use Rattle.demands.proofs.Sound.{buffer-used, sound-typed, held_whole}
use Rattle.promises.proofs.States.{held-open, held-closed, held-other}
use Rattle.geometry.specs.declared.Place.{Place}
use Rattle.directory.specs.declared.Entry.{Entry}
use Rattle.requests.specs.declared.Answer.{Answer}
use Rattle.requests.specs.declared.Answer.TheVariants.{Done, Met, Refused}
use Rattle.requests.specs.declared.Edge.{Edge}
use Rattle.requests.specs.declared.Edge.TheVariants.{EndOfFile, BeginningOfTape}
use Rattle.requests.specs.declared.Facts.{Facts}
use Rattle.requests.specs.declared.Order.TheVariants.{WriteMark, RewindOnline, RewindOffline, RecordForward, RecordBack, FileForward, FileBack}
use Rattle.requests.specs.declared.Refusal.TheVariants.{NotLegal}
use Rattle.requests.specs.declared.Request.{Request}
use Rattle.requests.specs.declared.Request.TheVariants.{Open, Read, Write, GranuleRead, GranuleWrite, GranuleLook, Position}
use Rattle.sessions.specs.declared.BufferedFile.{BufferedFile}
use Rattle.sessions.specs.declared.BufferedSession.{BufferedSession}
use Rattle.sessions.specs.declared.OpenFile.{OpenFile}

-- ---- what a request does by way of the buffer

module _ (c : Scene) (kind : has_buffer c.entry ≡ true) where
  abbrev e : Entry
  e = c.entry

  -- blocked, and so not compressed; or compressed, and so not blocked
  of-kind : {P : Type 0} → (is_kind blocked e ≡ true → is_kind compressed e ≡ false → P) → (is_kind blocked e ≡ false → is_kind compressed e ≡ true → P) → P
  of-kind f g = or-either (is_kind blocked e) (is_kind compressed e) kind
      (λ (b : is_kind blocked e ≡ true). f b (ne_eqb e.kind compressed (omega (arith, eqb-true e.kind blocked b))))
      (λ (z : is_kind compressed e ≡ true). g (ne_eqb e.kind blocked (omega (arith, eqb-true e.kind compressed z))) z)

  blocked-place : is_kind blocked e ≡ true → place_of blocked e.length c.file.position ≡ place_of e.kind e.length c.file.position
  blocked-place b = ap (λ (n : ℕ). place_of n e.length c.file.position) (sym (eqb-true e.kind blocked b))

  read-list : read_effects c ≡ map hold (read_in e c.file c.bytes)
  unfolding read_effects read_in
  read-list = of-kind
      (λ b z. rw (b, read_effects, z, read_in) (ap (λ (p : Place). hold p.sector ∷ []) (blocked-place b)))
      (λ b z. rw (b, z, read_effects, read_in) (go (goes_on c.bytes c.file.here && ltb c.file.here.byte sector)))
    where
      go : (g : Bool)
          → elim g [ true ↦ hold c.file.here.sector ∷ hold (start_of c.bytes c.file.here).sector ∷ [] | false ↦ hold (start_of c.bytes c.file.here).sector ∷ [] ]
          ≡ map hold (elim g [ true ↦ c.file.here.sector ∷ (start_of c.bytes c.file.here).sector ∷ [] | false ↦ (start_of c.bytes c.file.here).sector ∷ [] ])
      go true = refl
      go false = refl

  write-list : write_effects c ≡ map change (changes_of e c.file c.given)
  unfolding write_effects blocked_effect changes_of
  write-list = of-kind
      (λ b z. rw (b, write_effects, z, changes_of, blocked-place b))
      (λ b z. rw (b, z, write_effects, changes_of))

  not-random : is_kind random e ≡ true → ⊥
  not-random r = both_ways (has_buffer e) kind (no_buffer e r)

-- ---- a sector that is held already

module _ (c : Scene) where
  held_same : (k : ℕ) (w : Bench) → (w.file.holds && eqb w.file.held k) ≡ true → taking c.entry k w ≡ w
  unfolding taking
  held_same k w t = rw (t, taking)

  abbrev in_held : Bench → List ℕ → Bool
  in_held w ks = every (λ k. w.file.holds && eqb w.file.held k) ks

  takes_none : (ks : List ℕ) (w : Bench) → in_held w ks ≡ true → (buffered_all c (map hold ks) w).image ≡ w.image
  unfolding buffered_all buffered_do every
  takes_none [] w h = refl
  takes_none (k ∷ ks) w h =
      let t = and_left (w.file.holds && eqb w.file.held k) _ h in
      ap (λ (v : Bench). (buffered_all c (map hold ks) v).image) (held_same k w t) ∙ takes_none ks w (and_right (w.file.holds && eqb w.file.held k) _ h)

  works-none : (xs : List Change) (w : Bench) → in_held w (map (λ x. x.place.sector) xs) ≡ true → (buffered_all c (map change xs) w).image ≡ w.image
  unfolding buffered_all buffered_do working every
  works-none [] w h = refl
  works-none (x ∷ xs) w h =
      let t = and_left (w.file.holds && eqb w.file.held x.place.sector) _ h in
      let y : w.file.holds ≡ true = and_left w.file.holds _ t in
      let r = and_right (w.file.holds && eqb w.file.held x.place.sector) _ h in
      ap (λ (v : Bench). (buffered_all c (map change xs) (working x.place.byte x.bytes v)).image) (held_same x.place.sector w t)
      ∙ works-none xs (working x.place.byte x.bytes w) (subst (λ (b : Bool). every (λ k. b && eqb w.file.held k) (map (λ (x : Change). x.place.sector) xs) ≡ true) y r)

-- ---- a request on a legal session

module _ (image : List ℕ) (s : BufferedSession) (fine : sound image s ≡ true) (ok : buffered_legal image s ≡ true) (i : ℕ) (given buffer : List ℕ) where
  abbrev scene : Scene
  scene = buffered_scene image s i given

  abbrev entry : Entry
  entry = entry_at s.table i

  abbrev file : OpenFile
  file = file_of (bare s).files i

  abbrev found : Bench
  found = record { image = image; file = held_of s i }

  abbrev facts : Request → Facts
  facts q = facts_of true (open_files (bare s).files) (length buffer) q scene

  -- the image and the session that an answer leaves
  abbrev left : Answer → Request → Standing BufferedSession
  left a q = record { image = (buffered_after a image s q scene (held_of s i) buffer).image; session = (buffered_after a image s q scene (held_of s i) buffer).session }

  types : typed s ≡ true
  types = sound-typed image s fine

  plain-legal : legal image (bare s) ≡ true
  plain-legal = bare-legal image s ok

  lies_at : (j : ℕ) → is_free (entry_at s.table j) ≡ false → Lies (sectors_of image) (entry_at s.table j)
  unfolding bare
  lies_at j u = lies (sectors_of image) s.table (good-table image (bare s) plain-legal) j (eqb-false (entry_at s.table j).kind 0 u)

  number-inside : (j : ℕ) → is_free (entry_at s.table j) ≡ false → j < entries
  number-inside j u = omega (arith, used-inside s.table j (eqb-false (entry_at s.table j).kind 0 u), table-length s types)

  ready : is_free entry ≡ false → Ready entry found
  ready u = record {
    room = omega (arith, (lies_at i u).ends, lawful-whole image (lawful-length image (bare s) plain-legal));
    size = (held_whole image s fine i).size;
    inside = λ h. held-within image s ok i h;
  }

  used-done : (q : Request) → judge q (facts q) ≡ Done → is_free entry ≡ false
  unfolding facts_of buffered_scene
  used-done q d = (done-real q _ (done-allows q _ d)).used

  suits : (q : Request) → judge q (facts q) ≡ Done → AllSuit entry (effects q scene)
  unfolding buffered_scene bare
  suits q d = suit (open_files (bare s).files) (length buffer) q scene (lawful image (bare s) plain-legal i (used-done q d)) d

  -- ---- another file

  module _ (j : ℕ) (n : j ≢ i) (u : is_free (entry_at s.table j) ≡ false) where
    apart : is_free entry ≡ false → Elsewhere entry (sector * (entry_at s.table j).first) (sector * (entry_at s.table j).sectors)
    unfolding bare
    apart v =
        let a = extents-apart (sectors_of image) s.table (good-table image (bare s) plain-legal) i j (λ q. n (sym q)) (eqb-false entry.kind 0 v) (eqb-false (entry_at s.table j).kind 0 u) in
        (omega arith, omega (arith, (lies_at j u).starts))

    after-other : (q : Request) (a : Answer) → judge q (facts q) ≡ a
        → desk_of (entry_at s.table j) (left a q).image (held_of (left a q).session j) ≡ desk_of (entry_at s.table j) image (held_of s j)
    unfolding buffered_after buffered_scene file_next desk_of extent facts_of
    after-other q Done d =
        let v : is_free entry ≡ false = used-done q d in
        ap₂ (λ (x : List ℕ) (b : BufferedFile). record { extent = x; holds = b.holds; held = b.held; changed = b.changed; buffer = b.buffer })
        (same-all scene (number-inside i v) (sector * (entry_at s.table j).first) (sector * (entry_at s.table j).sectors) (apart v) (effects q scene) (suits q d) found (ready v))
        (held-other image s types ok i given (length buffer) v q Done (done (done-allows q _ d)) _ _ j n)
    after-other q (Met x) d =
        let m = met-meets q _ x d in
        ap (desk_of (entry_at s.table j) image) (held-other image s types ok i given (length buffer) (met-live _ q x m).used q (Met x) (met x m) _ _ j n)
    after-other q (Refused x) d = refl

  -- ---- the file itself

  module _ (kind : has_buffer entry ≡ true) where
    abbrev d : Desk
    d = desk_of entry image (held_of s i)

    its-kind : has_buffer scene.entry ≡ true
    unfolding buffered_scene
    its-kind = kind

    used : is_free entry ≡ false
    used = buffer-used entry kind

    -- it stays open, with the buffer that it then has
    still_open : (q : Request) → judge q (facts q) ≡ Done → (file_done q scene).used ≡ true
        → desk_of entry (left Done q).image (held_of (left Done q).session i) ≡ desk entry (buffered_all scene (effects q scene) found)
    unfolding buffered_after buffered_scene file_next desk_of
    still_open q j u =
        let b : BufferedFile = (buffered_all scene (effects q scene) found).file in
        ap (desk_of entry (buffered_all scene (effects q scene) found).image) (held-open image s types ok i given (length buffer) used q Done (done (done-allows q _ j)) _ b u ∙ kept-used (file_done q scene) b u)

    -- what it sees of its extent
    seen-is : scene.bytes ≡ seen_on d
    unfolding buffered_scene seen_on desk_of extent_with holds_one
    seen-is =
        let b : BufferedFile = held_of s i in
        ap (λ (t : Bool). elim t [ true ↦ lay (extent entry image) (sector * b.held) b.buffer | false ↦ extent entry image ])
        (ap (λ (t : Bool). b.holds && t) kind ∙ and-true b.holds)

    read_is : effects Read scene ≡ map hold (read_in entry file (seen_on d))
    unfolding effects buffered_scene
    read_is = read-list scene its-kind ∙ ap (λ (x : List ℕ). map hold (read_in entry file x)) seen-is

    write-is : effects Write scene ≡ map change (changes_of entry file given)
    unfolding effects buffered_scene
    write-is = write-list scene its-kind

    read-desk : judge Read (facts Read) ≡ Done → desk entry (buffered_all scene (effects Read scene) found) ≡ in_turn taken (read_in entry file (seen_on d)) d
    unfolding buffered_scene
    read-desk j =
        ap (λ (xs : List Effect). desk entry (buffered_all scene xs found)) read_is
        ∙ desk-takes scene (read_in entry file (seen_on d)) (subst (AllSuit entry) read_is (suits Read j)) found (ready used)

    write-desk : judge Write (facts Write) ≡ Done → desk entry (buffered_all scene (effects Write scene) found) ≡ in_turn worked (changes_of entry file given) d
    unfolding buffered_scene
    write-desk j =
        ap (λ (xs : List Effect). desk entry (buffered_all scene xs found)) write-is
        ∙ desk-works scene (changes_of entry file given) (subst (AllSuit entry) write-is (suits Write j)) found (ready used)

    -- put back
    put_first : buffered_do scene put_back found ≡ putting_back entry found
    unfolding buffered_do buffered_scene
    put_first = chosen (has_buffer entry) (putting_back entry found) found kind

    back-desk : desk entry (buffered_do scene put_back found) ≡ back d
    back-desk = ap (desk entry) put_first ∙ desk-back entry found (ready used)

    -- count and flags are stored in the directory, and no extent begins there
    stamped : (x : List ℕ) → extent entry (lay x (entry_size * i + 16) (stamp_bytes entry.count entry.flags)) ≡ extent entry x
    unfolding extent stamp_bytes word
    stamped x = part-lay-apart x (entry_size * i + 16) _ _ _ (omega (arith, (lies_at i used).starts, number-inside i used))

    back-extent : extent entry (buffered_do scene put_back found).image ≡ (back d).extent
    unfolding desk_of
    back-extent = ap (λ (x : Desk). x.extent) back-desk

    close-desk : judge (Position RewindOffline) (facts (Position RewindOffline)) ≡ Done
        → desk_of entry (left Done (Position RewindOffline)).image (held_of (left Done (Position RewindOffline)).session i) ≡ closed (back d)
    unfolding buffered_after buffered_scene file_next file_done effects buffered_all buffered_do plain_do desk_of closed
    close-desk j =
        ap (desk_of entry (buffered_all scene (effects (Position RewindOffline) scene) found).image)
        (held-closed image s types ok i given (length buffer) used (Position RewindOffline) Done (done (done-allows (Position RewindOffline) _ j)) _ (buffered_do scene put_back found).file refl)
        ∙ ap (λ (x : List ℕ). record { extent = x; holds = false; held = 0; changed = false; buffer = replicate sector 0 }) (stamped (buffered_do scene put_back found).image ∙ back-extent)

    after-done : (q : Request) → judge q (facts q) ≡ Done → desk_of entry (left Done q).image (held_of (left Done q).session i) ≡ desk_done q entry file given d
    unfolding desk_done effects buffered_all buffered_do buffered_scene file_done facts_of
    after-done Open j = still_open Open j refl
    after-done Read j = still_open Read j refl ∙ read-desk j
    after-done Write j = still_open Write j refl ∙ write-desk j
    after-done (GranuleRead g) j = absurd (not-random scene its-kind (done-allows (GranuleRead g) _ j).finds.random)
    after-done (GranuleWrite g) j = absurd (not-random scene its-kind (done-allows (GranuleWrite g) _ j).finds.random)
    after-done (GranuleLook g) j = absurd (not-random scene its-kind (done-allows (GranuleLook g) _ j).random)
    after-done (Position WriteMark) j = still_open (Position WriteMark) j refl ∙ back-desk
    after-done (Position RewindOnline) j = still_open (Position RewindOnline) j refl ∙ back-desk
    after-done (Position RewindOffline) j = close-desk j
    after-done (Position RecordForward) j = still_open (Position RecordForward) j refl
    after-done (Position RecordBack) j = still_open (Position RecordBack) j refl
    after-done (Position FileForward) j = still_open (Position FileForward) j refl ∙ back-desk
    after-done (Position FileBack) j = still_open (Position FileBack) j refl ∙ back-desk

    met-used : (x : Edge) → (file_met x scene.file).used ≡ true
    unfolding file_met
    met-used EndOfFile = refl
    met-used BeginningOfTape = refl

    after-own : (q : Request) (a : Answer) → judge q (facts q) ≡ a → desk_of entry (left a q).image (held_of (left a q).session i) ≡ desk_next a q entry file given d
    unfolding desk_next buffered_after buffered_scene file_next desk_of
    after-own q Done j = after-done q j
    after-own q (Met x) j =
        let m = met-meets q _ x j in
        ap (desk_of entry image) (held-open image s types ok i given (length buffer) used q (Met x) (met x m) _ (held_of s i) (met-used x) ∙ kept-used (file_met x file) (held_of s i) (met-used x))
    after-own q (Refused x) j = refl

    after-inside : (q : Request) (a : Answer) → judge q (facts q) ≡ a → puts_back q ≡ false → within d (taken_by q entry file given d) ≡ true → (left a q).image ≡ image
    unfolding buffered_after
    after-inside q Done j p h = go q j p h
      where
        go : (q : Request) → judge q (facts q) ≡ Done → puts_back q ≡ false → within d (taken_by q entry file given d) ≡ true → (buffered_all scene (effects q scene) found).image ≡ image
        go Open j p h = unfold effects buffered_all in refl
        go Read j p h = unfold taken_by desk_of in (ap (λ (xs : List Effect). (buffered_all scene xs found).image) read_is ∙ takes_none scene (read_in entry file (seen_on d)) found h)
        go Write j p h = unfold taken_by desk_of in (ap (λ (xs : List Effect). (buffered_all scene xs found).image) write-is ∙ works-none scene (changes_of entry file given) found h)
        go (GranuleRead g) j p h = unfold effects buffered_all in refl
        go (GranuleWrite g) j p h = absurd (not-random scene its-kind (unfold facts_of in (done-allows (GranuleWrite g) _ j).finds.random))
        go (GranuleLook g) j p h = unfold effects buffered_all in refl
        go (Position WriteMark) j p h = unfold puts_back in both_ways true refl p
        go (Position RewindOnline) j p h = unfold puts_back in both_ways true refl p
        go (Position RewindOffline) j p h = unfold puts_back in both_ways true refl p
        go (Position RecordForward) j p h = unfold effects buffered_all in refl
        go (Position RecordBack) j p h = unfold effects buffered_all in refl
        go (Position FileForward) j p h = unfold puts_back in both_ways true refl p
        go (Position FileBack) j p h = unfold puts_back in both_ways true refl p
    after-inside q (Met x) j p h = refl
    after-inside q (Refused x) j p h = refl

-- ---- a request on any session

module _ (w : Standing BufferedSession) (a : Asked) (fine : sound w.image w.session ≡ true) where
  abbrev i : ℕ
  i = a.entry

  -- one that is not legal: 12, and nothing changed
  module _ (l : buffered_legal w.image w.session ≡ false) where
    twelve : (answered buffered_engine w a).answer ≡ Refused NotLegal
    unfolding answered
    twelve = answers-12 buffered_engine buffered-orderly w.image w.session a.entry a.request a.given a.buffer l

    stays : step_of buffered_engine w a ≡ w
    unfolding step_of answered
    stays =
        let n = nothing-changed buffered_engine buffered-orderly w.image w.session a.entry a.request a.given a.buffer l in
        ap₂ (λ (x : List ℕ) (s : BufferedSession). record { image = x; session = s }) n.0 n.1

  -- a legal one
  module _ (ok : buffered_legal w.image w.session ≡ true) where
    abbrev answer : Answer
    answer = buffered_answer w.image w.session a.entry a.request a.given (length a.buffer)

    judged : judge a.request (facts w.image w.session fine ok i a.given a.buffer a.request) ≡ answer
    unfolding buffered_answer
    judged = rw ok

    step_is : step_of buffered_engine w a ≡ left w.image w.session fine ok i a.given a.buffer answer a.request
    unfolding step_of answered buffered_step
    step_is = refl

    answer-is : (answered buffered_engine w a).answer ≡ answer
    unfolding answered
    answer-is = buffered-answered w.image w.session a.entry a.request a.given a.buffer

  -- what is promised of entry i as e
  abbrev Own : Entry → Type 0
  Own e =
      desk_at buffered_engine (step_of buffered_engine w a) e i
      ≡ desk_next (answered buffered_engine w a).answer a.request e (file_at buffered_engine w i).file a.given (desk_at buffered_engine w e i)

  abbrev Inside : Entry → Type 0
  Inside e =
      puts_back a.request ≡ false → within (desk_at buffered_engine w e i) (taken_by a.request e (file_at buffered_engine w i).file a.given (desk_at buffered_engine w e i)) ≡ true
      → (answered buffered_engine w a).image ≡ w.image

  module _ (kind : has_buffer (entry_at w.session.table i) ≡ true) where
    abbrev here : Entry
    here = entry_at w.session.table i

    own-step : Own here
    unfolding desk_next
    own-step = either (buffered_legal w.image w.session)
        (λ ok.
        ap (λ (v : Standing BufferedSession). desk_at buffered_engine v here i) (step_is ok)
        ∙ after-own w.image w.session fine ok i a.given a.buffer kind a.request (answer ok) (judged ok)
        ∙ ap₂ (λ (x : Answer) (f : OpenFile). desk_next x a.request here f a.given (desk_at buffered_engine w here i)) (sym (answer-is ok)) (sym (held-file w.session i)))
        (λ l.
        ap (λ (v : Standing BufferedSession). desk_at buffered_engine v here i) (stays l)
        ∙ ap (λ (x : Answer). desk_next x a.request here (file_at buffered_engine w i).file a.given (desk_at buffered_engine w here i)) (sym (twelve l)))

    inside-step : Inside here
    unfolding step_of
    inside-step p h = either (buffered_legal w.image w.session)
        (λ ok.
        let k = subst (λ (f : OpenFile). within (desk_at buffered_engine w here i) (taken_by a.request here f a.given (desk_at buffered_engine w here i)) ≡ true) (held-file w.session i) h in
        ap (λ (v : Standing BufferedSession). v.image) (step_is ok)
        ∙ after-inside w.image w.session fine ok i a.given a.buffer kind a.request (answer ok) (judged ok) p k)
        (λ l. ap (λ (v : Standing BufferedSession). v.image) (stays l))

  others-step : (j : ℕ) → has_buffer (entry_at w.session.table j) ≡ true → j ≢ i
      → desk_at buffered_engine (step_of buffered_engine w a) (entry_at w.session.table j) j ≡ desk_at buffered_engine w (entry_at w.session.table j) j
  others-step j kind n = either (buffered_legal w.image w.session)
      (λ ok.
      ap (λ (v : Standing BufferedSession). desk_at buffered_engine v (entry_at w.session.table j) j) (step_is ok)
      ∙ after-other w.image w.session fine ok i a.given a.buffer j n (buffer-used (entry_at w.session.table j) kind) a.request (answer ok) (judged ok))
      (λ l. ap (λ (v : Standing BufferedSession). desk_at buffered_engine v (entry_at w.session.table j) j) (stays l))

-- ---- an edit

edit-step : (w : Standing BufferedSession) (x : Editing) → sound w.image w.session ≡ true → (i : ℕ) → has_buffer (entry_at w.session.table i) ≡ true
    → desk_at buffered_engine (edit_of buffered_engine w x) (entry_at w.session.table i) i ≡ desk_at buffered_engine w (entry_at w.session.table i) i
unfolding desk_of edit_of edited
edit-step w x fine i kind =
    ap₂ (λ (y : List ℕ) (b : BufferedFile). record { extent = y; holds = b.holds; held = b.held; changed = b.changed; buffer = b.buffer })
    (extent-edited w.image w.session x.entry x.edit x.name (sound-typed w.image w.session fine) i (buffer-used (entry_at w.session.table i) kind))
    (edit-held w.image w.session x.entry x.edit x.name i)

pub buffering : Buffering buffered_engine
buffering = record {
  edits = λ w x i e b.
      subst (λ (y : Entry). desk_at buffered_engine (edit_of buffered_engine w x) y i ≡ desk_at buffered_engine w y i) b.its (edit-step w x b.is_sound i (rw b.its b.kind));
  own = λ w a e b. subst (Own w a b.is_sound) b.its (own-step w a b.is_sound (rw b.its b.kind));
  others = λ w a i e b n.
      subst (λ (x : Entry). desk_at buffered_engine (step_of buffered_engine w a) x i ≡ desk_at buffered_engine w x i) b.its (others-step w a b.is_sound i (rw b.its b.kind) n);
  inside = λ w a e b. subst (Inside w a b.is_sound) b.its (inside-step w a b.is_sound (rw b.its b.kind));
}
