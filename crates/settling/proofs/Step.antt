-- The buffered engine's step, seen with every held buffer laid back, is the plain engine's step.
use mathlib.Core.Path.{◌≡◌, refl, sym, ap, subst, subst₂, ◌∙◌}
use mathlib.Core.Bool.{true, false, ◌&&◌, not}
use mathlib.Core.List.{List, [], ◌∷◌}
use Prim.Native.Nat.{ℕ, ◌<◌}
use native.Mathlib.Omega.{arith}
use lib.ListN.{length, set, length-map}
use lib.Seq.{set-get_or}
use borrow.Author.Tests.{eqb-false, not-true}
use Rattle.geometry.specs.Lists.{first_with}
use Rattle.geometry.specs.Sizes.{entries, most_open}
use Rattle.geometry.proofs.Tests.{either, both_ways, many-room, first_holds}
use Rattle.directory.specs.Entries.{entry_at, free_entry, is_free}
use Rattle.directory.proofs.Good.{used-inside}
use Rattle.requests.specs.Judge.{judge}
use Rattle.requests.proofs.Done.{Live, Opens, Allows, Meets, done-allows, met-meets}
use Rattle.requests.proofs.Live.{met-live}
use Rattle.sessions.specs.Session.{idle, fresh, bare, file_of, slot_of, open_files, holds_one, extent_with, legal}
use Rattle.sessions.proofs.Held.{one_holds, no-buffer-none}
use Rattle.sessions.proofs.Legal.{bare-legal, legal-length}
use Rattle.steps.specs.Effects.{Effect, stamp, put_back, Bench, effects, plain_all, buffered_do, buffered_all, putting_back}
use Rattle.steps.specs.Next.{Scene, facts_of, file_done, file_met, entry_done}
use Rattle.steps.specs.Step.{After, held_of, kept, plain_after, plain_step, buffered_scene, buffered_answer, buffered_after, buffered_step}
use Rattle.steps.proofs.Buffer.{back-cases}
use Rattle.steps.proofs.Lawful.{Lawful}
use Rattle.steps.proofs.Inside.{lawful, AllSuit, suit}
use Rattle.settling.proofs.Settle.{held_by, settle}
use Rattle.settling.proofs.Bench.{own, Fits, own-unchanged, own-none, and-other, all-does}
use Rattle.steps.proofs.Standing.{held_at, bare-at, Opened, Shut, Standing, is_open, is_shut, standing, shut-others}
use Rattle.settling.proofs.Kept.{Kept, hold-unused, table-length, files-length, entry-room, clear}
use Rattle.settling.proofs.Scene.{length-settle, same-scene, same_answer, open-fits, open-hold, open-clear}
use Rattle.settling.proofs.Next.{SameShape, same_shape, entry-shape, bare-next}
use Rattle.settling.proofs.Served.{Slot, settle-next, kept_next}
use Rattle.directory.specs.declared.Entry.{Entry}
use Rattle.requests.specs.declared.Edge.{Edge}
use Rattle.requests.specs.declared.Edge.TheVariants.{EndOfFile, BeginningOfTape}
use Rattle.requests.specs.declared.Facts.{Facts}
use Rattle.requests.specs.declared.Order.TheVariants.{WriteMark, RewindOnline, RewindOffline, RecordForward, RecordBack, FileForward, FileBack}
use Rattle.requests.specs.declared.Request.{Request}
use Rattle.requests.specs.declared.Request.TheVariants.{Open, Read, Write, GranuleRead, GranuleWrite, GranuleLook, Position}
use Rattle.requests.specs.declared.Answer.{Answer}
use Rattle.requests.specs.declared.Answer.TheVariants.{Done, Met, Refused}
use Rattle.sessions.specs.declared.BufferedSession.{BufferedSession}
use Rattle.sessions.specs.declared.OpenFile.{OpenFile}
use Rattle.sessions.specs.declared.Session.{Session}

-- what the two engines make of one request: the same answer and buffer, and image and session that the settled ones are
pub record Agrees (r : After BufferedSession) (p : After Session) : Type 0 where
  pub answer : r.answer ≡ p.answer
  pub image : settle r.image r.session ≡ p.image
  pub session : bare r.session ≡ p.session
  pub buffer : r.buffer ≡ p.buffer
  pub stays : legal p.image p.session ≡ true → Kept r.image r.session

-- ---- the state that a request is served in

module _ (image : List ℕ) (s : BufferedSession) (ok : Kept image s) (i : ℕ) where
  abbrev e : Entry
  e = entry_at s.table i

  -- an open file's own
  slot-open : (k : ℕ) → Opened s i k → Slot image s i (slot_of (bare s).files i) (held_of s i)
  slot-open k o =
      let z : Slot image s i k (held_at s k) =
      record { inside = o.inside; hold = open-hold image s ok i k o; fits = open-fits image s ok i k o; clear = open-clear image s ok i k o } in
      subst₂ (Slot image s i) (sym o.slot) (sym o.buffer) z

  -- or, for an opening, the first that is not in use
  slot-shut : Shut s i → is_free e ≡ false → open_files (bare s).files < most_open → Slot image s i (slot_of (bare s).files i) (held_of s i)
  unfolding held_by holds_one open_files
  slot-shut h u r =
      let k : ℕ = first_with (λ f. not f.used) (bare s).files in
      let m : length (bare s).files ≡ length s.files = many in
      let l : k < length (bare s).files = many-room (λ f. f.used) (bare s).files (omega (arith, m, files-length s ok.is_typed)) in
      let n : (held_at s k).file.used ≡ false =
      ap (λ (f : OpenFile). f.used) (sym (bare-at s k)) ∙ not-true _ (first_holds (λ f. not f.used) (bare s).files idle l) in
      let q = entry-room image s ok i u in
      let z : Slot image s i k (fresh idle) = record {
        inside = omega arith;
        hold = hold-unused s.table (held_at s k) n;
        fits = record { starts = q.0; room = q.1; size = refl; within = λ x. both_ways false x refl; unchanged = λ x. both_ways false x refl };
        clear = λ j d. clear image s ok i u j (shut-others s i h j);
      } in
      subst₂ (Slot image s i) (sym h.slot) (sym h.buffer) z
    where
      many : length (bare s).files ≡ length s.files
      many = unfold bare in length-map s.files (λ f. f.file)

  pub number-inside : is_free e ≡ false → i < entries
  number-inside u = omega (arith, used-inside s.table i (eqb-false e.kind 0 u), table-length s ok.is_typed)

-- ---- after a closing nothing is held that the image has not

pub idle-own : (e : Entry) (v : Bench) → Fits e v → (holds_one e v.file ≡ true → v.file.changed ≡ false) → own e v ≡ v.image
idle-own e v f z = either (holds_one e v.file) (λ (h : holds_one e v.file ≡ true). own-unchanged e v f h (z h)) (own-none e v)

back-unchanged : (e : Entry) (w : Bench) → (putting_back e w).file.holds ≡ true → (putting_back e w).file.changed ≡ false
unfolding putting_back
back-unchanged e w = either (w.file.holds && w.file.changed)
    (λ (t : (w.file.holds && w.file.changed) ≡ true). rw (t, putting_back) (λ h. refl))
    (λ (t : (w.file.holds && w.file.changed) ≡ false). rw (t, putting_back) (λ h. and-other w.file.holds w.file.changed h t))

closing-unchanged : (c : Scene) (w : Bench) (xs : List ℕ) → holds_one c.entry (buffered_all c (put_back ∷ stamp xs ∷ []) w).file ≡ true → (buffered_all c (put_back ∷ stamp xs ∷ []) w).file.changed ≡ false
unfolding buffered_all buffered_do
closing-unchanged c w xs = back-cases (λ (v : Bench). holds_one c.entry v.file ≡ true → v.file.changed ≡ false) c w
    (λ b h. back-unchanged c.entry w (one_holds c.entry (putting_back c.entry w).file h))
    (λ b h. both_ways (holds_one c.entry w.file) h (no-buffer-none c.entry w.file b))

-- ---- a request that is not refused

module _ (image : List ℕ) (s : BufferedSession) (ok : Kept image s) (i : ℕ) (bytes given : List ℕ) (buffer : ℕ) where
  abbrev scene : Scene
  scene = record { number = i; entry = entry_at s.table i; file = file_of (bare s).files i; bytes = bytes; given = given }

  abbrev facts : Request → Facts
  facts q = facts_of true (open_files (bare s).files) buffer q scene

  abbrev found : Bench
  found = record { image = image; file = held_of s i }

  -- a file that is open has a state, of this entry
  pub live-slot : (q : Request) → Live (facts q) → Slot image s i (slot_of (bare s).files i) (held_of s i) × ((file_of (bare s).files i).used ≡ true) × ((file_of (bare s).files i).entry ≡ i)
  unfolding facts_of
  live-slot q l = go (standing s i)
    where
      go : Standing s i → Slot image s i (slot_of (bare s).files i) (held_of s i) × ((file_of (bare s).files i).used ≡ true) × ((file_of (bare s).files i).entry ≡ i)
      go (is_open k o) = (slot-open image s ok i k o, l.opened, ap (λ (f : OpenFile). f.entry) o.file ∙ o.entry)
      go (is_shut h) = both_ways (file_of (bare s).files i).used l.opened (ap (λ (f : OpenFile). f.used) h.file)

  -- a file that is not open, to be opened
  open-slot : Opens (facts Open) → Slot image s i (slot_of (bare s).files i) (held_of s i)
  unfolding facts_of
  open-slot a = go (standing s i)
    where
      go : Standing s i → Slot image s i (slot_of (bare s).files i) (held_of s i)
      go (is_open k o) = both_ways (file_of (bare s).files i).used (ap (λ (f : OpenFile). f.used) o.file ∙ o.used) a.shut
      go (is_shut h) = slot-shut image s ok i h a.used a.few

  -- what a request needs that leaves the file in the state f
  record Ready (f : OpenFile) (xs : List Effect) : Type 0 where
    used : is_free (entry_at s.table i) ≡ false
    slot : Slot image s i (slot_of (bare s).files i) (held_of s i)
    of_entry : f.used ≡ true → f.entry ≡ i
    gone : f.used ≡ false → (holds_one (entry_at s.table i) (buffered_all scene xs found).file ≡ true → (buffered_all scene xs found).file.changed ≡ false)

  -- one that stays open
  stays_open : (q : Request) (f : OpenFile) (xs : List Effect) → Live (facts q) → f.used ≡ true → f.entry ≡ (file_of (bare s).files i).entry → Ready f xs
  unfolding facts_of
  stays_open q f xs l u p = let z = live-slot q l in
      record { used = l.used; slot = z.0; of_entry = λ x. p ∙ z.2; gone = λ x. both_ways f.used u x }

  ready-done : (q : Request) → Allows q (facts q) → Ready (file_done q scene) (effects q scene)
  unfolding file_done effects facts_of
  ready-done Open a = record { used = a.used; slot = open-slot a; of_entry = λ x. refl; gone = λ x. both_ways true refl x }
  ready-done Read a = stays_open Read _ _ a.advances.running.live refl refl
  ready-done Write a = stays_open Write _ _ a.marks.running.live refl refl
  ready-done (GranuleRead g) a = stays_open (GranuleRead g) _ _ a.finds.live a.finds.live.opened refl
  ready-done (GranuleWrite g) a = stays_open (GranuleWrite g) _ _ a.finds.live a.finds.live.opened refl
  ready-done (GranuleLook g) a = stays_open (GranuleLook g) _ _ a.live a.live.opened refl
  ready-done (Position WriteMark) a = stays_open (Position WriteMark) _ _ a.running.live refl refl
  ready-done (Position RewindOnline) a = stays_open (Position RewindOnline) _ _ a.live refl refl
  ready-done (Position RewindOffline) a =
      record { used = a.used; slot = (live-slot (Position RewindOffline) a).0; of_entry = λ x. both_ways false x refl; gone = λ x. closing-unchanged scene found _ }
  ready-done (Position RecordForward) a = stays_open (Position RecordForward) _ _ a.running.live refl refl
  ready-done (Position RecordBack) a = stays_open (Position RecordBack) _ _ a.running.live refl refl
  ready-done (Position FileForward) a = stays_open (Position FileForward) _ _ a.running.live refl refl
  ready-done (Position FileBack) a = stays_open (Position FileBack) _ _ a.running.live refl refl

  ready-met : (q : Request) (x : Edge) → Meets (facts q) q x → Ready (file_met x (file_of (bare s).files i)) []
  unfolding file_met
  ready-met q EndOfFile m = stays_open q _ _ (met-live _ q EndOfFile m) refl refl
  ready-met q BeginningOfTape m = stays_open q _ _ (met-live _ q BeginningOfTape m) refl refl

  -- what is left of the image and the session
  module _ (f : OpenFile) (xs : List Effect) (r : Ready f xs) (suits : AllSuit (entry_at s.table i) xs) (a : Entry) (shape : SameShape a (entry_at s.table i)) where
    abbrev left : Bench
    left = buffered_all scene xs found

    abbrev next : BufferedSession
    next = record { says = s.says; table = set s.table i a; files = set s.files (slot_of (bare s).files i) (kept f left.file) }

    number : i < entries
    number = number-inside image s ok i r.used

    nothing_left : f.used ≡ false → own (entry_at s.table i) left ≡ left.image
    nothing_left u = idle-own (entry_at s.table i) left (all-does scene number xs suits found r.slot.fits).fits (r.gone u)

    left-settles : settle left.image next ≡ plain_all scene xs (settle image s)
    left-settles = settle-next image s ok i number bytes given (slot_of (bare s).files i) (held_of s i) r.slot xs suits a shape f r.of_entry nothing_left

    left-kept : legal left.image (bare next) ≡ true → Kept left.image next
    left-kept = kept_next image s ok i number bytes given (slot_of (bare s).files i) (held_of s i) r.slot xs suits a shape f r.of_entry nothing_left

    left-bare : bare next ≡ record { says = (bare s).says; table = set (bare s).table i a; files = set (bare s).files (slot_of (bare s).files i) f }
    left-bare = bare-next s i (slot_of (bare s).files i) a f left.file

    -- legal as the plain engine's is
    left-stays : (image' : List ℕ) (s' : Session) → plain_all scene xs (settle image s) ≡ image' → bare next ≡ s' → legal image' s' ≡ true → Kept left.image next
    left-stays image' s' p q l =
        let m : length left.image ≡ length image' = sym (length-settle left.image next) ∙ ap length (left-settles ∙ p) in
        left-kept (ap (legal left.image) q ∙ legal-length left.image image' s' m ∙ l)

  -- ---- the three sorts of answers

  table_same : set (bare s).table i (entry_at s.table i) ≡ (bare s).table
  unfolding bare
  table_same = set-get_or s.table i free_entry

  lawful-here : is_free (entry_at s.table i) ≡ false → Lawful (entry_at s.table i) (file_of (bare s).files i)
  unfolding bare
  lawful-here u = lawful image (bare s) (bare-legal image s ok.is_legal) i u

  done-agrees : (q : Request) (buf : List ℕ) → judge q (facts q) ≡ Done
      → Agrees (buffered_after Done image s q scene (held_of s i) buf) (plain_after Done (settle image s) (bare s) q scene buf)
  unfolding buffered_after plain_after
  done-agrees q buf d =
      let r : Ready (file_done q scene) (effects q scene) = ready-done q (done-allows q (facts q) d) in
      let u : AllSuit (entry_at s.table i) (effects q scene) = suit (open_files (bare s).files) buffer q scene (lawful-here r.used) d in
      record {
        answer = refl;
        image = left-settles (file_done q scene) (effects q scene) r u (entry_done q scene) (entry-shape q scene);
        session = left-bare (file_done q scene) (effects q scene) r u (entry_done q scene) (entry-shape q scene);
        buffer = refl;
        stays = left-stays (file_done q scene) (effects q scene) r u (entry_done q scene) (entry-shape q scene) _ _ refl (left-bare (file_done q scene) (effects q scene) r u (entry_done q scene) (entry-shape q scene));
      }

  met-agrees : (q : Request) (x : Edge) (buf : List ℕ) → judge q (facts q) ≡ Met x
      → Agrees (buffered_after (Met x) image s q scene (held_of s i) buf) (plain_after (Met x) (settle image s) (bare s) q scene buf)
  unfolding buffered_after plain_after buffered_all plain_all
  met-agrees q x buf d =
      let f : OpenFile = file_met x (file_of (bare s).files i) in
      let r : Ready f [] = ready-met q x (met-meets q (facts q) x d) in
      let e : Entry = entry_at s.table i in
      let same : SameShape e e = same_shape e in
      let n : BufferedSession = record { says = s.says; table = s.table; files = set s.files (slot_of (bare s).files i) (kept f (held_of s i)) } in
      let m : next f [] r (record {}) e same ≡ n = ap (λ (t : List Entry). record { says = s.says; table = t; files = n.files }) (set-get_or s.table i free_entry) in
      let b : bare n ≡ record { says = (bare s).says; table = (bare s).table; files = set (bare s).files (slot_of (bare s).files i) f } =
      ap bare (sym m) ∙ left-bare f [] r (record {}) e same ∙ ap (λ (t : List Entry). record { says = (bare s).says; table = t; files = set (bare s).files (slot_of (bare s).files i) f }) table_same in
      record {
        answer = refl;
        image = ap (settle image) (sym m) ∙ left-settles f [] r (record {}) e same;
        session = b;
        buffer = refl;
        stays = λ l. subst (Kept image) m (left-stays f [] r (record {}) e same (settle image s) _ refl (ap bare m ∙ b) l);
      }

  answer-agrees : (q : Request) (buf : List ℕ) (a : Answer) → judge q (facts q) ≡ a
      → Agrees (buffered_after a image s q scene (held_of s i) buf) (plain_after a (settle image s) (bare s) q scene buf)
  unfolding buffered_after plain_after
  answer-agrees q buf Done d = done-agrees q buf d
  answer-agrees q buf (Met x) d = met-agrees q x buf d
  answer-agrees q buf (Refused x) d = record { answer = refl; image = refl; session = refl; buffer = refl; stays = λ l. ok }

-- ---- one request, whatever is asked

pub step-agrees : (image : List ℕ) (s : BufferedSession) → Kept image s → (i : ℕ) (q : Request) (given buffer : List ℕ)
    → Agrees (buffered_step image s i q given buffer) (plain_step (settle image s) (bare s) i q given buffer)
unfolding buffered_step plain_step buffered_scene
step-agrees image s ok i q given buffer =
    rw (← same_answer image s ok i q given (length buffer), ← same-scene image s ok i given)
    (answer-agrees image s ok i (extent_with (entry_at s.table i) (held_of s i) image) given (length buffer) q buffer (buffered_answer image s i q given (length buffer)) judged)
  where
    judged : judge q (facts_of true (open_files (bare s).files) (length buffer) q (buffered_scene image s i given)) ≡ buffered_answer image s i q given (length buffer)
    judged = unfold buffered_answer in rw ok.is_legal
