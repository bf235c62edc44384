-- One request in the plain engine, on any entry number: the answer, the bytes moved and what the session then shows are those of the tapes and rows
-- that it shows; and what holds from a mounting on still holds.
use mathlib.Core.Path.{◌≡◌, refl, sym, ap, ◌∙◌}
use mathlib.Core.Bool.{true, false}
use mathlib.Core.List.{List, []}
use Prim.Native.Nat.{ℕ, ◌+◌, ◌*◌, ◌≤◌, ◌<◌}
use native.Mathlib.Omega.{arith}
use lib.ListN.{length, get_or, set, get_or-map}
use lib.Seq.{set-get_or, map-set_same}
use borrow.Author.Tests.{eqb-true}
use Rattle.geometry.specs.Bytes.{part, lay}
use Rattle.geometry.specs.Sizes.{sector, random}
use Rattle.geometry.specs.Places.{place_of, byte_of, capacity}
use Rattle.geometry.proofs.Bytes.{lay-nil, part-part}
use Rattle.geometry.proofs.Places.{record-inside}
use Rattle.geometry.proofs.Tests.{either}
use Rattle.directory.specs.Entries.{entry_at, free_entry, is_free, is_kind}
use Rattle.directory.specs.Stamp.{restamped}
use Rattle.requests.specs.Judge.{judge, tests, first_of, or_else, whether}
use Rattle.requests.proofs.Done.{Live, Finds, done-allows, met-meets}
use Rattle.requests.proofs.Live.{Alive, done-live, done-real, met-live}
use Rattle.sessions.specs.Session.{file_of, open_files, extent}
use Rattle.steps.specs.Next.{Scene, facts_of, fixed_at, entry_done, counted}
use Rattle.steps.specs.Effects.{effects, plain_all}
use Rattle.steps.specs.Look.{shown, plain_look_answer, plain_look}
use Rattle.steps.specs.Step.{After, plain_scene, plain_answer, plain_after, plain_step}
use Rattle.steps.specs.Verdict.{entry_next, file_next}
use Rattle.steps.proofs.Frame.{Beside, beside-plain}
use Rattle.steps.proofs.Inside.{lawful, suit}
use Rattle.steps.proofs.Lawful.{Lawful}
use Rattle.serving.proofs.Stays.{same_next}
use Rattle.tapes.specs.Tape.{Tape, tape_facts}
use Rattle.tapes.specs.Model.{Model, tape, nothing, Asked, model_at, model_facts, model_next, model_into, model_shown, model_answer, model_step, if_done}
use Rattle.tapes.proofs.Opened.{refused-stays}
use Rattle.serving.proofs.Solo.{Serves, solo_answer}
use Rattle.serving.proofs.Keeping.{Answered, done, met}
use Rattle.serving.proofs.View.{shows_at, view, shows-free, view-at, open-view}
use Rattle.serving.proofs.Lifting.{any-serves, Stands, scene_of, met-moves, done-moves, stands-next, view-next}
use Rattle.directory.specs.declared.Entry.{Entry}
use Rattle.sessions.specs.declared.Session.{Session}
use Rattle.requests.specs.declared.Answer.{Answer}
use Rattle.requests.specs.declared.Answer.TheVariants.{Done, Met, Refused}
use Rattle.requests.proofs.First.{not_there}
use Rattle.steps.proofs.Answered.{plain-answered}
use Rattle.requests.specs.declared.Edge.{Edge}
use Rattle.requests.specs.declared.Facts.{Facts}
use Rattle.requests.specs.declared.Request.{Request}
use Rattle.requests.specs.declared.Request.TheVariants.{Open, Read, Write, GranuleRead, GranuleWrite, GranuleLook, Position}

-- what a change of one member leaves as it was
set-alike : {A B : Type 0} (f : A → B) (l : List A) (i : ℕ) (a : A) (k : ℕ) (d : A) → f a ≡ f (get_or l i d) → f (get_or (set l i a) k d) ≡ f (get_or l k d)
set-alike {A} {B} f l i a k d e =
    sym (get_or-map f (set l i a) k d) ∙ ap (λ (m : List B). get_or m k (f d)) (map-set_same f l i a d e) ∙ get_or-map f l k d

abbrev pub asked : ℕ → Request → List ℕ → List ℕ → Asked
asked i q given buffer = record { entry = i; request = q; given = given; buffer = buffer }

module _ (image : List ℕ) (s : Session) (v : Stands image s) (i : ℕ) (given : List ℕ) where
  abbrev c : Scene
  c = scene_of image s i given

  abbrev n : ℕ
  n = open_files s.files

  abbrev ms : List Model
  ms = view image s

  module _ (q : Request) (buffer : List ℕ) where
    -- the session is legal, so the file is judged as it is by itself
    by_itself : plain_answer image s i q given (length buffer) ≡ solo_answer n (length buffer) q c
    unfolding plain_answer plain_scene
    by_itself = rw v.ok

    serves-here : is_free (entry_at s.table i) ≡ false → Serves n (length buffer) q c (shows_at image s i) (solo_answer n (length buffer) q c)
    unfolding shows_at
    serves-here u = any-serves n (length buffer) q c u (v.sound i u)

    pub answer-same : plain_answer image s i q given (length buffer) ≡ model_answer ms (asked i q given buffer)
    unfolding model_answer
    answer-same =
        by_itself
        ∙ either (is_free (entry_at s.table i)) free-entry (λ (u : is_free (entry_at s.table i) ≡ false). ap (judge q) (serves-here u).judged)
        ∙ rw (open-view image s v.ok, view-at image s v.many i)
      where
        free-entry : is_free (entry_at s.table i) ≡ true → solo_answer n (length buffer) q c ≡ judge q (model_facts n given (length buffer) (shows_at image s i))
        free-entry u =
            let m : shows_at image s i ≡ nothing = unfold shows_at in shows-free (entry_at s.table i) _ _ u in
            not_there q (facts_of true n (length buffer) q c) (unfold facts_of in refl) (unfold facts_of in u)
            ∙ sym (rw m (not_there q (model_facts n given (length buffer) nothing) (unfold model_facts in refl) (unfold model_facts in refl)))

    -- ---- what the session then shows

    -- the step with its answer known
    abbrev after : Answer → After Session
    after a = plain_after a image s q c buffer

    -- an answer 0, 1 or 2 is for a used entry
    used-done : solo_answer n (length buffer) q c ≡ Done → is_free (entry_at s.table i) ≡ false
    unfolding facts_of
    used-done e = (done-real q _ (done-allows q _ e)).used

    used-met : (x : Edge) → solo_answer n (length buffer) q c ≡ Met x → is_free (entry_at s.table i) ≡ false
    unfolding facts_of
    used-met x e = (met-live _ q x (met-meets q _ x e)).used

    record Behind (a : Answer) : Type 0 where
      stands : Stands (after a).image (after a).session
      shows : view (after a).image (after a).session ≡ set ms i (model_next q a given (model_at ms i))

    behind-next : (a : Answer) → solo_answer n (length buffer) q c ≡ a → Behind a
    unfolding plain_after entry_next file_next
    behind-next Done e =
        let u : is_free (entry_at s.table i) ≡ false = used-done e in
        let t : Answered q n (length buffer) c Done = done (done-allows q _ e) in
        record {
          stands = stands-next image s v i u given (length buffer) q Done e t _ (done-moves image s v i u given (length buffer) q e);
          shows = view-next image s v i u given (length buffer) q Done e t _ (done-moves image s v i u given (length buffer) q e);
        }
    behind-next (Met x) e =
        let u : is_free (entry_at s.table i) ≡ false = used-met x e in
        let t : Answered q n (length buffer) c (Met x) = met x (met-meets q _ x e) in
        let k : set s.table i (entry_at s.table i) ≡ s.table = set-get_or s.table i free_entry in
        record {
          stands = rw k at (stands-next image s v i u given (length buffer) q (Met x) e t image (met-moves image s v i u given (length buffer) q x));
          shows = rw k at (view-next image s v i u given (length buffer) q (Met x) e t image (met-moves image s v i u given (length buffer) q x));
        }
    behind-next (Refused x) e = record { stands = v; shows = sym (rw (refused-stays q x given (model_at ms i)) (set-get_or ms i nothing)) }

    behind-step : Behind (plain_answer image s i q given (length buffer))
    behind-step = behind-next _ (sym by_itself)

    pub stands-step : Stands (plain_step image s i q given buffer).image (plain_step image s i q given buffer).session
    unfolding plain_step plain_scene
    stands-step = behind-step.stands

    pub view-step : view (plain_step image s i q given buffer).image (plain_step image s i q given buffer).session ≡ model_step ms (asked i q given buffer)
    unfolding plain_step plain_scene model_step
    view-step = behind-step.shows ∙ ap (λ (a : Answer). set ms i (model_next q a given (model_at ms i))) answer-same

    pub answer-step : (plain_step image s i q given buffer).answer ≡ model_answer ms (asked i q given buffer)
    unfolding plain_step plain_scene
    answer-step = plain-answered image s i q given buffer ∙ answer-same

    -- ---- the bytes that are moved

    pub buffer-step : (plain_step image s i q given buffer).buffer ≡ lay buffer 0 (if_done (model_answer ms (asked i q given buffer)) (model_into q (model_at ms i)))
    unfolding plain_step plain_scene plain_after if_done
    buffer-step = go (plain_answer image s i q given (length buffer)) (sym by_itself) ∙ rw answer-same
      where
        go : (a : Answer) → solo_answer n (length buffer) q c ≡ a → (plain_after a image s q c buffer).buffer ≡ lay buffer 0 (if_done a (model_into q (model_at ms i)))
        go Done e = ap (lay buffer 0) ((serves-here (used-done e)).moved e ∙ ap (model_into q) (sym (view-at image s v.many i)))
        go (Met x) e = sym (lay-nil buffer 0)
        go (Refused x) e = sym (lay-nil buffer 0)

    -- ---- the bytes that are not

    -- a byte that the file may not write stays, and so does every byte where the file is not open
    pub untouched-step : (j : ℕ) → ((file_of s.files i).used ≡ true → Beside c j) → get_or (plain_step image s i q given buffer).image j 0 ≡ get_or image j 0
    unfolding plain_step plain_scene plain_after
    untouched-step j far = go (plain_answer image s i q given (length buffer)) (sym by_itself)
      where
        inside-own : (q : Request) → solo_answer n (length buffer) q c ≡ Done → Live (facts_of true n (length buffer) q c) → get_or (plain_all c (effects q c) image) j 0 ≡ get_or image j 0
        inside-own q e l =
            beside-plain c (effects q c) (suit n (length buffer) q c (lawful image s v.ok i (unfold facts_of in l.used)) e) image j (far (unfold facts_of in l.opened))

        alive : (q : Request) → solo_answer n (length buffer) q c ≡ Done → Alive q (facts_of true n (length buffer) q c) → get_or (plain_all c (effects q c) image) j 0 ≡ get_or image j 0
        alive Open e l = unfold effects plain_all in refl
        alive Read e l = inside-own Read e l
        alive Write e l = inside-own Write e l
        alive (GranuleRead g) e l = inside-own (GranuleRead g) e l
        alive (GranuleWrite g) e l = inside-own (GranuleWrite g) e l
        alive (GranuleLook g) e l = inside-own (GranuleLook g) e l
        alive (Position o) e l = inside-own (Position o) e l

        go : (a : Answer) → solo_answer n (length buffer) q c ≡ a → get_or (plain_after a image s q c buffer).image j 0 ≡ get_or image j 0
        go Done e = alive q e (done-live q _ (done-allows q _ e))
        go (Met x) e = refl
        go (Refused x) e = refl

    -- an entry keeps all but its count and flags
    pub bare_step : (k : ℕ) → restamped (entry_at (plain_step image s i q given buffer).session.table k) 0 0 ≡ restamped (entry_at s.table k) 0 0
    unfolding plain_step plain_scene plain_after
    bare_step k = go (plain_answer image s i q given (length buffer))
      where
        go : (a : Answer) → restamped (entry_at (plain_after a image s q c buffer).session.table k) 0 0 ≡ restamped (entry_at s.table k) 0 0
        go Done = set-alike (λ (e : Entry). restamped e 0 0) s.table i (entry_done q c) k free_entry (unfold entry_next counted in same_next (λ (e : Entry). restamped e 0 0) q c Done (λ m p h. refl))
        go (Met x) = refl
        go (Refused x) = refl

  -- ---- what is shown in place

  -- neither the bytes given nor the buffer are looked at
  look-answer : (g m : ℕ) → plain_look_answer image s i g ≡ plain_answer image s i (GranuleLook g) given m
  unfolding plain_look_answer plain_answer plain_scene facts_of judge tests first_of or_else whether
  look-answer g m = refl

  -- a granule of the extent, as the image has it
  in_image : (g : ℕ) → Lawful c.entry c.file → is_kind random c.entry ≡ true → g < capacity c.entry.kind c.entry.length c.entry.sectors
      → part image (sector * c.entry.first + byte_of (place_of random c.entry.length g)) c.entry.length ≡ fixed_at c g
  unfolding fixed_at extent
  in_image g w r h =
      let k : c.entry.kind ≡ random = eqb-true c.entry.kind random r in
      let l : byte_of (place_of c.entry.kind c.entry.length g) + c.entry.length ≤ sector * c.entry.sectors =
      record-inside c.entry.kind c.entry.length (omega (arith, w.long)) (λ z. absurd (omega arith)) g c.entry.sectors h in
      ap (λ (j : ℕ). part image (sector * c.entry.first + byte_of (place_of j c.entry.length g)) c.entry.length) (sym k)
      ∙ sym (part-part image (sector * c.entry.first) (sector * c.entry.sectors) (byte_of (place_of c.entry.kind c.entry.length g)) c.entry.length l)

  pub look-step : (g : ℕ) (buffer : List ℕ) → plain_look image s i g ≡ if_done (model_answer ms (asked i (GranuleLook g) given buffer)) (model_shown (GranuleLook g) (model_at ms i))
  unfolding plain_look shown if_done facts_of
  look-step g buffer =
      rw (look-answer g (length buffer), ← (answer-same (GranuleLook g) buffer))
      (go (plain_answer image s i (GranuleLook g) given (length buffer)) (sym (by_itself (GranuleLook g) buffer)))
    where
      go : (a : Answer) → solo_answer n (length buffer) (GranuleLook g) c ≡ a
          → shown a (entry_at s.table i) g image ≡ if_done a (model_shown (GranuleLook g) (model_at ms i))
      go Done e =
          let u : is_free (entry_at s.table i) ≡ false = used-done (GranuleLook g) buffer e in
          let f : Finds g (facts_of true n (length buffer) (GranuleLook g) c) = done-allows (GranuleLook g) _ e in
          in_image g (v.sound i u).lawful f.random f.there
          ∙ (serves-here (GranuleLook g) buffer u).seen g refl e
          ∙ ap (model_shown (GranuleLook g)) (sym (view-at image s v.many i))
      go (Met x) e = refl
      go (Refused x) e = refl

-- ---- a tape's length is its entry's count

pub tape-used : (image : List ℕ) (s : Session) (i : ℕ) (t : Tape) → shows_at image s i ≡ tape t → is_free (entry_at s.table i) ≡ false
unfolding shows_at
tape-used image s i t e =
    either (is_free (entry_at s.table i))
    (λ (u : is_free (entry_at s.table i) ≡ true).
    let z : nothing ≡ tape t = sym (shows-free (entry_at s.table i) _ _ u) ∙ e in
    absurd (let o : ◌≡◌ {A = ℕ} 0 1 = cc in omega arith))
    (λ u. u)

pub tape-counts : (image : List ℕ) (s : Session) → Stands image s → (i : ℕ) (t : Tape) → shows_at image s i ≡ tape t
    → ((entry_at s.table i).count ≡ length t.records) × (t.position ≤ length t.records)
unfolding facts_of model_facts tape_facts
tape-counts image s v i t e =
    let u : is_free (entry_at s.table i) ≡ false = tape-used image s i t e in
    let k : facts_of true (open_files s.files) 0 Write (scene_of image s i []) ≡ tape_facts (open_files s.files) [] 0 t = rw e at (serves-here image s v i [] Write [] u).judged in
    let c : (entry_at s.table i).count ≡ length t.records = ap (λ (f : Facts). f.count) k in
    let p : (file_of s.files i).position ≡ t.position = ap (λ (f : Facts). f.position) k in
    (c, omega (arith, (v.sound i u).lawful.standing))
