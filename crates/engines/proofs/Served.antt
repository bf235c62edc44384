-- A request on a session in lent bytes is the step on the session that they are, in the engine that their number tells: what is judged is that step's judgement, what
-- is done are its effects, and laying the verdict's entry and state is storing the next session. A refusal changes nothing, and bytes that are no session are refused.
use mathlib.Core.Path.{◌≡◌, refl, sym, ap, subst, ◌∙◌}
use mathlib.Core.Bool.{Bool, true, false}
use mathlib.Core.List.{List}
use Prim.Native.Nat.{ℕ, ◌<◌}
use lib.ListN.{length, set}
use lib.Seq.{sets}
use Rattle.geometry.specs.Bytes.{part}
use Rattle.geometry.specs.Sizes.{sector, most_open}
use Rattle.directory.specs.Entries.{entry_at}
use Rattle.directory.specs.Stamp.{restamped}
use Rattle.requests.specs.Judge.{judge}
use Rattle.sessions.specs.Session.{fresh, bare, file_of, slot_of, open_files, buffered_legal}
use Rattle.steps.specs.Effects.{effects, Bench, buffered_all}
use Rattle.steps.specs.Next.{Scene, facts_of}
use Rattle.steps.specs.Step.{After, held_of, kept, buffered_scene, plain_step, buffered_step}
use Rattle.steps.specs.Verdict.{buffer_next}
use Rattle.steps.proofs.Standing.{held-file}
use Rattle.straight.specs.Straight.{code_given}
use Rattle.straight.proofs.Judged.{judgement}
use Rattle.straight.specs.Moving.{bench, scene}
use Rattle.blocking.specs.Blocking.{state_with, lent}
use Rattle.held.specs.Held.{held_all, effects_with}
use Rattle.plain.proofs.Acts as plainly
use Rattle.plain.proofs.Stepped as plain
use Rattle.buffered.proofs.Acts.{Goes, acts}
use Rattle.buffered.proofs.Stepped as buffered
use Rattle.storing.specs.Stored.{has_buffers, hold_of, is_session, session_in, stored, plain_in, plain_stored}
use Rattle.storing.proofs.Laws.{stored-kept}
use Rattle.storing.proofs.Read.{plain-holds-nothing}
use Rattle.finding.specs.Lent.{lent_by, buffer_at, own_state, seen_of, seen_in}
use Rattle.judging.specs.Judged.{judged_by, buffer_by, judged_in, buffer_in}
use Rattle.judging.specs.Lent.{after_in, lent_after}
use Rattle.judging.proofs.Lent.{laid, unlaid, entry_kept}
use Rattle.engines.specs.Engines.{requested}
use Rattle.advancing.specs.Advancing.{readied, lay_next}
use Rattle.advancing.proofs.Sessions.{table-long, own-whole}
use Rattle.advancing.proofs.Laid.{Behind, readied-buffer, used-stays, next-stored}
use Rattle.engines.specs.Parts.{Moved}
use Rattle.engines.proofs.Judged.{in_use_lem, own_is, verdict-told, buffer-told}
use Rattle.engines.proofs.Sessions.{done-session, done-slot, met-session, met-used, met-slot}
use Rattle.requests.specs.declared.Answer.{Answer}
use Rattle.requests.specs.declared.Answer.TheVariants.{Done, Met, Refused}
use Rattle.requests.specs.declared.Edge.{Edge}
use Rattle.requests.specs.declared.Refusal.{Refusal}
use Rattle.requests.specs.declared.Request.{Request}
use Rattle.sessions.specs.declared.BufferedFile.{BufferedFile}
use Rattle.sessions.specs.declared.BufferedSession.{BufferedSession}
use Rattle.sessions.specs.declared.Holding.{Holding}
use Rattle.sessions.specs.declared.OpenFile.{OpenFile}
use Rattle.steps.specs.declared.Verdict.{Verdict}
use Rattle.judging.specs.declared.Judged.{Judged}

module _ (image b : List ℕ) (i : ℕ) (q : Request) (given buffer : List ℕ) where
  -- the step of either engine, a plain session as a buffered one
  abbrev step_in : Bool → After BufferedSession
  step_in true = buffered_step image (session_in true b) i q given buffer
  step_in false = plain.unheld_after (plain_step image (plain_in b) i q given buffer)

  abbrev ending : Bool → After (List ℕ)
  ending u = lent_after (is_session u b) (stored u) b (step_in u)

  requested-is : requested image b i q given buffer ≡ ending (has_buffers b)
  unfolding requested lent_after
  requested-is = go (has_buffers b)
    where
      go : (u : Bool) → elim u [ true ↦ lent_after (is_session true b) (stored true) b (step_in true) | false ↦ lent_after (is_session false b) plain_stored b (plain_step image (plain_in b) i q given buffer) ] ≡ ending u
      go true = refl
      go false = refl

  -- ---- what is judged

  module _ (u : Bool) where
    abbrev s : BufferedSession
    s = session_in u b

    abbrev k : ℕ
    k = slot_of (bare s).files i

    abbrev f : OpenFile
    f = file_of (bare s).files i

    abbrev own : BufferedFile
    own = own_state s i

    abbrev c : Scene
    c = buffered_scene image s i given

    abbrev a : Answer
    a = judge q (facts_of (buffered_legal image s) (open_files (bare s).files) (length buffer) q c)

    abbrev r : Judged
    r = judged_by image (seen_of image s i) (lent_by own) i q given (length buffer)

    abbrev v : Verdict
    v = r.verdict

    abbrev moved : List ℕ
    moved = buffer_by image (seen_of image s i) (lent_by own) i q given buffer

    v-is : v ≡ judgement (buffered_legal image s) (open_files (bare s).files) (length buffer) q c
    v-is = verdict-told image s i q given buffer (own-whole u b k)

    moved-is : moved ≡ buffer_next a q c buffer
    moved-is = buffer-told image s i q given buffer (own-whole u b k)

    told : (x : Answer) → v.answer ≡ x → a ≡ x
    told x h = sym (ap (λ (w : Verdict). w.answer) v-is) ∙ h

    -- its entry is the session's, but for count and flags
    same-but : v.entry ≡ restamped (entry_at s.table i) v.entry.count v.entry.flags
    same-but = rw v-is (unfold buffered_scene in entry_kept a q c)

    -- the state that the file has
    own-told : (room : List ℕ) → room ≡ own.buffer → state_with f (hold_of own) room ≡ held_of s i
    own-told room h =
        ap (state_with f (hold_of own)) h
        ∙ ap (λ (g : OpenFile). state_with g (hold_of own) own.buffer) (sym (held-file s i) ∙ ap (λ (x : BufferedFile). x.file) (sym (own_is s i)))
        ∙ own_is s i

    abbrev after : List ℕ → BufferedFile → After BufferedSession
    after new y = record { answer = v.answer; image = new; session = record { says = s.says; table = set s.table i v.entry; files = set s.files k y }; buffer = moved }

    -- the next session is laid
    ends : is_session u b ≡ true → k < most_open → (g : Holding) (room : List ℕ) (y : BufferedFile) (b' : List ℕ) → Behind u b k f v g room y b' → (new : List ℕ) → after new y ≡ step_in u
        → (last : List ℕ) → last ≡ lay_next (has_buffers b') b' i k v g → after_in v.answer new last moved ≡ ending u
    ends ok n g room y b' p new h last l = laid (is_session u) (stored u) b ok (after new y) (step_in u) h last (l ∙ next-stored b k n f v g room y b' u ok p i same-but)

  -- ---- each answer

  module _ (room : List ℕ) (size : length room ≡ 135) where
    abbrev code : Bool → List ℕ
    code u = part (sets room 0 (code_given (entry_at (s u).table i) given)) 0 (length (code_given (entry_at (s u).table i) given))

    -- what a request answered 0 goes by
    goes : (u : Bool) → (v u).answer ≡ Done → Goes image q (c u) (code u) (v u).file.here.sector
    goes u d =
        subst (λ (n : ℕ). Goes image q (c u) (code u) n) (sym (ap (λ (w : Verdict). w.file.here.sector) (v-is u)))
        (buffered.goes image (s u) i q given buffer (told u Done d) (table-long u b) room size)

    done_at : (u : Bool) → (v u).answer ≡ Done → (new b' : List ℕ) (g : Holding) → Moved u (seen_of image (s u) i) i q given (code u) (v u).file.here.sector image b new b' g
        → (last : List ℕ) → last ≡ lay_next (has_buffers b') b' i (k u) (v u) g → after_in (v u).answer new last (moved u) ≡ ending u
    unfolding seen_of buffered_scene
    done_at true d new b' g m last l =
        let ok : is_session true b ≡ true = done-session true b image i q given (length buffer) (told true Done d) in
        let n : k true < most_open = done-slot true b image i q given (length buffer) (told true Done d) in
        let old : List ℕ = part (readied true b (k true) (f true).used) (buffer_at (k true)) sector in
        let old-is : old ≡ (own true).buffer = readied-buffer b ok (k true) n (f true).used (in_use_lem (s true) i) in
        let w : Bench = held_all (scene i (entry_at (s true).table i)) (effects_with q (entry_at (s true).table i) (f true) given (code true) (v true).file.here.sector) (lent image (hold_of (own true)) old) in
        let does : bench new (state_with (f true) g w.file.buffer) ≡ buffered_all (c true) (effects q (c true)) (bench image (held_of (s true) i)) =
        acts (c true) q (code true) (v true).file.here.sector image (hold_of (own true)) old (goes true d) (ap (λ (x : List ℕ). length x) old-is ∙ own-whole true b (k true)) m.0
        ∙ ap (λ (x : BufferedFile). buffered_all (c true) (effects q (c true)) (bench image x)) (own-told true old old-is) in
        ends true ok n g w.file.buffer (kept (v true).file (state_with (f true) g w.file.buffer)) b' (in_use_lem (s true) i, m.2, m.1, refl) new
        (buffered.done-told image (s true) i q given buffer (v true) (v-is true) (moved true) (moved-is true) d new (state_with (f true) g w.file.buffer) does) last l
    done_at false d new b' g m last l =
        let ok : is_session false b ≡ true = done-session false b image i q given (length buffer) (told false Done d) in
        let n : k false < most_open = done-slot false b image i q given (length buffer) (told false Done d) in
        let p = goes false d in
        ends false ok n g given (fresh (v false).file) b' (m.1, refl) new
        (plain.done-told image (plain_in b) i q given buffer (s false) (sym (plain-holds-nothing b)) (v false) (v-is false) (moved false) (moved-is false) d new
        (m.0 ∙ plainly.acts (c false) (code false) image q p.0 p.4)) last l

  met_at : (u : Bool) (x : Edge) → (v u).answer ≡ Met x → (last : List ℕ) → last ≡ lay_next (has_buffers b) b i (k u) (v u) (hold_of (own u)) → after_in (v u).answer image last (moved u) ≡ ending u
  met_at true x d last l =
      let ok : is_session true b ≡ true = met-session true b image i q given (length buffer) x (told true (Met x) d) in
      let n : k true < most_open = met-slot true b image i q given (length buffer) x (told true (Met x) d) in
      let y : BufferedFile = state_with (f true) (hold_of (own true)) (own true).buffer in
      ends true ok n (hold_of (own true)) (own true).buffer (kept (v true).file y) b
      (in_use_lem (s true) i, own-whole true b (k true), used-stays b ok (k true) n (f true).used (in_use_lem (s true) i) (met-used true b image i q given (length buffer) x (told true (Met x) d)), refl) image
      (ap (λ (z : BufferedFile). after true image (kept (v true).file z)) (own-told true (own true).buffer refl)
      ∙ buffered.met-told image (s true) i q given buffer (v true) (v-is true) (moved true) (moved-is true) x d) last l
  met_at false x d last l =
      let ok : is_session false b ≡ true = met-session false b image i q given (length buffer) x (told false (Met x) d) in
      let n : k false < most_open = met-slot false b image i q given (length buffer) x (told false (Met x) d) in
      ends false ok n (hold_of (own false)) given (fresh (v false).file) b (refl, refl) image
      (plain.met-told image (plain_in b) i q given buffer (s false) (sym (plain-holds-nothing b)) (v false) (v-is false) (moved false) (moved-is false) x d) last l

  refused-at : (u : Bool) (x : Refusal) → (v u).answer ≡ Refused x → after_in (v u).answer image b (moved u) ≡ ending u
  refused-at u x d = unlaid (is_session u) (stored u) b (s u) (stored-kept u b) (v u).answer image (moved u) (step_in u) (stays u d)
    where
      stays : (u : Bool) → (v u).answer ≡ Refused x → record { answer = (v u).answer; image = image; session = s u; buffer = moved u } ≡ step_in u
      stays true d = buffered.refused-told image (s true) i q given buffer (v true) (v-is true) (moved true) (moved-is true) x d
      stays false d = plain.refused-told image (plain_in b) i q given buffer (s false) (sym (plain-holds-nothing b)) (v false) (v-is false) (moved false) (moved-is false) x d

  -- ---- as the program goes, by what was judged

  abbrev w : Bool
  w = has_buffers b

  module _ (j : Judged) (into : List ℕ) where
    abbrev Ends : List ℕ → List ℕ → Type 0
    Ends new last = after_in j.verdict.answer new last into ≡ requested image b i q given buffer

    abbrev Goes-in : Type 0
    Goes-in = j.verdict.answer ≡ Done → j.seen.slot < most_open

    abbrev Done-in : Type 0
    Done-in = j.verdict.answer ≡ Done → (room filled : List ℕ) → length room ≡ 135 → filled ≡ sets room 0 (code_given (seen_in image b i).entry given)
        → (code : List ℕ) → code ≡ part filled 0 j.size → (new b' : List ℕ) (g : Holding) → Moved w j.seen i q given code j.verdict.file.here.sector image b new b' g
        → (last : List ℕ) → last ≡ lay_next (has_buffers b') b' i j.seen.slot j.verdict g → Ends new last

    abbrev Met-in : Type 0
    Met-in = (x : Edge) → j.verdict.answer ≡ Met x → (last : List ℕ) → last ≡ lay_next w b i j.seen.slot j.verdict j.seen.hold → Ends image last

    abbrev Refused-in : Type 0
    Refused-in = (x : Refusal) → j.verdict.answer ≡ Refused x → Ends image b

  goes-judged : Goes-in (r w) (moved w)
  unfolding judged_by seen_of
  goes-judged d = done-slot w b image i q given (length buffer) (told w Done d)

  done-judged : Done-in (r w) (moved w)
  unfolding judged_by seen_of
  done-judged d room filled size f-is code₁ c-is new b' g m last l =
      let n : ℕ = length (code_given (entry_at (s w).table i) given) in
      done_at room size w d new b' g
      (subst (λ (x : List ℕ). Moved w (seen_of image (s w) i) i q given x (v w).file.here.sector image b new b' g) (c-is ∙ ap (λ (x : List ℕ). part x 0 n) f-is) m) last l
      ∙ sym requested-is

  met-judged : Met-in (r w) (moved w)
  unfolding judged_by seen_of
  met-judged x d last l = met_at w x d last l ∙ sym requested-is

  refused-judged : Refused-in (r w) (moved w)
  refused-judged x d = refused-at w x d ∙ sym requested-is

  module _ (j : Judged) (j-is : j ≡ judged_in image b i q given (length buffer)) (into : List ℕ) (into-is : into ≡ buffer_in image b i q given buffer) where
    found : (P : Judged → List ℕ → Type 0) → P (r w) (moved w) → P j into
    found P h = subst (λ (x : Judged). P x into) (sym j-is) (subst (P (r w)) (sym into-is) h)

    pub goes_in : Goes-in j into
    goes_in = found Goes-in goes-judged

    pub done-in : Done-in j into
    done-in = found Done-in done-judged

    pub met-in : Met-in j into
    met-in = found Met-in met-judged

    pub refused-in : Refused-in j into
    refused-in = found Refused-in refused-judged
