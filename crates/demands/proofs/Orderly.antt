-- Demand 1 of both engines. The order of the tests is computed for each request. What an answer makes of image, session and buffer is read off the step's
-- three cases; the bytes that go into the caller's buffer are one record or granule, which has at most R bytes. A look is judged by none of the bytes
-- lent. A plain session holds nothing, so it answers as the buffered one does.
use mathlib.Core.Path.{◌≡◌, refl, sym, ap, ◌∙◌}
use mathlib.Core.Bool.{Bool, true, false}
use mathlib.Core.List.{List, [], ◌∷◌, map}
use Prim.Native.Nat.{ℕ, zero, suc, ◌+◌, ◌-◌, ◌≤◌}
use native.Mathlib.Omega.{arith}
use lib.Dec.{ltb}
use lib.Seq.{get_or-drop}
use lib.ListN.{length, length-drop, drop, get_or, set, get_or-map}
use Rattle.geometry.specs.Bytes.{part, lay}
use Rattle.geometry.specs.Lists.{every}
use Rattle.geometry.specs.Places.{place_of, byte_of}
use Rattle.geometry.specs.Sizes.{sector, compressed}
use Rattle.geometry.proofs.Bytes.{same_bytes, length-part-min, length-lay, get_or-lay-behind}
use Rattle.decoding.specs.Decode.{Decoded, good, bad, decode}
use Rattle.decoding.proofs.Known.{decode-good}
use Rattle.directory.specs.Entries.{entry_at, is_kind}
use Rattle.packing.specs.Reading.{got, lost, got_from, start_of, read_at, read_behind, extent_end}
use Rattle.requests.specs.Judge.{tests, whether, or_else, first_of, judge, place_in_line, in_order}
use Rattle.requests.proofs.InOrder.{tests-in-order}
use Rattle.sessions.specs.Session.{idle, fresh, bare, unheld, file_of, slot_of, holds_one, extent_with}
use Rattle.sessions.proofs.Unheld.{bare-unheld, unheld-legal}
use Rattle.steps.specs.Look.{shown, plain_look_answer, plain_look, buffered_look_answer, buffered_look}
use Rattle.steps.specs.Next.{Scene, facts_of, fixed_at, record_here, bytes_got, file_met, into_buffer}
use Rattle.steps.specs.Step.{After, plain_scene, plain_answer, plain_after, plain_step, held_of, buffered_scene, buffered_answer, kept, buffered_after, buffered_step}
use Rattle.demands.specs.Engine.{Engine, plain_engine, buffered_engine}
use Rattle.demands.proofs.Edits.{edits-along, buffered-proper-edit, plain-proper-edit}
use Rattle.demands.specs.Demand1.{in_line, session_met, may_change, Proper, Shows, Orderly}
use Rattle.geometry.specs.declared.Place.{Place}
use Rattle.requests.specs.declared.Answer.{Answer}
use Rattle.requests.specs.declared.Answer.TheVariants.{Done, Met, Refused}
use Rattle.requests.specs.declared.Edge.{Edge}
use Rattle.requests.specs.declared.Edge.TheVariants.{EndOfFile, BeginningOfTape}
use Rattle.requests.specs.declared.Order.TheVariants.{WriteMark, RewindOnline, RewindOffline, RecordForward, RecordBack, FileForward, FileBack}
use Rattle.requests.specs.declared.Refusal.{Refusal}
use Rattle.requests.specs.declared.Request.{Request}
use Rattle.requests.specs.declared.Request.TheVariants.{Open, Read, Write, GranuleRead, GranuleWrite, GranuleLook, Position}
use Rattle.sessions.specs.declared.BufferedFile.{BufferedFile}
use Rattle.sessions.specs.declared.BufferedSession.{BufferedSession}
use Rattle.sessions.specs.declared.OpenFile.{OpenFile}
use Rattle.sessions.specs.declared.Session.{Session}

-- ---- the order line

in-line : (q : Request) → every in_line (tests q) ≡ true
unfolding every in_line tests place_in_line
in-line Open = refl
in-line Read = refl
in-line Write = refl
in-line (GranuleRead g) = refl
in-line (GranuleWrite g) = refl
in-line (GranuleLook g) = refl
in-line (Position WriteMark) = refl
in-line (Position RewindOnline) = refl
in-line (Position RewindOffline) = refl
in-line (Position RecordForward) = refl
in-line (Position RecordBack) = refl
in-line (Position FileForward) = refl
in-line (Position FileBack) = refl

along-the-line : (q : Request) → (in_order (tests q) ≡ true) × (every in_line (tests q) ≡ true)
along-the-line q = (tests-in-order q, in-line q)

-- ---- what goes into the buffer has at most R bytes

short-fixed : (c : Scene) (k : ℕ) → length (fixed_at c k) ≤ c.entry.length
unfolding fixed_at
short-fixed c k = omega (arith, length-part-min c.bytes (byte_of (place_of c.entry.kind c.entry.length k)) c.entry.length)

short-got : (q : Place) (R : ℕ) (s : List ℕ) (d : Decoded) → decode R s ≡ d → length (bytes_got (got_from q d)) ≤ R
unfolding got_from bytes_got
short-got q R s (good xs e) h = omega (arith, (decode-good R s xs e h).0)
short-got q R s (bad k) h = omega arith

short-at : (R sectors : ℕ) (bytes : List ℕ) (q : Place) → length (bytes_got (read_at R sectors bytes q)) ≤ R
unfolding read_at bytes_got
short-at R sectors bytes q = go (ltb q.sector sectors)
  where
    s : List ℕ
    s = part bytes (byte_of q) (sector - q.byte)

    go : (b : Bool) → length (bytes_got (elim b [ true ↦ got_from q (decode R s) | false ↦ lost (extent_end sectors) ])) ≤ R
    go true = short-got q R s (decode R s) refl
    go false = omega arith

short-here : (c : Scene) → length (bytes_got (record_here c)) ≤ c.entry.length
unfolding record_here read_behind bytes_got
short-here c = go (is_kind compressed c.entry)
  where
    go : (b : Bool)
        → length (bytes_got (elim b [
          | true ↦ read_behind c.entry.length c.entry.sectors c.bytes c.file.here
          | false ↦ got (record { bytes = fixed_at c c.file.position; behind = c.file.here })
        ]))
        ≤ c.entry.length
    go true = short-at c.entry.length c.entry.sectors c.bytes (start_of c.bytes c.file.here)
    go false = short-fixed c c.file.position

short-into : (q : Request) (c : Scene) → length (into_buffer q c) ≤ may_change q c.entry.length
unfolding into_buffer may_change
short-into Open c = omega arith
short-into Read c = short-here c
short-into Write c = omega arith
short-into (GranuleRead g) c = short-fixed c g
short-into (GranuleWrite g) c = omega arith
short-into (GranuleLook g) c = omega arith
short-into (Position o) c = omega arith

-- ---- bytes laid at the front of a buffer

lay-rest : (buffer xs : List ℕ) (n : ℕ) → length xs ≤ n → drop n (lay buffer 0 xs) ≡ drop n buffer
lay-rest buffer xs n h =
    same_bytes _ _ (rw (length-drop n (lay buffer 0 xs), length-drop n buffer, length-lay buffer 0 xs)) λ i l.
    get_or-drop n (lay buffer 0 xs) i 0 ∙ get_or-lay-behind buffer 0 xs (n + i) 0 (omega arith) ∙ sym (get_or-drop n buffer i 0)

-- ---- what an engine makes of each answer

module _ (E : Engine) (image : List ℕ) (s : E.Session) (i : ℕ) (q : Request) (given buffer : List ℕ) where
  record Acts (after : Answer → After E.Session) (c : Scene) : Type 0 where
    says : (a : Answer) → (after a).answer ≡ a
    its_entry : c.entry ≡ entry_at (E.seen s).table i
    done : (after Done).buffer ≡ lay buffer 0 (into_buffer q c)
    met : (x : Edge) → ((after (Met x)).image ≡ image) × (E.seen (after (Met x)).session ≡ session_met x (E.seen s) i) × ((after (Met x)).buffer ≡ buffer)
    refused : (x : Refusal) → ((after (Refused x)).image ≡ image) × ((after (Refused x)).session ≡ s) × ((after (Refused x)).buffer ≡ buffer)

  proper : (after : Answer → After E.Session) (c : Scene) → Acts after c → (a : Answer) → a ≡ buffered_answer image (E.seen s) i q given (length buffer)
      → Proper E image s i q given buffer (after a)
  proper after c k Done e = record {
    ordered = k.says Done ∙ e;
    refused = λ x f. absurd (let g : (after Done).answer ≡ Done = k.says Done in let z : ◌≡◌ {A = ℕ} 0 1 = cc in omega arith);
    met = λ x f. absurd (let g : (after Done).answer ≡ Done = k.says Done in let z : ◌≡◌ {A = ℕ} 0 1 = cc in omega arith);
    buffer_rest = λ n f. rw k.done (lay-rest buffer (into_buffer q c) n (rw (f, ← k.its_entry) (short-into q c)));
    buffer_size = rw k.done (length-lay buffer 0 (into_buffer q c));
  }
  proper after c k (Met y) e = record {
    ordered = k.says (Met y) ∙ e;
    refused = λ x f. absurd (let g : (after (Met y)).answer ≡ Met y = k.says (Met y) in let z : ◌≡◌ {A = ℕ} 0 1 = cc in omega arith);
    met = λ x f. let g : (after (Met y)).answer ≡ Met y = k.says (Met y) in let h : y ≡ x = cc in rw (← h) (k.met y);
    buffer_rest = λ n f. rw (k.met y).2;
    buffer_size = rw (k.met y).2;
  }
  proper after c k (Refused y) e = record {
    ordered = k.says (Refused y) ∙ e;
    refused = λ x f. k.refused y;
    met = λ x f. absurd (let g : (after (Refused y)).answer ≡ Refused y = k.says (Refused y) in let z : ◌≡◌ {A = ℕ} 0 1 = cc in omega arith);
    buffer_rest = λ n f. rw (k.refused y).2;
    buffer_size = rw (k.refused y).2;
  }

-- ---- what a look shows

-- its answer does not turn on the bytes given, nor on the buffer
look-answer : (image : List ℕ) (s : BufferedSession) (i g : ℕ) (given : List ℕ) (n : ℕ) → buffered_answer image s i (GranuleLook g) given n ≡ buffered_look_answer image s i g
unfolding buffered_look_answer buffered_answer buffered_scene facts_of judge tests first_of or_else whether
look-answer image s i g given n = refl

module _ (E : Engine) (image : List ℕ) (s : E.Session) (i g : ℕ) (same : E.look image s i g ≡ buffered_look image (E.seen s) i g) (given buffer : List ℕ)
    (p : Proper E image s i (GranuleLook g) given buffer (E.request image s i (GranuleLook g) given buffer)) where
  shows-by : (a : Answer) → (E.request image s i (GranuleLook g) given buffer).answer ≡ a → E.look image s i g ≡ shown a (entry_at (E.seen s).table i) g image
  unfolding buffered_look
  shows-by a e = same ∙ ap (λ (a : Answer). shown a (entry_at (E.seen s).table i) g image) (sym (look-answer image (E.seen s) i g given (length buffer)) ∙ sym p.ordered ∙ e)

  shows : Shows E image s i g (entry_at (E.seen s).table i) (E.request image s i (GranuleLook g) given buffer).answer
  unfolding shown
  shows = record { in_place = λ e. shows-by Done e; empty = λ x e. shows-by (Refused x) e }

-- ---- the buffered engine

buffered-acts : (image : List ℕ) (s : BufferedSession) (i : ℕ) (q : Request) (given buffer : List ℕ)
    → Acts buffered_engine image s i q given buffer (λ a. buffered_after a image s q (buffered_scene image s i given) (held_of s i) buffer) (buffered_scene image s i given)
unfolding buffered_after buffered_scene session_met
buffered-acts image s i q given buffer = record {
  says = elim [ Done ↦ refl | Met x ↦ refl | Refused x ↦ refl ];
  its_entry = refl;
  done = refl;
  met = λ x. (refl, refl, refl);
  refused = λ x. (refl, refl, refl);
}

buffered-proper : (image : List ℕ) (s : BufferedSession) (i : ℕ) (q : Request) (given buffer : List ℕ) → Proper buffered_engine image s i q given buffer (buffered_step image s i q given buffer)
unfolding buffered_step
buffered-proper image s i q given buffer =
    proper buffered_engine image s i q given buffer _ _ (buffered-acts image s i q given buffer) (buffered_answer image s i q given (length buffer)) refl

pub buffered-orderly : Orderly buffered_engine
buffered-orderly = record {
  line = along-the-line;
  edit_line = edits-along;
  every-edit = buffered-proper-edit;
  every-request = buffered-proper;
  every-look = λ image s i g given buffer. shows buffered_engine image s i g refl given buffer (buffered-proper image s i (GranuleLook g) given buffer);
}

-- ---- the plain engine: a plain session holds nothing

map-set : (fs : List OpenFile) (k : ℕ) (f : OpenFile) → map fresh (set fs k f) ≡ set (map fresh fs) k (fresh f)
map-set [] k f = refl
map-set (g ∷ fs) zero f = refl
map-set (g ∷ fs) (suc k) f = ap (λ (r : List BufferedFile). fresh g ∷ r) (map-set fs k f)

set-unheld : (s : Session) (k : ℕ) (f : OpenFile)
    → unheld (record { says = s.says; table = s.table; files = set s.files k f }) ≡ record { says = (unheld s).says; table = (unheld s).table; files = set (unheld s).files k (fresh f) }
unfolding unheld
set-unheld s k f = ap (λ (r : List BufferedFile). record { says = s.says; table = s.table; files = r }) (map-set s.files k f)

unheld-table : (s : Session) → (unheld s).table ≡ s.table
unfolding unheld
unheld-table s = refl

-- the state that a plain session has for entry i, with no buffer
fresh-held : (s : Session) (i : ℕ) → (g : OpenFile) × (held_of (unheld s) i ≡ fresh g)
unfolding held_of unheld
fresh-held s i = go (file_of (bare (unheld s)).files i).used
  where
    k : ℕ
    k = slot_of (bare (unheld s)).files i

    go : (u : Bool) → (g : OpenFile) × (elim u [ true ↦ get_or (map fresh s.files) k (fresh idle) | false ↦ fresh idle ] ≡ fresh g)
    go true = (get_or s.files k idle, get_or-map fresh s.files k idle)
    go false = (idle, refl)

kept_fresh : (x : Edge) (f g : OpenFile) → kept (file_met x f) (fresh g) ≡ fresh (file_met x f)
unfolding kept file_met
kept_fresh EndOfFile f g = refl
kept_fresh BeginningOfTape f g = refl

pub same-scene : (image : List ℕ) (s : Session) (i : ℕ) (given : List ℕ) → buffered_scene image (unheld s) i given ≡ plain_scene image s i given
unfolding plain_scene buffered_scene extent_with holds_one
same-scene image s i given =
    let h = fresh-held s i in
    rw (bare-unheld s, h.1, unheld-table s)

same_answer : (image : List ℕ) (s : Session) (i : ℕ) (q : Request) (given : List ℕ) (n : ℕ)
    → plain_answer image s i q given n ≡ buffered_answer image (unheld s) i q given n
unfolding plain_answer buffered_answer
same_answer image s i q given n = rw (unheld-legal image s, bare-unheld s, same-scene image s i given)

met-unheld : (x : Edge) (s : Session) (i : ℕ)
    → unheld (record { says = s.says; table = s.table; files = set s.files (slot_of s.files i) (file_met x (file_of s.files i)) }) ≡ session_met x (unheld s) i
unfolding session_met
met-unheld x s i =
    let h = fresh-held s i in
    rw (bare-unheld s, h.1, kept_fresh x (file_of s.files i) h.0) (set-unheld s (slot_of s.files i) (file_met x (file_of s.files i)))

plain-acts : (image : List ℕ) (s : Session) (i : ℕ) (q : Request) (given buffer : List ℕ)
    → Acts plain_engine image s i q given buffer (λ a. plain_after a image s q (plain_scene image s i given) buffer) (plain_scene image s i given)
unfolding plain_after plain_scene
plain-acts image s i q given buffer = record {
  says = elim [ Done ↦ refl | Met x ↦ refl | Refused x ↦ refl ];
  its_entry = rw (unheld-table s);
  done = refl;
  met = λ x. (refl, met-unheld x s i, refl);
  refused = λ x. (refl, refl, refl);
}

plain-proper : (image : List ℕ) (s : Session) (i : ℕ) (q : Request) (given buffer : List ℕ) → Proper plain_engine image s i q given buffer (plain_step image s i q given buffer)
unfolding plain_step
plain-proper image s i q given buffer =
    proper plain_engine image s i q given buffer _ _ (plain-acts image s i q given buffer) (plain_answer image s i q given (length buffer)) (same_answer image s i q given (length buffer))

same-look : (image : List ℕ) (s : Session) (i g : ℕ) → plain_look image s i g ≡ buffered_look image (unheld s) i g
unfolding plain_look buffered_look plain_look_answer buffered_look_answer
same-look image s i g = rw (same_answer image s i (GranuleLook g) [] 0, unheld-table s)

pub plain-orderly : Orderly plain_engine
plain-orderly = record {
  line = along-the-line;
  edit_line = edits-along;
  every-edit = plain-proper-edit;
  every-request = plain-proper;
  every-look = λ image s i g given buffer. shows plain_engine image s i g (same-look image s i g) given buffer (plain-proper image s i (GranuleLook g) given buffer);
}
