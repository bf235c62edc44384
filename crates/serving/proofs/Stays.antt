-- An answered request leaves the entry and its open-file state lawful, whatever the kind: a test that was passed gives each bound.
use mathlib.Core.Path.{◌≡◌, refl, sym, ap, ◌∙◌}
use mathlib.Core.Bool.{Bool, true, false, not, and-false, false≢true}
use mathlib.Core.List.{List, [], ◌∷◌}
use Prim.Native.Nat.{ℕ, ◌+◌, ◌*◌, ◌/◌, ◌%◌, ◌≤◌, ◌<◌}
use native.Mathlib.Omega.{arith}
use lib.Dec.{eqb, leb, ltb}
use lib.ListN.{length}
use borrow.Author.Tests.{eq-eqb, le-leb, lt-leb, leb-true, leb-false}
use Rattle.geometry.specs.Bytes.{lay}
use Rattle.geometry.proofs.Bytes.{length-lay}
use Rattle.geometry.specs.Sizes.{sector, compressed, random, most_records}
use Rattle.geometry.specs.Places.{capacity, byte_of, origin}
use Rattle.directory.specs.Entries.{is_kind, is_marked, is_protected}
use Rattle.sessions.specs.Session.{place_good}
use Rattle.requests.proofs.Done.{Tells, Meets, reads_mark, skips_mark, back_over, back_at_start, file_back_to_start, room-fixed}
use Rattle.steps.specs.Next.{Scene, facts_of, file_done, file_met, entry_done, counted, bad_in, Decoding, the_counted, the_next, none, is_lost, record_here, behind_got, behind_written, end_place}
use Rattle.steps.specs.Effects.{Effect, hold, change, store, stamp, put_back, effects}
use Rattle.steps.proofs.Lawful.{Lawful, own_do, own_all}
use Rattle.tapes.specs.Model.{shape_of}
use Rattle.steps.specs.Verdict.{entry_next, file_next}
use Rattle.serving.proofs.Solo.{Sound, bytes_next}
use Rattle.directory.specs.declared.Entry.{Entry}
use Rattle.sessions.specs.declared.OpenFile.{OpenFile}
use Rattle.requests.specs.declared.Order.TheVariants.{WriteMark, RewindOnline, RewindOffline, RecordForward, RecordBack, FileForward, FileBack}
use Rattle.requests.specs.declared.Request.{Request}
use Rattle.requests.specs.declared.Request.TheVariants.{Open, Read, Write, GranuleRead, GranuleWrite, GranuleLook, Position}
use Rattle.requests.specs.declared.Edge.{Edge}
use Rattle.requests.specs.declared.Edge.TheVariants.{EndOfFile, BeginningOfTape}
use Rattle.requests.specs.declared.Answer.{Answer}
use Rattle.requests.specs.declared.Answer.TheVariants.{Done, Met, Refused}

-- ---- flags

-- the mark is the last bit, and the protection stays
pub marked-counted : (e : Entry) (n m : ℕ) → m ≤ 1 → is_marked (counted e n m) ≡ eqb m 1
unfolding is_marked counted
marked-counted e n m h = let r : (2 * (e.flags / 2) + m) % 2 ≡ m = omega arith in rw r

pub protected-counted : (e : Entry) (n m : ℕ) → m ≤ 1 → is_protected (counted e n m) ≡ is_protected e
unfolding is_protected counted
protected-counted e n m h = go (leb 2 e.flags) refl
  where
    go : (b : Bool) → leb 2 e.flags ≡ b → leb 2 (2 * (e.flags / 2) + m) ≡ b
    go true k = let l : 2 ≤ e.flags = leb-true 2 e.flags k in le-leb 2 (2 * (e.flags / 2) + m) (omega arith)
    go false k = let l : e.flags < 2 = leb-false 2 e.flags k in lt-leb 2 (2 * (e.flags / 2) + m) (omega arith)

pub shape-counted : (e : Entry) (n m : ℕ) → m ≤ 1 → shape_of (counted e n m) ≡ shape_of e
unfolding shape_of counted
shape-counted e n m h = ap (λ (b : Bool). record { name = e.name; kind = e.kind; record_length = e.length; first = e.first; sectors = e.sectors; protected = b }) (protected-counted e n m h)

-- ---- one file, whatever is asked

-- what is the same of an entry with another count and mark is the same of the next one
pub same_next : {A : Type 0} (p : Entry → A) (q : Request) (c : Scene) (a : Answer) → ((n m : ℕ) → m ≤ 1 → p (counted c.entry n m) ≡ p c.entry)
    → p (entry_next a q c) ≡ p c.entry
unfolding entry_next entry_done
same_next p Open c Done h = refl
same_next p Read c Done h = refl
same_next p Write c Done h = h (c.file.position + 1) 0 (omega arith)
same_next p (GranuleRead g) c Done h = refl
same_next p (GranuleWrite g) c Done h = refl
same_next p (GranuleLook g) c Done h = refl
same_next p (Position WriteMark) c Done h = h c.file.position 1 (omega arith)
same_next p (Position RewindOnline) c Done h = refl
same_next p (Position RewindOffline) c Done h = refl
same_next p (Position RecordForward) c Done h = refl
same_next p (Position RecordBack) c Done h = refl
same_next p (Position FileForward) c Done h = refl
same_next p (Position FileBack) c Done h = refl
same_next p q c (Met x) h = refl
same_next p q c (Refused x) h = refl

pub kind-next : (k : ℕ) (q : Request) (c : Scene) (a : Answer) → is_kind k (entry_next a q c) ≡ is_kind k c.entry
unfolding counted
kind-next k q c a = same_next (is_kind k) q c a (λ n m h. refl)

abbrev pub InPlace : Entry → OpenFile → Type 0
InPlace e f = is_kind compressed e ≡ true → (place_good e f.here ≡ true) × (place_good e f.end ≡ true)

abbrev pub AtMark : Entry → OpenFile → Type 0
AtMark e f = f.beyond ≡ true → (is_marked e ≡ true) × (f.position ≡ e.count)

never : {A : Type 0} → false ≡ true → A
never e = absurd (false≢true e)

-- the same entry, another state
pub lawful-standing : (e : Entry) (f g : OpenFile) → Lawful e f → g.position ≤ e.count → AtMark e g → InPlace e g → Lawful e g
lawful-standing e f g w p a i = record {
  known = w.known;
  some = w.some;
  few = w.few;
  long = w.long;
  short = w.short;
  flags = w.flags;
  words = w.words;
  counted = w.counted;
  bare = w.bare;
  standing = p;
  ahead = a;
  places = i;
}

-- another count and mark, of a sequential file; it stands at the end
pub lawful-counted : (e : Entry) (f g : OpenFile) (m : ℕ) → Lawful e f → is_kind random e ≡ false → m ≤ 1 → g.position ≤ most_records
    → (is_kind compressed e ≡ false → g.position ≤ capacity e.kind e.length e.sectors)
    → (g.beyond ≡ true → m ≡ 1) → InPlace e g → Lawful (counted e g.position m) g
unfolding counted place_good
lawful-counted e f g m w r h n c a i = record {
  known = w.known;
  some = w.some;
  few = w.few;
  long = w.long;
  short = w.short;
  flags = omega (arith, w.flags);
  words = n;
  counted = λ k l. c k;
  bare = λ (k : is_kind random e ≡ true). never (sym r ∙ k);
  standing = omega arith;
  ahead = λ b. (marked-counted e g.position m h ∙ eq-eqb m 1 (a b), refl);
  places = i;
}

-- at an edge
lawful-met : (files buffer : ℕ) (q : Request) (c : Scene) → Lawful c.entry c.file → (x : Edge) → Meets (facts_of true files buffer q c) q x
    → InPlace c.entry (file_met x c.file) → Lawful c.entry (file_met x c.file)
unfolding facts_of file_met
lawful-met files buffer q c w x (reads_mark t) i = lawful-standing _ _ _ w w.standing (λ b. (t.marked, omega (arith, w.standing, t.ended))) i
lawful-met files buffer q c w x (skips_mark t) i = lawful-standing _ _ _ w w.standing (λ b. (t.marked, omega (arith, w.standing, t.ended))) i
lawful-met files buffer q c w x (back_over t) i = lawful-standing _ _ _ w w.standing (λ (b : not c.file.beyond ≡ true). never (ap not (sym t.past) ∙ b)) i
lawful-met files buffer q c w x (back_at_start t) i = lawful-standing _ _ _ w (omega arith) never i
lawful-met files buffer q c w x (file_back_to_start t) i = lawful-standing _ _ _ w (omega arith) never i

-- whatever is answered
pub lawful-next : (files buffer : ℕ) (q : Request) (c : Scene) → Lawful c.entry c.file → (a : Answer) → Tells q (facts_of true files buffer q c) a
    → InPlace c.entry (file_next a q c) → Lawful (entry_next a q c) (file_next a q c)
unfolding facts_of entry_next file_next entry_done file_done file_met
lawful-next files buffer Open c w Done t i = lawful-standing _ _ _ w (omega arith) never i
lawful-next files buffer Read c w Done t i = lawful-standing _ _ _ w (omega (arith, t.advances.ahead)) never i
lawful-next files buffer Write c w Done t i =
    lawful-counted c.entry c.file (file_done Write c) 0 w t.marks.running.sequential (omega arith) (omega (arith, t.below))
    (λ k. omega (arith, room-fixed (facts_of true files buffer Write c) t.room k)) never i
lawful-next files buffer (GranuleRead g) c w Done t i = w
lawful-next files buffer (GranuleWrite g) c w Done t i = w
lawful-next files buffer (GranuleLook g) c w Done t i = w
lawful-next files buffer (Position WriteMark) c w Done t i =
    lawful-counted c.entry c.file (file_done (Position WriteMark) c) 1 w t.running.sequential (omega arith) (omega (arith, w.standing, w.words))
    (λ k. omega (arith, w.standing, w.counted k t.running.sequential)) (λ b. refl) i
lawful-next files buffer (Position RewindOnline) c w Done t i = lawful-standing _ _ _ w (omega arith) never i
lawful-next files buffer (Position RewindOffline) c w Done t i = lawful-standing _ _ _ w (omega arith) never i
lawful-next files buffer (Position RecordForward) c w Done t i = lawful-standing _ _ _ w (omega (arith, t.ahead)) never i
lawful-next files buffer (Position RecordBack) c w Done t i = lawful-standing _ _ _ w (omega (arith, w.standing)) never i
lawful-next files buffer (Position FileForward) c w Done t i = lawful-standing _ _ _ w (omega arith) (λ b. (t.marked, refl)) i
lawful-next files buffer (Position FileBack) c w Done t i = lawful-standing _ _ _ w w.standing never i
lawful-next files buffer q c w (Met x) t i = lawful-met files buffer q c w x t i
lawful-next files buffer q c w (Refused x) t i = w

abbrev pub AtRest : OpenFile → Type 0
AtRest f = f.used ≡ false → (f.position ≡ 0) × (f.beyond ≡ false)

-- a file that is not open stands at its start: a close leaves one so
pub rest-next : (q : Request) (c : Scene) (a : Answer) → AtRest c.file → AtRest (file_next a q c)
unfolding file_next file_done file_met
rest-next Open c Done k e = never (sym e)
rest-next Read c Done k e = never (sym e)
rest-next Write c Done k e = never (sym e)
rest-next (GranuleRead g) c Done k e = k e
rest-next (GranuleWrite g) c Done k e = k e
rest-next (GranuleLook g) c Done k e = k e
rest-next (Position WriteMark) c Done k e = never (sym e)
rest-next (Position RewindOnline) c Done k e = never (sym e)
rest-next (Position RewindOffline) c Done k e = (refl, refl)
rest-next (Position RecordForward) c Done k e = never (sym e)
rest-next (Position RecordBack) c Done k e = never (sym e)
rest-next (Position FileForward) c Done k e = never (sym e)
rest-next (Position FileBack) c Done k e = never (sym e)
rest-next q c (Met EndOfFile) k e = never (sym e)
rest-next q c (Met BeginningOfTape) k e = never (sym e)
rest-next q c (Refused x) k e = k e

-- bytes keep their number
own-length : (xs : List Effect) (bytes : List ℕ) → length (own_all xs bytes) ≡ length bytes
unfolding own_all own_do
own-length [] bytes = refl
own-length (hold k ∷ xs) bytes = own-length xs bytes
own-length (change x ∷ xs) bytes = own-length xs (lay bytes (byte_of x.place) x.bytes) ∙ length-lay bytes (byte_of x.place) x.bytes
own-length (store y ∷ xs) bytes = own-length xs (lay bytes (byte_of y.place) y.bytes) ∙ length-lay bytes (byte_of y.place) y.bytes
own-length (stamp ys ∷ xs) bytes = own-length xs bytes
own-length (put_back ∷ xs) bytes = own-length xs bytes

bytes-length : (q : Request) (c : Scene) (a : Answer) → length (bytes_next a q c) ≡ length c.bytes
unfolding bytes_next
bytes-length q c Done = own-length (effects q c) c.bytes
bytes-length q c (Met x) = refl
bytes-length q c (Refused x) = refl

pub size-next : (q : Request) (c : Scene) (a : Answer) → length c.bytes ≡ sector * c.entry.sectors → length (bytes_next a q c) ≡ sector * (entry_next a q c).sectors
unfolding counted
size-next q c a e = bytes-length q c a ∙ (e ∙ sym (ap (λ (n : ℕ). sector * n) (same_next (λ x. x.sectors) q c a (λ n m h. refl))))

-- ---- kinds but the compressed one

-- nothing is decoded
pub decodes-nothing : (c : Scene) → is_kind compressed c.entry ≡ false → (d : Decoding) → bad_in d c ≡ false
unfolding bad_in record_here is_lost
decodes-nothing c k the_counted = rw k
decodes-nothing c k the_next = rw (k, record_here) (and-false (ltb c.file.position c.entry.count))
decodes-nothing c k none = refl

-- no place
nowhere-next : (q : Request) (c : Scene) (a : Answer) → is_kind compressed c.entry ≡ false → (c.file.here ≡ origin) × (c.file.end ≡ origin)
    → ((file_next a q c).here ≡ origin) × ((file_next a q c).end ≡ origin)
unfolding file_next file_done file_met behind_got record_here behind_written end_place
nowhere-next Open c Done k h = (refl, rw (k, end_place))
nowhere-next Read c Done k h = (rw (k, record_here) h.0, h.1)
nowhere-next Write c Done k h = (rw (k, behind_written) h.0, rw (k, behind_written) h.0)
nowhere-next (GranuleRead g) c Done k h = h
nowhere-next (GranuleWrite g) c Done k h = h
nowhere-next (GranuleLook g) c Done k h = h
nowhere-next (Position WriteMark) c Done k h = (h.0, h.0)
nowhere-next (Position RewindOnline) c Done k h = (refl, h.1)
nowhere-next (Position RewindOffline) c Done k h = (refl, refl)
nowhere-next (Position RecordForward) c Done k h = (rw (k, record_here) h.0, h.1)
nowhere-next (Position RecordBack) c Done k h = h
nowhere-next (Position FileForward) c Done k h = (h.1, h.1)
nowhere-next (Position FileBack) c Done k h = h
nowhere-next q c (Met EndOfFile) k h = h
nowhere-next q c (Met BeginningOfTape) k h = (refl, h.1)
nowhere-next q c (Refused x) k h = h

-- so such a file stays sound
pub stays-fixed : (files buffer : ℕ) (q : Request) (c : Scene) → is_kind compressed c.entry ≡ false → Sound c.entry c.file c.bytes
    → (a : Answer) → Tells q (facts_of true files buffer q c) a → Sound (entry_next a q c) (file_next a q c) (bytes_next a q c)
stays-fixed files buffer q c k s a t =
    let n : is_kind compressed (entry_next a q c) ≡ false = kind-next compressed q c a ∙ k in
    record {
      lawful = lawful-next files buffer q c s.lawful a t (λ h. never (sym k ∙ h));
      size = size-next q c a s.size;
      sound = λ h. never (sym n ∙ h);
      here = λ h. never (sym n ∙ h);
      end = λ h. never (sym n ∙ h);
      nowhere = λ h. nowhere-next q c a k (s.nowhere k);
      closed = rest-next q c a s.closed;
    }
