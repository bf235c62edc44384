-- What an answer tells of the facts: where the tests are passed one after another, each leaves its negation; where one gives 1 or 2, it holds.
use mathlib.Core.Path.{◌≡◌, refl, subst}
use mathlib.Core.Logic.{◌≢◌}
use mathlib.Core.Bool.{Bool, true, false, ◌||◌, ◌&&◌, not, false≢true}
use mathlib.Core.List.{List, [], ◌∷◌}
use Prim.Native.Nat.{ℕ, ◌%◌, ◌≤◌, ◌<◌}
use native.Mathlib.Omega.{arith}
use lib.Dec.{eqb, leb, ltb}
use borrow.Author.Tests.{ltb-false, leb-false, leb-true, eqb-false, eqb-true, not-true, not-false}
use Rattle.geometry.specs.Sizes.{free, compressed, random, most_open, most_records, sector}
use Rattle.geometry.specs.Places.{capacity}
use Rattle.geometry.proofs.Tests.{and_left, and_right, neither_left, neither_right}
use Rattle.packing.specs.Placing.{has_room}
use Rattle.requests.specs.Judge.{whether, or_else, Stage, Test, refused_if, not_legal, no_entry, not_open, not_sequential, odd_count, bad_size, bad_code, no_granule, meets_mark, at_end, back_over_mark, at_start, back_to_start, tests, first_of, judge, is_full}
use Rattle.requests.specs.declared.Facts.{Facts}
use Rattle.requests.specs.declared.Order.TheVariants.{WriteMark, RewindOnline, RewindOffline, RecordForward, RecordBack, FileForward, FileBack}
use Rattle.requests.specs.declared.Request.{Request}
use Rattle.requests.specs.declared.Request.TheVariants.{Open, Read, Write, GranuleRead, GranuleWrite, GranuleLook, Position}
use Rattle.requests.specs.declared.Edge.{Edge}
use Rattle.requests.specs.declared.Edge.TheVariants.{EndOfFile, BeginningOfTape}
use Rattle.requests.specs.declared.Refusal.{Refusal}
use Rattle.requests.specs.declared.Answer.{Answer}
use Rattle.requests.specs.declared.Answer.TheVariants.{Done, Met, Refused}

-- ---- what holds where a request is done

-- of every request but an opening
pub record Live (f : Facts) : Type 0 where
  pub legal : f.legal ≡ true
  pub used : eqb f.kind free ≡ false
  pub opened : f.opened ≡ true

-- of every request on a sequential file
pub record Running (f : Facts) : Type 0 where
  pub live : Live f
  pub sequential : eqb f.kind random ≡ false

pub record Opens (f : Facts) : Type 0 where
  pub legal : f.legal ≡ true
  pub used : eqb f.kind free ≡ false
  pub shut : f.opened ≡ false
  pub few : f.files < most_open
  pub sound : f.bad ≡ false

-- a read but for its buffer; record forward
pub record Advances (f : Facts) : Type 0 where
  pub running : Running f
  pub before : f.beyond ≡ false
  pub sound : f.bad ≡ false
  pub ahead : f.position < f.count

pub record Reads (f : Facts) : Type 0 where
  pub advances : Advances f
  pub buffered : f.length ≤ f.buffer

pub record Marks (f : Facts) : Type 0 where
  pub running : Running f
  pub writable : f.protected ≡ false
  pub before : f.beyond ≡ false

pub record Writes (f : Facts) : Type 0 where
  pub marks : Marks f
  pub even : f.given % 2 ≡ 0
  pub some : 1 ≤ f.given
  pub short : f.given ≤ f.length
  pub coded : eqb f.kind compressed ≡ true → f.code ≤ sector
  pub below : f.position < most_records
  pub room : is_full f ≡ false

pub record StepsBack (f : Facts) : Type 0 where
  pub running : Running f
  pub fixed : eqb f.kind compressed ≡ false
  pub before : f.beyond ≡ false
  pub started : 1 ≤ f.position

pub record PassesFile (f : Facts) : Type 0 where
  pub running : Running f
  pub before : f.beyond ≡ false
  pub marked : f.marked ≡ true

pub record ReturnsFile (f : Facts) : Type 0 where
  pub running : Running f
  pub past : f.beyond ≡ true

-- a granule look
pub record Finds (g : ℕ) (f : Facts) : Type 0 where
  pub live : Live f
  pub random : eqb f.kind random ≡ true
  pub there : g < capacity f.kind f.length f.sectors

pub record ReadsGranule (g : ℕ) (f : Facts) : Type 0 where
  pub finds : Finds g f
  pub buffered : f.length ≤ f.buffer

pub record WritesGranule (g : ℕ) (f : Facts) : Type 0 where
  pub finds : Finds g f
  pub writable : f.protected ≡ false
  pub even : f.given % 2 ≡ 0
  pub some : 1 ≤ f.given
  pub short : f.given ≤ f.length

abbrev pub Allows : Request → Facts → Type 0
Allows Open f = Opens f
Allows Read f = Reads f
Allows Write f = Writes f
Allows (GranuleRead g) f = ReadsGranule g f
Allows (GranuleWrite g) f = WritesGranule g f
Allows (GranuleLook g) f = Finds g f
Allows (Position WriteMark) f = Marks f
Allows (Position RewindOnline) f = Running f
Allows (Position RewindOffline) f = Live f
Allows (Position RecordForward) f = Advances f
Allows (Position RecordBack) f = StepsBack f
Allows (Position FileForward) f = PassesFile f
Allows (Position FileBack) f = ReturnsFile f

-- ---- what holds where an edge is met

-- a read or record forward at the mark
pub record MeetsMark (f : Facts) : Type 0 where
  pub running : Running f
  pub before : f.beyond ≡ false
  pub sound : f.bad ≡ false
  pub ended : f.count ≤ f.position
  pub marked : f.marked ≡ true

-- record back over the mark
pub record BackOver (f : Facts) : Type 0 where
  pub running : Running f
  pub fixed : eqb f.kind compressed ≡ false
  pub past : f.beyond ≡ true

-- record back at the beginning
pub record BackAtStart (f : Facts) : Type 0 where
  pub running : Running f
  pub fixed : eqb f.kind compressed ≡ false
  pub before : f.beyond ≡ false
  pub first : f.position ≡ 0

-- file back to the beginning
pub record BackToStart (f : Facts) : Type 0 where
  pub running : Running f
  pub before : f.beyond ≡ false

-- which requests meet which edge, and what holds then
pub data Meets (f : Facts) : Request → Edge → Type 0 where
  reads_mark : MeetsMark f → Meets f Read EndOfFile
  skips_mark : MeetsMark f → Meets f (Position RecordForward) EndOfFile
  back_over : BackOver f → Meets f (Position RecordBack) EndOfFile
  back_at_start : BackAtStart f → Meets f (Position RecordBack) BeginningOfTape
  file_back_to_start : BackToStart f → Meets f (Position FileBack) BeginningOfTape

-- what an answer tells
abbrev pub Tells : Request → Facts → Answer → Type 0
Tells q f Done = Allows q f
Tells q f (Met x) = Meets f q x
Tells q f (Refused x) = Unit {0}

-- ---- one test after another

and-none-second : (a b : Bool) → a ≡ true → a && b ≡ false → b ≡ false
and-none-second true b k e = e
and-none-second false b k e = absurd (false≢true k)

positive : (n : ℕ) → eqb n 0 ≡ false → 1 ≤ n
positive n e = let z : n ≢ 0 = eqb-false n 0 e in omega arith

-- a test that holds gives its answer; one that does not hands on
pub passing : {F : Type 0} (P : Answer → Type 0) (t : Test F) (ts : List (Test F)) (f : F) → (t.holds f ≡ true → P t.gives) → (t.holds f ≡ false → P (first_of ts f))
    → P (first_of (t ∷ ts) f)
unfolding first_of or_else whether
passing P t ts f p r = go (t.holds f) p r
  where
    go : (b : Bool) → (b ≡ true → P t.gives) → (b ≡ false → P (first_of ts f)) → P (whether b t.gives (first_of ts f))
    go true h k = h refl
    go false h k = k refl

module _ (q : Request) (f : Facts) where
  -- past them all
  last : Tells q f Done → Tells q f (first_of [] f)
  unfolding first_of or_else
  last h = h

  -- past a test that refuses
  past : (o : Stage) (x : Refusal) (p : Facts → Bool) (ts : List (Test Facts)) → (p f ≡ false → Tells q f (first_of ts f)) → Tells q f (first_of (refused_if o x p ∷ ts) f)
  past o x p ts k = passing (Tells q f) (refused_if o x p) ts f (λ e. tt) k

  -- past the three that every request on an open file begins with
  live : (ts : List (Test Facts)) → (Live f → Tells q f (first_of ts f)) → Tells q f (first_of (not_legal ∷ no_entry ∷ not_open ∷ ts) f)
  live ts k =
      past _ _ _ _ λ (a : not f.legal ≡ false). past _ _ _ _ λ (b : eqb f.kind free ≡ false). past _ _ _ _ λ (c : not f.opened ≡ false).
      k (record { legal = not-false _ a; used = b; opened = not-false _ c })

  -- and past the one on the kind
  running : (ts : List (Test Facts)) → (Running f → Tells q f (first_of ts f)) → Tells q f (first_of (not_legal ∷ no_entry ∷ not_open ∷ not_sequential ∷ ts) f)
  running ts k = live (not_sequential ∷ ts) λ (a : Live f). past _ _ _ _ λ (b : eqb f.kind random ≡ false). k (record { live = a; sequential = b })

  -- the tests of the bytes given
  sized : (ts : List (Test Facts)) → ((f.given % 2 ≡ 0) × (1 ≤ f.given) × (f.given ≤ f.length) → Tells q f (first_of ts f))
      → Tells q f (first_of (odd_count ∷ bad_size ∷ ts) f)
  sized ts k =
      past _ _ _ _ λ (a : eqb (f.given % 2) 1 ≡ false). past _ _ _ _ λ (b : eqb f.given 0 || ltb f.length f.given ≡ false).
      let n : f.given % 2 ≢ 1 = eqb-false _ _ a in
      k (omega arith, positive f.given (neither_left _ _ b), ltb-false _ _ (neither_right (eqb f.given 0) _ b))

  -- the tests of a record that is read
  advancing : Running f → (MeetsMark f → Tells q f (Met EndOfFile)) → (Advances f → Tells q f Done)
      → f.beyond ≡ false → Tells q f (first_of (bad_code ∷ meets_mark ∷ at_end ∷ []) f)
  advancing r m d b =
      past _ _ _ _ λ (s : f.bad ≡ false). passing (Tells q f) meets_mark (at_end ∷ []) f
      (λ (e : leb f.count f.position && f.marked ≡ true).
      m (record { running = r; before = b; sound = s; ended = leb-true _ _ (and_left _ _ e); marked = and_right (leb f.count f.position) _ e }))
      λ e. past _ _ _ _ λ (a : leb f.count f.position ≡ false). last (d (record { running = r; before = b; sound = s; ahead = leb-false _ _ a }))

  -- the test of a granule's number
  finding : (g : ℕ) → Live f → not (eqb f.kind random) ≡ false → (Finds g f → Tells q f Done) → Tells q f (first_of (no_granule g ∷ []) f)
  finding g l k d =
      past _ _ _ _ λ (a : leb (capacity f.kind f.length f.sectors) g ≡ false).
      last (d (record { live = l; random = not-false _ k; there = leb-false _ _ a }))

-- what the answer to a request tells
pub judge-tells : (q : Request) (f : Facts) → Tells q f (judge q f)
unfolding judge tests
judge-tells Open f =
    past Open f _ _ _ _ λ (a : not f.legal ≡ false). past Open f _ _ _ _ λ b. past Open f _ _ _ _ λ c. past Open f _ _ _ _ λ (d : leb most_open f.files ≡ false).
    past Open f _ _ _ _ λ e. last Open f (record { legal = not-false _ a; used = b; shut = c; few = leb-false _ _ d; sound = e })
judge-tells Read f =
    running Read f _ λ r. past Read f _ _ _ _ λ b. past Read f _ _ _ _ λ (s : ltb f.buffer f.length ≡ false).
    advancing Read f r reads_mark (λ a. record { advances = a; buffered = ltb-false _ _ s }) b
judge-tells Write f =
    running Write f _ λ r. past Write f _ _ _ _ λ p. past Write f _ _ _ _ λ b. sized Write f _ λ z.
    past Write f _ _ _ _ λ (c : eqb f.kind compressed && ltb sector f.code ≡ false). past Write f _ _ _ _ λ (n : leb most_records f.position || is_full f ≡ false).
    last Write f (record {
      marks = record { running = r; writable = p; before = b };
      even = z.0;
      some = z.1;
      short = z.2;
      coded = λ (k : eqb f.kind compressed ≡ true). ltb-false _ _ (and-none-second _ _ k c);
      below = leb-false _ _ (neither_left _ _ n);
      room = neither_right (leb most_records f.position) _ n;
    })
judge-tells (GranuleRead g) f =
    live (GranuleRead g) f _ λ l. past (GranuleRead g) f _ _ _ _ λ (k : not (eqb f.kind random) ≡ false).
    past (GranuleRead g) f _ _ _ _ λ (s : ltb f.buffer f.length ≡ false). finding (GranuleRead g) f g l k λ h. record { finds = h; buffered = ltb-false _ _ s }
judge-tells (GranuleWrite g) f =
    live (GranuleWrite g) f _ λ l. past (GranuleWrite g) f _ _ _ _ λ (k : not (eqb f.kind random) ≡ false). past (GranuleWrite g) f _ _ _ _ λ p.
    sized (GranuleWrite g) f _ λ z. finding (GranuleWrite g) f g l k λ h. record { finds = h; writable = p; even = z.0; some = z.1; short = z.2 }
judge-tells (GranuleLook g) f =
    live (GranuleLook g) f _ λ l. past (GranuleLook g) f _ _ _ _ λ (k : not (eqb f.kind random) ≡ false). finding (GranuleLook g) f g l k λ h. h
judge-tells (Position WriteMark) f =
    running (Position WriteMark) f _ λ r. past (Position WriteMark) f _ _ _ _ λ p. past (Position WriteMark) f _ _ _ _ λ b.
    last (Position WriteMark) f (record { running = r; writable = p; before = b })
judge-tells (Position RewindOnline) f = running (Position RewindOnline) f _ λ r. last (Position RewindOnline) f r
judge-tells (Position RewindOffline) f = live (Position RewindOffline) f _ λ l. last (Position RewindOffline) f l
judge-tells (Position RecordForward) f =
    running (Position RecordForward) f _ λ r. past (Position RecordForward) f _ _ _ _ λ b. advancing (Position RecordForward) f r skips_mark (λ a. a) b
judge-tells (Position RecordBack) f =
    live (Position RecordBack) f _ λ l. past (Position RecordBack) f _ _ _ _ λ (k : eqb f.kind random || eqb f.kind compressed ≡ false).
    let r : Running f = record { live = l; sequential = neither_left _ _ k } in
    let n : eqb f.kind compressed ≡ false = neither_right (eqb f.kind random) _ k in
    passing (Tells (Position RecordBack) f) back_over_mark (at_start ∷ []) f (λ b. back_over (record { running = r; fixed = n; past = b }))
    λ b. passing (Tells (Position RecordBack) f) at_start [] f (λ (z : eqb f.position 0 ≡ true). back_at_start (record { running = r; fixed = n; before = b; first = eqb-true _ _ z }))
    λ (z : eqb f.position 0 ≡ false). last (Position RecordBack) f (record { running = r; fixed = n; before = b; started = positive f.position z })
judge-tells (Position FileForward) f =
    running (Position FileForward) f _ λ r. past (Position FileForward) f _ _ _ _ λ b. past (Position FileForward) f _ _ _ _ λ (m : not f.marked ≡ false).
    last (Position FileForward) f (record { running = r; before = b; marked = not-false _ m })
judge-tells (Position FileBack) f =
    running (Position FileBack) f _ λ r.
    passing (Tells (Position FileBack) f) back_to_start [] f (λ (b : not f.beyond ≡ true). file_back_to_start (record { running = r; before = not-true _ b }))
    λ (b : not f.beyond ≡ false). last (Position FileBack) f (record { running = r; past = not-false _ b })

-- done: every test's negation
pub done-allows : (q : Request) (f : Facts) → judge q f ≡ Done → Allows q f
done-allows q f e = subst (Tells q f) e (judge-tells q f)

-- an edge met: which, and why
pub met-meets : (q : Request) (f : Facts) (x : Edge) → judge q f ≡ Met x → Meets f q x
met-meets q f x e = subst (Tells q f) e (judge-tells q f)

-- room, by kind: below the capacity; a coded record due in a sector of the extent
pub room-fixed : (f : Facts) → is_full f ≡ false → eqb f.kind compressed ≡ false → f.position < capacity f.kind f.length f.sectors
unfolding is_full
room-fixed f e k = leb-false _ _ (rw (k, is_full) at e)

pub room-coded : (f : Facts) → is_full f ≡ false → eqb f.kind compressed ≡ true → has_room f.sectors f.here f.code ≡ true
unfolding is_full
room-coded f e k = not-false _ (rw (k, is_full) at e)
