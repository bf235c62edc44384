-- Decoding can wait for its turn. Judge first as if a bad code were met: an answer other than 11 comes from a test before that one, or from a
-- request that decodes nothing, and so is the answer whatever the codes are; at 11 the request is one that decodes, and it passed the tests before.
-- Where its code is good, the tests behind 11 answer.
use mathlib.Core.Path.{◌≡◌, refl, sym, ◌∙◌}
use mathlib.Core.Bool.{Bool, true, false, not, false≢true}
use mathlib.Core.List.{List, [], ◌∷◌}
use Prim.Native.Nat.{◌≤◌, ◌<◌}
use lib.Dec.{eqb, leb, ltb}
use borrow.Author.Tests.{le-ltb, lt-leb, ltb-false, leb-false, not-true, not-false}
use Rattle.geometry.specs.Lists.{every}
use Rattle.geometry.proofs.Tests.{and_left, and_right}
use Rattle.geometry.specs.Sizes.{free, most_open}
use Rattle.requests.specs.Judge.{whether, or_else, Test, tests, behind_eleven, first_of, judge, behind_code, is_full, not_legal, no_entry, not_open, not_sequential, is_beyond, short_buffer, bad_code, meets_mark, at_end}
use Rattle.requests.specs.Numbers.{number_of}
use Rattle.requests.proofs.Done.{Live, Running}
use Rattle.requests.specs.declared.Facts.{Facts}
use Rattle.requests.specs.declared.Order.TheVariants.{WriteMark, RewindOnline, RewindOffline, RecordForward, RecordBack, FileForward, FileBack}
use Rattle.requests.specs.declared.Request.{Request}
use Rattle.requests.specs.declared.Request.TheVariants.{Open, Read, Write, GranuleRead, GranuleWrite, GranuleLook, Position}
use Rattle.requests.specs.declared.Answer.{Answer}
use Rattle.requests.specs.declared.Answer.TheVariants.{Done}

-- the same facts, but that a record that the request decodes is bad or not
abbrev pub supposing : Bool → Facts → Facts
supposing b f = record {
  legal = f.legal;
  files = f.files;
  kind = f.kind;
  length = f.length;
  sectors = f.sectors;
  protected = f.protected;
  opened = f.opened;
  position = f.position;
  count = f.count;
  marked = f.marked;
  beyond = f.beyond;
  here = f.here;
  bad = b;
  given = f.given;
  code = f.code;
  buffer = f.buffer;
}

-- the answer 11
abbrev pub is_bad : Answer → Bool
is_bad a = eqb (number_of a) 11

-- ---- any other answer stands

-- of some tests
abbrev Stands : Facts → Bool → List (Test Facts) → Type 0
Stands f b ts = is_bad (first_of ts (supposing true f)) ≡ false → first_of ts (supposing b f) ≡ first_of ts (supposing true f)

module _ (f : Facts) (b : Bool) where
  -- a test before
  before : (t : Test Facts) (ts : List (Test Facts)) → t.holds (supposing b f) ≡ t.holds (supposing true f) → Stands f b ts → Stands f b (t ∷ ts)
  unfolding first_of or_else whether
  before t ts h k e = rw h (go (t.holds (supposing true f)) e)
    where
      go : (h : Bool) → is_bad (whether h t.gives (first_of ts (supposing true f))) ≡ false
          → whether h t.gives (first_of ts (supposing b f)) ≡ whether h t.gives (first_of ts (supposing true f))
      go true e = refl
      go false e = k e

  -- the test itself
  there : (ts : List (Test Facts)) → Stands f b (bad_code ∷ ts)
  unfolding first_of or_else whether
  there ts e = absurd (false≢true (sym e))

pub stands : (q : Request) (f : Facts) (b : Bool) → is_bad (judge q (supposing true f)) ≡ false → judge q (supposing b f) ≡ judge q (supposing true f)
unfolding judge tests
stands Open f b =
    before f b _ _ refl (before f b _ _ refl (before f b _ _ refl (before f b _ _ refl (there f b _))))
stands Read f b = before f b _ _ refl (before f b _ _ refl (before f b _ _ refl (before f b _ _ refl (before f b _ _ refl (before f b _ _ refl (there f b _))))))
stands Write f b = λ e. unfold first_of or_else is_full in refl
stands (GranuleRead g) f b = λ e. unfold first_of or_else in refl
stands (GranuleWrite g) f b = λ e. unfold first_of or_else in refl
stands (GranuleLook g) f b = λ e. unfold first_of or_else in refl
stands (Position WriteMark) f b = λ e. unfold first_of or_else in refl
stands (Position RewindOnline) f b = λ e. unfold first_of or_else in refl
stands (Position RewindOffline) f b = λ e. unfold first_of or_else in refl
stands (Position RecordForward) f b = before f b _ _ refl (before f b _ _ refl (before f b _ _ refl (before f b _ _ refl (before f b _ _ refl (there f b _)))))
stands (Position RecordBack) f b = λ e. unfold first_of or_else in refl
stands (Position FileForward) f b = λ e. unfold first_of or_else in refl
stands (Position FileBack) f b = λ e. unfold first_of or_else in refl

-- ---- at 11 the turn has come

-- an opening that passed the tests before
pub record OpensThen (f : Facts) : Type 0 where
  pub legal : f.legal ≡ true
  pub used : eqb f.kind free ≡ false
  pub shut : f.opened ≡ false
  pub few : f.files < most_open

-- and a request that goes forward by a record
pub record AdvancesThen (f : Facts) : Type 0 where
  pub running : Running f
  pub before : f.beyond ≡ false

pub record ReadsThen (f : Facts) : Type 0 where
  pub advances : AdvancesThen f
  pub buffered : f.length ≤ f.buffer

-- only these decode
abbrev pub Then : Request → Facts → Type 0
Then Open f = OpensThen f
Then Read f = ReadsThen f
Then Write f = ⊥
Then (GranuleRead g) f = ⊥
Then (GranuleWrite g) f = ⊥
Then (GranuleLook g) f = ⊥
Then (Position WriteMark) f = ⊥
Then (Position RewindOnline) f = ⊥
Then (Position RewindOffline) f = ⊥
Then (Position RecordForward) f = AdvancesThen f
Then (Position RecordBack) f = ⊥
Then (Position FileForward) f = ⊥
Then (Position FileBack) f = ⊥

-- past a test before
past : {T : Type 0} (f : Facts) (t : Test Facts) (ts : List (Test Facts)) → is_bad t.gives ≡ false → (t.holds f ≡ false → is_bad (first_of ts f) ≡ true → T)
    → is_bad (first_of (t ∷ ts) f) ≡ true → T
unfolding first_of or_else whether
past {T} f t ts n k e = go (t.holds f) k e
  where
    go : (h : Bool) → (h ≡ false → is_bad (first_of ts f) ≡ true → T) → is_bad (whether h t.gives (first_of ts f)) ≡ true → T
    go true k e = absurd (false≢true (sym n ∙ e))
    go false k e = k refl e

-- tests of which none gives 11
none : {T : Type 0} (ts : List (Test Facts)) (f : Facts) → every (λ t. not (is_bad t.gives)) ts ≡ true → is_bad (first_of ts f) ≡ true → T
unfolding first_of or_else every
none [] f n e = absurd (false≢true e)
none (t ∷ ts) f n e = past f t ts (not-true _ (and_left _ _ n)) (λ h. none ts f (and_right (not (is_bad t.gives)) _ n)) e

-- past the four that a request which goes forward begins with, and "beyond"
advances : {T : Type 0} (f : Facts) (ts : List (Test Facts)) → (AdvancesThen f → is_bad (first_of ts (supposing true f)) ≡ true → T)
    → is_bad (first_of (not_legal ∷ no_entry ∷ not_open ∷ not_sequential ∷ is_beyond ∷ ts) (supposing true f)) ≡ true → T
advances f ts k =
    past _ _ _ refl λ (a : not f.legal ≡ false). past _ _ _ refl λ b. past _ _ _ refl λ (c : not f.opened ≡ false). past _ _ _ refl λ d. past _ _ _ refl λ e.
    k (record { running = record { live = record { legal = not-false _ a; used = b; opened = not-false _ c }; sequential = d }; before = e })

pub turn : (q : Request) (f : Facts) → is_bad (judge q (supposing true f)) ≡ true → Then q f
unfolding judge tests every
turn Open f =
    past _ _ _ refl λ (a : not f.legal ≡ false). past _ _ _ refl λ b. past _ _ _ refl λ c. past _ _ _ refl λ (d : leb most_open f.files ≡ false) e.
    record { legal = not-false _ a; used = b; shut = c; few = leb-false _ _ d }
turn Read f = advances f _ λ a. past _ _ _ refl λ (s : ltb f.buffer f.length ≡ false) e. record { advances = a; buffered = ltb-false _ _ s }
turn Write f = none (tests Write) (supposing true f) refl
turn (GranuleRead g) f = none (tests (GranuleRead g)) (supposing true f) refl
turn (GranuleWrite g) f = none (tests (GranuleWrite g)) (supposing true f) refl
turn (GranuleLook g) f = none (tests (GranuleLook g)) (supposing true f) refl
turn (Position WriteMark) f = none (tests (Position WriteMark)) (supposing true f) refl
turn (Position RewindOnline) f = none (tests (Position RewindOnline)) (supposing true f) refl
turn (Position RewindOffline) f = none (tests (Position RewindOffline)) (supposing true f) refl
turn (Position RecordForward) f = advances f _ λ a e. a
turn (Position RecordBack) f = none (tests (Position RecordBack)) (supposing true f) refl
turn (Position FileForward) f = none (tests (Position FileForward)) (supposing true f) refl
turn (Position FileBack) f = none (tests (Position FileBack)) (supposing true f) refl

-- ---- where the code is good, the tests behind it answer

module _ (f : Facts) where
  -- of a request that goes forward
  advanced : (ts : List (Test Facts)) → AdvancesThen f
      → first_of (not_legal ∷ no_entry ∷ not_open ∷ not_sequential ∷ is_beyond ∷ ts) (supposing false f) ≡ first_of ts (supposing false f)
  unfolding first_of or_else whether
  advanced ts a =
      let l : Live f = a.running.live in
      rw (l.legal, l.used, l.opened, a.running.sequential, a.before)

  -- of each that decodes
  good-code : (q : Request) → Then q f → judge q (supposing false f) ≡ behind_code q f
  unfolding judge tests behind_code behind_eleven first_of or_else whether
  good-code Open o = rw (o.legal, o.used, o.shut, lt-leb most_open f.files o.few)
  good-code Read r = advanced (short_buffer ∷ bad_code ∷ meets_mark ∷ at_end ∷ []) r.advances ∙ rw (le-ltb f.buffer f.length r.buffered)
  good-code (Position RecordForward) a = advanced (bad_code ∷ meets_mark ∷ at_end ∷ []) a
  good-code Write o = elim o [ ]
  good-code (GranuleRead _) o = elim o [ ]
  good-code (GranuleWrite _) o = elim o [ ]
  good-code (GranuleLook _) o = elim o [ ]
  good-code (Position WriteMark) a = elim a [ ]
  good-code (Position RewindOnline) a = elim a [ ]
  good-code (Position RewindOffline) a = elim a [ ]
  good-code (Position RecordBack) a = elim a [ ]
  good-code (Position FileForward) a = elim a [ ]
  good-code (Position FileBack) a = elim a [ ]

  -- a read whose turn has come, of a record that is there and good, is done
  pub reads_on : ReadsThen f → f.position < f.count → judge Read (supposing false f) ≡ Done
  unfolding behind_code behind_eleven tests first_of or_else whether
  reads_on r h = good-code Read r ∙ rw (lt-leb f.count f.position h)

pub behind : (q : Request) (f : Facts) → is_bad (judge q (supposing true f)) ≡ true → judge q (supposing false f) ≡ behind_code q f
behind q f e = good-code f q (turn q f e)
