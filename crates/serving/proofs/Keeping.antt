-- A request keeps a session legal: the next entry and state are lawful, and no other entry's file changes. This needs nothing of the bytes, so it
-- holds of either engine and of every legal session.
use mathlib.Core.Path.{◌≡◌, refl, sym, ap, ◌∙◌, subst}
use mathlib.Core.Logic.{◌≢◌, ◌⊎◌, inl, inr}
use mathlib.Core.Bool.{true, false}
use mathlib.Core.List.{List}
use Prim.Native.Nat.{ℕ, ◌<◌}
use native.Mathlib.Omega.{arith}
use lib.ListN.{length, set}
use lib.Seq.{set-get_or}
use borrow.Author.Tests.{ne_eqb, eqb-false, eq-eqb}
use Rattle.geometry.specs.Sizes.{entries, compressed, random, most_open, sectors_of, free}
use Rattle.geometry.proofs.Tests.{both_ways, many-room}
use Rattle.directory.specs.Entries.{entry_at, free_entry, is_free}
use Rattle.directory.specs.Rules.{table_good}
use Rattle.directory.specs.Stamp.{restamped}
use Rattle.directory.proofs.Good.{used-inside}
use Rattle.directory.proofs.Restamp.{Stampable, restamp-good}
use Rattle.requests.specs.Judge.{judge}
use Rattle.requests.proofs.Done.{Allows, Meets, Tells, done-allows, met-meets}
use Rattle.requests.proofs.Live.{Alive, done-live, done-real, done-place, met-live}
use Rattle.sessions.specs.Session.{idle, file_of, slot_of, open_files, legal}
use Rattle.sessions.proofs.Files.{Finds, opened, closed, finds}
use Rattle.sessions.proofs.Legal.{good-table, legal-length}
use Rattle.sessions.proofs.Distinct.{Distinct, distinct, file-entry, file-new, file-shut, file-other}
use Rattle.sessions.proofs.Kept.{legal-set}
use Rattle.steps.specs.Next.{Scene, facts_of, file_done, file_met, counted}
use Rattle.steps.specs.Effects.{effects}
use Rattle.steps.specs.Step.{plain_scene, plain_answer, plain_after, plain_step}
use Rattle.steps.proofs.Lawful.{Lawful}
use Rattle.steps.proofs.Frame.{length-plain}
use Rattle.steps.proofs.Inside.{lawful}
use Rattle.steps.specs.Verdict.{entry_next, file_next}
use Rattle.serving.proofs.Stays.{same_next, lawful-next}
use Rattle.serving.proofs.Places.{places-next}
use Rattle.directory.specs.declared.Entry.{Entry}
use Rattle.sessions.specs.declared.OpenFile.{OpenFile}
use Rattle.sessions.specs.declared.Session.{Session}
use Rattle.requests.specs.declared.Answer.{Answer}
use Rattle.requests.specs.declared.Answer.TheVariants.{Done, Met, Refused}
use Rattle.requests.specs.declared.Edge.{Edge}
use Rattle.requests.specs.declared.Edge.TheVariants.{EndOfFile, BeginningOfTape}
use Rattle.requests.specs.declared.Order.TheVariants.{WriteMark, RewindOnline, RewindOffline, RecordForward, RecordBack, FileForward, FileBack}
use Rattle.requests.specs.declared.Request.{Request}
use Rattle.requests.specs.declared.Request.TheVariants.{Open, Read, Write, GranuleRead, GranuleWrite, GranuleLook, Position}

-- ---- the next entry

-- only count and flags differ
pub next-restamped : (q : Request) (c : Scene) (a : Answer) → entry_next a q c ≡ restamped c.entry (entry_next a q c).count (entry_next a q c).flags
unfolding counted
next-restamped q c a =
    ap (λ (e : Entry). restamped e (entry_next a q c).count (entry_next a q c).flags) (same_next (λ (e : Entry). restamped e 0 0) q c a (λ n m h. refl))

real-lawful : (e : Entry) (f : OpenFile) → Lawful e f → is_free e ≡ false
real-lawful e f w = ne_eqb e.kind free (omega (arith, w.known))

stampable : (e : Entry) (count flags : ℕ) (f : OpenFile) → Lawful (restamped e count flags) f → Stampable e count flags
stampable e count flags f w = record {
  flagged = w.flags;
  held = λ h. w.counted (ne_eqb e.kind compressed (omega arith)) (ne_eqb e.kind random (omega arith));
  counted = w.words;
  bare = λ h. (w.bare (eq-eqb e.kind random h)).0;
  unmarked = λ h. (w.bare (eq-eqb e.kind random h)).1;
}

-- ---- the next state: the entry's; idle behind a close

pub data Goes (q : Request) (i : ℕ) (f : OpenFile) : Type 0 where
  on : f.used ≡ true → f.entry ≡ i → Goes q i f
  off : q ≡ Position RewindOffline → f ≡ idle → Goes q i f

pub goes-used : (q : Request) (i : ℕ) (f : OpenFile) → Goes q i f → f.used ≡ true → f.entry ≡ i
goes-used q i f (on u e) v = e
goes-used q i f (off z e) v = both_ways f.used v (ap (λ (g : OpenFile). g.used) e)

module _ (i files buffer : ℕ) (c : Scene) (number : c.number ≡ i) (mine : c.file.used ≡ true → c.file.entry ≡ i) where
  goes-done : (q : Request) → Alive q (facts_of true files buffer q c) → Goes q i (file_done q c)
  unfolding facts_of file_done
  goes-done Open l = on refl number
  goes-done Read l = on refl (mine l.opened)
  goes-done Write l = on refl (mine l.opened)
  goes-done (GranuleRead g) l = on l.opened (mine l.opened)
  goes-done (GranuleWrite g) l = on l.opened (mine l.opened)
  goes-done (GranuleLook g) l = on l.opened (mine l.opened)
  goes-done (Position WriteMark) l = on refl (mine l.opened)
  goes-done (Position RewindOnline) l = on refl (mine l.opened)
  goes-done (Position RewindOffline) l = off refl refl
  goes-done (Position RecordForward) l = on refl (mine l.opened)
  goes-done (Position RecordBack) l = on refl (mine l.opened)
  goes-done (Position FileForward) l = on refl (mine l.opened)
  goes-done (Position FileBack) l = on refl (mine l.opened)

  goes-met : (q : Request) (x : Edge) → c.file.used ≡ true → Goes q i (file_met x c.file)
  unfolding file_met
  goes-met q EndOfFile u = on refl (mine u)
  goes-met q BeginningOfTape u = on refl (mine u)

-- ---- the session behind a request on entry i that finds the scene c

-- the session with the next entry and state in it
abbrev pub session_next : Answer → Request → Scene → Session → ℕ → Session
session_next a q c s i = record { says = s.says; table = set s.table i (entry_next a q c); files = set s.files (slot_of s.files i) (file_next a q c) }

-- the scene is entry i's
pub record Of (s : Session) (i : ℕ) (c : Scene) : Type 0 where
  pub number : c.number ≡ i
  pub entry : c.entry ≡ entry_at s.table i
  pub file : c.file ≡ file_of s.files i

-- the answer is 0, 1 or 2
pub data Answered (q : Request) (files buffer : ℕ) (c : Scene) : Answer → Type 0 where
  done : Allows q (facts_of true files buffer q c) → Answered q files buffer c Done
  met : (x : Edge) → Meets (facts_of true files buffer q c) q x → Answered q files buffer c (Met x)

pub answered-tells : (q : Request) (files buffer : ℕ) (c : Scene) (a : Answer) → Answered q files buffer c a → Tells q (facts_of true files buffer q c) a
answered-tells q files buffer c a (done t) = t
answered-tells q files buffer c a (met x t) = t

module _ (image : List ℕ) (s : Session) (ok : legal image s ≡ true) (many : length s.table ≡ entries) (four : length s.files ≡ most_open)
    (i : ℕ) (c : Scene) (its : Of s i c) (used : is_free c.entry ≡ false) (buffer : ℕ) (q : Request) (a : Answer)
    (t : Answered q (open_files s.files) buffer c a) where
  abbrev n : ℕ
  n = open_files s.files

  its_own : c.file.used ≡ true → c.file.entry ≡ i
  its_own u = rw its.file (file-entry s.files i (rw its.file at u))

  pub goes : Goes q i (file_next a q c)
  unfolding file_next facts_of
  goes = go a t
    where
      go : (a : Answer) → Answered q (open_files s.files) buffer c a → Goes q i (file_next a q c)
      go a (done h) = goes-done i (open_files s.files) buffer c its.number its_own q (done-live q _ h)
      go a (met x h) = goes-met i (open_files s.files) buffer c its.number its_own q x (met-live _ q x h).opened

  real : is_free (entry_at s.table i) ≡ false
  real = rw its.entry at used

  in_table : i < length s.table
  in_table = used-inside s.table i (eqb-false (entry_at s.table i).kind free real)

  pub in-entries : i < entries
  in-entries = omega (arith, in_table, many)

  lawful_now : Lawful c.entry c.file
  lawful_now = rw (its.entry, its.file) (lawful image s ok i real)

  pub lawful_then : Lawful (entry_next a q c) (file_next a q c)
  lawful_then = let w = answered-tells q n buffer c a t in lawful-next n buffer q c lawful_now a w (places-next n buffer q c lawful_now a w)

  pub legal-next : legal image (session_next a q c s i) ≡ true
  legal-next =
      legal-set image s ok four i in-entries in_table real (entry_next a q c) (file_next a q c) (goes-used q i (file_next a q c) goes) good λ u. record {
        real = real-lawful (entry_next a q c) (file_next a q c) lawful_then;
        standing = lawful_then.standing;
        ahead = lawful_then.ahead;
        places = lawful_then.places;
      }
    where
      is : entry_next a q c ≡ restamped (entry_at s.table i) (entry_next a q c).count (entry_next a q c).flags
      is = next-restamped q c a ∙ ap (λ (d : Entry). restamped d (entry_next a q c).count (entry_next a q c).flags) its.entry

      good : table_good (sectors_of image) (set s.table i (entry_next a q c)) ≡ true
      good =
          subst (λ (d : Entry). table_good (sectors_of image) (set s.table i d) ≡ true) (sym is)
          (restamp-good (sectors_of image) s.table i (entry_next a q c).count (entry_next a q c).flags (good-table image s ok)
          (eqb-false (entry_at s.table i).kind free real)
          (stampable (entry_at s.table i) _ _ (file_next a q c) (subst (λ (d : Entry). Lawful d (file_next a q c)) is lawful_then)))

  -- ---- whose file is which afterwards

  apart : Distinct s.files
  apart = distinct image s ok

  -- there is a state for the file
  slot : slot_of s.files i < length s.files
  unfolding facts_of open_files
  slot = go (finds s.files i) (place a t)
    where
      place : (a : Answer) → Answered q (open_files s.files) buffer c a → (c.file.used ≡ true) ⊎ (open_files s.files < most_open)
      place a (done h) = done-place q _ h
      place a (met x h) = inl (met-live _ q x h).opened

      go : Finds s.files i → (c.file.used ≡ true) ⊎ (open_files s.files < most_open) → slot_of s.files i < length s.files
      go (opened h f u e b) p = h
      go (closed f k b) (inl u) = both_ways c.file.used u (ap (λ (g : OpenFile). g.used) (its.file ∙ f))
      go (closed f k b) (inr l) = rw k (many-room (λ (g : OpenFile). g.used) s.files (omega (arith, four)))

  pub file-then : file_of (set s.files (slot_of s.files i) (file_next a q c)) i ≡ file_next a q c
  file-then = go goes
    where
      go : Goes q i (file_next a q c) → file_of (set s.files (slot_of s.files i) (file_next a q c)) i ≡ file_next a q c
      go (on u e) = file-new s.files apart i (file_next a q c) (λ h. e) u slot
      go (off z e) =
          file-shut s.files apart i (file_next a q c) (goes-used q i (file_next a q c) (off z e)) (ap (λ (g : OpenFile). g.used) e) slot ∙ sym e

  pub file-others : (j : ℕ) → j ≢ i → file_of (set s.files (slot_of s.files i) (file_next a q c)) j ≡ file_of s.files j
  file-others j ne = file-other s.files apart i (file_next a q c) (goes-used q i (file_next a q c) goes) j ne

-- ---- a request in the plain engine

pub legal-step : (image : List ℕ) (s : Session) → legal image s ≡ true → length s.table ≡ entries → length s.files ≡ most_open
    → (i : ℕ) (q : Request) (given buffer : List ℕ) → legal (plain_step image s i q given buffer).image (plain_step image s i q given buffer).session ≡ true
unfolding plain_step plain_answer plain_scene plain_after entry_next file_next facts_of
legal-step image s ok many four i q given buffer = go (plain_answer image s i q given (length buffer)) (rw ok)
  where
    its : Of s i (plain_scene image s i given)
    its = record { number = refl; entry = refl; file = refl }

    go : (a : Answer) → judge q (facts_of true (open_files s.files) (length buffer) q (plain_scene image s i given)) ≡ a
        → legal (plain_after a image s q (plain_scene image s i given) buffer).image (plain_after a image s q (plain_scene image s i given) buffer).session ≡ true
    go Done e =
        let t : Allows q (facts_of true (open_files s.files) (length buffer) q (plain_scene image s i given)) = done-allows q _ e in
        legal-length _ image _ (length-plain (plain_scene image s i given) (effects q (plain_scene image s i given)) image)
        ∙ legal-next image s ok many four i (plain_scene image s i given) its (done-real q _ t).used (length buffer) q Done (done t)
    go (Met x) e =
        let t : Meets (facts_of true (open_files s.files) (length buffer) q (plain_scene image s i given)) q x = met-meets q _ x e in
        rw (set-get_or s.table i free_entry) at (legal-next image s ok many four i (plain_scene image s i given) its (met-live _ q x t).used (length buffer) q (Met x) (met x t))
    go (Refused x) e = ok
