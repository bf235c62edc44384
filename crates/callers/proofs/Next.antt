-- What a request leaves fits its bytes where what it found does: a count is at most 65,535 and a position at most that; a place of a compressed file
-- lies in the extent, and any other is one that was there.
use mathlib.Core.Path.{◌≡◌, refl, sym, ap, subst, ◌∙◌}
use mathlib.Core.Bool.{Bool, true, false}
use mathlib.Core.List.{List}
use Prim.Native.Nat.{ℕ, ◌^◌, ◌≤◌, ◌<◌}
use native.Mathlib.Omega.{arith}
use lib.Dec.{eqb, leb, ltb}
use lib.ListN.{length, set, length-set}
use lib.Seq.{set-get_or}
use borrow.Author.Tests.{lt-ltb, ltb-true, leb-true, eqb-true, eq-eqb}
use Rattle.geometry.specs.Lists.{all, every, first_with}
use Rattle.geometry.specs.Places.{origin}
use Rattle.geometry.specs.Sizes.{sector, entries, most_open, most_sectors, compressed}
use Rattle.geometry.proofs.Tests.{and_left, and_right, and_both, all_get_d, every_any, every_set, either, not_chosen}
use Rattle.editing.proofs.Fits.{free-fits}
use Rattle.geometry.specs.declared.Place.{Place}
use Rattle.directory.specs.Entries.{entry_at, free_entry, is_free, is_kind}
use Rattle.directory.specs.Stamp.{restamped}
use Rattle.directory.specs.declared.Entry.{Entry}
use Rattle.requests.specs.Judge.{judge}
use Rattle.requests.proofs.Done.{Allows, Meets, done-allows, met-meets}
use Rattle.requests.proofs.Live.{done-real, met-live}
use Rattle.requests.specs.declared.Answer.{Answer}
use Rattle.requests.specs.declared.Answer.TheVariants.{Done, Met, Refused}
use Rattle.requests.specs.declared.Edge.TheVariants.{EndOfFile, BeginningOfTape}
use Rattle.requests.specs.declared.Order.TheVariants.{WriteMark, RewindOnline, RewindOffline, RecordForward, RecordBack, FileForward, FileBack}
use Rattle.requests.specs.declared.Request.{Request}
use Rattle.requests.specs.declared.Request.TheVariants.{Open, Read, Write, GranuleRead, GranuleWrite, GranuleLook, Position}
use Rattle.sessions.specs.Session.{idle, file_of, slot_of, is_of, open_files, legal, place_good}
use Rattle.sessions.specs.declared.OpenFile.{OpenFile}
use Rattle.sessions.specs.declared.Session.{Session}
use Rattle.steps.specs.Next.{Scene, facts_of, record_here, behind_got, behind_written, end_place, file_done, file_met}
use Rattle.steps.specs.Step.{plain_scene, plain_answer, plain_after, plain_step}
use Rattle.steps.specs.Verdict.{entry_next, file_next}
use Rattle.steps.proofs.Lawful.{Lawful}
use Rattle.serving.proofs.Keeping.{next-restamped, Goes, on, off, goes, Of, Answered, done, met, in-entries, lawful_then, session_next}
use Rattle.serving.proofs.Stays.{kind-next}
use Rattle.demands.specs.Engine.{plain_engine}
use Rattle.demands.proofs.Orderly.{plain-orderly}
use Rattle.demands.proofs.Illegal.{nothing-changed}
use Rattle.sessions.proofs.Unheld.{unheld-legal}
use Rattle.storing.specs.Fits.{fits, are_bytes, are_all, entry_fits, file_fits, session_fits}

-- ---- numbers

pub below : (n x : ℕ) → x < 256 ^ n → fits n x ≡ true
unfolding fits
below n x h = lt-ltb x (256 ^ n) h

abbrev pub PlaceFits : Place → Type 0
PlaceFits p = (fits 4 p.sector ≡ true) × (fits 4 p.byte ≡ true)

origin-fits : PlaceFits origin
unfolding fits
origin-fits = (refl, refl)

good-fits : (e : Entry) (p : Place) → e.sectors ≤ most_sectors → place_good e p ≡ true → PlaceFits p
unfolding place_good
good-fits e p l h =
    let s = ltb-true p.sector e.sectors (and_left (ltb p.sector e.sectors) (leb p.byte sector) h) in
    let b = leb-true p.byte sector (and_right (ltb p.sector e.sectors) (leb p.byte sector) h) in
    (below 4 p.sector (omega arith), below 4 p.byte (omega arith))

-- ---- an entry with another count and other flags

pub record EntryFits (e : Entry) : Type 0 where
  pub name : are_bytes 8 e.name ≡ true
  pub kind : fits 2 e.kind ≡ true
  pub length : fits 2 e.length ≡ true
  pub first : fits 2 e.first ≡ true
  pub sectors : fits 2 e.sectors ≡ true
  pub count : fits 4 e.count ≡ true
  pub flags : fits 2 e.flags ≡ true

pub entry-parts : (e : Entry) → entry_fits e ≡ true → EntryFits e
unfolding entry_fits
entry-parts e h = record {
  name = all_get_d _ 0 h;
  kind = all_get_d _ 1 h;
  length = all_get_d _ 2 h;
  first = all_get_d _ 3 h;
  sectors = all_get_d _ 4 h;
  count = all_get_d _ 5 h;
  flags = all_get_d _ 6 h;
}

pub entry_whole : (e : Entry) → EntryFits e → entry_fits e ≡ true
unfolding entry_fits all
entry_whole e f = rw (f.name, f.kind, f.length, f.first, f.sectors, f.count, f.flags)

restamped-fits : (e : Entry) (count flags : ℕ) → entry_fits e ≡ true → count < 256 ^ 4 → flags < 256 ^ 2 → entry_fits (restamped e count flags) ≡ true
restamped-fits e count flags h c f =
    let p : EntryFits e = entry-parts e h in
    entry_whole (restamped e count flags) (record {
      name = p.name;
      kind = p.kind;
      length = p.length;
      first = p.first;
      sectors = p.sectors;
      count = below 4 count c;
      flags = below 2 flags f;
    })

idle-fits : file_fits idle ≡ true
unfolding file_fits all fits
idle-fits = refl

-- ---- a state

file-from : (f : OpenFile) → fits 8 f.entry ≡ true → fits 4 f.position ≡ true → PlaceFits f.here → PlaceFits f.end → file_fits f ≡ true
unfolding file_fits all
file-from f e p h d = rw (e, p, h.0, h.1, d.0, d.1)

file-here : (f : OpenFile) → file_fits f ≡ true → PlaceFits f.here
unfolding file_fits
file-here f h = (all_get_d _ 2 h, all_get_d _ 3 h)

file-end : (f : OpenFile) → file_fits f ≡ true → PlaceFits f.end
unfolding file_fits
file-end f h = (all_get_d _ 4 h, all_get_d _ 5 h)

-- the places of a file that is not compressed
module _ (c : Scene) (k : is_kind compressed c.entry ≡ false) (h : PlaceFits c.file.here) (e : PlaceFits c.file.end) where
  read_same : PlaceFits (behind_got (record_here c))
  unfolding record_here behind_got
  read_same = subst PlaceFits (ap behind_got (sym (not_chosen (is_kind compressed c.entry) _ _ k))) h

  written_same : PlaceFits (behind_written c)
  unfolding behind_written
  written_same = subst PlaceFits (sym (not_chosen (is_kind compressed c.entry) _ _ k)) h

  end-origin : PlaceFits (end_place c)
  unfolding end_place
  end-origin = subst PlaceFits (sym (not_chosen (is_kind compressed c.entry) _ _ k)) origin-fits

  places_same : (a : Answer) (q : Request) → PlaceFits (file_next a q c).here × PlaceFits (file_next a q c).end
  unfolding file_next file_done file_met
  places_same Done Open = (origin-fits, end-origin)
  places_same Done Read = (read_same, e)
  places_same Done Write = (written_same, written_same)
  places_same Done (GranuleRead g) = (h, e)
  places_same Done (GranuleWrite g) = (h, e)
  places_same Done (GranuleLook g) = (h, e)
  places_same Done (Position WriteMark) = (h, h)
  places_same Done (Position RewindOnline) = (origin-fits, e)
  places_same Done (Position RewindOffline) = (origin-fits, origin-fits)
  places_same Done (Position RecordForward) = (read_same, e)
  places_same Done (Position RecordBack) = (h, e)
  places_same Done (Position FileForward) = (e, e)
  places_same Done (Position FileBack) = (h, e)
  places_same (Met EndOfFile) q = (h, e)
  places_same (Met BeginningOfTape) q = (origin-fits, e)
  places_same (Refused x) q = (h, e)

-- ---- a session

pub are-every : {A : Type 0} (n : ℕ) (p : A → Bool) (xs : List A) → are_all n p xs ≡ true → every p xs ≡ true
unfolding are_all
are-every n p xs h = and_right (eqb (length xs) n) (every p xs) h

pub are-many : {A : Type 0} (n : ℕ) (p : A → Bool) (xs : List A) → are_all n p xs ≡ true → length xs ≡ n
unfolding are_all
are-many n p xs h = eqb-true (length xs) n (and_left (eqb (length xs) n) (every p xs) h)

module _ (s : Session) (h : session_fits s ≡ true) where
  pub table-are : are_all entries entry_fits s.table ≡ true
  unfolding session_fits
  table-are = and_left (are_all entries entry_fits s.table) (are_all most_open file_fits s.files) h

  pub files-are : are_all most_open file_fits s.files ≡ true
  unfolding session_fits
  files-are = and_right (are_all entries entry_fits s.table) (are_all most_open file_fits s.files) h

  pub table-every : every entry_fits s.table ≡ true
  table-every = are-every entries entry_fits s.table table-are

  pub table-many : length s.table ≡ entries
  table-many = are-many entries entry_fits s.table table-are

  pub files-every : every file_fits s.files ≡ true
  files-every = are-every most_open file_fits s.files files-are

  pub files-four : length s.files ≡ most_open
  files-four = are-many most_open file_fits s.files files-are

pub set-are : {A : Type 0} (n : ℕ) (p : A → Bool) (xs : List A) (i : ℕ) (x : A) → length xs ≡ n → every p xs ≡ true → p x ≡ true → are_all n p (set xs i x) ≡ true
unfolding are_all
set-are n p xs i x l h e = and_both _ _ (eq-eqb (length (set xs i x)) n (length-set xs i x ∙ l)) (every_set p xs i x h e)

pub entry-at-fits : (t : List Entry) (i : ℕ) → every entry_fits t ≡ true → entry_fits (entry_at t i) ≡ true
entry-at-fits t i h = every_any entry_fits t i free_entry h free-fits

pub file-of-fits : (fs : List OpenFile) (i : ℕ) → every file_fits fs ≡ true → file_fits (file_of fs i) ≡ true
unfolding file_of
file-of-fits fs i h = every_any file_fits fs (first_with (is_of i) fs) idle h idle-fits

-- what is found of entry i, and answered with 0, 1 or 2
module _ (image : List ℕ) (s : Session) (ok : legal image s ≡ true) (fit : session_fits s ≡ true)
    (i : ℕ) (c : Scene) (its : Of s i c) (used : is_free c.entry ≡ false) (buffer : ℕ) (q : Request) (a : Answer)
    (t : Answered q (open_files s.files) buffer c a) where
  then-lawful : Lawful (entry_next a q c) (file_next a q c)
  then-lawful = lawful_then image s ok (table-many s fit) (files-four s fit) i c its used buffer q a t

  entry-now : entry_fits c.entry ≡ true
  entry-now = rw its.entry (entry-at-fits s.table i (table-every s fit))

  file-now : file_fits c.file ≡ true
  file-now = rw its.file (file-of-fits s.files i (files-every s fit))

  pub entry-then : entry_fits (entry_next a q c) ≡ true
  entry-then =
      rw (next-restamped q c a)
      (restamped-fits c.entry (entry_next a q c).count (entry_next a q c).flags entry-now (omega (arith, then-lawful.words)) (omega (arith, then-lawful.flags)))

  places_then : PlaceFits (file_next a q c).here × PlaceFits (file_next a q c).end
  places_then = either (is_kind compressed c.entry)
      (λ (k : is_kind compressed c.entry ≡ true).
      let p = then-lawful.places (kind-next compressed q c a ∙ k) in
      (good-fits (entry_next a q c) (file_next a q c).here then-lawful.few p.0, good-fits (entry_next a q c) (file_next a q c).end then-lawful.few p.1))
      (λ (k : is_kind compressed c.entry ≡ false). places_same c k (file-here c.file file-now) (file-end c.file file-now) a q)

  pub file-then-fits : file_fits (file_next a q c) ≡ true
  file-then-fits = go (goes image s ok (table-many s fit) (files-four s fit) i c its used buffer q a t)
    where
      small : i < entries
      small = in-entries image s ok (table-many s fit) (files-four s fit) i c its used buffer q a t

      go : Goes q i (file_next a q c) → file_fits (file_next a q c) ≡ true
      go (on u e) =
          file-from (file_next a q c) (rw e (below 8 i (omega (arith, small)))) (below 4 (file_next a q c).position (omega (arith, then-lawful.standing, then-lawful.words)))
          places_then.0 places_then.1
      go (off z e) = rw e idle-fits

  pub session-then : session_fits (session_next a q c s i) ≡ true
  unfolding session_fits
  session-then =
      and_both _ _ (set-are entries entry_fits s.table i (entry_next a q c) (table-many s fit) (table-every s fit) entry-then)
      (set-are most_open file_fits s.files (slot_of s.files i) (file_next a q c) (files-four s fit) (files-every s fit) file-then-fits)

-- ---- a request in the plain engine

legal-fits : (image : List ℕ) (s : Session) → session_fits s ≡ true → legal image s ≡ true
    → (i : ℕ) (q : Request) (given buffer : List ℕ) → session_fits (plain_step image s i q given buffer).session ≡ true
unfolding plain_step plain_answer plain_scene plain_after entry_next file_next facts_of
legal-fits image s fit ok i q given buffer = go (plain_answer image s i q given (length buffer)) (rw ok)
  where
    its : Of s i (plain_scene image s i given)
    its = record { number = refl; entry = refl; file = refl }

    go : (a : Answer) → judge q (facts_of true (open_files s.files) (length buffer) q (plain_scene image s i given)) ≡ a
        → session_fits (plain_after a image s q (plain_scene image s i given) buffer).session ≡ true
    go Done e =
        let t : Allows q (facts_of true (open_files s.files) (length buffer) q (plain_scene image s i given)) = done-allows q _ e in
        session-then image s ok fit i (plain_scene image s i given) its (done-real q _ t).used (length buffer) q Done (done t)
    go (Met x) e =
        let t : Meets (facts_of true (open_files s.files) (length buffer) q (plain_scene image s i given)) q x = met-meets q _ x e in
        rw (set-get_or s.table i free_entry) at (session-then image s ok fit i (plain_scene image s i given) its (met-live _ q x t).used (length buffer) q (Met x) (met x t))
    go (Refused x) e = fit

pub plain_fits : (image : List ℕ) (s : Session) → session_fits s ≡ true → (i : ℕ) (q : Request) (given buffer : List ℕ)
    → session_fits (plain_step image s i q given buffer).session ≡ true
plain_fits image s fit i q given buffer = either (legal image s)
    (λ ok. legal-fits image s fit ok i q given buffer)
    (λ l. let n = nothing-changed plain_engine plain-orderly image s i q given buffer (unheld-legal image s ∙ l) in rw n.1 fit)
