-- A sequential file answers as its tape does, whatever its kind, once its records are known: how many there are, which one a read gives,
-- what a write and a write file mark make of them. Position, mark and "beyond" are the same words on both sides.
use mathlib.Core.Path.{◌≡◌, refl, sym, ap, ◌∙◌, subst, subst₂}
use mathlib.Core.Bool.{Bool, true, false, ◌&&◌, false≢true}
use mathlib.Core.List.{List, [], ◌∷◌, ◌++◌}
use Prim.Native.Nat.{ℕ, ◌+◌, ◌<◌}
use native.Mathlib.Omega.{arith}
use lib.Dec.{ltb}
use lib.ListN.{length, take}
use borrow.Author.Tests.{ne_eqb}
use Rattle.geometry.specs.Sizes.{free, random, compressed, blocked, sector}
use Rattle.directory.specs.Entries.{is_free, is_kind, is_marked}
use Rattle.packing.specs.Reading.{Recorded, behind, goes_on}
use Rattle.requests.proofs.Done.{Tells, Writes}
use Rattle.steps.specs.Next.{Scene, facts_of, file_done, file_met, entry_done, counted, bad_in, decoding, code_length, record_here, bytes_got, into_buffer}
use Rattle.steps.specs.Effects.{Effect, effects, read_effects, write_effects}
use Rattle.steps.proofs.Lawful.{Lawful, own_do, own_all}
use Rattle.tapes.specs.Tape.{Tape, records_in, record_code, tape_facts, tape_done, tape_met, tape_next, tape_record, new_record}
use Rattle.tapes.specs.Model.{tape, shape_of, model_facts, model_next, model_into, model_record}
use Rattle.steps.specs.Verdict.{entry_next, file_next}
use Rattle.serving.proofs.Solo.{shows, Sound, Serves, bytes_next}
use Rattle.serving.proofs.Stays.{shape-counted, marked-counted, kind-next}
use Rattle.directory.specs.declared.Entry.{Entry}
use Rattle.sessions.specs.declared.OpenFile.{OpenFile}
use Rattle.requests.specs.declared.Order.TheVariants.{WriteMark, RewindOnline, RewindOffline, RecordForward, RecordBack, FileForward, FileBack}
use Rattle.requests.specs.declared.Request.{Request}
use Rattle.requests.specs.declared.Request.TheVariants.{Open, Read, Write, GranuleRead, GranuleWrite, GranuleLook, Position}
use Rattle.requests.specs.declared.Edge.TheVariants.{EndOfFile, BeginningOfTape}
use Rattle.requests.specs.declared.Answer.{Answer}
use Rattle.requests.specs.declared.Answer.TheVariants.{Done, Met, Refused}

-- ---- what is shown

-- the records that an entry and its extent's bytes show
abbrev pub records_shown : Entry → List ℕ → List Recorded
records_shown e bytes = records_in (shape_of e) bytes e.count

abbrev pub tape_shown : Entry → OpenFile → List ℕ → Tape
tape_shown e f bytes = record {
  shape = shape_of e;
  is_open = f.used;
  records = records_shown e bytes;
  position = f.position;
  marked = is_marked e;
  beyond = f.beyond;
}

pub used-entry : (e : Entry) (f : OpenFile) → Lawful e f → is_free e ≡ false
used-entry e f w = ne_eqb e.kind free λ k. absurd (omega (arith, w.known.0))

pub shows-tape : (e : Entry) (f : OpenFile) (bytes : List ℕ) → is_free e ≡ false → is_kind random e ≡ false → shows e f bytes ≡ tape (tape_shown e f bytes)
unfolding shows
shows-tape e f bytes u r = rw (u, r, shows)

-- ---- what the records of a sequential kind have to be

pub record Taped (c : Scene) : Type 0 where
  pub size : length (records_shown c.entry c.bytes) ≡ c.entry.count
  pub here : c.file.here ≡ behind (records_shown c.entry c.bytes) c.file.position
  pub sound : (q : Request) → bad_in (decoding q) c ≡ false
  pub reads : c.file.position < c.entry.count → bytes_got (record_here c) ≡ tape_record (tape_shown c.entry c.file c.bytes)
  pub cut : records_in (shape_of c.entry) c.bytes c.file.position ≡ take c.file.position (records_shown c.entry c.bytes)
  pub writes : (files buffer : ℕ) → Writes (facts_of true files buffer Write c)
      → records_in (shape_of c.entry) (own_all (write_effects c) c.bytes) (c.file.position + 1)
      ≡ take c.file.position (records_shown c.entry c.bytes) ++ (new_record c.given (tape_shown c.entry c.file c.bytes) ∷ [])

-- of both branches, so of the choice
pub of-both : {A : Type 0} (P : A → Type 0) (b : Bool) {x y : A} → P x → P y → P (elim b [ true ↦ x | false ↦ y ])
of-both P true p q = p
of-both P false p q = q

-- a read changes no byte
pub own_read : (c : Scene) (bytes : List ℕ) → own_all (read_effects c) bytes ≡ bytes
unfolding read_effects own_all own_do
own_read c bytes = of-both Still (is_kind blocked c.entry) refl (of-both Still (is_kind compressed c.entry) (of-both Still (goes_on c.bytes c.file.here && ltb c.file.here.byte sector) refl refl) refl)
  where
    Still : List Effect → Type 0
    Still xs = own_all xs bytes ≡ bytes

module _ (files buffer : ℕ) (c : Scene) (w : Lawful c.entry c.file) (r : is_kind random c.entry ≡ false) (t : Taped c) where
  tape-judged : (q : Request) → facts_of true files buffer q c ≡ tape_facts files c.given buffer (tape_shown c.entry c.file c.bytes)
  unfolding facts_of tape_facts code_length record_code shape_of
  tape-judged q = rw (t.sound q, ← t.here, t.size)

  tape-next : (q : Request) (a : Answer) → Tells q (facts_of true files buffer q c) a
      → tape_shown (entry_next a q c) (file_next a q c) (bytes_next a q c) ≡ tape_next q a c.given (tape_shown c.entry c.file c.bytes)
  unfolding facts_of entry_next file_next bytes_next entry_done counted file_done file_met effects own_all own_do tape_next tape_done tape_met
  tape-next Open Done h = refl
  tape-next Read Done h = rw (own_read c c.bytes)
  tape-next Write Done h =
      rw (shape-counted c.entry (c.file.position + 1) 0 (omega arith), marked-counted c.entry (c.file.position + 1) 0 (omega arith), t.writes files buffer h)
  tape-next (GranuleRead g) Done h = refl
  tape-next (GranuleWrite g) Done h = absurd (false≢true (sym r ∙ h.finds.random))
  tape-next (GranuleLook g) Done h = refl
  tape-next (Position WriteMark) Done h =
      rw (shape-counted c.entry c.file.position 1 (omega arith), marked-counted c.entry c.file.position 1 (omega arith), t.cut)
  tape-next (Position RewindOnline) Done h = refl
  tape-next (Position RewindOffline) Done h = refl
  tape-next (Position RecordForward) Done h = refl
  tape-next (Position RecordBack) Done h = refl
  tape-next (Position FileForward) Done h = rw t.size
  tape-next (Position FileBack) Done h = refl
  tape-next q (Met EndOfFile) h = refl
  tape-next q (Met BeginningOfTape) h = refl
  tape-next q (Refused x) h = refl

  tape-moved : (q : Request) → Tells q (facts_of true files buffer q c) Done → into_buffer q c ≡ model_into q (tape (tape_shown c.entry c.file c.bytes))
  unfolding facts_of into_buffer model_into model_record
  tape-moved Open h = refl
  tape-moved Read h = t.reads h.advances.ahead
  tape-moved Write h = refl
  tape-moved (GranuleRead g) h = absurd (false≢true (sym r ∙ h.finds.random))
  tape-moved (GranuleWrite g) h = refl
  tape-moved (GranuleLook g) h = refl
  tape-moved (Position o) h = refl

  tape-seen : (g : ℕ) → Tells (GranuleLook g) (facts_of true files buffer (GranuleLook g) c) Done → ⊥
  unfolding facts_of
  tape-seen g h = false≢true (sym r ∙ h.random)

  pub tape-serves : (q : Request) (a : Answer) → Tells q (facts_of true files buffer q c) a
      → Sound (entry_next a q c) (file_next a q c) (bytes_next a q c) → Serves files buffer q c (shows c.entry c.file c.bytes) a
  unfolding model_facts model_next
  tape-serves q a h s =
      let u : is_free c.entry ≡ false = used-entry _ _ w in
      let n : is_free (entry_next a q c) ≡ false = used-entry _ _ s.lawful in
      rw (shows-tape c.entry c.file c.bytes u r) (record {
        judged = tape-judged q;
        next = shows-tape _ _ _ n (kind-next random q c a ∙ r) ∙ ap tape (tape-next q a h);
        stays = s;
        moved = λ e. tape-moved q (subst (Tells q (facts_of true files buffer q c)) e h);
        seen = λ g k e. absurd (tape-seen g (subst₂ (λ (x : Request) (y : Answer). Tells x (facts_of true files buffer x c) y) k e h));
      })
