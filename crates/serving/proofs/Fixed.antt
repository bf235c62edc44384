-- A file of kind 1 or 2 is its tape: a record is the R bytes at its place, so a write of record p makes the tape its first p records and the new one.
use mathlib.Core.Path.{◌≡◌, refl, sym, ap, ◌∙◌}
use mathlib.Core.Bool.{true, false}
use mathlib.Core.List.{List, [], ◌∷◌, ◌++◌}
use Prim.Native.Nat.{ℕ, zero, suc, ◌+◌, ◌≤◌, ◌<◌}
use native.Mathlib.Omega.{arith}
use native.Mathlib.Numerals.{add-one}
use lib.ListN.{length, take, get_or}
use borrow.Author.Tests.{eq-eqb}
use Rattle.geometry.specs.Sizes.{sector, blocked, compressed, random}
use Rattle.geometry.specs.Places.{capacity, origin}
use Rattle.directory.specs.Entries.{is_kind}
use Rattle.directory.specs.Rules.{longest}
use Rattle.packing.specs.Reading.{Recorded, behind, behind_from}
use Rattle.requests.proofs.Done.{Tells, Writes, judge-tells, room-fixed}
use Rattle.steps.specs.Next.{Scene, facts_of, decoding, record_here, bytes_got, fixed_at}
use Rattle.steps.specs.Effects.{write_effects}
use Rattle.steps.proofs.Lawful.{own_all}
use Rattle.tapes.specs.Tape.{Shape, fixed_record, fixed_records, records_in, new_record, pad_byte, tape_record}
use Rattle.tapes.specs.Model.{shape_of}
use Rattle.serving.proofs.ByRule.{list_of, length-list_of, take-list_of, same-list_of, get_or-list_of}
use Rattle.serving.proofs.Solo.{Sound, Serves, Solo, solo_answer, shows}
use Rattle.serving.proofs.Stays.{stays-fixed, decodes-nothing}
use Rattle.serving.proofs.Taped.{Taped, tape-serves, records_shown, tape_shown}
use Rattle.serving.proofs.Written.{written, own-write, written-here, written-before}
use Rattle.directory.specs.declared.Entry.{Entry}
use Rattle.requests.specs.declared.Request.{Request}
use Rattle.requests.specs.declared.Request.TheVariants.{Write}
use Rattle.requests.specs.declared.Answer.{Answer}

-- ---- the records, by their rule

by-rule : (s : Shape) (bytes : List ℕ) (n : ℕ) → fixed_records s bytes n ≡ list_of (fixed_record s bytes) n
unfolding fixed_records list_of
by-rule s bytes zero = refl
by-rule s bytes (suc n) = ap (λ (rs : List Recorded). rs ++ (fixed_record s bytes n ∷ [])) (by-rule s bytes n)

pub records-fixed : (e : Entry) (bytes : List ℕ) (n : ℕ) → is_kind compressed e ≡ false → records_in (shape_of e) bytes n ≡ list_of (fixed_record (shape_of e) bytes) n
unfolding records_in shape_of
records-fixed e bytes n k = rw (k, records_in) (by-rule (shape_of e) bytes n)

-- no record of them has a place behind it
abbrev Bare : List Recorded → Type 0
Bare [] = Unit {0}
Bare (r ∷ rs) = (r.behind ≡ origin) × Bare rs

bare-then : (rs : List Recorded) (r : Recorded) → Bare rs → r.behind ≡ origin → Bare (rs ++ (r ∷ []))
bare-then [] r b e = (e, tt)
bare-then (x ∷ rs) r b e = (b.0, bare-then rs r b.1 e)

bare : (s : Shape) (bytes : List ℕ) (n : ℕ) → Bare (list_of (fixed_record s bytes) n)
unfolding list_of fixed_record
bare s bytes zero = tt
bare s bytes (suc n) = bare-then (list_of (fixed_record s bytes) n) (fixed_record s bytes n) (bare s bytes n) refl

behind-bare : (rs : List Recorded) (k : ℕ) → Bare rs → behind_from origin rs k ≡ origin
unfolding behind_from
behind-bare rs zero b = refl
behind-bare [] (suc k) b = refl
behind-bare (r ∷ rs) (suc k) b = rw b.0 (behind-bare rs k b.1)

nowhere : (s : Shape) (bytes : List ℕ) (n k : ℕ) → behind (list_of (fixed_record s bytes) n) k ≡ origin
unfolding behind
nowhere s bytes n k = behind-bare (list_of (fixed_record s bytes) n) k (bare s bytes n)

pub blocked-small : (e : Entry) → e.length ≤ longest e.kind → e.kind ≡ blocked → e.length ≤ sector
unfolding longest
blocked-small e h b = rw (eq-eqb e.kind blocked b, longest) at h

module _ (c : Scene) (k : is_kind compressed c.entry ≡ false) (r : is_kind random c.entry ≡ false) (s : Sound c.entry c.file c.bytes) where
  small : c.entry.kind ≡ blocked → c.entry.length ≤ sector
  small = blocked-small c.entry s.lawful.short

  -- the records before the position
  first : take c.file.position (records_shown c.entry c.bytes) ≡ list_of (fixed_record (shape_of c.entry) c.bytes) c.file.position
  first =
      ap (take c.file.position) (records-fixed c.entry c.bytes c.entry.count k)
      ∙ take-list_of (fixed_record (shape_of c.entry) c.bytes) c.file.position c.entry.count s.lawful.standing

  -- the record at the position
  reads : c.file.position < c.entry.count → bytes_got (record_here c) ≡ tape_record (tape_shown c.entry c.file c.bytes)
  unfolding bytes_got record_here tape_record fixed_at fixed_record shape_of
  reads h =
      let f : ℕ → Recorded = fixed_record (shape_of c.entry) c.bytes in
      let d : Recorded = record { bytes = []; behind = origin } in
      rw (k, record_here)
      (sym (ap (λ (rs : List Recorded). (get_or rs c.file.position d).bytes) (records-fixed c.entry c.bytes c.entry.count k)
      ∙ ap (λ (x : Recorded). x.bytes) (get_or-list_of f c.entry.count c.file.position d h)))

  -- a write: record p is the one given, those before it stay
  module _ (below : c.file.position < capacity c.entry.kind c.entry.length c.entry.sectors) (short : length c.given ≤ c.entry.length) where
    abbrev after : List ℕ
    after = written c.entry.kind c.entry.length c.bytes c.file.position c.given

    abbrev as-record : List ℕ → Recorded
    as-record xs = record { bytes = xs; behind = origin }

    stay : (j : ℕ) → j < c.file.position → fixed_record (shape_of c.entry) after j ≡ fixed_record (shape_of c.entry) c.bytes j
    unfolding fixed_record shape_of
    stay j h = ap as-record (written-before c.entry.kind c.entry.length c.entry.sectors (omega (arith, s.lawful.long)) small c.bytes s.size c.file.position below c.given short j h)

    new : fixed_record (shape_of c.entry) after c.file.position ≡ new_record c.given (tape_shown c.entry c.file c.bytes)
    unfolding fixed_record shape_of new_record pad_byte
    new =
        rw (k, new_record, pad_byte)
        (ap as-record (written-here c.entry.kind c.entry.length c.entry.sectors (omega (arith, s.lawful.long)) small c.bytes s.size c.file.position below c.given short))

  writes : (files buffer : ℕ) → Writes (facts_of true files buffer Write c)
      → records_in (shape_of c.entry) (own_all (write_effects c) c.bytes) (c.file.position + 1)
      ≡ take c.file.position (records_shown c.entry c.bytes) ++ (new_record c.given (tape_shown c.entry c.file c.bytes) ∷ [])
  unfolding facts_of list_of
  writes files buffer t =
      let e : Entry = c.entry in
      let p : ℕ = c.file.position in
      let below : p < capacity e.kind e.length e.sectors = room-fixed (facts_of true files buffer Write c) t.room k in
      ap (λ (b : List ℕ). records_in (shape_of e) b (p + 1)) (own-write c k)
      ∙ records-fixed e (after below t.short) (p + 1) k
      ∙ ap (list_of (fixed_record (shape_of e) (after below t.short))) (add-one p)
      ∙ rw (
        first,
        same-list_of (fixed_record (shape_of e) (after below t.short)) (fixed_record (shape_of e) c.bytes) p (stay below t.short),
        new below t.short,
      )

  taped : Taped c
  taped = record {
    size = ap length (records-fixed c.entry c.bytes c.entry.count k) ∙ length-list_of (fixed_record (shape_of c.entry) c.bytes) c.entry.count;
    here = (s.nowhere k).0
        ∙ sym (ap (λ (rs : List Recorded). behind rs c.file.position) (records-fixed c.entry c.bytes c.entry.count k)
        ∙ nowhere (shape_of c.entry) c.bytes c.entry.count c.file.position);
    sound = λ q. decodes-nothing c k (decoding q);
    reads = reads;
    cut = records-fixed c.entry c.bytes c.file.position k ∙ sym first;
    writes = writes;
  }

-- ---- the theorem

fixed-serves : (files buffer : ℕ) (q : Request) (c : Scene) → is_kind compressed c.entry ≡ false → is_kind random c.entry ≡ false
    → Sound c.entry c.file c.bytes → (a : Answer) → Tells q (facts_of true files buffer q c) a
    → Serves files buffer q c (shows c.entry c.file c.bytes) a
fixed-serves files buffer q c k r s a t =
    tape-serves files buffer c s.lawful r (taped c k r s) q a t (stays-fixed files buffer q c k s a t)

pub fixed : Solo (λ e. (is_kind compressed e ≡ false) × (is_kind random e ≡ false))
fixed files buffer q c k s = fixed-serves files buffer q c k.0 k.1 s (solo_answer files buffer q c) (judge-tells q (facts_of true files buffer q c))
