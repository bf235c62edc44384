-- A file of kind 4 is its row of granules: granule g is the R bytes at its place, and what a write of it changes are its own bytes or sectors, so it changes no
-- other granule.
use mathlib.Core.Path.{◌≡◌, refl, sym, ap, ◌∙◌, subst, subst₂}
use mathlib.Core.Logic.{◌≢◌}
use mathlib.Core.Bool.{true, false, false≢true}
use mathlib.Core.List.{List, [], ◌∷◌, ◌++◌}
use Prim.Native.Nat.{ℕ, zero, suc, ◌≤◌, ◌<◌}
use native.Mathlib.Omega.{arith}
use lib.ListN.{length, get_or, set}
use borrow.Author.Tests.{eqb-true, ne_eqb}
use Rattle.geometry.specs.Bytes.{part, padded}
use Rattle.geometry.specs.Sizes.{blocked, compressed, random}
use Rattle.geometry.specs.Places.{capacity, place_of, byte_of}
use Rattle.geometry.proofs.Tests.{either}
use Rattle.directory.specs.Entries.{is_free, is_kind}
use Rattle.requests.proofs.Done.{Tells, Meets, reads_mark, skips_mark, back_over, back_at_start, file_back_to_start, Running, judge-tells}
use Rattle.steps.specs.Next.{Scene, facts_of, decoding, code_length, fixed_at, into_buffer, file_done, entry_done}
use Rattle.steps.specs.Effects.{effects, store_effect}
use Rattle.steps.proofs.Lawful.{own_do, own_all}
use Rattle.tapes.specs.Tape.{Shape}
use Rattle.tapes.specs.Row.{Row, granules_in, row_facts, row_done, row_next, granule}
use Rattle.tapes.specs.Model.{row, shape_of, model_facts, model_next, model_into, model_shown, model_granule}
use Rattle.serving.proofs.ByRule.{list_of, get_or-list_of, set-list_of}
use Rattle.steps.specs.Verdict.{entry_next, file_next}
use Rattle.serving.proofs.Solo.{Sound, Serves, Solo, solo_answer, shows, bytes_next}
use Rattle.serving.proofs.Stays.{kind-next, stays-fixed, decodes-nothing}
use Rattle.serving.proofs.Taped.{used-entry}
use Rattle.serving.proofs.Written.{written, own-store, written-here, written-other}
use Rattle.directory.specs.declared.Entry.{Entry}
use Rattle.sessions.specs.declared.OpenFile.{OpenFile}
use Rattle.requests.specs.declared.Order.TheVariants.{WriteMark, RewindOnline, RewindOffline, RecordForward, RecordBack, FileForward, FileBack}
use Rattle.requests.specs.declared.Request.{Request}
use Rattle.requests.specs.declared.Request.TheVariants.{Open, Read, Write, GranuleRead, GranuleWrite, GranuleLook, Position}
use Rattle.requests.specs.declared.Edge.{Edge}
use Rattle.requests.specs.declared.Answer.{Answer}
use Rattle.requests.specs.declared.Answer.TheVariants.{Done, Met, Refused}

-- ---- what is shown

abbrev row_shown : Entry → OpenFile → List ℕ → Row
row_shown e f bytes = record { shape = shape_of e; is_open = f.used; granules = granules_in (shape_of e) bytes (capacity random e.length e.sectors) }

shows-row : (e : Entry) (f : OpenFile) (bytes : List ℕ) → is_free e ≡ false → is_kind random e ≡ true → shows e f bytes ≡ row (row_shown e f bytes)
unfolding shows
shows-row e f bytes u r = rw (u, r, shows)

-- the granules, by their rule
granule_at : Shape → List ℕ → ℕ → List ℕ
granule_at s bytes g = part bytes (byte_of (place_of random s.record_length g)) s.record_length

by-rule : (s : Shape) (bytes : List ℕ) (n : ℕ) → granules_in s bytes n ≡ list_of (granule_at s bytes) n
unfolding granules_in list_of granule_at
by-rule s bytes zero = refl
by-rule s bytes (suc n) = ap (λ (gs : List (List ℕ)). gs ++ (granule_at s bytes n ∷ [])) (by-rule s bytes n)

other-kind : (e : Entry) (k : ℕ) → is_kind random e ≡ true → ¬ (random ≡ k) → is_kind k e ≡ false
other-kind e k r n = ne_eqb e.kind k λ h. n (sym (eqb-true e.kind random r) ∙ h)

module _ (c : Scene) (r : is_kind random c.entry ≡ true) (s : Sound c.entry c.file c.bytes) where
  kind : c.entry.kind ≡ random
  kind = eqb-true c.entry.kind random r

  coded : is_kind compressed c.entry ≡ false
  coded = other-kind c.entry compressed r (λ h. absurd (omega arith))

  unblocked : ¬ (c.entry.kind ≡ blocked)
  unblocked e = absurd (omega (arith, kind))

  -- it stands nowhere: no count, so no position; no mark, so never beyond it
  start : c.file.position ≡ 0
  start = omega (arith, s.lawful.standing, (s.lawful.bare r).0)

  before : c.file.beyond ≡ false
  before = either c.file.beyond
      (λ (b : c.file.beyond ≡ true). absurd (false≢true (sym (s.lawful.bare r).1 ∙ (s.lawful.ahead b).0)))
      (λ (b : c.file.beyond ≡ false). b)

  row-judged : (files buffer : ℕ) (q : Request) → facts_of true files buffer q c ≡ row_facts files c.given buffer (row_shown c.entry c.file c.bytes)
  unfolding facts_of row_facts shape_of code_length
  row-judged files buffer q =
      rw (decodes-nothing c coded (decoding q), coded, code_length, (s.lawful.bare r).1, (s.nowhere coded).0, before, start, (s.lawful.bare r).0)

  -- a sequential request is refused
  no-tape : (files buffer : ℕ) (q : Request) → Running (facts_of true files buffer q c) → ⊥
  unfolding facts_of
  no-tape files buffer q t = false≢true (sym t.sequential ∙ r)

  no_edge : (files buffer : ℕ) (q : Request) (x : Edge) → Meets (facts_of true files buffer q c) q x → ⊥
  no_edge files buffer q x (reads_mark t) = no-tape files buffer Read t.running
  no_edge files buffer q x (skips_mark t) = no-tape files buffer (Position RecordForward) t.running
  no_edge files buffer q x (back_over t) = no-tape files buffer (Position RecordBack) t.running
  no_edge files buffer q x (back_at_start t) = no-tape files buffer (Position RecordBack) t.running
  no_edge files buffer q x (file_back_to_start t) = no-tape files buffer (Position FileBack) t.running

  -- granules are counted by their kind
  many : capacity c.entry.kind c.entry.length c.entry.sectors ≡ capacity random c.entry.length c.entry.sectors
  many = ap (λ (k : ℕ). capacity k c.entry.length c.entry.sectors) kind

  at-kind : (bytes : List ℕ) (g : ℕ)
      → granule_at (shape_of c.entry) bytes g ≡ part bytes (byte_of (place_of c.entry.kind c.entry.length g)) c.entry.length
  unfolding granule_at shape_of
  at-kind bytes g = ap (λ (k : ℕ). part bytes (byte_of (place_of k c.entry.length g)) c.entry.length) (sym kind)

  -- a granule read or looked at
  row-granule : (g : ℕ) → g < capacity c.entry.kind c.entry.length c.entry.sectors → fixed_at c g ≡ granule (row_shown c.entry c.file c.bytes) g
  unfolding fixed_at granule
  row-granule g h =
      let n : ℕ = capacity random c.entry.length c.entry.sectors in
      sym (ap (λ (gs : List (List ℕ)). get_or gs g []) (by-rule (shape_of c.entry) c.bytes n)
      ∙ get_or-list_of (granule_at (shape_of c.entry) c.bytes) n g [] (rw many at h)
      ∙ at-kind c.bytes g)

  -- a granule written
  module _ (g : ℕ) (there : g < capacity c.entry.kind c.entry.length c.entry.sectors) (short : length c.given ≤ c.entry.length) where
    abbrev after : List ℕ
    after = written c.entry.kind c.entry.length c.bytes g c.given

    new : granule_at (shape_of c.entry) after g ≡ padded 0 c.entry.length c.given
    new =
        at-kind after g
        ∙ written-here c.entry.kind c.entry.length c.entry.sectors (omega (arith, s.lawful.long)) (λ e. absurd (unblocked e)) c.bytes s.size g there c.given short

    stay : (j : ℕ) → j ≢ g → granule_at (shape_of c.entry) after j ≡ granule_at (shape_of c.entry) c.bytes j
    stay j d =
        at-kind after j
        ∙ written-other c.entry.kind c.entry.length c.entry.sectors (omega (arith, s.lawful.long)) (λ e. absurd (unblocked e)) c.bytes s.size g there c.given short unblocked j d
        ∙ sym (at-kind c.bytes j)

    row_written : granules_in (shape_of c.entry) (own_do (store_effect c g) c.bytes) (capacity random c.entry.length c.entry.sectors)
        ≡ set (granules_in (shape_of c.entry) c.bytes (capacity random c.entry.length c.entry.sectors)) g (padded 0 c.entry.length c.given)
    row_written =
        let n : ℕ = capacity random c.entry.length c.entry.sectors in
        let e : Shape = shape_of c.entry in
        ap (λ (b : List ℕ). granules_in e b n) (own-store c g (other-kind c.entry blocked r (λ h. absurd (omega arith))))
        ∙ by-rule e after n
        ∙ set-list_of (granule_at e c.bytes) (granule_at e after) n g (rw many at there) stay
        ∙ rw (new, by-rule e c.bytes n)

  row_next_lem : (files buffer : ℕ) (q : Request) (a : Answer) → Tells q (facts_of true files buffer q c) a
      → row_shown (entry_next a q c) (file_next a q c) (bytes_next a q c) ≡ row_next q a c.given (row_shown c.entry c.file c.bytes)
  unfolding facts_of entry_next file_next bytes_next entry_done file_done effects own_all own_do row_next row_done shape_of
  row_next_lem files buffer Open Done t = refl
  row_next_lem files buffer Read Done t = absurd (no-tape files buffer Read t.advances.running)
  row_next_lem files buffer Write Done t = absurd (no-tape files buffer Write t.marks.running)
  row_next_lem files buffer (GranuleRead g) Done t = refl
  row_next_lem files buffer (GranuleWrite g) Done t = rw (row_written g t.finds.there t.short, t.finds.live.opened)
  row_next_lem files buffer (GranuleLook g) Done t = refl
  row_next_lem files buffer (Position WriteMark) Done t = absurd (no-tape files buffer (Position WriteMark) t.running)
  row_next_lem files buffer (Position RewindOnline) Done t = absurd (no-tape files buffer (Position RewindOnline) t)
  row_next_lem files buffer (Position RewindOffline) Done t = refl
  row_next_lem files buffer (Position RecordForward) Done t = absurd (no-tape files buffer (Position RecordForward) t.running)
  row_next_lem files buffer (Position RecordBack) Done t = absurd (no-tape files buffer (Position RecordBack) t.running)
  row_next_lem files buffer (Position FileForward) Done t = absurd (no-tape files buffer (Position FileForward) t.running)
  row_next_lem files buffer (Position FileBack) Done t = absurd (no-tape files buffer (Position FileBack) t.running)
  row_next_lem files buffer q (Met x) t = absurd (no_edge files buffer q x t)
  row_next_lem files buffer q (Refused x) t = refl

  row_moved : (files buffer : ℕ) (q : Request) → Tells q (facts_of true files buffer q c) Done → into_buffer q c ≡ model_into q (row (row_shown c.entry c.file c.bytes))
  unfolding facts_of into_buffer model_into model_granule
  row_moved files buffer Open t = refl
  row_moved files buffer Read t = absurd (no-tape files buffer Read t.advances.running)
  row_moved files buffer Write t = refl
  row_moved files buffer (GranuleRead g) t = row-granule g t.finds.there
  row_moved files buffer (GranuleWrite g) t = refl
  row_moved files buffer (GranuleLook g) t = refl
  row_moved files buffer (Position o) t = refl

  row_seen : (files buffer g : ℕ) → Tells (GranuleLook g) (facts_of true files buffer (GranuleLook g) c) Done
      → fixed_at c g ≡ model_shown (GranuleLook g) (row (row_shown c.entry c.file c.bytes))
  unfolding facts_of model_shown model_granule
  row_seen files buffer g t = row-granule g t.there

  row-serves : (files buffer : ℕ) (q : Request) (a : Answer) → Tells q (facts_of true files buffer q c) a
      → Serves files buffer q c (shows c.entry c.file c.bytes) a
  unfolding model_facts model_next
  row-serves files buffer q a t =
      let n : Sound (entry_next a q c) (file_next a q c) (bytes_next a q c) = stays-fixed files buffer q c coded s a t in
      rw (shows-row c.entry c.file c.bytes (used-entry _ _ s.lawful) r) (record {
        judged = row-judged files buffer q;
        next = shows-row _ _ _ (used-entry _ _ n.lawful) (kind-next random q c a ∙ r) ∙ ap row (row_next_lem files buffer q a t);
        stays = n;
        moved = λ e. row_moved files buffer q (subst (Tells q (facts_of true files buffer q c)) e t);
        seen = λ g k e.
            row_seen files buffer g (subst₂ (λ (x : Request) (y : Answer). Tells x (facts_of true files buffer x c) y) k e t)
            ∙ ap (λ (x : Request). model_shown x (row (row_shown c.entry c.file c.bytes))) (sym k);
      })

pub granules : Solo (λ e. is_kind random e ≡ true)
granules files buffer q c r s = row-serves c r s files buffer q (solo_answer files buffer q c) (judge-tells q (facts_of true files buffer q c))
