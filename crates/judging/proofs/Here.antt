-- The record at the position of an open file: of a compressed one it is read behind the place, of any other it lies in the extent, in which case
-- the held sector counts for a blocked file alone.
use mathlib.Core.Path.{◌≡◌, refl, sym, ap, ◌∙◌}
use mathlib.Core.Bool.{true, false}
use mathlib.Core.List.{List, ◌++◌}
use Prim.Native.Nat.{ℕ, ◌+◌, ◌*◌, ◌≤◌, ◌<◌}
use native.Mathlib.Omega.{arith}
use lib.ListN.{length, take, drop, take-append-drop}
use borrow.Author.Tests.{lt-ltb, ne_eqb, eqb-true}
use Rattle.geometry.specs.Bytes.{lay}
use Rattle.geometry.specs.Sizes.{sector, blocked, compressed, random}
use Rattle.geometry.specs.Places.{capacity}
use Rattle.geometry.proofs.Bytes.{lay-fits}
use Rattle.geometry.proofs.Tests.{either}
use Rattle.directory.specs.Entries.{is_kind}
use Rattle.directory.specs.Rules.{longest}
use Rattle.packing.specs.Reading.{overlaid, Got, got, lost, read_behind, led_to, into}
use Rattle.packing.proofs.One.{Within, told}
use Rattle.requests.proofs.Done.{Allows}
use Rattle.requests.proofs.InTurn.{Then}
use Rattle.steps.specs.Next.{record_here, fixed_at, facts_but}
use Rattle.steps.specs.Verdict.{seen_bytes}
use Rattle.steps.proofs.Lawful.{Lawful}
use Rattle.steps.proofs.Compressed.{good-within, here-read}
use Rattle.judging.specs.Turns.{TurnOf, CarryOf, Ready, Fixed, sight, record_in, blocked_bytes, here_led, laid_first, here_into}
use Rattle.judging.proofs.Turns.{here-there}
use Rattle.directory.specs.declared.Entry.{Entry}
use Rattle.sessions.specs.declared.OpenFile.{OpenFile}
use Rattle.requests.specs.declared.Facts.{Facts}
use Rattle.requests.specs.declared.Request.{Request}
use Rattle.requests.specs.declared.Request.TheVariants.{Open, Read, Write, GranuleRead, GranuleWrite, GranuleLook, Position}
use Rattle.requests.specs.declared.Order.TheVariants.{WriteMark, RewindOnline, RewindOffline, RecordForward, RecordBack, FileForward, FileBack}
use Rattle.std.specs.Prelude.{Ok}

module _ (e : Entry) (f : OpenFile) (bytes over : List ℕ) (held : ℕ) where
  abbrev seen : List ℕ
  seen = seen_bytes e f bytes held over

  -- ---- what is seen of the extent

  seen-packed : f.used ≡ true → is_kind compressed e ≡ true → seen ≡ overlaid bytes held over
  unfolding seen_bytes
  seen-packed u k =
      let n : ¬ (e.kind ≡ blocked) = (let q : e.kind ≡ compressed = eqb-true e.kind compressed k in omega arith) in
      rw (u, ne_eqb e.kind blocked n, k, seen_bytes)

  pub seen-fixed : f.used ≡ true → is_kind compressed e ≡ false → seen ≡ blocked_bytes e bytes held over
  unfolding seen_bytes blocked_bytes
  seen-fixed u k = either (is_kind blocked e)
      (λ (b : is_kind blocked e ≡ true). rw (u, b, seen_bytes, blocked_bytes))
      (λ (b : is_kind blocked e ≡ false). rw (u, b, k, seen_bytes, blocked_bytes))

  pub seen-shut : f.used ≡ false → seen ≡ bytes
  unfolding seen_bytes
  seen-shut u = rw (u, seen_bytes)

  pub seen-random : f.used ≡ true → is_kind random e ≡ true → seen ≡ blocked_bytes e bytes held over
  seen-random u k = seen-fixed u (let q : e.kind ≡ random = eqb-true e.kind random k in ne_eqb e.kind compressed (omega arith))

  -- ---- the record that is read

  abbrev behind_here : Got
  behind_here = read_behind e.length e.sectors (overlaid bytes held over) f.here

  module _ (u : f.used ≡ true) (h : f.position < e.count) where
    packed-is : is_kind compressed e ≡ true → record_here (sight e f seen) ≡ behind_here
    packed-is k = here-read (sight e f seen) k ∙ ap (λ (b : List ℕ). read_behind e.length e.sectors b f.here) (seen-packed u k)

    pub packed-led : is_kind compressed e ≡ true → here_led e f seen ≡ led_to behind_here
    packed-led k = here-there e f seen (lt-ltb _ _ h) ∙ ap led_to (packed-is k)

    fixed-is : is_kind compressed e ≡ false → record_here (sight e f seen) ≡ got (record { bytes = record_in e f.position (blocked_bytes e bytes held over); behind = f.here })
    unfolding record_here fixed_at record_in
    fixed-is k = rw (k, record_here, seen-fixed u k)

    pub fixed-led : is_kind compressed e ≡ false → here_led e f seen ≡ Ok f.here
    unfolding led_to
    fixed-led k = here-there e f seen (lt-ltb _ _ h) ∙ ap led_to (fixed-is k)

    pub fixed-into : (old : List ℕ) → is_kind compressed e ≡ false
        → here_into e f seen old ≡ lay old 0 (record_in e f.position (blocked_bytes e bytes held over))
    unfolding here_into laid_first
    fixed-into old k = rw (lt-ltb _ _ h, here_into, fixed-is k)

    pub packed-into : (old : List ℕ) → is_kind compressed e ≡ true → e.length ≤ length old
        → here_into e f seen old ≡ into behind_here (take e.length old) ++ drop e.length old
    unfolding here_into laid_first into
    packed-into old k n = rw (lt-ltb _ _ h, here_into, packed-is k) (go behind_here refl)
      where
        go : (g : Got) → behind_here ≡ g → laid_first g old ≡ into g (take e.length old) ++ drop e.length old
        go (got r) q =
            let l : length r.bytes ≡ e.length = (told e.length e.sectors (overlaid bytes held over) f.here r q).long in
            let m : 0 + length r.bytes ≡ e.length = omega arith in
            lay-fits old 0 r.bytes (omega arith) ∙ ap (λ (i : ℕ). r.bytes ++ drop i old) m
        go (lost p) q = sym (take-append-drop e.length old)

-- ---- a record of a lawful file that is not compressed

pub fixed_from : (e : Entry) (f : OpenFile) (k n : ℕ) → Lawful e f → n ≡ sector * e.sectors → k < capacity e.kind e.length e.sectors → Fixed e k n
unfolding longest
fixed_from e f k n l w t = record {
  some = omega (arith, l.long);
  short = λ (b : e.kind ≡ blocked).
      let s : e.length ≤ longest e.kind = l.short in
      rw (b, longest) at s;
  there = t;
  few = l.few;
  whole = w;
}

pub fixed-here : (e : Entry) (f : OpenFile) (n : ℕ) → Ready e f n → is_kind compressed e ≡ false → is_kind random e ≡ false → f.position < e.count
    → Fixed e f.position n
fixed-here e f n r k d h = fixed_from e f f.position n r.lawful r.whole (omega (arith, r.lawful.counted k d))

-- ---- what a request may count on, where it was first taken for a bad code, or done

module _ (files buffer code given n : ℕ) (e : Entry) (f : OpenFile) (l : Lawful e f) (w : n ≡ sector * e.sectors) where
  abbrev first : Facts
  first = facts_but true true files e f given code buffer

  pub turn-of : (q : Request) → Then q first → TurnOf q e f n buffer
  turn-of Open t = t.shut
  turn-of Read t = (record { lawful = l; opened = t.advances.running.live.opened; whole = w }, t.advances.running.sequential, t.buffered)
  turn-of Write t = tt
  turn-of (GranuleRead g) t = tt
  turn-of (GranuleWrite g) t = tt
  turn-of (GranuleLook g) t = tt
  turn-of (Position WriteMark) t = absurd t
  turn-of (Position RewindOnline) t = absurd t
  turn-of (Position RewindOffline) t = absurd t
  turn-of (Position RecordForward) t = t.running.live.opened
  turn-of (Position RecordBack) t = absurd t
  turn-of (Position FileForward) t = absurd t
  turn-of (Position FileBack) t = absurd t

  pub carry-of : (q : Request) → Allows q first → CarryOf q code e f n
  carry-of Open a = tt
  carry-of Read a = tt
  carry-of Write a = λ (k : is_kind compressed e ≡ true).
      let p : Within e.sectors f.here = good-within e f.here (l.places k).0 in
      (a.coded k, p.1, omega (arith, p.0, l.few))
  carry-of (GranuleRead g) a = (fixed_from e f g n l w a.finds.there, a.finds.live.opened, a.finds.random)
  carry-of (GranuleWrite g) a = tt
  carry-of (GranuleLook g) a = tt
  carry-of (Position o) a = tt
