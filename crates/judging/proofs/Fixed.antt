-- A record or granule of a file that is not compressed lies in its extent; a blocked one in one sector, so that it is the held sector's or is apart from it.
use mathlib.Core.Path.{◌≡◌, refl, sym, ap, ◌∙◌}
use mathlib.Core.Bool.{Bool, true, false, ◌&&◌}
use mathlib.Core.List.{List}
use Prim.Native.Nat.{ℕ, ◌+◌, ◌-◌, ◌*◌, ◌≤◌, ◌<◌}
use native.Mathlib.Omega.{arith}
use lib.Dec.{eqb}
use lib.ListN.{length, take, drop}
use borrow.Author.Tests.{eqb-true, eqb-false}
use Rattle.geometry.specs.Bytes.{part, lay}
use Rattle.geometry.specs.Sizes.{sector, blocked}
use Rattle.geometry.specs.Places.{place_of, byte_of}
use Rattle.geometry.proofs.Bytes.{Apart, length_part, part-part, part-lay-apart, part-lay-inside}
use Rattle.geometry.proofs.Places.{blocked-shares, byte-shared, record-inside, sector-below}
use Rattle.geometry.proofs.Tests.{either, and_left, and_right}
use Rattle.directory.specs.Entries.{is_kind}
use Rattle.packing.specs.Reading.{overlaid}
use Rattle.judging.specs.Turns.{Fixed, record_in, blocked_bytes}
use Rattle.geometry.specs.declared.Place.{Place}
use Rattle.directory.specs.declared.Entry.{Entry}

-- bytes with a held sector, and without
overlaid-with : (bytes over : List ℕ) (held : ℕ) → eqb (length over) sector ≡ true → overlaid bytes held over ≡ lay bytes (sector * held) over
unfolding overlaid
overlaid-with bytes over held h = rw (h, overlaid)

overlaid-none : (bytes over : List ℕ) (held : ℕ) → eqb (length over) sector ≡ false → overlaid bytes held over ≡ bytes
unfolding overlaid
overlaid-none bytes over held h = rw (h, overlaid)

pub ends-in : (e : Entry) (k n : ℕ) → Fixed e k n → byte_of (place_of e.kind e.length k) + e.length ≤ n
ends-in e k n x = rw x.whole (record-inside e.kind e.length x.some x.short k e.sectors x.there)

module _ (e : Entry) (k : ℕ) (bytes over : List ℕ) (held : ℕ) (x : Fixed e k (length bytes)) where
  abbrev p : Place
  p = place_of e.kind e.length k

  -- the record's sector is the held one
  abbrev is_held : Bool
  is_held = (is_kind blocked e && eqb (length over) sector) && eqb held p.sector

  -- as a program tests it
  pub tested : (s : ℕ) (r t : Bool) → s ≡ p.sector → r ≡ (is_kind blocked e && eqb (length over) sector) && eqb held s → r ≡ t → is_held ≡ t
  tested s r t h q k = rw (← h) (sym q ∙ k)

  pub ends : byte_of p + e.length ≤ length bytes
  ends = ends-in e k (length bytes) x

  below : p.sector < e.sectors
  below = sector-below e.kind e.length x.some x.short k e.sectors x.there

  ends-sector : is_kind blocked e ≡ true → p.byte + e.length ≤ sector
  ends-sector b = byte-shared e.kind e.length x.some x.short (blocked-shares e.kind e.length (eqb-true e.kind blocked b)) k

  blocked-is : is_kind blocked e ≡ true → blocked_bytes e bytes held over ≡ overlaid bytes held over
  unfolding blocked_bytes
  blocked-is b = rw (b, blocked_bytes)

  blocked-none : is_kind blocked e ≡ false → blocked_bytes e bytes held over ≡ bytes
  unfolding blocked_bytes
  blocked-none b = rw (b, blocked_bytes)

  module _ (h : is_held ≡ true) where
    b : is_kind blocked e ≡ true
    b = and_left _ _ (and_left _ _ h)

    l : eqb (length over) sector ≡ true
    l = and_right (is_kind blocked e) _ (and_left _ _ h)

    s : held ≡ p.sector
    s = eqb-true _ _ (and_right (is_kind blocked e && eqb (length over) sector) _ h)

    pub held-ends : p.byte + e.length ≤ length over
    held-ends = omega (arith, ends-sector b, eqb-true (length over) sector l)

    pub from-held : part over p.byte e.length ≡ record_in e k (blocked_bytes e bytes held over)
    unfolding record_in
    from-held =
        let n : length over ≡ sector = eqb-true _ _ l in
        let f : sector * held + length over ≤ length bytes = omega (arith, s, below, x.whole) in
        rw (blocked-is b, overlaid-with bytes over held l, ← s) (sym (part-lay-inside bytes (sector * held) over f p.byte e.length held-ends))

  -- else its bytes are the extent's own
  from_bytes : is_held ≡ false → part bytes (byte_of p) e.length ≡ record_in e k (blocked_bytes e bytes held over)
  unfolding record_in
  from_bytes h = either (is_kind blocked e) (λ (b : is_kind blocked e ≡ true). either (eqb (length over) sector)
      (λ (l : eqb (length over) sector ≡ true).
      let n : length over ≡ sector = eqb-true _ _ l in
      let d : ¬ (held ≡ p.sector) = eqb-false held p.sector (rw (b, l) at h) in
      let a : Apart (byte_of p) e.length (sector * held) (length over) = omega (arith, ends-sector b) in
      rw (blocked-is b, overlaid-with bytes over held l) (sym (part-lay-apart bytes (sector * held) over (byte_of p) e.length a)))
      (λ (l : eqb (length over) sector ≡ false). rw (blocked-is b, overlaid-none bytes over held l)))
      (λ (b : is_kind blocked e ≡ false). rw (blocked-none b))

  -- and so are those of its sector's part from its byte offset on, as a program takes it
  module _ (s o : ℕ) (es : s ≡ p.sector) (eo : o ≡ p.byte) where
    abbrev tail : List ℕ
    tail = take (length bytes - sector * s) (drop (sector * s) bytes)

    pub starts : sector * s ≤ length bytes
    starts = omega (arith, ends)

    tail-part : tail ≡ part bytes (sector * s) (length bytes - sector * s)
    unfolding part
    tail-part = refl

    pub tail-ends : o + e.length ≤ length tail
    tail-ends =
        let n : length (part bytes (sector * s) (length bytes - sector * s)) ≡ length bytes - sector * s = length_part bytes (sector * s) _ (omega (arith, starts)) in
        rw tail-part (omega (arith, ends))

    pub from_tail : is_held ≡ false → part tail o e.length ≡ record_in e k (blocked_bytes e bytes held over)
    from_tail h =
        let z : sector * s + o ≡ byte_of p = omega arith in
        ap (λ (l : List ℕ). part l o e.length) tail-part ∙ part-part bytes (sector * s) (length bytes - sector * s) o e.length (omega (arith, ends))
        ∙ ap (λ (i : ℕ). part bytes i e.length) z ∙ from_bytes h
