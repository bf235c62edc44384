-- A record is decoded from its sector's part that begins where the record starts; past the extent's end that part is empty, and so its code is bad there.
use mathlib.Core.Path.{◌≡◌, refl, sym, ap, ◌∙◌}
use mathlib.Core.Logic.{◌⊎◌, inl, inr}
use mathlib.Core.Bool.{Bool, true, false, ◌&&◌}
use mathlib.Core.List.{List, []}
use Prim.Native.Nat.{ℕ, ◌+◌, ◌-◌, ◌*◌, ◌≤◌, ◌<◌}
use native.Mathlib.Omega.{arith}
use lib.ListN.{length, drop, get_or, length-drop, drop_of_length-le}
use lib.Seq.{take_all}
use lib.Dec.{eqb, leb, ltb}
use borrow.Author.Tests.{le-leb, lt-leb, lt-ltb, le-ltb, ltb-true, ltb-false}
use Rattle.geometry.specs.Bytes.{part}
use Rattle.geometry.specs.Sizes.{sector}
use Rattle.geometry.specs.Places.{byte_of}
use Rattle.geometry.specs.declared.Place.{Place}
use Rattle.geometry.proofs.Bytes.{get_d_part, part-part, length-part-min}
use Rattle.decoding.specs.Decode.{Decoded, good, bad, decode_from, decode, bad_at, answer, given}
use Rattle.std.specs.Prelude.{Result, Ok}
use Rattle.decoding.specs.declared.BadCode.{BadCode}
use Rattle.decoding.proofs.Reader.{answer-good, answer-bad}
use Rattle.decoding.proofs.Known.{decode-good, decode-bad}
use Rattle.packing.specs.Reading.{further, goes_on, start_of, Got, lost, got_from, extent_end, read_at, read_behind, lost_at, led_to, into}
use Rattle.packing.specs.declared.BadPlace.{BadPlace}
use Rattle.packing.proofs.One.{Started, started}

-- ---- the sector a place lies in

module _ (bytes : List ℕ) (p : Place) where
  -- the place's sector
  abbrev pub sector_of : List ℕ
  sector_of = part bytes (sector * p.sector) sector

  pub goes-far : sector ≤ p.byte → goes_on bytes p ≡ true
  unfolding goes_on
  goes-far h = rw (le-leb sector p.byte h)

  -- by the byte of its sector
  goes_by : p.byte < sector → goes_on bytes p ≡ leb 1 p.byte && eqb (get_or sector_of p.byte 0) 128
  unfolding goes_on
  goes_by h = rw (lt-leb sector p.byte h, get_d_part bytes (sector * p.sector) sector p.byte 0 h)

  pub goes-seen : p.byte < sector → (seen : List ℕ) → sector_of ≡ seen → (c : ℕ) → c ≡ get_or seen p.byte 0 → leb 1 p.byte && eqb c 128 ≡ goes_on bytes p
  goes-seen h seen same c is = rw (is, ← same) (sym (goes_by h))

  -- its part from the place's byte on
  part-from : p.byte ≤ sector → part bytes (byte_of p) (sector - p.byte) ≡ drop p.byte sector_of
  unfolding part
  part-from h =
      let fits : length (drop p.byte sector_of) ≤ sector - p.byte = omega (arith, length-drop p.byte sector_of, length-part-min bytes (sector * p.sector) sector) in
      sym (part-part bytes (sector * p.sector) sector p.byte (sector - p.byte) (omega arith)) ∙ take_all (sector - p.byte) (drop p.byte sector_of) fits

  none_from : p.byte ≡ sector → drop p.byte sector_of ≡ []
  none_from h = drop_of_length-le sector_of {i = p.byte} (omega (arith, length-part-min bytes (sector * p.sector) sector))

-- ---- the start of a record in an extent of so many sectors

abbrev pick : ℕ → List ℕ → Place → Bool → Place
pick sectors bytes p b = elim b [ true ↦ start_of bytes p | false ↦ extent_end sectors ]

-- the extent's end where the record would start past it
abbrev pub start_in : ℕ → List ℕ → Place → Place
start_in sectors bytes p = pick sectors bytes p (ltb (start_of bytes p).sector sectors)

module _ (R sectors : ℕ) (bytes : List ℕ) (q : Place) where
  read-inside : q.sector < sectors → read_at R sectors bytes q ≡ got_from q (decode R (part bytes (byte_of q) (sector - q.byte)))
  unfolding read_at
  read-inside h = rw (lt-ltb q.sector sectors h, read_at)

  read_past : sectors ≤ q.sector → read_at R sectors bytes q ≡ lost (extent_end sectors)
  unfolding read_at
  read_past h = rw (le-ltb q.sector sectors h, read_at)

module _ (R sectors : ℕ) (bytes : List ℕ) (p : Place) where
  -- what holds of both holds of the start
  either-start : (P : Place → Type 0) → ((start_of bytes p).sector < sectors → P (start_of bytes p)) → (sectors ≤ (start_of bytes p).sector → P (extent_end sectors)) → P (start_in sectors bytes p)
  either-start P f g = go (ltb (start_of bytes p).sector sectors) refl
    where
      go : (b : Bool) → ltb (start_of bytes p).sector sectors ≡ b → P (pick sectors bytes p b)
      go true h = f (ltb-true _ _ h)
      go false h = g (ltb-false _ _ h)

  start-byte : (start_in sectors bytes p).byte ≤ sector
  start-byte = either-start (λ (q : Place). q.byte ≤ sector) (λ h. let s : Started p (start_of bytes p) = started bytes p in omega (arith, s.before)) (λ h. omega arith)

  read-from : read_behind R sectors bytes p ≡ got_from (start_in sectors bytes p) (decode R (drop (start_in sectors bytes p).byte (sector_of bytes (start_in sectors bytes p))))
  unfolding read_behind
  read-from =
      either-start (λ (q : Place). read_at R sectors bytes (start_of bytes p) ≡ got_from q (decode R (drop q.byte (sector_of bytes q))))
      (λ h. read-inside R sectors bytes (start_of bytes p) h ∙ (let s : Started p (start_of bytes p) = started bytes p in rw (part-from bytes (start_of bytes p) (omega (arith, s.before)))))
      (λ h. read_past R sectors bytes (start_of bytes p) h ∙ rw (none_from bytes (extent_end sectors) refl) (unfold decode decode_from got_from in refl))

  -- from the start q in the sector's bytes
  read-seen : (q : Place) (seen : List ℕ) → q ≡ start_in sectors bytes p → sector_of bytes q ≡ seen
      → read_behind R sectors bytes p ≡ got_from q (decode R (drop q.byte seen))
  read-seen q seen is same =
      read-from ∙ ap (λ (z : Place). got_from z (decode R (drop z.byte (sector_of bytes z)))) (sym is)
      ∙ ap (λ (z : List ℕ). got_from q (decode R (drop q.byte z))) same

-- ---- the start q, and the extent's sectors

module _ (sectors : ℕ) (bytes : List ℕ) (p q : Place) (is : start_of bytes p ≡ q) where
  pub start-past : sectors ≤ q.sector → extent_end sectors ≡ start_in sectors bytes p
  start-past h = ap (pick sectors bytes p) (sym (le-ltb (start_of bytes p).sector sectors (rw is h)))

  pub start-inside : q.sector < sectors → q ≡ start_in sectors bytes p
  start-inside h = sym is ∙ ap (pick sectors bytes p) (sym (lt-ltb (start_of bytes p).sector sectors (rw is h)))

-- ---- where the decoder's answer leads

pub leads-good : (q : Place) (d : Decoded) (e : ℕ) → Ok e ≡ answer d → Ok (further q e) ≡ led_to (got_from q d)
unfolding got_from led_to
leads-good q d e h = rw (answer-good d e (sym h)).1

pub leads-bad : (q : Place) (d : Decoded) (k : ℕ) → bad_at k ≡ answer d → lost_at (further q k) ≡ led_to (got_from q d)
unfolding got_from led_to
leads-bad q d k h = rw (answer-bad d k (sym h))

-- it stays in the sector
pub leads-in : (R o : ℕ) (s : List ℕ) (c : Result ℕ BadCode) → o ≤ sector → length s ≤ sector → c ≡ answer (decode R (drop o s))
    → (k : ℕ) → (c ≡ Ok k) ⊎ (c ≡ bad_at k) → o + k ≤ sector
leads-in R o s c b l is k (inl g) =
    let d = answer-good (decode R (drop o s)) k (sym is ∙ g) in
    omega (arith, (decode-good R (drop o s) d.0 k d.1).2, length-drop o s)
leads-in R o s c b l is k (inr g) = omega (arith, decode-bad R (drop o s) k (answer-bad (decode R (drop o s)) k (sym is ∙ g)), length-drop o s)

pub into-given : (q : Place) (d : Decoded) (old : List ℕ) → given d old ≡ into (got_from q d) old
unfolding got_from into given
into-given q (good xs e) old = refl
into-given q (bad k) old = refl

-- ---- the record behind a place, from its start q on, in that place's sector

pub same-led : (g h : Got) (r : Result Place BadPlace) (new old : List ℕ) → g ≡ h → (r ≡ led_to h) × (new ≡ into h old) → (r ≡ led_to g) × (new ≡ into g old)
same-led g h r new old e t = rw e t

module _ (R sectors : ℕ) (bytes : List ℕ) (p q : Place) (is : q ≡ start_in sectors bytes p) (own : List ℕ) (part-is : own ≡ sector_of bytes q) where
  pub own-size : (q.byte ≤ sector) × (length own ≤ sector)
  own-size = (rw is (start-byte R sectors bytes p), omega (arith, ap length part-is, length-part-min bytes (sector * q.sector) sector))

  pub read-own : read_behind R sectors bytes p ≡ got_from q (decode R (drop q.byte own))
  read-own = read-seen R sectors bytes p q own is (sym part-is)
