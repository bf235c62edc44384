-- One record: its code starts before byte 360 of a sector of the extent and has at least a byte, so the place behind it is further on in the
-- same sector; and the decoder looks at no byte behind the code, so the record is read the same where the bytes up to there are the same.
use mathlib.Core.Path.{◌≡◌, refl, sym, ap, ◌∙◌}
use mathlib.Core.Bool.{Bool, true, false}
use mathlib.Core.List.{List}
use Prim.Native.Nat.{ℕ, ◌+◌, ◌-◌, ◌≤◌, ◌<◌, min}
use native.Mathlib.Omega.{arith}
use lib.ListN.{length, take, get_or}
use lib.Seq.{take-take}
use lib.Dec.{leb, ltb}
use borrow.Author.Tests.{leb-false, ltb-true, lt-ltb}
use Rattle.geometry.specs.Bytes.{part}
use Rattle.geometry.specs.Sizes.{sector}
use Rattle.geometry.specs.Places.{byte_of}
use Rattle.geometry.specs.declared.Place.{Place}
use Rattle.geometry.proofs.Bytes.{length-part-min, same_parts}
use Rattle.decoding.specs.Decode.{Decoded, good, bad, decode}
use Rattle.decoding.proofs.Known.{decode-good, decode-upto}
use Rattle.packing.specs.Reading.{next_sector, further, goes_on, start_of, Recorded, got, lost, got_from, extent_end, read_at, read_behind}
use Rattle.geometry.proofs.Tests.{neither_left}

-- a place in an extent of so many sectors, at byte 0 to 360
abbrev pub Within : ℕ → Place → Type 0
Within sectors p = (p.sector < sectors) × (p.byte ≤ sector)

-- two extents of one length that have the same bytes before the byte u
pub record Upto (u : ℕ) (a b : List ℕ) : Type 0 where
  pub size : length a ≡ length b
  pub byte : (i : ℕ) → i < u → get_or a i 0 ≡ get_or b i 0

pub upto-less : (u v : ℕ) (a b : List ℕ) → u ≤ v → Upto v a b → Upto u a b
upto-less u v a b h o = record { size = o.size; byte = λ (i : ℕ) (k : i < u). o.byte i (omega arith) }

pub no-got : (p : Place) (r : Recorded) → lost p ≡ got r → ⊥
no-got p r h = let z : ◌≡◌ {A = ℕ} 0 1 = cc in omega arith

-- ---- where it starts

pub goes_on_lem : (bytes : List ℕ) (p : Place) → goes_on bytes p ≡ true → start_of bytes p ≡ next_sector p
unfolding start_of
goes_on_lem bytes p g = rw (g, start_of)

pub stays_here : (bytes : List ℕ) (p : Place) → goes_on bytes p ≡ false → start_of bytes p ≡ p
unfolding start_of
stays_here bytes p g = rw (g, start_of)

-- byte 360 goes on
pub here-before : (bytes : List ℕ) (p : Place) → goes_on bytes p ≡ false → p.byte < sector
unfolding goes_on
here-before bytes p g = leb-false sector p.byte (neither_left (leb sector p.byte) _ g)

-- a record starts before byte 360, not before the place that it is read from
pub record Started (p q : Place) : Type 0 where
  pub before : q.byte < sector
  pub behind : p.byte ≤ sector → byte_of p ≤ byte_of q

pub started : (bytes : List ℕ) (p : Place) → Started p (start_of bytes p)
started bytes p = go (goes_on bytes p) refl
  where
    go : (b : Bool) → goes_on bytes p ≡ b → Started p (start_of bytes p)
    go true g = rw (goes_on_lem bytes p g) (record { before = omega arith; behind = λ h. omega arith })
    go false g = rw (stays_here bytes p g) (record { before = here-before bytes p g; behind = λ h. omega arith })

-- ---- what it tells

-- the record r whose code starts at q
pub record CodeAt (R sectors : ℕ) (bytes : List ℕ) (q : Place) (r : Recorded) : Type 0 where
  pub inside : q.sector < sectors
  pub size : ℕ
  pub reads : decode R (part bytes (byte_of q) (sector - q.byte)) ≡ good r.bytes size
  pub is : r.behind ≡ further q size

pub code_at : (R sectors : ℕ) (bytes : List ℕ) (q : Place) (r : Recorded) → read_at R sectors bytes q ≡ got r → CodeAt R sectors bytes q r
unfolding read_at got_from
code_at R sectors bytes q r h = go (ltb q.sector sectors) refl h
  where
    told : q.sector < sectors → (f : Decoded) → decode R (part bytes (byte_of q) (sector - q.byte)) ≡ f → got_from q f ≡ got r → CodeAt R sectors bytes q r
    told i (good xs e) d h =
        let is : record { bytes = xs; behind = further q e } ≡ r = cc in
        record { inside = i; size = e; reads = d ∙ ap (λ (z : Recorded). good z.bytes e) is; is = sym (ap (λ (z : Recorded). z.behind) is) }
    told i (bad k) d h = absurd (no-got (further q k) r h)

    go : (b : Bool) → ltb q.sector sectors ≡ b
        → elim b [ true ↦ got_from q (decode R (part bytes (byte_of q) (sector - q.byte))) | false ↦ lost (extent_end sectors) ] ≡ got r → CodeAt R sectors bytes q r
    go true e h = told (ltb-true q.sector sectors e) (decode R (part bytes (byte_of q) (sector - q.byte))) refl h
    go false e h = absurd (no-got (extent_end sectors) r h)

-- and made from that
pub read-coded : (R sectors : ℕ) (bytes : List ℕ) (q : Place) (xs : List ℕ) (e : ℕ) → q.sector < sectors
    → decode R (part bytes (byte_of q) (sector - q.byte)) ≡ good xs e → read_at R sectors bytes q ≡ got (record { bytes = xs; behind = further q e })
unfolding read_at got_from
read-coded R sectors bytes q xs e i d = rw (lt-ltb q.sector sectors i, read_at, d)

-- a record read behind the place p
pub record Told (R sectors : ℕ) (p : Place) (r : Recorded) : Type 0 where
  pub long : length r.bytes ≡ R
  pub inside : Within sectors r.behind
  pub later : p.byte ≤ sector → byte_of p < byte_of r.behind

module _ (R sectors : ℕ) (a : List ℕ) where
  from_start : (p q : Place) (r : Recorded) → Started p q → read_at R sectors a q ≡ got r → Told R sectors p r
  from_start p q r s h =
      let c : CodeAt R sectors a q r = code_at R sectors a q r h in
      let g = decode-good R _ r.bytes c.size c.reads in
      let l : length (part a (byte_of q) (sector - q.byte)) ≡ min (sector - q.byte) (length a - byte_of q) = length-part-min a (byte_of q) (sector - q.byte) in
      let is : r.behind ≡ further q c.size = c.is in
      let b : q.byte < sector = s.before in
      let room : q.byte + c.size ≤ sector = omega (arith, g.2) in
      record {
        long = g.0;
        inside = rw is (c.inside, room);
        later = λ o. rw is (let k = s.behind o in omega (arith, g.1));
      }

  pub told : (p : Place) (r : Recorded) → read_behind R sectors a p ≡ got r → Told R sectors p r
  unfolding read_behind
  told p r h = from_start p (start_of a p) r (started a p) h

-- ---- read again, where the bytes before the place behind it are the same

module _ (a b : List ℕ) where
  goes-upto : (p : Place) (u : ℕ) → Upto u a b → byte_of p < u → goes_on a p ≡ goes_on b p
  unfolding goes_on
  goes-upto p u o h = rw (o.byte (byte_of p) h)

  start-upto : (p : Place) (u : ℕ) → Upto u a b → byte_of p < u → start_of a p ≡ start_of b p
  unfolding start_of
  start-upto p u o h = rw (goes-upto p u o h, start_of)

  -- the code's own bytes
  code-upto : (at n e : ℕ) → e ≤ n → Upto (at + e) a b → take e (part b at n) ≡ take e (part a at n)
  unfolding part
  code-upto at n e h o =
      take-take e n _ h ∙ sym (same_parts a b at e o.size (λ (i : ℕ) (k : i < e). o.byte (at + i) (omega arith))) ∙ sym (take-take e n _ h)

module _ (R sectors : ℕ) (a b : List ℕ) where
  read-at-upto : (q : Place) (r : Recorded) → read_at R sectors a q ≡ got r → Upto (byte_of r.behind) a b → read_at R sectors b q ≡ got r
  read-at-upto q r h o =
      let c : CodeAt R sectors a q r = code_at R sectors a q r h in
      let n : ℕ = sector - q.byte in
      let g = decode-good R _ r.bytes c.size c.reads in
      let l : length (part a (byte_of q) n) ≡ min n (length a - byte_of q) = length-part-min a (byte_of q) n in
      let m : length (part b (byte_of q) n) ≡ min n (length b - byte_of q) = length-part-min b (byte_of q) n in
      let same : length a ≡ length b = o.size in
      let there : byte_of r.behind ≡ byte_of q + c.size = ap byte_of c.is ∙ (omega arith) in
      let o' : Upto (byte_of q + c.size) a b = upto-less _ _ a b (omega arith) o in
      let e : c.size ≤ n = omega (arith, g.2) in
      let d : decode R (part b (byte_of q) n) ≡ good r.bytes c.size =
      decode-upto R _ r.bytes c.size c.reads _ (code-upto a b (byte_of q) n c.size e o') (omega (arith, g.2)) in
      read-coded R sectors b q r.bytes c.size c.inside d ∙ ap (λ (z : Place). got (record { bytes = r.bytes; behind = z })) (sym c.is)

  pub read-upto : (p : Place) (r : Recorded) → p.byte ≤ sector → read_behind R sectors a p ≡ got r → Upto (byte_of r.behind) a b → read_behind R sectors b p ≡ got r
  unfolding read_behind
  read-upto p r k h o =
      let f : byte_of p < byte_of r.behind = (told R sectors a p r h).later k in
      rw (← (start-upto a b p (byte_of r.behind) o f)) (read-at-upto (start_of a p) r h o)
