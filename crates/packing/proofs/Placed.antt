-- A coded record put at a place: its bytes are laid there or at the next sector's start, whose first byte is then no 128; what was laid before it in
-- the old sector is 128, so a reader goes on to it; and nothing before the place changes, so the records before it stay as they were.
use mathlib.Core.Path.{◌≡◌, refl, sym, ap, ◌∙◌}
use mathlib.Core.Logic.{◌≢◌}
use mathlib.Core.Bool.{Bool, true, false, ◌&&◌, ◌||◌}
use mathlib.Core.List.{List, [], ◌∷◌, ◌++◌}
use Prim.Native.Nat.{ℕ, suc, ◌+◌, ◌-◌, ◌*◌, ◌≤◌, ◌<◌}
use native.Mathlib.Omega.{arith}
use lib.ListN.{length, get_or, replicate}
use lib.Dec.{leb}
use borrow.Author.Tests.{leb-true, leb-false, le-leb, lt-leb, ltb-true, ne_eqb}
use Rattle.geometry.specs.Bytes.{part, lay, padded}
use Rattle.geometry.specs.Sizes.{sector, blank}
use Rattle.geometry.specs.Places.{byte_of}
use Rattle.geometry.specs.declared.Place.{Place}
use Rattle.geometry.proofs.Bytes.{length-lay, get_or-lay-before, get_or-lay-in, part-lay-same, length-padded, get_or-padded-behind}
use Rattle.decoding.specs.Decode.{good, decode}
use Rattle.coding.specs.Encode.{code_of}
use Rattle.decoding.proofs.Known.{decode-good, decode-128}
use Rattle.coding.proofs.Round.{decode-code_of}
use Rattle.coding.proofs.Sizes.{code_of-length}
use Rattle.packing.specs.Placing.{fits_here, goes_to, behind_new, has_room, Change, filled, changes, laid}
use Rattle.packing.specs.Reading.{next_sector, further, goes_on, start_of, Recorded, got, read_at, read_behind, walked, walk, behind_from}
use Rattle.packing.proofs.One.{Within, Upto, goes_on_lem, stays_here, read-coded}
use Rattle.packing.proofs.Walks.{walk-upto, walk-snoc}

pub length-laid : (cs : List Change) (bytes : List ℕ) → length (laid cs bytes) ≡ length bytes
length-laid [] bytes = refl
length-laid (c ∷ cs) bytes = length-laid cs (lay bytes (byte_of c.place) c.bytes) ∙ length-lay bytes (byte_of c.place) c.bytes

-- a change of bytes up to the end of one sector of an extent of so many
pub record InSector (sectors : ℕ) (c : Change) : Type 0 where
  pub sector-in : c.place.sector < sectors
  pub ends : c.place.byte + length c.bytes ≡ sector

abbrev pub AllIn : ℕ → List Change → Type 0
AllIn sectors [] = Unit {0}
AllIn sectors (c ∷ cs) = InSector sectors c × AllIn sectors cs

pub filled_in : (sectors : ℕ) (p : Place) (xs : List ℕ) → p.sector < sectors → p.byte + length xs ≤ sector → InSector sectors (filled p xs)
unfolding filled
filled_in sectors p xs i h =
    let l : length (padded 128 (sector - p.byte) xs) ≡ sector - p.byte = length-padded 128 (sector - p.byte) xs (omega arith) in
    record { sector-in = i; ends = omega arith }

-- ---- the three cases

module _ (p : Place) (code : List ℕ) where
  -- it fits here, or the place is at the sector's end, or the rest of the sector is filled
  pub data Case : Type 0 where
    here : p.byte + length code ≤ sector → goes_to p (length code) ≡ p → changes p code ≡ filled p code ∷ [] → Case
    at_end : sector < p.byte + length code → sector ≤ p.byte → goes_to p (length code) ≡ next_sector p → changes p code ≡ filled (next_sector p) code ∷ [] → Case
    over : sector < p.byte + length code → p.byte < sector → goes_to p (length code) ≡ next_sector p
        → changes p code ≡ filled p [] ∷ filled (next_sector p) code ∷ [] → Case

  pub which : Case
  unfolding goes_to changes fits_here
  which = go (leb (p.byte + length code) sector) refl (leb sector p.byte) refl
    where
      go : (a : Bool) → leb (p.byte + length code) sector ≡ a → (b : Bool) → leb sector p.byte ≡ b → Case
      go true e b f = here (leb-true _ _ e) (rw (e, goes_to)) (rw (e, changes))
      go false e true f = at_end (leb-false _ _ e) (leb-true _ _ f) (rw (e, goes_to)) (rw (e, changes, f))
      go false e false f = over (leb-false _ _ e) (leb-false _ _ f) (rw (e, goes_to)) (rw (e, changes, f))

pub room_in : (sectors : ℕ) (p : Place) (e : ℕ) → has_room sectors p e ≡ true → (goes_to p e).sector < sectors
unfolding has_room
room_in sectors p e h = ltb-true (goes_to p e).sector sectors h

module _ (p : Place) (code : List ℕ) where
  -- the place behind the new record
  pub behind-within : (sectors : ℕ) → length code ≤ sector → has_room sectors p (length code) ≡ true → Within sectors (behind_new p (length code))
  unfolding behind_new
  behind-within sectors small h = go (which p code)
    where
      room : (goes_to p (length code)).sector < sectors
      room = room_in sectors p (length code) h

      go : Case p code → Within sectors (further (goes_to p (length code)) (length code))
      go (here f g c) = (room, rw g f)
      go (at_end f l g c) = (room, rw g (omega arith))
      go (over f l g c) = (room, rw g (omega arith))

  -- every change stays in its sector, and that in the extent
  pub changes-in : (sectors : ℕ) → p.sector < sectors → p.byte ≤ sector → length code ≤ sector → has_room sectors p (length code) ≡ true
      → AllIn sectors (changes p code)
  changes-in sectors i b small h = go (which p code)
    where
      room : (goes_to p (length code)).sector < sectors
      room = room_in sectors p (length code) h

      go : Case p code → AllIn sectors (changes p code)
      go (here f g c) = rw c (filled_in sectors p code i f, tt)
      go (at_end f l g c) = rw c (filled_in sectors (next_sector p) code (rw g at room) (omega arith), tt)
      go (over f l g c) =
          rw c (filled_in sectors p [] i (omega arith), (filled_in sectors (next_sector p) code (rw g at room) (omega arith), tt))

-- ---- nothing before the place changes

upto-lay : (u at : ℕ) (bytes xs : List ℕ) → u ≤ at → Upto u bytes (lay bytes at xs)
upto-lay u at bytes xs h =
    record { size = sym (length-lay bytes at xs); byte = λ (i : ℕ) (k : i < u). sym (get_or-lay-before bytes at xs i 0 (omega arith)) }

upto-then : (u : ℕ) (a b c : List ℕ) → Upto u a b → Upto u b c → Upto u a c
upto-then u a b c o n = record { size = o.size ∙ n.size; byte = λ (i : ℕ) (k : i < u). o.byte i k ∙ n.byte i k }

module _ (bytes : List ℕ) (p : Place) (code : List ℕ) (b : p.byte ≤ sector) where
  pub put-upto : Upto (byte_of p) bytes (laid (changes p code) bytes)
  unfolding filled
  put-upto = go (which p code)
    where
      go : Case p code → Upto (byte_of p) bytes (laid (changes p code) bytes)
      go (here f g c) = rw c (upto-lay (byte_of p) (byte_of p) bytes _ (omega arith))
      go (at_end f l g c) = rw c (upto-lay (byte_of p) (byte_of (next_sector p)) bytes _ (omega arith))
      go (over f l g c) =
          rw c (upto-then (byte_of p) bytes (lay bytes (byte_of p) (padded 128 (sector - p.byte) [])) _
          (upto-lay (byte_of p) (byte_of p) bytes _ (omega arith)) (upto-lay (byte_of p) (byte_of (next_sector p)) _ _ (omega arith)))

-- ---- the new record is read where it was put

no_jump : (bytes : List ℕ) (p : Place) → p.byte < sector → get_or bytes (byte_of p) 0 ≢ 128 → goes_on bytes p ≡ false
unfolding goes_on
no_jump bytes p l n = rw (lt-leb sector p.byte l, ne_eqb (get_or bytes (byte_of p) 0) 128 n) (go (leb 1 p.byte))
  where
    go : (b : Bool) → (b && false) ≡ false
    go true = refl
    go false = refl

jump_end : (bytes : List ℕ) (p : Place) → sector ≤ p.byte → goes_on bytes p ≡ true
unfolding goes_on
jump_end bytes p l = rw (le-leb sector p.byte l)

jump-filled : (bytes : List ℕ) (p : Place) → 1 ≤ p.byte → get_or bytes (byte_of p) 0 ≡ 128 → goes_on bytes p ≡ true
unfolding goes_on
jump-filled bytes p l e = rw (le-leb 1 p.byte l, e) (go (leb sector p.byte))
  where
    go : (b : Bool) → (b || true) ≡ true
    go true = refl
    go false = refl

module _ (R sectors : ℕ) (bytes : List ℕ) (p : Place) (code x : List ℕ) (size : length bytes ≡ sector * sectors) (within : Within sectors p)
    (small : length code ≤ sector) (reads : (rest : List ℕ) → decode R (code ++ rest) ≡ good x (length code))
    (room : has_room sectors p (length code) ≡ true) where
  padded-reads : (n : ℕ) → decode R (padded 128 n code) ≡ good x (length code)
  unfolding padded
  padded-reads n = reads (replicate (n - length code) 128)

  -- what it is read as, at the place q where its bytes and the 128 behind them are laid
  laid-reads : (old : List ℕ) (q : Place) → length old ≡ sector * sectors → q.sector < sectors → q.byte + length code ≤ sector
      → read_at R sectors (laid (filled q code ∷ []) old) q ≡ got (record { bytes = x; behind = further q (length code) })
  unfolding filled
  laid-reads old q same i f =
      let n : ℕ = sector - q.byte in
      let l : length (padded 128 n code) ≡ n = length-padded 128 n code (omega arith) in
      let there : part (lay old (byte_of q) (padded 128 n code)) (byte_of q) n ≡ padded 128 n code =
      part-lay-same old (byte_of q) (padded 128 n code) n l (omega arith) in
      read-coded R sectors (lay old (byte_of q) (padded 128 n code)) q x (length code) i (ap (decode R) there ∙ padded-reads n)

  -- its first byte
  laid-first : (old : List ℕ) (q : Place) → length old ≡ sector * sectors → q.sector < sectors → q.byte + length code ≤ sector
      → get_or (laid (filled q code ∷ []) old) (byte_of q) 0 ≢ 128
  unfolding filled
  laid-first old q same i f e =
      let n : ℕ = sector - q.byte in
      let l : length (padded 128 n code) ≡ n = length-padded 128 n code (omega arith) in
      let some : 1 ≤ length code = (decode-good R _ x (length code) (reads [])).1 in
      let z : byte_of q - byte_of q ≡ 0 = omega arith in
      let first : get_or (lay old (byte_of q) (padded 128 n code)) (byte_of q) 0 ≡ get_or (padded 128 n code) 0 0 =
      get_or-lay-in old (byte_of q) (padded 128 n code) (byte_of q) 0 (omega arith) (omega arith) (omega arith) ∙ ap (λ (k : ℕ). get_or (padded 128 n code) k 0) z in
      decode-128 R (padded 128 n code) x (length code) (padded-reads n) (sym first ∙ e)

  -- behind the 128 of the old sector a reader goes on
  over-jumps : sector < p.byte + length code → p.byte < sector → goes_on (laid (filled p [] ∷ filled (next_sector p) code ∷ []) bytes) p ≡ true
  unfolding filled
  over-jumps f l =
      let n : ℕ = sector - p.byte in
      let fill : List ℕ = padded 128 n [] in
      let k : length fill ≡ n = length-padded 128 n [] (omega arith) in
      let z : byte_of p - byte_of p ≡ 0 = omega arith in
      jump-filled _ p (omega arith)
      (get_or-lay-before (lay bytes (byte_of p) fill) (byte_of (next_sector p)) _ (byte_of p) 0 (omega arith)
      ∙ get_or-lay-in bytes (byte_of p) fill (byte_of p) 0 (omega (arith, within.0)) (omega arith) (omega arith)
      ∙ ap (λ (m : ℕ). get_or fill m 0) z
      ∙ get_or-padded-behind 128 n [] 0 0 (omega arith) (omega arith))

  -- the new record, and the place behind it
  pub put-read : read_behind R sectors (laid (changes p code) bytes) p ≡ got (record { bytes = x; behind = behind_new p (length code) })
  unfolding read_behind behind_new
  put-read = go (which p code)
    where
      over-read : (old : List ℕ) → length old ≡ sector * sectors → goes_to p (length code) ≡ next_sector p → goes_on (laid (filled (next_sector p) code ∷ []) old) p ≡ true
          → read_at R sectors (laid (filled (next_sector p) code ∷ []) old) (start_of (laid (filled (next_sector p) code ∷ []) old) p)
          ≡ got (record { bytes = x; behind = further (goes_to p (length code)) (length code) })
      over-read old same g j =
          let i : p.sector + 1 < sectors = rw g at (room_in sectors p (length code) room) in
          rw (goes_on_lem (laid (filled (next_sector p) code ∷ []) old) p j, g) (laid-reads old (next_sector p) same i (omega arith))

      go : Case p code → read_at R sectors (laid (changes p code) bytes) (start_of (laid (changes p code) bytes) p)
          ≡ got (record { bytes = x; behind = further (goes_to p (length code)) (length code) })
      go (here f g c) =
          let some : 1 ≤ length code = (decode-good R _ x (length code) (reads [])).1 in
          let n : get_or (laid (filled p code ∷ []) bytes) (byte_of p) 0 ≢ 128 = laid-first bytes p size within.0 f in
          rw (c, stays_here (laid (filled p code ∷ []) bytes) p (no_jump _ p (omega arith) n), g) (laid-reads bytes p size within.0 f)
      go (at_end f l g c) = rw c (over-read bytes size g (jump_end _ p l))
      go (over f l g c) = rw c (over-read (laid (filled p [] ∷ []) bytes) (length-laid (filled p [] ∷ []) bytes ∙ size) g (over-jumps f l))

  -- behind n records from the place o, it is one more
  pub put-walk : (n : ℕ) (o : Place) (rs : List Recorded) → o.byte ≤ sector → walk R sectors bytes n o ≡ walked rs → behind_from o rs n ≡ p
      → walk R sectors (laid (changes p code) bytes) (suc n) o ≡ walked (rs ++ (record { bytes = x; behind = behind_new p (length code) } ∷ []))
  put-walk n o rs b w at =
      walk-snoc R sectors (laid (changes p code) bytes) n o rs _
      (walk-upto R sectors bytes (laid (changes p code) bytes) n o rs b w (rw at (put-upto bytes p code within.1)))
      (rw at put-read)

-- ---- the writer's code of the bytes given

-- the new record: the bytes given, padded with blanks
abbrev pub new_at : ℕ → List ℕ → Place → Recorded
new_at R given p = record { bytes = padded blank R given; behind = behind_new p (length (code_of R given)) }

module _ (R : ℕ) (given : List ℕ) (short : length given ≤ R) (most : R ≤ 132) where
  pub code-small : length (code_of R given) ≤ sector
  code-small = omega (arith, code_of-length R given short most)

  module _ (sectors : ℕ) (bytes : List ℕ) (p : Place) (size : length bytes ≡ sector * sectors) (within : Within sectors p)
      (room : has_room sectors p (length (code_of R given)) ≡ true) where
    pub put-given-walk : (n : ℕ) (o : Place) (rs : List Recorded) → o.byte ≤ sector → walk R sectors bytes n o ≡ walked rs → behind_from o rs n ≡ p
        → walk R sectors (laid (changes p (code_of R given)) bytes) (suc n) o ≡ walked (rs ++ (new_at R given p ∷ []))
    put-given-walk = put-walk R sectors bytes p (code_of R given) (padded blank R given) size within code-small (λ rest. decode-code_of R given rest short code-small) room
