-- Where records and granules lie, once over the kind and the length R: they stand in order, each inside its sectors and inside the extent, and what a
-- write of one changes touches no earlier one. Those that share sectors go by quotient and remainder; others by whole sectors.
use mathlib.Core.Path.{◌≡◌, sym, ap, ◌∙◌}
use mathlib.Core.Bool.{Bool, true, false, ◌&&◌}
use mathlib.Core.List.{List}
use Prim.Native.Nat.{ℕ, suc, ◌+◌, ◌-◌, ◌*◌, ◌/◌, ◌%◌, ◌≤◌, ◌<◌, min}
use native.Mathlib.Omega.{arith}
use native.Mathlib.Nat.{mod-lt, div-mul-le_self, div-add-mod', div-le_self, le-div_iff_mul-le, div-lt_iff_lt-mul, mod-le, mul-le-mul, mul-le-mul_right, mul-le-mul_left, mul_comm}
use native.Mathlib.Decide.{dec_lt}
use lib.Dec.{eqb, leb, ltb}
use lib.ListN.{length}
use borrow.Author.Tests.{eq-eqb, ne_eqb, le-leb, lt-leb, eqb-true, eqb-false, leb-true, ltb-true, ltb-false}
use Rattle.geometry.specs.Sizes.{sector, blocked, random, most_records, most_sectors, most_shared, sectors_of, lawful_length}
use Rattle.geometry.specs.Places.{sectors_for, per_sector, small_granules, shares, capacity, place_of, bytes_for, reach_of, byte_of}
use Rattle.geometry.proofs.Bytes.{Apart}
use Rattle.geometry.proofs.Tests.{either, both_ways, and_left, and_right, and_both}

-- ---- the definitions, by whether records share sectors

pub blocked-shares : (kind R : ℕ) → kind ≡ blocked → shares kind R ≡ true
unfolding shares
blocked-shares kind R e = rw (eq-eqb kind blocked e)

pub granules-share : (R : ℕ) → R ≤ most_shared → shares random R ≡ true
unfolding shares
granules-share R h = rw (le-leb R most_shared h)

pub granules-whole : (R : ℕ) → most_shared < R → shares random R ≡ false
unfolding shares
granules-whole R h = rw (lt-leb R most_shared h)

-- of whole sectors are the records of all other files
pub others-whole : (kind R : ℕ) → ¬ (kind ≡ blocked) → ¬ (kind ≡ random) → shares kind R ≡ false
unfolding shares
others-whole kind R b r = rw (ne_eqb kind blocked b, ne_eqb kind random r)

-- records that share sectors, and are not of a blocked file, are granules of at most 180 bytes
sharing : (kind R : ℕ) → shares kind R ≡ true → ¬ (kind ≡ blocked) → small_granules kind R ≡ true
unfolding shares
sharing kind R h b = rw (ne_eqb kind blocked b) at h

pub small-granule : (kind R : ℕ) → small_granules kind R ≡ true → (kind ≡ random) × (R ≤ most_shared)
small-granule kind R h = (eqb-true kind random (and_left (eqb kind random) (leb R most_shared) h), leb-true R most_shared (and_right (eqb kind random) (leb R most_shared) h))

pub small-shares : (kind R : ℕ) → small_granules kind R ≡ true → shares kind R ≡ true
small-shares kind R h =
    let s : (kind ≡ random) × (R ≤ most_shared) = small-granule kind R h in
    rw s.0 (granules-share R s.1)

pub capacity-blocked : (kind R sectors : ℕ) → kind ≡ blocked → capacity kind R sectors ≡ min (per_sector R * sectors) most_records
unfolding capacity
capacity-blocked kind R sectors e = rw (blocked-shares kind R e, eq-eqb kind blocked e, capacity)

pub capacity-shared : (kind R sectors : ℕ) → shares kind R ≡ true → ¬ (kind ≡ blocked) → capacity kind R sectors ≡ per_sector R * sectors
unfolding capacity
capacity-shared kind R sectors h b = rw (h, ne_eqb kind blocked b, capacity)

-- as a program tests whether the limit of a blocked file is passed
module _ (kind R sectors : ℕ) (h : shares kind R ≡ true) where
  abbrev passed : Bool
  passed = eqb kind blocked && ltb most_records (per_sector R * sectors)

  pub capacity-limited : passed ≡ true → capacity kind R sectors ≡ most_records
  capacity-limited t =
      let m : most_records < per_sector R * sectors = ltb-true _ _ (and_right (eqb kind blocked) _ t) in
      rw (capacity-blocked kind R sectors (eqb-true kind blocked (and_left (eqb kind blocked) _ t))) (omega arith)

  pub capacity-all : passed ≡ false → capacity kind R sectors ≡ per_sector R * sectors
  capacity-all t = either (eqb kind blocked)
      (λ (e : eqb kind blocked ≡ true).
      let m : per_sector R * sectors ≤ most_records = ltb-false _ _ (rw e at t) in
      rw (capacity-blocked kind R sectors (eqb-true kind blocked e)) (omega arith))
      (λ (e : eqb kind blocked ≡ false). capacity-shared kind R sectors h (eqb-false kind blocked e))

pub capacity-whole : (kind R sectors : ℕ) → shares kind R ≡ false → capacity kind R sectors ≡ sectors / sectors_for R
unfolding capacity
capacity-whole kind R sectors h = rw (h, capacity)

pub place-shared : (kind R k : ℕ) → shares kind R ≡ true → place_of kind R k ≡ record { sector = k / per_sector R; byte = (k % per_sector R) * R }
unfolding place_of
place-shared kind R k h = rw (h, place_of)

pub place-whole : (kind R k : ℕ) → shares kind R ≡ false → place_of kind R k ≡ record { sector = sectors_for R * k; byte = 0 }
unfolding place_of
place-whole kind R k h = rw (h, place_of)

pub bytes-shared : (kind R : ℕ) → shares kind R ≡ true → bytes_for kind R ≡ R
unfolding bytes_for
bytes-shared kind R h = rw (h, bytes_for)

pub bytes_whole : (kind R : ℕ) → shares kind R ≡ false → bytes_for kind R ≡ sector * sectors_for R
unfolding bytes_for
bytes_whole kind R h = rw (h, bytes_for)

pub reach-small : (kind R : ℕ) → small_granules kind R ≡ true → reach_of kind R ≡ per_sector R * R
unfolding reach_of
reach-small kind R h = rw (h, reach_of)

pub reach-whole : (kind R : ℕ) → small_granules kind R ≡ false → reach_of kind R ≡ sector
unfolding reach_of
reach-whole kind R h = rw (h, reach_of)

-- the bytes from record k's first on that a write of it changes: up to its sector's end if blocked, else as many as it takes
unfoldable pub span_of : ℕ → ℕ → ℕ → ℕ
span_of kind R k = elim (eqb kind blocked) [ true ↦ sector - (place_of kind R k).byte | false ↦ bytes_for kind R ]

pub span-blocked : (kind R k : ℕ) → kind ≡ blocked → span_of kind R k ≡ sector - (place_of kind R k).byte
unfolding span_of
span-blocked kind R k e = rw (eq-eqb kind blocked e, span_of)

pub span-straight : (kind R k : ℕ) → ¬ (kind ≡ blocked) → span_of kind R k ≡ bytes_for kind R
unfolding span_of
span-straight kind R k e = rw (ne_eqb kind blocked e, span_of)

-- a kind is blocked, or it is not
pub by_kind : {P : Type 0} (kind : ℕ) → (kind ≡ blocked → P) → (¬ (kind ≡ blocked) → P) → P
by_kind kind f g =
    either (eqb kind blocked) (λ (h : eqb kind blocked ≡ true). f (eqb-true kind blocked h)) (λ (h : eqb kind blocked ≡ false). g (eqb-false kind blocked h))

-- ---- records that share sectors: q to a sector

module _ (R : ℕ) (pos : 0 < R) (small : R ≤ sector) where
  per-sector-some : 0 < per_sector R
  unfolding per_sector
  per-sector-some = (le-div_iff_mul-le {k = R} {x = 1} {y = 360} pos).1 (omega arith)

  -- a record's end lies among the q·R bytes of its sector that are of records
  ends-before : (k : ℕ) → (k % per_sector R) * R + R ≤ per_sector R * R
  ends-before k =
      let a : k % per_sector R < per_sector R = mod-lt k per-sector-some in
      let b : suc (k % per_sector R) * R ≤ per_sector R * R = mul-le-mul_right R a in
      omega arith

  ends-inside : (k : ℕ) → (k % per_sector R) * R + R ≤ 360
  unfolding per_sector
  ends-inside k =
      let c : per_sector R * R ≤ 360 = div-mul-le_self 360 R in
      omega (arith, ends-before k)

  sector-inside : (k s : ℕ) → k < per_sector R * s → k / per_sector R < s
  sector-inside k s h = (div-lt_iff_lt-mul {k = per_sector R} {x = k} {y = s} per-sector-some).1 (rw (mul_comm s (per_sector R)) h)

  sector-outside : (k s : ℕ) → per_sector R * s ≤ k → s ≤ k / per_sector R
  sector-outside k s h = (le-div_iff_mul-le {k = per_sector R} {x = s} {y = k} per-sector-some).1 (rw (mul_comm s (per_sector R)) h)

  -- of two records in order the later one lies in a later sector, or behind the other in the same
  later : (j k : ℕ) → j < k → 360 * (j / per_sector R) + (j % per_sector R) * R + R ≤ 360 * (k / per_sector R) + (k % per_sector R) * R
  later j k h = go (dec_lt (j / per_sector R) (k / per_sector R))
    where
      go : Dec (j / per_sector R < k / per_sector R) → 360 * (j / per_sector R) + (j % per_sector R) * R + R ≤ 360 * (k / per_sector R) + (k % per_sector R) * R
      go (yes l) = omega (arith, ends-inside j)
      go (no l) =
          let u : j / per_sector R ≤ k / per_sector R = (le-div_iff_mul-le {k = per_sector R} {x = j / per_sector R} {y = k} per-sector-some).1 (omega (arith, div-mul-le_self j (per_sector R))) in
          let e : j / per_sector R ≡ k / per_sector R = omega arith in
          let r : j % per_sector R < k % per_sector R =
          omega (arith, div-add-mod' j (per_sector R), div-add-mod' k (per_sector R), ap (λ (x : ℕ). x * per_sector R) e) in
          omega (arith, mul-le-mul_right R r)

-- ---- records of whole sectors: s to a record

holds-record : (R : ℕ) → R ≤ 360 * sectors_for R
unfolding sectors_for
holds-record R = omega arith

-- and its last sector has a byte of it
needs-sectors : (R : ℕ) → 0 < R → 360 * sectors_for R < R + 360
unfolding sectors_for
needs-sectors R h = omega arith

later-whole : (R j k : ℕ) → j < k → sectors_for R * j + sectors_for R ≤ sectors_for R * k
later-whole R j k h = omega (arith, mul-le-mul_left (sectors_for R) h)

whole-inside : (R k s : ℕ) → 0 < R → k < s / sectors_for R → sectors_for R * k + sectors_for R ≤ s
whole-inside R k s p h =
    let c : 0 < sectors_for R = omega (arith, holds-record R) in
    let a : suc k * sectors_for R ≤ s = (le-div_iff_mul-le {k = sectors_for R} {x = suc k} {y = s} c).0 h in
    omega arith

whole-outside : (R k s : ℕ) → 0 < R → s / sectors_for R ≤ k → s < sectors_for R * k + sectors_for R
whole-outside R k s p h =
    let c : 0 < sectors_for R = omega (arith, holds-record R) in
    let a : s < suc k * sectors_for R = (div-lt_iff_lt-mul {k = sectors_for R} {x = s} {y = suc k} c).0 (omega arith) in
    omega arith

-- ---- both: `pos` and `small` are what a good directory says of R

module _ (kind R : ℕ) (pos : 0 < R) (small : kind ≡ blocked → R ≤ sector) where
  shared-small : shares kind R ≡ true → R ≤ sector
  shared-small h = by_kind kind small (λ (n : ¬ (kind ≡ blocked)). omega (arith, (small-granule kind R (sharing kind R h n)).1))

  -- a record that shares its sector lies inside it; any other begins with a sector
  pub byte-shared : shares kind R ≡ true → (k : ℕ) → (place_of kind R k).byte + R ≤ sector
  byte-shared h k = rw (place-shared kind R k h) (ends-inside R pos (shared-small h) k)

  -- two records in order
  pub record-order : (j k : ℕ) → j < k → byte_of (place_of kind R j) + R ≤ byte_of (place_of kind R k)
  record-order j k l = either (shares kind R)
      (λ (h : shares kind R ≡ true). rw (place-shared kind R j h, place-shared kind R k h) (later R pos (shared-small h) j k l))
      (λ (h : shares kind R ≡ false). rw (place-whole kind R j h, place-whole kind R k h) (omega (arith, later-whole R j k l, holds-record R)))

  -- what a record takes holds it
  pub bytes-hold : R ≤ bytes_for kind R
  bytes-hold = either (shares kind R)
      (λ (h : shares kind R ≡ true). rw (bytes-shared kind R h) (omega arith))
      (λ (h : shares kind R ≡ false). rw (bytes_whole kind R h) (holds-record R))

  -- a write of a record holds the record, and lies inside the extent
  pub span-holds : (k : ℕ) → R ≤ span_of kind R k
  span-holds k = by_kind kind
      (λ (e : kind ≡ blocked). rw (span-blocked kind R k e) (omega (arith, byte-shared (blocked-shares kind R e) k)))
      (λ (n : ¬ (kind ≡ blocked)). rw (span-straight kind R k n) bytes-hold)

  -- the sector of a shared one is one of the extent's
  shared-inside : (k sectors : ℕ) → shares kind R ≡ true → k < per_sector R * sectors → (place_of kind R k).sector < sectors
  shared-inside k sectors h l = rw (place-shared kind R k h) (sector-inside R pos (shared-small h) k sectors l)

  pub span-inside : (k sectors : ℕ) → k < capacity kind R sectors → byte_of (place_of kind R k) + span_of kind R k ≤ sector * sectors
  span-inside k sectors l = either (shares kind R) shared whole
    where
      shared : shares kind R ≡ true → byte_of (place_of kind R k) + span_of kind R k ≤ sector * sectors
      shared h = by_kind kind
          (λ (e : kind ≡ blocked).
          let m : k < min (per_sector R * sectors) most_records = rw (capacity-blocked kind R sectors e) at l in
          rw (span-blocked kind R k e) (omega (arith, byte-shared h k, shared-inside k sectors h (omega arith))))
          (λ (n : ¬ (kind ≡ blocked)).
          let m : k < per_sector R * sectors = rw (capacity-shared kind R sectors h n) at l in
          rw (span-straight kind R k n, bytes-shared kind R h) (omega (arith, byte-shared h k, shared-inside k sectors h m)))

      whole : shares kind R ≡ false → byte_of (place_of kind R k) + span_of kind R k ≤ sector * sectors
      whole h =
          let n : ¬ (kind ≡ blocked) = λ (e : kind ≡ blocked). both_ways (shares kind R) (blocked-shares kind R e) h in
          let m : k < sectors / sectors_for R = rw (capacity-whole kind R sectors h) at l in
          rw (span-straight kind R k n, bytes_whole kind R h, place-whole kind R k h) (omega (arith, whole-inside R k sectors pos m))

  pub record-inside : (k sectors : ℕ) → k < capacity kind R sectors → byte_of (place_of kind R k) + R ≤ sector * sectors
  record-inside k sectors h = omega (arith, span-inside k sectors h, span-holds k)

  -- one at the capacity or over it does not lie in the extent, unless a blocked file's count ends first
  pub record-outside : ¬ (kind ≡ blocked) → (k sectors : ℕ) → capacity kind R sectors ≤ k → sector * sectors < byte_of (place_of kind R k) + R
  record-outside n k sectors l = either (shares kind R)
      (λ (h : shares kind R ≡ true).
      let m : per_sector R * sectors ≤ k = rw (capacity-shared kind R sectors h n) at l in
      rw (place-shared kind R k h) (omega (arith, sector-outside R pos (shared-small h) k sectors m)))
      (λ (h : shares kind R ≡ false).
      let m : sectors / sectors_for R ≤ k = rw (capacity-whole kind R sectors h) at l in
      rw (place-whole kind R k h) (omega (arith, whole-outside R k sectors pos m, needs-sectors R pos)))

  pub sector-below : (k sectors : ℕ) → k < capacity kind R sectors → (place_of kind R k).sector < sectors
  sector-below k sectors h = omega (arith, record-inside k sectors h)

  -- a write of a record touches no earlier record
  pub earlier-apart : (j k : ℕ) → j < k → Apart (byte_of (place_of kind R j)) R (byte_of (place_of kind R k)) (span_of kind R k)
  earlier-apart j k h = omega (arith, record-order j k h)

  -- what two records take, in order
  bytes-order : (j k : ℕ) → j < k → byte_of (place_of kind R j) + bytes_for kind R ≤ byte_of (place_of kind R k)
  bytes-order j k l = either (shares kind R)
      (λ (h : shares kind R ≡ true). rw (bytes-shared kind R h) (record-order j k l))
      (λ (h : shares kind R ≡ false). rw (bytes_whole kind R h, place-whole kind R j h, place-whole kind R k h) (omega (arith, later-whole R j k l)))

  -- where a write changes what a record takes and no more, it touches no other at all
  pub spans_apart : (j k : ℕ) → ¬ (kind ≡ blocked) → ¬ (j ≡ k) → Apart (byte_of (place_of kind R j)) (span_of kind R j) (byte_of (place_of kind R k)) (span_of kind R k)
  spans_apart j k n d = rw (span-straight kind R j n, span-straight kind R k n) (go (dec_lt j k))
    where
      go : Dec (j < k) → Apart (byte_of (place_of kind R j)) (bytes_for kind R) (byte_of (place_of kind R k)) (bytes_for kind R)
      go (yes l) = omega (arith, bytes-order j k l)
      go (no l) = omega (arith, bytes-order k j (omega arith))

-- the capacity of a file that counts its records is a word
pub capacity-word : (kind R sectors : ℕ) → ¬ (kind ≡ random) → sectors ≤ most_records → capacity kind R sectors ≤ most_records
capacity-word kind R sectors r h = by_kind kind
    (λ (e : kind ≡ blocked). rw (capacity-blocked kind R sectors e) (omega arith))
    (λ (n : ¬ (kind ≡ blocked)). rw (capacity-whole kind R sectors (others-whole kind R n r)) (omega (arith, div-le_self sectors (sectors_for R))))

-- ---- bounds, for any kind, length and number: a record takes at most 183 sectors, and 65,535 bytes

pub sector-most : (kind R k : ℕ) → R ≤ 65535 → (place_of kind R k).sector ≤ 183 * k
unfolding sectors_for
sector-most kind R k l = either (shares kind R)
    (λ (h : shares kind R ≡ true). rw (place-shared kind R k h) (omega (arith, div-le_self k (per_sector R))))
    (λ (h : shares kind R ≡ false). rw (place-whole kind R k h) (mul-le-mul_right k (omega arith)))

pub byte-most : (kind R k : ℕ) → R ≤ 65535 → (place_of kind R k).byte ≤ k * 65535
byte-most kind R k l = either (shares kind R)
    (λ (h : shares kind R ≡ true). rw (place-shared kind R k h) (mul-le-mul (mod-le k (per_sector R)) l))
    (λ (h : shares kind R ≡ false). rw (place-whole kind R k h) (omega arith))

-- ---- granules, once over R

module _ (R : ℕ) (pos : 0 < R) where
  no-blocked : ¬ (random ≡ blocked)
  no-blocked e = absurd (omega arith)

  -- they do not overlap
  pub granules-apart : (g h : ℕ) → ¬ (g ≡ h) → Apart (byte_of (place_of random R g)) R (byte_of (place_of random R h)) R
  granules-apart g h d =
      omega (arith, spans_apart random R pos (λ e. absurd (no-blocked e)) g h no-blocked d, span-holds random R pos (λ e. absurd (no-blocked e)) g, span-holds random R pos (λ e. absurd (no-blocked e)) h)

  -- those of at most 180 bytes lie in their sector, before the 360 − q·R bytes that belong to none
  pub granule-before : R ≤ most_shared → (g : ℕ) → (place_of random R g).byte + R ≤ per_sector R * R
  granule-before h g = rw (place-shared random R g (granules-share R h)) (ends-before R pos (omega arith) g)

  pub before-end : per_sector R * R ≤ sector
  unfolding per_sector
  before-end = div-mul-le_self 360 R

  -- and every one below the capacity lies in the extent, and no other
  pub granule-inside : (g sectors : ℕ) → g < capacity random R sectors → byte_of (place_of random R g) + R ≤ sector * sectors
  granule-inside g sectors h = record-inside random R pos (λ e. absurd (no-blocked e)) g sectors h

  pub granule-outside : (g sectors : ℕ) → capacity random R sectors ≤ g → sector * sectors < byte_of (place_of random R g) + R
  granule-outside g sectors h = record-outside random R pos (λ e. absurd (no-blocked e)) no-blocked g sectors h

-- ---- an image of lawful length

-- bytes are whole sectors exactly if as many as there are fill them
pub whole-fills : (n : ℕ) → eqb (sector * (n / sector)) n ≡ eqb (n % sector) 0
whole-fills n = either (eqb (n % 360) 0)
    (λ (t : eqb (n % 360) 0 ≡ true). let z : n % 360 ≡ 0 = eqb-true (n % 360) 0 t in eq-eqb (360 * (n / 360)) n (omega arith) ∙ sym t)
    (λ (t : eqb (n % 360) 0 ≡ false). let z : ¬ (n % 360 ≡ 0) = eqb-false (n % 360) 0 t in ne_eqb (360 * (n / 360)) n (λ (h : 360 * (n / 360) ≡ n). z (omega arith)) ∙ sym t)

module _ (image : List ℕ) (h : lawful_length image ≡ true) where
  pub lawful-whole : length image ≡ sector * sectors_of image
  unfolding lawful_length sectors_of
  lawful-whole =
      let z : length image % 360 ≡ 0 = eqb-true (length image % 360) 0 (and_left (eqb (length image % 360) 0) (leb 1 (length image / 360) && leb (length image / 360) 4096) h) in
      omega arith

  rest : leb 1 (sectors_of image) && leb (sectors_of image) most_sectors ≡ true
  unfolding lawful_length
  rest = and_right (eqb (length image % 360) 0) (leb 1 (sectors_of image) && leb (sectors_of image) most_sectors) h

  pub lawful-some : 1 ≤ sectors_of image
  lawful-some = leb-true 1 (sectors_of image) (and_left (leb 1 (sectors_of image)) (leb (sectors_of image) most_sectors) rest)

  pub lawful-most : sectors_of image ≤ most_sectors
  lawful-most = leb-true (sectors_of image) most_sectors (and_right (leb 1 (sectors_of image)) (leb (sectors_of image) most_sectors) rest)

pub lawful-from : (image : List ℕ) (N : ℕ) → length image ≡ sector * N → 1 ≤ N → N ≤ most_sectors → (sectors_of image ≡ N) × (lawful_length image ≡ true)
unfolding lawful_length sectors_of
lawful-from image N e l m =
    let n : length image / 360 ≡ N = omega arith in (
      n,
      and_both (eqb (length image % 360) 0) (leb 1 (length image / 360) && leb (length image / 360) 4096) (eq-eqb (length image % 360) 0 (omega arith))
          (and_both (leb 1 (length image / 360)) (leb (length image / 360) 4096) (le-leb 1 (length image / 360) (omega arith)) (le-leb (length image / 360) 4096 (omega arith))),
    )
