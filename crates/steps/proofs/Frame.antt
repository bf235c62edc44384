-- What effects done straight in the image change, where they suit the file: bytes 16-19 of its entry and its extent, and the extent
-- as they change the file's own bytes. Each effect lays bytes in one place.
use mathlib.Core.Path.{◌≡◌, refl, ap, ◌∙◌}
use mathlib.Core.Logic.{◌⊎◌, inl, inr}
use mathlib.Core.List.{List, [], ◌∷◌, map}
use mathlib.Core.Bool.{Bool, true, false, ◌&&◌}
use Prim.Native.Nat.{ℕ, ◌+◌, ◌*◌, ◌%◌, ◌≤◌, ◌<◌, min, max}
use native.Mathlib.Omega.{arith}
use lib.Dec.{ltb}
use lib.ListN.{length, get_or}
use Rattle.geometry.specs.Sizes.{sector, entries, entry_size, blocked, compressed}
use Rattle.geometry.specs.Bytes.{lay}
use Rattle.geometry.specs.Places.{per_sector, small_granules, reach_of, byte_of}
use Rattle.geometry.proofs.Bytes.{Apart, length-lay, get_or-lay-out, part-lay-apart, part-lay-within, same_parts}
use Rattle.geometry.proofs.Places.{reach-small, reach-whole}
use Rattle.geometry.proofs.Tests.{either, both_ways}
use Rattle.coding.specs.Encode.{code_of}
use Rattle.directory.specs.Entries.{table_of, is_kind}
use Rattle.directory.proofs.Table.{table-lay}
use Rattle.packing.specs.Placing.{Change, changes}
use Rattle.packing.specs.Reading.{goes_on}
use Rattle.sessions.specs.Session.{extent}
use Rattle.steps.specs.Effects.{Effect, hold, change, store, stamp, put_back, sector_at, laid_in, read_effects, store_effect, blocked_effect, write_effects, effects, plain_do, plain_all}
use Rattle.steps.specs.Next.{Scene}
use Rattle.steps.proofs.Inside.{Before, Suits, AllSuit, no-small}
use Rattle.steps.proofs.Lawful.{own_do, own_all}
use Rattle.directory.specs.declared.Entry.{Entry}
use Rattle.requests.specs.declared.Order.TheVariants.{WriteMark, RewindOnline, RewindOffline, RecordForward, RecordBack, FileForward, FileBack}
use Rattle.requests.specs.declared.Request.{Request}
use Rattle.requests.specs.declared.Request.TheVariants.{Open, Read, Write, GranuleRead, GranuleWrite, GranuleLook, Position}

module _ (c : Scene) where
  abbrev e : Entry
  e = c.entry

  -- ---- the length stays

  one-length : (x : Effect) (image : List ℕ) → length (plain_do c x image) ≡ length image
  unfolding plain_do
  one-length (hold k) image = refl
  one-length (change x) image = length-lay image _ x.bytes
  one-length (store x) image = length-lay image _ x.bytes
  one-length (stamp xs) image = length-lay image _ xs
  one-length put_back image = refl

  pub length-plain : (xs : List Effect) (image : List ℕ) → length (plain_all c xs image) ≡ length image
  unfolding plain_all
  length-plain [] image = refl
  length-plain (x ∷ xs) image = length-plain xs (plain_do c x image) ∙ one-length x image

  -- ---- bytes beside

  -- byte j is none of bytes 16-19 of the entry, and none of the extent, or one of those at a sector's end that belong to no granule
  pub record Beside (j : ℕ) : Type 0 where
    pub entry : Apart j 1 (entry_size * c.number + 16) 4
    pub extent : Apart j 1 (sector * e.first) (sector * e.sectors) ⊎ (reach_of e.kind e.length ≤ j % sector)

  -- what is laid in the extent lies off it: a small granule before it, or in another sector
  laid_beside : (x : Change) → byte_of x.place + length x.bytes ≤ sector * e.sectors → Before e x → (image : List ℕ) (j : ℕ) → Beside j
      → get_or (laid_in e x image) j 0 ≡ get_or image j 0
  laid_beside x h b image j o = get_or-lay-out image _ x.bytes j 0 (go o.extent)
    where
      go : Apart j 1 (sector * e.first) (sector * e.sectors) ⊎ (reach_of e.kind e.length ≤ j % sector)
          → Apart j 1 (sector_at e x.place.sector + x.place.byte) (length x.bytes)
      go (inl a) = omega arith
      go (inr l) = either (small_granules e.kind e.length)
          (λ (g : small_granules e.kind e.length ≡ true).
          let m : per_sector e.length * e.length ≤ j % sector = rw (reach-small e.kind e.length g) at l in
          omega (arith, b g))
          (λ (g : small_granules e.kind e.length ≡ false). absurd (omega (arith, reach-whole e.kind e.length g)))

  one-beside : (x : Effect) → Suits e x → (image : List ℕ) (j : ℕ) → Beside j → get_or (plain_do c x image) j 0 ≡ get_or image j 0
  unfolding plain_do
  one-beside (hold k) s image j o = refl
  one-beside (change x) s image j o = laid_beside x (omega (arith, s.1, s.2)) (λ g. both_ways _ g (no-small e s.0)) image j o
  one-beside (store x) s image j o = laid_beside x s.1 s.2 image j o
  one-beside (stamp xs) s image j o = get_or-lay-out image _ xs j 0 (omega (arith, o.entry))
  one-beside put_back s image j o = refl

  pub beside-plain : (xs : List Effect) → AllSuit e xs → (image : List ℕ) (j : ℕ) → Beside j → get_or (plain_all c xs image) j 0 ≡ get_or image j 0
  unfolding plain_all
  beside-plain [] s image j o = refl
  beside-plain (x ∷ xs) s image j o = beside-plain xs s.1 (plain_do c x image) j o ∙ one-beside x s.0 image j o

  -- another extent, behind the directory
  pub other-plain : (xs : List Effect) → AllSuit e xs → c.number < entries → (d : Entry) → 1 ≤ d.first
      → min (e.first + e.sectors) (d.first + d.sectors) ≤ max e.first d.first → (image : List ℕ) → extent d (plain_all c xs image) ≡ extent d image
  unfolding extent
  other-plain xs h few d low apart image = same_parts (plain_all c xs image) image _ _ (length-plain xs image) λ j l.
      beside-plain xs h image (sector * d.first + j) (record { entry = omega arith; extent = inl (omega arith) })

  -- ---- the extent

  module _ (few : c.number < entries) (low : 1 ≤ e.first) where
    laid-own : (x : Change) → byte_of x.place + length x.bytes ≤ sector * e.sectors → (image : List ℕ)
        → extent e (laid_in e x image) ≡ lay (extent e image) (byte_of x.place) x.bytes
    unfolding extent
    laid-own x h image =
        let z : sector_at e x.place.sector + x.place.byte ≡ sector * e.first + byte_of x.place = omega arith in
        rw z (part-lay-within image (sector * e.first) (sector * e.sectors) (byte_of x.place) x.bytes h)

    one-own : (x : Effect) → Suits e x → (image : List ℕ) → extent e (plain_do c x image) ≡ own_do x (extent e image)
    unfolding plain_do own_do extent
    one-own (hold k) h image = refl
    one-own (change x) h image = laid-own x (omega (arith, h.1, h.2)) image
    one-own (store x) h image = laid-own x h.1 image
    one-own (stamp xs) h image = part-lay-apart image (entry_size * c.number + 16) xs (sector * e.first) (sector * e.sectors) (omega arith)
    one-own put_back h image = refl

    pub own-plain : (xs : List Effect) → AllSuit e xs → (image : List ℕ) → extent e (plain_all c xs image) ≡ own_all xs (extent e image)
    unfolding plain_all own_all
    own-plain [] s image = refl
    own-plain (x ∷ xs) s image = own-plain xs s.1 (plain_do c x image) ∙ ap (own_all xs) (one-own x s.0 image)

-- ---- the directory

abbrev pub Unstamped : List Effect → Type 0
Unstamped [] = record {}
Unstamped (hold k ∷ xs) = Unstamped xs
Unstamped (change x ∷ xs) = Unstamped xs
Unstamped (store y ∷ xs) = Unstamped xs
Unstamped (stamp ys ∷ xs) = ⊥
Unstamped (put_back ∷ xs) = Unstamped xs

pub table-plain : (c : Scene) → 1 ≤ c.entry.first → (xs : List Effect) → Unstamped xs → (image : List ℕ) → table_of (plain_all c xs image) ≡ table_of image
unfolding plain_all plain_do
table-plain c low [] u image = refl
table-plain c low (hold k ∷ xs) u image = table-plain c low xs u image
table-plain c low (change x ∷ xs) u image = table-plain c low xs u _ ∙ table-lay image _ x.bytes (omega arith)
table-plain c low (store y ∷ xs) u image = table-plain c low xs u _ ∙ table-lay image _ y.bytes (omega arith)
table-plain c low (stamp ys ∷ xs) u image = absurd u
table-plain c low (put_back ∷ xs) u image = table-plain c low xs u image

pub all-changes : (xs : List Change) → Unstamped (map change xs)
all-changes [] = record {}
all-changes (x ∷ xs) = all-changes xs

-- of both cases
pub choice : (P : List Effect → Type 0) (b : Bool) {xs ys : List Effect} → P xs → P ys → P (elim b [ true ↦ xs | false ↦ ys ])
choice P true p q = p
choice P false p q = q

pub read-unstamped : (c : Scene) → Unstamped (read_effects c)
unfolding read_effects
read-unstamped c = choice Unstamped (is_kind blocked c.entry) (record {}) (choice Unstamped (is_kind compressed c.entry) (choice Unstamped (goes_on c.bytes c.file.here && ltb c.file.here.byte sector) (record {}) (record {})) (record {}))

pub write-unstamped : (c : Scene) → Unstamped (write_effects c)
unfolding write_effects blocked_effect store_effect
write-unstamped c = choice Unstamped (is_kind blocked c.entry) (record {}) (choice Unstamped (is_kind compressed c.entry) (all-changes (changes c.file.here (code_of c.entry.length c.given))) (record {}))

-- a close stamps the entry, and nothing else does
pub stamps-or : (q : Request) → (q ≡ Position RewindOffline) ⊎ ((c : Scene) → Unstamped (effects q c))
unfolding effects store_effect
stamps-or Open = inr λ c. record {}
stamps-or Read = inr read-unstamped
stamps-or Write = inr write-unstamped
stamps-or (GranuleRead g) = inr λ c. record {}
stamps-or (GranuleWrite g) = inr λ c. record {}
stamps-or (GranuleLook g) = inr λ c. record {}
stamps-or (Position WriteMark) = inr λ c. record {}
stamps-or (Position RewindOnline) = inr λ c. record {}
stamps-or (Position RewindOffline) = inl refl
stamps-or (Position RecordForward) = inr λ c. record {}
stamps-or (Position RecordBack) = inr λ c. record {}
stamps-or (Position FileForward) = inr λ c. record {}
stamps-or (Position FileBack) = inr λ c. record {}
