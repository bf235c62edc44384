-- What a request lays in an image of bytes is bytes, where the bytes given are.
use mathlib.Core.Path.{◌≡◌, refl, ◌∙◌}
use mathlib.Core.Bool.{Bool, true, false, ◌&&◌}
use mathlib.Core.List.{List, [], ◌∷◌, ◌++◌, map}
use Prim.Native.Nat.{ℕ, zero, suc, ◌+◌, ◌-◌, ◌%◌, ◌/◌, ◌≤◌, ◌<◌}
use native.Mathlib.Omega.{arith}
use lib.Dec.{leb, ltb}
use lib.ListN.{length, take, drop, replicate}
use lib.Seq.{length-take-le}
use borrow.Author.Tests.{lt-ltb}
use Rattle.geometry.specs.Bytes.{part, lay, padded, word, is_byte}
use Rattle.geometry.specs.Lists.{every}
use Rattle.geometry.specs.Sizes.{sector, blocked, compressed, blank}
use Rattle.geometry.proofs.Bytes.{fits_or, lay-fits}
use Rattle.geometry.proofs.Tests.{and_left, and_right, and_both, every-replicate}
use Rattle.geometry.specs.declared.Place.{Place}
use Rattle.coding.specs.Encode.{keeps, in_gap, run_length, run_code, runs_code, encode, code_of}
use Rattle.coding.proofs.Runs.{run-le}
use Rattle.directory.specs.Entries.{is_kind}
use Rattle.directory.specs.Stamp.{stamp_bytes}
use Rattle.directory.specs.declared.Entry.{Entry}
use Rattle.tables.specs.Tables.{one_word_wide, count_of, entry_of}
use Rattle.directory.proofs.Free.{every_append}
use Rattle.packing.specs.Placing.{filled, changes, fits_here}
use Rattle.packing.specs.Reading.{next_sector, goes_on}
use Rattle.steps.specs.Effects.{Effect, hold, change, store, stamp, put_back, read_effects, store_effect, blocked_effect, write_effects, effects, plain_do, plain_all}
use Rattle.steps.specs.Next.{Scene}
use Rattle.requests.specs.declared.Order.TheVariants.{WriteMark, RewindOnline, RewindOffline, RecordForward, RecordBack, FileForward, FileBack}
use Rattle.requests.specs.declared.Request.{Request}
use Rattle.requests.specs.declared.Request.TheVariants.{Open, Read, Write, GranuleRead, GranuleWrite, GranuleLook, Position}
use Rattle.steps.proofs.Frame.{choice}
use Rattle.demands.specs.Engine.{are_bytes}

abbrev pub Bytes : List ℕ → Type 0
Bytes xs = are_bytes xs ≡ true

byte-is : (x : ℕ) → x < 256 → is_byte x ≡ true
byte-is x h = lt-ltb x 256 h

-- ---- parts of bytes, and bytes laid

both_bytes : (xs ys : List ℕ) → Bytes xs → Bytes ys → Bytes (xs ++ ys)
both_bytes xs ys h k = every_append is_byte xs ys ∙ and_both (are_bytes xs) (are_bytes ys) h k

every_take : (n : ℕ) (xs : List ℕ) → Bytes xs → Bytes (take n xs)
unfolding every
every_take zero xs h = refl
every_take (suc n) [] h = refl
every_take (suc n) (x ∷ xs) h = and_both (is_byte x) _ (and_left (is_byte x) (every is_byte xs) h) (every_take n xs (and_right (is_byte x) (every is_byte xs) h))

every_drop : (n : ℕ) (xs : List ℕ) → Bytes xs → Bytes (drop n xs)
unfolding every
every_drop zero xs h = h
every_drop (suc n) [] h = refl
every_drop (suc n) (x ∷ xs) h = every_drop n xs (and_right (is_byte x) (every is_byte xs) h)

pub part_bytes : (xs : List ℕ) (at n : ℕ) → Bytes xs → Bytes (part xs at n)
unfolding part
part_bytes xs at n h = every_take n (drop at xs) (every_drop at xs h)

pub lay-bytes : (img : List ℕ) (at : ℕ) (xs : List ℕ) → Bytes img → Bytes xs → Bytes (lay img at xs)
lay-bytes img at xs h k = fits_or img at xs
    (λ l. rw (lay-fits img at xs l)
    (both_bytes (take at img) (xs ++ drop (at + length xs) img) (every_take at img h)
    (both_bytes xs (drop (at + length xs) img) k (every_drop (at + length xs) img h))))
    (λ l e. rw e h)

padded-bytes : (b n : ℕ) (xs : List ℕ) → b < 256 → Bytes xs → Bytes (padded b n xs)
unfolding padded
padded-bytes b n xs l h = both_bytes xs (replicate (n - length xs) b) h (every-replicate is_byte (n - length xs) b (byte-is b l))

word_bytes : (n : ℕ) → n < 65536 → Bytes (word n)
unfolding word every
word_bytes n h = and_both (is_byte (n / 256)) _ (byte-is (n / 256) (omega arith)) (and_both (is_byte (n % 256)) true (byte-is (n % 256) (omega arith)) refl)

stamp-bytes : (count flags : ℕ) → flags < 65536 → Bytes (stamp_bytes count flags)
unfolding stamp_bytes
stamp-bytes count flags h = both_bytes (word (count % 65536)) (word flags) (word_bytes (count % 65536) (omega arith)) (word_bytes flags h)

-- the bytes of an entry whose numbers are words
pub entry-bytes : (e : Entry) → Bytes e.name → e.kind < 65536 → e.length < 65536 → e.first < 65536 → e.sectors < 65536 → e.flags < 65536 → Bytes (entry_of one_word_wide e)
unfolding entry_of count_of stamp_bytes
entry-bytes e h k l f s g =
    both_bytes e.name _ h
    (both_bytes (word e.kind) _ (word_bytes e.kind k)
    (both_bytes (word e.length) _ (word_bytes e.length l)
    (both_bytes (word e.first) _ (word_bytes e.first f)
    (both_bytes (word e.sectors) _ (word_bytes e.sectors s) (stamp-bytes e.count e.flags g)))))

-- ---- the code of a record

run-bytes : (gap : Bool) (xs : List ℕ) → length xs ≤ 127 → Bytes xs → Bytes (run_code gap xs)
unfolding run_code every
run-bytes true xs l h = and_both (is_byte (128 + length xs)) true (byte-is (128 + length xs) (omega arith)) refl
run-bytes false xs l h = and_both (is_byte (length xs)) (every is_byte xs) (byte-is (length xs) (omega arith)) h

runs-bytes : (s : List ℕ) (k q : ℕ) → Bytes s → Bytes (runs_code k q s)
unfolding runs_code every
runs-bytes [] zero q h = refl
runs-bytes [] (suc k) q h = refl
runs-bytes (c ∷ s) (suc k) q h = runs-bytes s k c (and_right (is_byte c) (every is_byte s) h)
runs-bytes (c ∷ s) zero q h =
    let gap = in_gap q c s in
    let n = run_length 127 gap q (c ∷ s) in
    let le = run-le 127 gap q (c ∷ s) in
    let l : length (take n (c ∷ s)) ≡ n = length-take-le n (c ∷ s) le.1 in
    both_bytes (run_code gap (take n (c ∷ s))) (runs_code (n - 1) c s) (run-bytes gap (take n (c ∷ s)) (omega arith) (every_take n (c ∷ s) h))
    (runs-bytes s (n - 1) c (and_right (is_byte c) (every is_byte s) h))

code-bytes : (R : ℕ) (given : List ℕ) → Bytes given → Bytes (code_of R given)
unfolding code_of encode
code-bytes R given h =
    let x : List ℕ = padded blank R given in
    runs-bytes (take (keeps (length x) x) x) 0 0 (every_take (keeps (length x) x) x (padded-bytes blank R given (omega arith) h))

-- ---- effects

abbrev pub InBytes : Effect → Type 0
InBytes (hold k) = record {}
InBytes (change x) = Bytes x.bytes
InBytes (store x) = Bytes x.bytes
InBytes (stamp xs) = Bytes xs
InBytes put_back = record {}

abbrev pub AllInBytes : List Effect → Type 0
AllInBytes [] = record {}
AllInBytes (x ∷ xs) = InBytes x × AllInBytes xs

filled-bytes : (p : Place) (xs : List ℕ) → Bytes xs → Bytes (filled p xs).bytes
unfolding filled
filled-bytes p xs h = padded-bytes 128 (sector - p.byte) xs (omega arith) h

changes-bytes : (p : Place) (code : List ℕ) → Bytes code → AllInBytes (map change (changes p code))
unfolding changes every
changes-bytes p code h = go (fits_here p (length code)) (leb sector p.byte)
  where
    go : (a b : Bool)
        → AllInBytes (map change (elim a [
          | true ↦ filled p code ∷ []
          | false ↦
              elim b [
                | true ↦ filled (next_sector p) code ∷ []
                | false ↦ filled p [] ∷ filled (next_sector p) code ∷ []
              ]
        ]))
    go true b = (filled-bytes p code h, record {})
    go false true = (filled-bytes (next_sector p) code h, record {})
    go false false = (filled-bytes p [] refl, (filled-bytes (next_sector p) code h, record {}))

module _ (c : Scene) where
  read-bytes : AllInBytes (read_effects c)
  unfolding read_effects
  read-bytes = go (is_kind blocked c.entry) (is_kind compressed c.entry) (goes_on c.bytes c.file.here && ltb c.file.here.byte sector) _ _ _
    where
      go : (a b d : Bool) (j k l : ℕ) → AllInBytes (elim a [ true ↦ hold j ∷ [] | false ↦ elim b [ true ↦ elim d [ true ↦ hold k ∷ hold l ∷ [] | false ↦ hold l ∷ [] ] | false ↦ [] ] ])
      go true b d j k l = (record {}, record {})
      go false true true j k l = (record {}, (record {}, record {}))
      go false true false j k l = (record {}, record {})
      go false false d j k l = record {}

  module _ (h : Bytes c.given) where
    store_bytes : (k : ℕ) → InBytes (store_effect c k)
    unfolding store_effect
    store_bytes k = padded-bytes 0 _ c.given (omega arith) h

    blocked-bytes : InBytes (blocked_effect c)
    unfolding blocked_effect
    blocked-bytes = padded-bytes 0 _ c.given (omega arith) h

    write_bytes : AllInBytes (write_effects c)
    unfolding write_effects
    write_bytes = choice AllInBytes (is_kind blocked c.entry) (blocked-bytes, record {})
        (choice AllInBytes (is_kind compressed c.entry) (changes-bytes c.file.here _ (code-bytes c.entry.length c.given h)) (store_bytes c.file.position, record {}))

    pub effects-bytes : c.entry.flags < 65536 → (q : Request) → AllInBytes (effects q c)
    unfolding effects
    effects-bytes f Open = record {}
    effects-bytes f Read = read-bytes
    effects-bytes f Write = write_bytes
    effects-bytes f (GranuleRead g) = record {}
    effects-bytes f (GranuleWrite g) = (store_bytes g, record {})
    effects-bytes f (GranuleLook g) = record {}
    effects-bytes f (Position WriteMark) = (record {}, record {})
    effects-bytes f (Position RewindOnline) = (record {}, record {})
    effects-bytes f (Position RewindOffline) = (record {}, (stamp-bytes c.entry.count c.entry.flags f, record {}))
    effects-bytes f (Position RecordForward) = record {}
    effects-bytes f (Position RecordBack) = record {}
    effects-bytes f (Position FileForward) = (record {}, record {})
    effects-bytes f (Position FileBack) = (record {}, record {})

-- ---- straight in the image

pub plain-bytes : (c : Scene) (xs : List Effect) → AllInBytes xs → (image : List ℕ) → Bytes image → Bytes (plain_all c xs image)
unfolding plain_all
plain-bytes c [] h image b = b
plain-bytes c (x ∷ xs) h image b = plain-bytes c xs h.1 (plain_do c x image) (one x h.0)
  where
    one : (x : Effect) → InBytes x → Bytes (plain_do c x image)
    one (hold k) h = unfold plain_do in b
    one (change x) h = unfold plain_do in lay-bytes image _ x.bytes b h
    one (store x) h = unfold plain_do in lay-bytes image _ x.bytes b h
    one (stamp xs) h = unfold plain_do in lay-bytes image _ xs b h
    one put_back h = unfold plain_do in b
