-- A request keeps an image and a session as their types say: what is laid in the image or in a buffer is bytes, and a buffer is a whole sector.
use mathlib.Core.Path.{◌≡◌, refl, ◌∙◌}
use mathlib.Core.Bool.{true, false, ◌&&◌}
use mathlib.Core.List.{List, [], ◌∷◌, map}
use Prim.Native.Nat.{ℕ, ◌+◌, ◌*◌, ◌≤◌, ◌<◌}
use native.Mathlib.Omega.{arith}
use lib.Dec.{eqb}
use lib.ListN.{length, set}
use borrow.Author.Tests.{eqb-true, ne_eqb}
use Rattle.geometry.specs.Bytes.{lay}
use Rattle.geometry.specs.Lists.{every}
use Rattle.geometry.specs.Sizes.{sector, blocked, compressed}
use Rattle.geometry.proofs.Bytes.{length-lay, length_part}
use Rattle.geometry.proofs.Tests.{either, and_left, and_right, and_both, or-either, every_any, every_set}
use Rattle.directory.specs.Entries.{entry_at, is_free, is_kind}
use Rattle.sessions.specs.Session.{idle, fresh, unheld, has_buffer, typed}
use Rattle.steps.specs.Effects.{Effect, hold, change, store, stamp, put_back, plain_do, sector_at, Bench, putting_back, loaded, taking, working, buffered_do, buffered_all}
use Rattle.steps.specs.Next.{Scene}
use Rattle.steps.specs.Step.{held_of, kept}
use Rattle.steps.proofs.Buffer.{back-cases}
use Rattle.steps.proofs.Inside.{Suits, AllSuit}
use Rattle.steps.proofs.Standing.{Standing, is_open, is_shut, standing, kept-used, kept-unused}
use Rattle.settling.proofs.Kept.{buffer-length, typed-set}
use Rattle.demands.specs.Engine.{are_bytes, sound}
use Rattle.demands.proofs.Bytes.{Bytes, part_bytes, lay-bytes, InBytes, AllInBytes}
use Rattle.directory.specs.declared.Entry.{Entry}
use Rattle.sessions.specs.declared.BufferedFile.{BufferedFile}
use Rattle.sessions.specs.declared.BufferedSession.{BufferedSession}
use Rattle.sessions.specs.declared.OpenFile.{OpenFile}
use Rattle.sessions.specs.declared.Session.{Session}

-- ---- a buffer: a whole sector of bytes

pub record Whole (b : BufferedFile) : Type 0 where
  pub size : length b.buffer ≡ sector
  pub bytes : Bytes b.buffer

fresh-bytes : (f : OpenFile) → Bytes (fresh f).buffer
unfolding every
fresh-bytes f = refl

kept_whole : (f : OpenFile) (b : BufferedFile) → Whole b → Whole (kept f b)
kept_whole f b w = either f.used
    (λ (u : f.used ≡ true). rw (kept-used f b u) (record { size = w.size; bytes = w.bytes }))
    (λ (u : f.used ≡ false). rw (kept-unused f b u) (record { size = refl; bytes = fresh-bytes f }))

pub held-size : (s : BufferedSession) → typed s ≡ true → (i : ℕ) → length (held_of s i).buffer ≡ sector
held-size s t i = go (standing s i)
  where
    go : Standing s i → length (held_of s i).buffer ≡ sector
    go (is_open k o) = rw o.buffer (buffer-length s t k)
    go (is_shut z) = rw z.buffer

-- an entry that has one is not free
pub buffer-used : (e : Entry) → has_buffer e ≡ true → is_free e ≡ false
buffer-used e kind = or-either (is_kind blocked e) (is_kind compressed e) kind
    (λ (b : is_kind blocked e ≡ true). ne_eqb e.kind 0 (omega (arith, eqb-true e.kind blocked b)))
    (λ (z : is_kind compressed e ≡ true). ne_eqb e.kind 0 (omega (arith, eqb-true e.kind compressed z)))

-- ---- what `sound` says

module _ (image : List ℕ) (s : BufferedSession) where
  module _ (h : sound image s ≡ true) where
    pub sound-image : Bytes image
    unfolding sound
    sound-image = and_left (are_bytes image) _ h

    pub sound-typed : typed s ≡ true
    unfolding sound
    sound-typed = and_left (typed s) _ (and_right (are_bytes image) _ h)

    pub sound-buffers : every (λ b. are_bytes b.buffer) s.files ≡ true
    unfolding sound
    sound-buffers = and_right (typed s) _ (and_right (are_bytes image) _ h)

    held_bytes : (i : ℕ) → Bytes (held_of s i).buffer
    held_bytes i = go (standing s i)
      where
        go : Standing s i → Bytes (held_of s i).buffer
        go (is_open k o) = rw o.buffer (every_any (λ b. are_bytes b.buffer) s.files k (fresh idle) sound-buffers (fresh-bytes idle))
        go (is_shut z) = rw z.buffer (fresh-bytes idle)

    pub held_whole : (i : ℕ) → Whole (held_of s i)
    held_whole i = record { size = held-size s sound-typed i; bytes = held_bytes i }

    -- another image of bytes, another entry of the same name, and another state with a buffer
    pub sound-next : (x : List ℕ) → Bytes x → (i : ℕ) (a : Entry) → a.name ≡ (entry_at s.table i).name → (k : ℕ) (f : OpenFile) (b : BufferedFile) → Whole b
        → sound x (record { says = s.says; table = set s.table i a; files = set s.files k (kept f b) }) ≡ true
    unfolding sound
    sound-next x y i a n k f b w =
        let z : Whole (kept f b) = kept_whole f b w in
        and_both (are_bytes x) _ y
        (and_both (typed (record { says = s.says; table = set s.table i a; files = set s.files k (kept f b) })) _ (typed-set s sound-typed i a k (kept f b) n z.size)
        (every_set (λ c. are_bytes c.buffer) s.files k (kept f b) sound-buffers z.bytes))

  pub sound-of : Bytes image → typed s ≡ true → every (λ b. are_bytes b.buffer) s.files ≡ true → sound image s ≡ true
  unfolding sound
  sound-of b t f = and_both (are_bytes image) _ b (and_both (typed s) _ t f)

-- a plain session has fresh buffers
all-fresh : (files : List OpenFile) → every (λ b. are_bytes b.buffer) (map fresh files) ≡ true
unfolding every
all-fresh [] = refl
all-fresh (f ∷ files) = and_both (are_bytes (fresh f).buffer) _ (fresh-bytes f) (all-fresh files)

pub unheld-sound : (image : List ℕ) (s : Session) → Bytes image → typed (unheld s) ≡ true → sound image (unheld s) ≡ true
unfolding unheld
unheld-sound image s b t = sound-of image (unheld s) b t (all-fresh s.files)

-- ---- the image and one buffer

pub record SoundBench (e : Entry) (w : Bench) : Type 0 where
  pub bytes : Bytes w.image
  pub room : sector * (e.first + e.sectors) ≤ length w.image
  pub whole : Whole w.file

module _ (e : Entry) where
  straight : (at : ℕ) (xs : List ℕ) → Bytes xs → (w : Bench) → SoundBench e w → SoundBench e (record { image = lay w.image at xs; file = w.file })
  straight at xs h w b = record { bytes = lay-bytes w.image at xs b.bytes h; room = rw (length-lay w.image at xs) b.room; whole = b.whole }

  puts : (w : Bench) → SoundBench e w → SoundBench e (putting_back e w)
  unfolding putting_back
  puts w b = either (w.file.holds && w.file.changed)
      (λ (t : (w.file.holds && w.file.changed) ≡ true). rw (t, putting_back) (record {
        bytes = lay-bytes w.image _ w.file.buffer b.bytes b.whole.bytes;
        room = rw (length-lay w.image (sector_at e w.file.held) w.file.buffer) b.room;
        whole = record { size = b.whole.size; bytes = b.whole.bytes };
      }))
      (λ (t : (w.file.holds && w.file.changed) ≡ false). rw (t, putting_back) b)

  takes : (k : ℕ) → k < e.sectors → (w : Bench) → SoundBench e w → SoundBench e (taking e k w)
  unfolding taking loaded
  takes k l w b = either (w.file.holds && eqb w.file.held k)
      (λ (t : (w.file.holds && eqb w.file.held k) ≡ true). rw (t, taking) b)
      (λ (t : (w.file.holds && eqb w.file.held k) ≡ false).
      let v : Bench = putting_back e w in
      let p : SoundBench e v = puts w b in
      rw (t, taking) (record {
        bytes = p.bytes;
        room = p.room;
        whole = record { size = length_part v.image (sector_at e k) sector (omega (arith, p.room)); bytes = part_bytes v.image (sector_at e k) sector p.bytes };
      }))

  works : (at : ℕ) (xs : List ℕ) → Bytes xs → (w : Bench) → SoundBench e w → SoundBench e (working at xs w)
  unfolding working
  works at xs h w b = record {
    bytes = b.bytes;
    room = b.room;
    whole = record { size = length-lay w.file.buffer at xs ∙ b.whole.size; bytes = lay-bytes w.file.buffer at xs b.whole.bytes h };
  }

module _ (c : Scene) where
  do-sound : (x : Effect) → Suits c.entry x → InBytes x → (w : Bench) → SoundBench c.entry w → SoundBench c.entry (buffered_do c x w)
  unfolding buffered_do plain_do
  do-sound (hold k) s h w b = takes c.entry k s.1 w b
  do-sound (change x) s h w b = works c.entry x.place.byte x.bytes h _ (takes c.entry x.place.sector s.1 w b)
  do-sound (store x) s h w b = straight c.entry _ x.bytes h w b
  do-sound (stamp xs) s h w b = straight c.entry _ xs h w b
  do-sound put_back s h w b = back-cases (SoundBench c.entry) c w (λ z. puts c.entry w b) (λ z. b)

  pub all_sound : (xs : List Effect) → AllSuit c.entry xs → AllInBytes xs → (w : Bench) → SoundBench c.entry w → SoundBench c.entry (buffered_all c xs w)
  unfolding buffered_all
  all_sound [] s h w b = b
  all_sound (x ∷ xs) s h w b = all_sound xs s.1 h.1 (buffered_do c x w) (do-sound x s.0 h.0 w b)
