-- What the effects of a request come to in an engine's own way, case by case: the tests of each definition, one way each.
use mathlib.Core.Path.{◌≡◌, refl, ap₂, ◌∙◌}
use mathlib.Core.Bool.{Bool, true, false, ◌&&◌}
use mathlib.Core.List.{List, [], ◌∷◌, map}
use Prim.Native.Nat.{ℕ, ◌+◌, ◌-◌, ◌≤◌, ◌<◌}
use lib.ListN.{length}
use native.Mathlib.Omega.{arith}
use lib.Dec.{eqb, ltb}
use borrow.Author.Tests.{eq-eqb, ne_eqb, le-leb, lt-leb}
use types.Run.{OneOf, miss}
use denote.Enum.Declared.{tag_of}
use Rattle.geometry.specs.Bytes.{padded}
use Rattle.geometry.specs.Places.{place_of}
use Rattle.geometry.specs.Sizes.{sector, blocked, compressed}
use Rattle.directory.specs.Stamp.{stamp_bytes}
use Rattle.packing.specs.Placing.{fits_here, filled, changes}
use Rattle.steps.specs.Effects.{Effect, hold, change, stamp, put_back, store_effect, blocked_effect, effects, plain_do, Bench}
use Rattle.sessions.specs.Session.{idle}
use Rattle.straight.specs.Straight.{writing}
use Rattle.requests.specs.contracts.Order as order
use Rattle.requests.specs.contracts.Request as request
use Rattle.geometry.specs.declared.Place.{Place}
use Rattle.directory.specs.declared.Entry.{Entry}
use Rattle.requests.specs.declared.Order.{Order}
use Rattle.requests.specs.declared.Order.TheVariants.{WriteMark, RewindOnline, RewindOffline, RecordForward, RecordBack, FileForward, FileBack}
use Rattle.requests.specs.declared.Request.{Request}
use Rattle.requests.specs.declared.Request.TheVariants.{Open, Read, Write, GranuleRead, GranuleWrite, GranuleLook, Position}
use Rattle.sessions.specs.declared.OpenFile.{OpenFile}
use Rattle.straight.specs.Moving.{scene, Way, moved_by, all_moved_by}
use Rattle.held.specs.Held.{read_with, write_with, effects_with}

-- a compressed file is no blocked one
other : (e : Entry) → e.kind ≡ compressed → eqb e.kind blocked ≡ false
other e k = ne_eqb e.kind blocked (omega (arith, k))

-- ---- a read

module _ (m : Way) (e : Entry) (f : OpenFile) (goes : Bool) (start : ℕ) (w : Bench) where
  pub read-blocked : e.kind ≡ blocked → m e (hold (place_of blocked e.length f.position).sector) w ≡ all_moved_by m (scene 0 e) (read_with e f goes start) w
  unfolding all_moved_by moved_by read_with
  read-blocked k = rw (eq-eqb e.kind blocked k, read_with)

  pub read-both : e.kind ≡ compressed → goes && ltb f.here.byte sector ≡ true
      → m e (hold start) (m e (hold f.here.sector) w) ≡ all_moved_by m (scene 0 e) (read_with e f goes start) w
  unfolding all_moved_by moved_by read_with
  read-both k h = rw (other e k, eq-eqb e.kind compressed k, h, read_with)

  pub read_one : e.kind ≡ compressed → goes && ltb f.here.byte sector ≡ false
      → m e (hold start) w ≡ all_moved_by m (scene 0 e) (read_with e f goes start) w
  unfolding all_moved_by moved_by read_with
  read_one k h = rw (other e k, eq-eqb e.kind compressed k, h, read_with)

  pub read_none : ¬ (e.kind ≡ blocked) → ¬ (e.kind ≡ compressed) → w ≡ all_moved_by m (scene 0 e) (read_with e f goes start) w
  unfolding all_moved_by read_with
  read_none b k = rw (ne_eqb e.kind blocked b, ne_eqb e.kind compressed k, read_with)

-- ---- a write

-- a blocked record, its place told by sector and byte
pub blocked-at : (m : Way) (e : Entry) (f : OpenFile) (given : List ℕ) (k byte : ℕ) (w : Bench)
    → k ≡ (place_of blocked e.length f.position).sector → byte ≡ (place_of blocked e.length f.position).byte
    → m e (change (record { place = record { sector = k; byte = byte }; bytes = padded 0 (sector - byte) given })) w
    ≡ moved_by m (scene 0 e) (blocked_effect (writing e f given)) w
unfolding moved_by blocked_effect
blocked-at m e f given k byte w p q = rw (p, q)

module _ (m : Way) (e : Entry) (p : Place) (code : List ℕ) (w : Bench) where
  pub coded-here : fits_here p (length code) ≡ true
      → m e (change (record { place = record { sector = p.sector; byte = p.byte }; bytes = padded 128 (sector - p.byte) code })) w
      ≡ all_moved_by m (scene 0 e) (map change (changes p code)) w
  unfolding all_moved_by moved_by changes filled
  coded-here h = rw (h, changes)

  pub coded-further : fits_here p (length code) ≡ false → sector ≤ p.byte
      → m e (change (record { place = record { sector = p.sector + 1; byte = 0 }; bytes = padded 128 (sector - 0) code })) w
      ≡ all_moved_by m (scene 0 e) (map change (changes p code)) w
  unfolding all_moved_by moved_by changes filled
  coded-further h k = rw (h, le-leb _ _ k, changes)

  pub coded-both : fits_here p (length code) ≡ false → p.byte < sector
      → m e (change (record { place = record { sector = p.sector + 1; byte = 0 }; bytes = padded 128 (sector - 0) code }))
      (m e (change (record { place = record { sector = p.sector; byte = p.byte }; bytes = padded 128 (sector - p.byte) [] })) w)
      ≡ all_moved_by m (scene 0 e) (map change (changes p code)) w
  unfolding all_moved_by moved_by changes filled
  coded-both h k = rw (h, lt-leb _ _ k, changes)

module _ (m : Way) (e : Entry) (f : OpenFile) (given code : List ℕ) (w : Bench) where
  pub write-blocked-by : e.kind ≡ blocked → moved_by m (scene 0 e) (blocked_effect (writing e f given)) w ≡ all_moved_by m (scene 0 e) (write_with e f given code) w
  unfolding all_moved_by write_with
  write-blocked-by k = rw (eq-eqb e.kind blocked k, write_with)

  pub write-coded : e.kind ≡ compressed
      → all_moved_by m (scene 0 e) (map change (changes f.here code)) w ≡ all_moved_by m (scene 0 e) (write_with e f given code) w
  unfolding write_with
  write-coded k = rw (other e k, eq-eqb e.kind compressed k, write_with)

  pub write-stored : ¬ (e.kind ≡ blocked) → ¬ (e.kind ≡ compressed)
      → moved_by m (scene 0 e) (store_effect (writing e idle given) f.position) w ≡ all_moved_by m (scene 0 e) (write_with e f given code) w
  unfolding all_moved_by write_with store_effect
  write-stored b k = rw (ne_eqb e.kind blocked b, ne_eqb e.kind compressed k, write_with)

-- ---- an order

-- the tags of the record skips, and of the orders but these and rewind off-line
abbrev skip : List ℕ
skip = 3 ∷ 4 ∷ []

abbrev back : List ℕ
back = 0 ∷ 1 ∷ 5 ∷ 6 ∷ []

module _ (m : Way) (i : ℕ) (e : Entry) (w : Bench) where
  pub skips : (o : Order) → OneOf skip (tag_of order.the_type o) → w ≡ all_moved_by m (scene i e) (effects (Position o) (scene i e)) w
  unfolding all_moved_by effects
  skips WriteMark h = absurd (miss skip 0 tt h)
  skips RewindOnline h = absurd (miss skip 1 tt h)
  skips RewindOffline h = absurd (miss skip 2 tt h)
  skips RecordForward h = refl
  skips RecordBack h = refl
  skips FileForward h = absurd (miss skip 5 tt h)
  skips FileBack h = absurd (miss skip 6 tt h)

  pub closes-by : moved_by m (scene i e) (stamp (stamp_bytes e.count e.flags)) (m e put_back w)
      ≡ all_moved_by m (scene i e) (effects (Position RewindOffline) (scene i e)) w
  unfolding all_moved_by moved_by effects
  closes-by = refl

  pub goes_back : (o : Order) → OneOf back (tag_of order.the_type o) → m e put_back w ≡ all_moved_by m (scene i e) (effects (Position o) (scene i e)) w
  unfolding all_moved_by moved_by effects
  goes_back WriteMark h = refl
  goes_back RewindOnline h = refl
  goes_back RewindOffline h = absurd (miss back 2 tt h)
  goes_back RecordForward h = absurd (miss back 3 tt h)
  goes_back RecordBack h = absurd (miss back 4 tt h)
  goes_back FileForward h = refl
  goes_back FileBack h = refl

-- an order's effects go by the entry alone
pub orders : (i : ℕ) (e : Entry) (o : Order) → effects (Position o) (scene i e) ≡ effects (Position o) (scene 0 e)
unfolding effects
orders i e WriteMark = refl
orders i e RewindOnline = refl
orders i e RewindOffline = refl
orders i e RecordForward = refl
orders i e RecordBack = refl
orders i e FileForward = refl
orders i e FileBack = refl

-- ---- a request

-- the tags of the requests that neither the image nor a buffer shows
abbrev still : List ℕ
still = 0 ∷ 3 ∷ 5 ∷ []

module _ (m : Way) (i : ℕ) (e : Entry) (f : OpenFile) (given code : List ℕ) (k : ℕ) (w : Bench) where
  pub stays : (q : Request) → OneOf still (tag_of request.the_type q) → w ≡ all_moved_by m (scene i e) (effects_with q e f given code k) w
  unfolding effects_with all_moved_by
  stays Open h = refl
  stays Read h = absurd (miss still 1 tt h)
  stays Write h = absurd (miss still 2 tt h)
  stays (GranuleRead g) h = refl
  stays (GranuleWrite g) h = absurd (miss still 4 tt h)
  stays (GranuleLook g) h = refl
  stays (Position o) h = absurd (miss still 6 tt h)

  pub stores : (g : ℕ) → moved_by m (scene 0 e) (store_effect (writing e idle given) g) w ≡ all_moved_by m (scene i e) (effects_with (GranuleWrite g) e f given code k) w
  unfolding effects_with all_moved_by moved_by plain_do store_effect
  stores g = refl

-- ---- one act behind another, on the same file

pub behind : (m : Way) {e e' : Entry} (x y : Effect) {w w' w'' : Bench} → w' ≡ m e x w → e' ≡ e → w'' ≡ m e' y w' → w'' ≡ m e y (m e x w)
behind m x y p q r = r ∙ ap₂ (λ (e : Entry) (w : Bench). m e y w) q p
