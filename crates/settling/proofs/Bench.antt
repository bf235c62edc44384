-- One effect done by way of the buffer, seen with the buffer laid back, is that effect done straight in the image.
use mathlib.Core.Path.{◌≡◌, refl, sym, ap, ◌∙◌}
use mathlib.Core.Bool.{Bool, true, false, ◌&&◌}
use mathlib.Core.List.{List, [], ◌∷◌}
use Prim.Native.Nat.{ℕ, ◌+◌, ◌*◌, ◌≤◌, ◌<◌}
use native.Mathlib.Omega.{arith}
use lib.ListN.{length}
use lib.Dec.{eqb}
use borrow.Author.Tests.{eqb-true}
use Rattle.geometry.specs.Bytes.{part, lay}
use Rattle.geometry.specs.Sizes.{sector, entry_size, entries}
use Rattle.geometry.proofs.Bytes.{Apart, length-lay, length_part, lay-nil, lay-part, lay-lay-same, lay-lay-apart, lay-lay-inside, part-lay-same, part-lay-apart}
use Rattle.geometry.proofs.Tests.{either, both_ways, and_left, and_right}
use Rattle.sessions.specs.Session.{has_buffer, holds_one}
use Rattle.sessions.proofs.Held.{one-buffer, one_holds, holds-one, no-buffer-none}
use Rattle.steps.specs.Effects.{Effect, hold, change, store, stamp, put_back, sector_at, plain_do, plain_all, Bench, holding, putting_back, loaded, taking, working, buffered_do, buffered_all}
use Rattle.steps.specs.Next.{Scene}
use Rattle.steps.proofs.Buffer.{back-cases}
use Rattle.steps.proofs.Inside.{Suits, AllSuit}
use Rattle.settling.proofs.Settle.{Hold, back, all_back, hold_at, Off, held_by, back-lay}
use Rattle.directory.specs.declared.Entry.{Entry}
use Rattle.sessions.specs.declared.BufferedFile.{BufferedFile}

-- the image with the one buffer laid back
abbrev pub own : Entry → Bench → List ℕ
own e w = back w.image (held_by e w.file)

-- "a held sector lies in its file's extent"
abbrev pub Within : Entry → BufferedFile → Type 0
Within e b = b.holds ≡ true → b.held < e.sectors

-- the extent lies in the image behind the directory, and the buffer is as legality says; an unchanged one equals its sector
pub record Fits (e : Entry) (w : Bench) : Type 0 where
  pub starts : 1 ≤ e.first
  pub room : sector * (e.first + e.sectors) ≤ length w.image
  pub size : length w.file.buffer ≡ sector
  pub within : Within e w.file
  pub unchanged : holds_one e w.file ≡ true → w.file.changed ≡ false → w.file.buffer ≡ part w.image (sector_at e w.file.held) sector

-- apart from the extent and from the directory
abbrev pub Elsewhere : Entry → ℕ → ℕ → Type 0
Elsewhere e a n = (Apart (sector * e.first) (sector * e.sectors) a n) × (Apart 0 sector a n)

-- a hold that lies elsewhere
abbrev pub Clear : Entry → Hold → Type 0
Clear e h = Elsewhere e h.at (length h.bytes)

-- from w to v: seen with the buffer laid back it is this image; nothing else is touched
pub record Does (e : Entry) (w v : Bench) (image : List ℕ) : Type 0 where
  pub same : own e v ≡ image
  pub fits : Fits e v
  pub state : v.file.file ≡ w.file.file
  pub size : length v.image ≡ length w.image
  pub others : (a n : ℕ) → Elsewhere e a n → part v.image a n ≡ part w.image a n

module _ (e : Entry) (w : Bench) where
  pub own_held : holds_one e w.file ≡ true → own e w ≡ lay w.image (sector_at e w.file.held) w.file.buffer
  unfolding held_by
  own_held h = rw (h, held_by)

  pub own-none : holds_one e w.file ≡ false → own e w ≡ w.image
  unfolding held_by
  own-none h = rw (h, held_by) (lay-nil w.image 0)

pub and-other : (a b : Bool) → a ≡ true → (a && b) ≡ false → b ≡ false
and-other true b h k = k
and-other false b h k = both_ways false h refl

stays : (e : Entry) (w : Bench) → Fits e w → Does e w w (own e w)
stays e w f = record { same = refl; fits = f; state = refl; size = refl; others = λ a n x. refl }

-- a putting back: what is seen does not change, and is then in the image
module _ (e : Entry) (w : Bench) (f : Fits e w) where
  abbrev at : ℕ
  at = sector_at e w.file.held

  put : holds_one e w.file ≡ true → Does e w (record { image = lay w.image at w.file.buffer; file = holding w.file w.file.held false w.file.buffer }) (own e w)
  unfolding held_by
  put h =
      let r : w.file.held < e.sectors = f.within (one_holds e w.file h) in
      let k : holds_one e (holding w.file w.file.held false w.file.buffer) ≡ true = holds-one e _ refl (one-buffer e w.file h) in
      let l : length (lay w.image at w.file.buffer) ≡ length w.image = length-lay w.image at w.file.buffer in
      record {
        same = own_held e _ k ∙ lay-lay-same w.image at w.file.buffer w.file.buffer refl ∙ sym (own_held e w h);
        fits = record {
          starts = f.starts;
          room = omega (arith, f.room);
          size = f.size;
          within = λ q. r;
          unchanged = λ q z. sym (part-lay-same w.image at w.file.buffer sector f.size (omega (arith, f.room)));
        };
        state = refl;
        size = l;
        others = λ a n x. part-lay-apart w.image at w.file.buffer a n (omega (arith, f.size, x.0));
      }

  puts : has_buffer e ≡ true → Does e w (putting_back e w) (own e w)
  unfolding putting_back
  puts b = either (w.file.holds && w.file.changed)
      (λ (t : (w.file.holds && w.file.changed) ≡ true). rw (t, putting_back) (put (holds-one e w.file (and_left w.file.holds w.file.changed t) b)))
      (λ (t : (w.file.holds && w.file.changed) ≡ false). rw (t, putting_back) (stays e w f))

  -- a buffer that is not changed has what the image has
  pub own-unchanged : holds_one e w.file ≡ true → w.file.changed ≡ false → own e w ≡ w.image
  own-unchanged h z = own_held e w h ∙ ap (lay w.image at) (f.unchanged h z) ∙ lay-part w.image at sector

  put-image : has_buffer e ≡ true → (putting_back e w).image ≡ own e w
  unfolding putting_back
  put-image b = either (w.file.holds && w.file.changed)
      (λ (t : (w.file.holds && w.file.changed) ≡ true). rw (t, putting_back) (sym (own_held e w (holds-one e w.file (and_left w.file.holds w.file.changed t) b))))
      (λ (t : (w.file.holds && w.file.changed) ≡ false).
      rw (t, putting_back) (sym (either (holds_one e w.file) (λ (h : holds_one e w.file ≡ true). own-unchanged h (and-other w.file.holds w.file.changed (one_holds e w.file h) t)) (own-none e w))))

-- one after another
then-does : (e : Entry) (w v u : Bench) (k m image : List ℕ) → Does e w v k → Does e v u m → m ≡ image → Does e w u image
then-does e w v u k m image d g q = record {
  same = g.same ∙ q;
  fits = g.fits;
  state = g.state ∙ d.state;
  size = g.size ∙ d.size;
  others = λ a n x. g.others a n x ∙ d.others a n x;
}

-- what lies apart from the extent lies apart from the held sector
pub held-off : (e : Entry) (b : BufferedFile) (a n : ℕ) → length b.buffer ≡ sector → Within e b
    → (has_buffer e ≡ true → Apart a n (sector * e.first) (sector * e.sectors)) → Off a n (held_by e b)
unfolding held_by
held-off e b a n l r x = either (holds_one e b)
    (λ (h : holds_one e b ≡ true).
    let q : b.held < e.sectors = r (one_holds e b h) in
    rw (h, held_by) (omega (arith, x (one-buffer e b h))))
    (λ (h : holds_one e b ≡ false). rw (h, held_by) (omega arith))

-- a sector is taken: what is seen does not change
module _ (e : Entry) (k : ℕ) (b : has_buffer e ≡ true) (h : k < e.sectors) where
  loads : (w : Bench) → Fits e w → own e w ≡ w.image → Does e w (loaded e k w) (own e w)
  unfolding loaded held_by
  loads w f i = record {
    same = own_held e (loaded e k w) (holds-one e _ refl b) ∙ lay-part w.image (sector_at e k) sector ∙ sym i;
    fits = record {
      starts = f.starts;
      room = f.room;
      size = length_part w.image (sector_at e k) sector (omega (arith, f.room));
      within = λ q. h;
      unchanged = λ q z. refl;
    };
    state = refl;
    size = refl;
    others = λ a n x. refl;
  }

  takes : (w : Bench) → Fits e w → Does e w (taking e k w) (own e w)
  unfolding taking
  takes w f = either (w.file.holds && eqb w.file.held k)
      (λ (t : (w.file.holds && eqb w.file.held k) ≡ true). rw (t, taking) (stays e w f))
      (λ (t : (w.file.holds && eqb w.file.held k) ≡ false).
      let p : Does e w (putting_back e w) (own e w) = puts e w f b in
      rw (t, taking) (then-does e w (putting_back e w) (loaded e k (putting_back e w)) _ (own e (putting_back e w)) (own e w) p
      (loads (putting_back e w) p.fits (p.same ∙ sym (put-image e w f b))) p.same))

-- and is then held
pub takes-held : (e : Entry) (k : ℕ) (w : Bench) → ((taking e k w).file.holds ≡ true) × ((taking e k w).file.held ≡ k)
unfolding taking loaded
takes-held e k w = either (w.file.holds && eqb w.file.held k)
    (λ (t : (w.file.holds && eqb w.file.held k) ≡ true).
    rw (t, taking) (and_left w.file.holds _ t, eqb-true w.file.held k (and_right w.file.holds (eqb w.file.held k) t)))
    (λ (t : (w.file.holds && eqb w.file.held k) ≡ false). rw (t, taking) (refl, refl))

-- bytes laid in the held sector
works : (e : Entry) (w : Bench) (o : ℕ) (xs : List ℕ) → Fits e w → holds_one e w.file ≡ true → o + length xs ≤ sector
    → Does e w (working o xs w) (lay (own e w) (sector_at e w.file.held + o) xs)
unfolding working held_by
works e w o xs f h r =
    let q : w.file.held < e.sectors = f.within (one_holds e w.file h) in
    let l : length w.file.buffer ≡ sector = f.size in
    record {
      same = own_held e (working o xs w) (holds-one e _ refl (one-buffer e w.file h))
          ∙ lay-lay-inside w.image (sector_at e w.file.held) w.file.buffer o xs (omega (arith, f.room)) (omega arith)
          ∙ ap (λ (z : List ℕ). lay z (sector_at e w.file.held + o) xs) (sym (own_held e w h));
      fits = record {
        starts = f.starts;
        room = f.room;
        size = length-lay w.file.buffer o xs ∙ l;
        within = λ z. q;
        unchanged = λ z y. both_ways true refl y;
      };
      state = refl;
      size = refl;
      others = λ a n x. refl;
    }

-- ---- one effect

module _ (c : Scene) (in_table : c.number < entries) where
  abbrev stamp_at : ℕ
  stamp_at = entry_size * c.number + 16

  pub does : (x : Effect) → Suits c.entry x → (w : Bench) → Fits c.entry w → Does c.entry w (buffered_do c x w) (plain_do c x (own c.entry w))
  unfolding buffered_do plain_do
  does (hold k) s w f = takes c.entry k s.0 s.1 w f
  does (change x) s w f =
      let e : Entry = c.entry in
      let v : Bench = taking e x.place.sector w in
      let t : Does e w v (own e w) = takes e x.place.sector s.0 s.1 w f in
      let h : (v.file.holds ≡ true) × (v.file.held ≡ x.place.sector) = takes-held e x.place.sector w in
      then-does e w v (working x.place.byte x.bytes v) _ (lay (own e v) (sector_at e v.file.held + x.place.byte) x.bytes) _ t
      (works e v x.place.byte x.bytes t.fits (holds-one e v.file h.0 s.0) s.2)
      (changed-at (own e v) (own e w) v.file.held x.place.sector t.same h.1)
    where
      changed-at : (m image : List ℕ) (i j : ℕ) → m ≡ image → i ≡ j → lay m (sector_at c.entry i + x.place.byte) x.bytes ≡ lay image (sector_at c.entry j + x.place.byte) x.bytes
      changed-at m image i j p q = rw (p, q)
  does (store y) s w f = stores (sector_at c.entry y.place.sector + y.place.byte) (omega arith) (omega (arith, s.1)) (no-buffer-none c.entry w.file s.0)
    where
      -- the bytes lie in the extent
      stores : (at : ℕ) → sector * c.entry.first ≤ at → at + length y.bytes ≤ sector * (c.entry.first + c.entry.sectors) → holds_one c.entry w.file ≡ false
          → Does c.entry w (record { image = lay w.image at y.bytes; file = w.file }) (lay (own c.entry w) at y.bytes)
      stores at low high h = record {
        same = own-none c.entry (record { image = lay w.image at y.bytes; file = w.file }) h ∙ ap (λ (z : List ℕ). lay z at y.bytes) (sym (own-none c.entry w h));
        fits = record {
          starts = f.starts;
          room = omega (arith, f.room, length-lay w.image at y.bytes);
          size = f.size;
          within = f.within;
          unchanged = λ q z. both_ways (holds_one c.entry w.file) q h;
        };
        state = refl;
        size = length-lay w.image at y.bytes;
        others = λ a n x. part-lay-apart w.image at y.bytes a n (omega (arith, x.0));
      }
  does (stamp xs) s w f = record {
    same = lay-lay-apart w.image stamp_at xs (held_by c.entry w.file).at (held_by c.entry w.file).bytes
        (held-off c.entry w.file stamp_at (length xs) f.size f.within (λ h. omega (arith, f.starts)));
    fits = record {
      starts = f.starts;
      room = omega (arith, f.room, length-lay w.image stamp_at xs);
      size = f.size;
      within = f.within;
      unchanged = λ h z.
          f.unchanged h z
          ∙ sym (part-lay-apart w.image stamp_at xs (sector_at c.entry w.file.held) sector (omega (arith, f.starts)));
    };
    state = refl;
    size = length-lay w.image stamp_at xs;
    others = λ a n x. part-lay-apart w.image stamp_at xs a n (omega (arith, x.1));
  }
  does put_back s w f = back-cases (λ (v : Bench). Does c.entry w v (own c.entry w)) c w (puts c.entry w f) (λ h. stays c.entry w f)

  -- and so several
  pub all-does : (xs : List Effect) → AllSuit c.entry xs → (w : Bench) → Fits c.entry w → Does c.entry w (buffered_all c xs w) (plain_all c xs (own c.entry w))
  unfolding buffered_all plain_all
  all-does [] s w f = stays c.entry w f
  all-does (x ∷ xs) s w f =
      let v : Bench = buffered_do c x w in
      let d : Does c.entry w v (plain_do c x (own c.entry w)) = does x s.0 w f in
      then-does c.entry w v (buffered_all c xs v) _ (plain_all c xs (own c.entry v)) _ d (all-does xs s.1 v d.fits) (ap (plain_all c xs) d.same)

  -- ---- holds of other files, laid before or behind

  back-plain : (hs : List Hold) → ((j : ℕ) → Clear c.entry (hold_at hs j)) → (x : Effect) → Suits c.entry x → (image : List ℕ)
      → all_back hs (plain_do c x image) ≡ plain_do c x (all_back hs image)
  unfolding plain_do
  back-plain hs o (hold k) s image = refl
  back-plain hs o (change x) s image = back-lay hs image (sector_at c.entry x.place.sector + x.place.byte) x.bytes (λ j. omega (arith, (o j).0, s.1, s.2))
  back-plain hs o (store x) s image = back-lay hs image (sector_at c.entry x.place.sector + x.place.byte) x.bytes (λ j. omega (arith, (o j).0, s.1))
  back-plain hs o (stamp xs) s image = back-lay hs image stamp_at xs (λ j. omega (arith, (o j).1))
  back-plain hs o put_back s image = refl

  pub back-plain-all : (hs : List Hold) → ((j : ℕ) → Clear c.entry (hold_at hs j)) → (xs : List Effect) → AllSuit c.entry xs → (image : List ℕ)
      → all_back hs (plain_all c xs image) ≡ plain_all c xs (all_back hs image)
  unfolding plain_all
  back-plain-all hs o [] s image = refl
  back-plain-all hs o (x ∷ xs) s image = back-plain-all hs o xs s.1 (plain_do c x image) ∙ ap (plain_all c xs) (back-plain hs o x s.0 image)

-- ---- whatever the image and the buffer have: what is held lies in the extent, and lengths stay

back-file : (e : Entry) (w : Bench) → ((putting_back e w).file.holds ≡ w.file.holds) × ((putting_back e w).file.held ≡ w.file.held)
unfolding putting_back
back-file e w = either (w.file.holds && w.file.changed)
    (λ (t : (w.file.holds && w.file.changed) ≡ true). rw (t, putting_back) (sym (and_left w.file.holds w.file.changed t), refl))
    (λ (t : (w.file.holds && w.file.changed) ≡ false). rw (t, putting_back) (refl, refl))

length-putting : (e : Entry) (w : Bench) → length (putting_back e w).image ≡ length w.image
unfolding putting_back
length-putting e w = either (w.file.holds && w.file.changed)
    (λ (t : (w.file.holds && w.file.changed) ≡ true). rw (t, putting_back) (length-lay w.image _ _))
    (λ (t : (w.file.holds && w.file.changed) ≡ false). rw (t, putting_back))

length-taking : (e : Entry) (k : ℕ) (w : Bench) → length (taking e k w).image ≡ length w.image
unfolding taking loaded
length-taking e k w = either (w.file.holds && eqb w.file.held k)
    (λ (t : (w.file.holds && eqb w.file.held k) ≡ true). rw (t, taking))
    (λ (t : (w.file.holds && eqb w.file.held k) ≡ false). rw (t, taking) (length-putting e w))

module _ (c : Scene) where
  within-do : (x : Effect) → Suits c.entry x → (w : Bench) → Within c.entry w.file → Within c.entry (buffered_do c x w).file
  unfolding buffered_do working
  within-do (hold k) s w r h = rw (takes-held c.entry k w).1 s.1
  within-do (change x) s w r h = rw (takes-held c.entry x.place.sector w).1 s.1
  within-do (store x) s w r h = r h
  within-do (stamp xs) s w r h = r h
  within-do put_back s w r h =
      back-cases (λ (v : Bench). Within c.entry v.file) c w (λ b k. rw (back-file c.entry w).1 (r (sym (back-file c.entry w).0 ∙ k))) (λ b. r) h

  pub within_all : (xs : List Effect) → AllSuit c.entry xs → (w : Bench) → Within c.entry w.file → Within c.entry (buffered_all c xs w).file
  unfolding buffered_all
  within_all [] s w r = r
  within_all (x ∷ xs) s w r = within_all xs s.1 (buffered_do c x w) (within-do x s.0 w r)

  length-do : (x : Effect) (w : Bench) → length (buffered_do c x w).image ≡ length w.image
  unfolding buffered_do working plain_do
  length-do (hold k) w = length-taking c.entry k w
  length-do (change x) w = length-taking c.entry x.place.sector w
  length-do (store x) w = length-lay w.image _ x.bytes
  length-do (stamp xs) w = length-lay w.image _ xs
  length-do put_back w = back-cases (λ (v : Bench). length v.image ≡ length w.image) c w (λ b. length-putting c.entry w) (λ b. refl)

  pub length-all : (xs : List Effect) (w : Bench) → length (buffered_all c xs w).image ≡ length w.image
  unfolding buffered_all
  length-all [] w = refl
  length-all (x ∷ xs) w = length-all xs (buffered_do c x w) ∙ length-do x w
