-- What is done by way of the buffer, seen on the file's desk: a sector of the extent lies in the image at its place, so what is laid over it there is laid
-- over it in the extent, and nothing of another extent changes.
use mathlib.Core.Path.{◌≡◌, refl, sym, ap, ◌∙◌}
use mathlib.Core.Bool.{true, false, ◌&&◌}
use mathlib.Core.List.{List, [], ◌∷◌, map}
use Prim.Native.Nat.{ℕ, ◌+◌, ◌*◌, ◌≤◌, ◌<◌}
use native.Mathlib.Omega.{arith}
use lib.Dec.{eqb}
use lib.ListN.{length}
use Rattle.geometry.specs.Bytes.{part, lay}
use Rattle.geometry.specs.Sizes.{sector, entry_size, entries}
use Rattle.geometry.proofs.Bytes.{length-lay, length_part, part-part, part-lay-apart, part-lay-within}
use Rattle.geometry.proofs.Tests.{either, and_left}
use Rattle.packing.specs.Placing.{Change}
use Rattle.sessions.specs.Session.{extent}
use Rattle.steps.specs.Effects.{Effect, hold, change, store, stamp, put_back, sector_at, plain_do, Bench, putting_back, loaded, taking, working, buffered_do, buffered_all}
use Rattle.steps.specs.Next.{Scene}
use Rattle.steps.proofs.Buffer.{back-cases}
use Rattle.steps.proofs.Inside.{Suits, AllSuit}
use Rattle.settling.proofs.Bench.{Elsewhere, takes-held}
use Rattle.promises.specs.Buffer.{Desk, desk_of, back, taken, worked, in_turn}
use Rattle.directory.specs.declared.Entry.{Entry}

-- ---- the extent's sectors in the image

module _ (e : Entry) (image : List ℕ) (k : ℕ) where
  place_is : sector_at e k ≡ sector * e.first + sector * k
  place_is = omega arith

  extent-lay : (xs : List ℕ) → sector * k + length xs ≤ sector * e.sectors → extent e (lay image (sector_at e k) xs) ≡ lay (extent e image) (sector * k) xs
  unfolding extent
  extent-lay xs h =
      ap (λ (n : ℕ). part (lay image n xs) (sector * e.first) (sector * e.sectors)) place_is
      ∙ part-lay-within image (sector * e.first) (sector * e.sectors) (sector * k) xs h

  extent-part : k < e.sectors → part image (sector_at e k) sector ≡ part (extent e image) (sector * k) sector
  unfolding extent
  extent-part h =
      ap (λ (n : ℕ). part image n sector) place_is
      ∙ sym (part-part image (sector * e.first) (sector * e.sectors) (sector * k) sector (omega arith))

-- ---- an image and a buffer

module _ (e : Entry) where
  abbrev pub desk : Bench → Desk
  desk w = desk_of e w.image w.file

  -- the extent lies in the image, the buffer is a sector, and what is held lies in the extent
  pub record Ready (w : Bench) : Type 0 where
    pub room : sector * (e.first + e.sectors) ≤ length w.image
    pub size : length w.file.buffer ≡ sector
    pub inside : w.file.holds ≡ true → w.file.held < e.sectors

  back-ready : (w : Bench) → Ready w → Ready (putting_back e w)
  unfolding putting_back
  back-ready w r = either (w.file.holds && w.file.changed)
      (λ (t : (w.file.holds && w.file.changed) ≡ true). rw (t, putting_back) (record {
        room = rw (length-lay w.image (sector_at e w.file.held) w.file.buffer) r.room;
        size = r.size;
        inside = λ h. r.inside (and_left w.file.holds w.file.changed t);
      }))
      (λ (t : (w.file.holds && w.file.changed) ≡ false). rw (t, putting_back) r)

  take-ready : (k : ℕ) → k < e.sectors → (w : Bench) → Ready w → Ready (taking e k w)
  unfolding taking loaded
  take-ready k l w r = either (w.file.holds && eqb w.file.held k)
      (λ (t : (w.file.holds && eqb w.file.held k) ≡ true). rw (t, taking) r)
      (λ (t : (w.file.holds && eqb w.file.held k) ≡ false).
      let p : Ready (putting_back e w) = back-ready w r in
      rw (t, taking) (record { room = p.room; size = length_part (putting_back e w).image (sector_at e k) sector (omega (arith, p.room)); inside = λ h. l }))

  -- put back
  pub desk-back : (w : Bench) → Ready w → desk (putting_back e w) ≡ back (desk w)
  unfolding desk_of back putting_back
  desk-back w r = either (w.file.holds && w.file.changed)
      (λ (t : (w.file.holds && w.file.changed) ≡ true).
      let l : w.file.held < e.sectors = r.inside (and_left w.file.holds w.file.changed t) in
      rw (t, putting_back, back)
      (ap (λ (x : List ℕ). record { extent = x; holds = true; held = w.file.held; changed = false; buffer = w.file.buffer }) (extent-lay e w.image w.file.held w.file.buffer (omega (arith, r.size)))))
      (λ (t : (w.file.holds && w.file.changed) ≡ false). rw (t, putting_back, back))

  -- a sector taken
  pub desk-take : (k : ℕ) → k < e.sectors → (w : Bench) → Ready w → desk (taking e k w) ≡ taken k (desk w)
  unfolding desk_of taken taking loaded
  desk-take k l w r = either (w.file.holds && eqb w.file.held k)
      (λ (t : (w.file.holds && eqb w.file.held k) ≡ true). rw (t, taking, taken))
      (λ (t : (w.file.holds && eqb w.file.held k) ≡ false).
      let p : extent e (putting_back e w).image ≡ (back (desk w)).extent = ap (λ (d : Desk). d.extent) (desk-back w r) in
      rw (t, taking, taken)
      (ap (λ (x : List ℕ). record { extent = extent e (putting_back e w).image; holds = true; held = k; changed = false; buffer = x }) (extent-part e (putting_back e w).image k l)
      ∙ ap (λ (x : List ℕ). record { extent = x; holds = true; held = k; changed = false; buffer = part x (sector * k) sector }) p))

module _ (c : Scene) where
  abbrev e : Entry
  e = c.entry

  work-ready : (x : Change) → Suits e (change x) → (w : Bench) → Ready e w → Ready e (buffered_do c (change x) w)
  unfolding buffered_do working
  work-ready x s w r =
      let t : Ready e (taking e x.place.sector w) = take-ready e x.place.sector s.1 w r in
      record { room = t.room; size = length-lay _ _ _ ∙ t.size; inside = λ h. t.inside (takes-held e x.place.sector w).0 }

  -- bytes changed
  desk-work : (x : Change) → Suits e (change x) → (w : Bench) → Ready e w → desk e (buffered_do c (change x) w) ≡ worked x (desk e w)
  unfolding desk_of worked buffered_do working
  desk-work x s w r =
      ap (λ (t : Desk). record { extent = t.extent; holds = true; held = t.held; changed = true; buffer = lay t.buffer x.place.byte x.bytes })
      (desk-take e x.place.sector s.1 w r)

  -- one after another
  pub desk-takes : (ks : List ℕ) → AllSuit e (map hold ks) → (w : Bench) → Ready e w → desk e (buffered_all c (map hold ks) w) ≡ in_turn taken ks (desk e w)
  unfolding buffered_all buffered_do in_turn
  desk-takes [] s w r = refl
  desk-takes (k ∷ ks) s w r = desk-takes ks s.1 (taking e k w) (take-ready e k s.0.1 w r) ∙ ap (in_turn taken ks) (desk-take e k s.0.1 w r)

  pub desk-works : (xs : List Change) → AllSuit e (map change xs) → (w : Bench) → Ready e w → desk e (buffered_all c (map change xs) w) ≡ in_turn worked xs (desk e w)
  unfolding buffered_all in_turn
  desk-works [] s w r = refl
  desk-works (x ∷ xs) s w r =
      desk-works xs s.1 (buffered_do c (change x) w) (work-ready x s.0 w r) ∙ ap (in_turn worked xs) (desk-work x s.0 w r)

-- ---- and elsewhere

module _ (c : Scene) (in_table : c.number < entries) where
  ready-do : (x : Effect) → Suits c.entry x → (w : Bench) → Ready c.entry w → Ready c.entry (buffered_do c x w)
  unfolding buffered_do plain_do
  ready-do (hold k) s w r = take-ready c.entry k s.1 w r
  ready-do (change x) s w r = work-ready c x s w r
  ready-do (store x) s w r = record { room = rw (length-lay w.image (sector_at c.entry x.place.sector + x.place.byte) x.bytes) r.room; size = r.size; inside = r.inside }
  ready-do (stamp xs) s w r = record { room = rw (length-lay w.image (entry_size * c.number + 16) xs) r.room; size = r.size; inside = r.inside }
  ready-do put_back s w r = back-cases (Ready c.entry) c w (λ z. back-ready c.entry w r) (λ z. r)

  -- a part of the image that is in neither the extent nor the directory
  module _ (at n : ℕ) (far : Elsewhere c.entry at n) where
    same_back : (w : Bench) → Ready c.entry w → part (putting_back c.entry w).image at n ≡ part w.image at n
    unfolding putting_back
    same_back w r = either (w.file.holds && w.file.changed)
        (λ (t : (w.file.holds && w.file.changed) ≡ true).
        let l : w.file.held < c.entry.sectors = r.inside (and_left w.file.holds w.file.changed t) in
        rw (t, putting_back) (part-lay-apart w.image (sector_at c.entry w.file.held) w.file.buffer at n (omega (arith, r.size, far.0))))
        (λ (t : (w.file.holds && w.file.changed) ≡ false). rw (t, putting_back))

    same-take : (k : ℕ) (w : Bench) → Ready c.entry w → part (taking c.entry k w).image at n ≡ part w.image at n
    unfolding taking loaded
    same-take k w r = either (w.file.holds && eqb w.file.held k)
        (λ (t : (w.file.holds && eqb w.file.held k) ≡ true). rw (t, taking))
        (λ (t : (w.file.holds && eqb w.file.held k) ≡ false). rw (t, taking) (same_back w r))

    same-do : (x : Effect) → Suits c.entry x → (w : Bench) → Ready c.entry w → part (buffered_do c x w).image at n ≡ part w.image at n
    unfolding buffered_do plain_do working
    same-do (hold k) s w r = same-take k w r
    same-do (change x) s w r = same-take x.place.sector w r
    same-do (store x) s w r = part-lay-apart w.image (sector_at c.entry x.place.sector + x.place.byte) x.bytes at n (omega (arith, far.0, s.1))
    same-do (stamp xs) s w r = part-lay-apart w.image (entry_size * c.number + 16) xs at n (omega (arith, far.1))
    same-do put_back s w r = back-cases (λ (v : Bench). part v.image at n ≡ part w.image at n) c w (λ z. same_back w r) (λ z. refl)

    pub same-all : (xs : List Effect) → AllSuit c.entry xs → (w : Bench) → Ready c.entry w → part (buffered_all c xs w).image at n ≡ part w.image at n
    unfolding buffered_all
    same-all [] s w r = refl
    same-all (x ∷ xs) s w r = same-all xs s.1 (buffered_do c x w) (ready-do x s.0 w r) ∙ same-do x s.0 w r
