-- What each definition of the buffer's work comes to, case by case: the tests of its definition, one way each.
use mathlib.Core.Path.{◌≡◌, sym, ap, ◌∙◌}
use mathlib.Core.Bool.{Bool, true, false, ◌&&◌}
use mathlib.Core.List.{List}
use Prim.Native.Nat.{ℕ, ◌+◌, ◌-◌, ◌≤◌}
use lib.ListN.{length}
use lib.Dec.{eqb, ltb, leb}
use borrow.Author.Tests.{leb-true, eqb-true}
use Rattle.geometry.specs.Bytes.{lay, padded}
use Rattle.geometry.specs.Sizes.{sector}
use Rattle.geometry.proofs.Bytes.{length-lay}
use Rattle.geometry.proofs.Tests.{either, chosen, not_chosen, and_left, and_right}
use Rattle.steps.specs.Effects.{hold, change, put_back, sector_at, Bench, putting_back, loaded, taking, working, buffered_do}
use Rattle.sessions.specs.Session.{has_buffer}
use Rattle.directory.specs.declared.Entry.{Entry}
use Rattle.sessions.specs.declared.Holding.{Holding}
use Rattle.straight.specs.Moving.{bench, scene}
use Rattle.blocking.specs.Blocking.{lent, is_there, is_whole, can_do, held_do}

-- ---- the buffer

module _ (e : Entry) (w : Bench) where
  pub lay-changed : w.file.holds && w.file.changed ≡ true
      → bench (lay w.image (sector_at e w.file.held) w.file.buffer) (record { file = w.file.file; holds = w.file.holds; held = w.file.held; changed = false; buffer = w.file.buffer }) ≡ putting_back e w
  unfolding putting_back
  lay-changed h = rw (h, putting_back, and_left w.file.holds w.file.changed h)

  pub lay-unchanged : w.file.holds && w.file.changed ≡ false → w ≡ putting_back e w
  unfolding putting_back
  lay-unchanged h = rw (h, putting_back)

  -- the image and the buffer keep their lengths
  pub length-put : length (putting_back e w).image ≡ length w.image
  unfolding putting_back
  length-put = either (w.file.holds && w.file.changed)
      (λ (h : w.file.holds && w.file.changed ≡ true). rw (h, putting_back) (length-lay _ _ _))
      (λ (h : w.file.holds && w.file.changed ≡ false). rw (h, putting_back))

  pub whole-put : (putting_back e w).file.buffer ≡ w.file.buffer
  unfolding putting_back
  whole-put = either (w.file.holds && w.file.changed)
      (λ (h : w.file.holds && w.file.changed ≡ true). rw (h, putting_back))
      (λ (h : w.file.holds && w.file.changed ≡ false). rw (h, putting_back))

  -- t says whether the file has a buffer
  module _ (t : Bool) (told : t ≡ has_buffer e) where
    pub put-there : is_whole w && t ≡ true → putting_back e w ≡ held_do (scene 0 e) put_back w
    unfolding held_do can_do buffered_do
    put-there h = sym (chosen (is_whole w) _ w (and_left (is_whole w) t h) ∙ chosen (has_buffer e) (putting_back e w) w (sym told ∙ and_right (is_whole w) t h))

    pub put-nowhere : is_whole w && t ≡ false → w ≡ held_do (scene 0 e) put_back w
    unfolding held_do can_do buffered_do
    put-nowhere h = either (is_whole w)
        (λ (k : is_whole w ≡ true). sym (chosen (is_whole w) _ w k ∙ not_chosen (has_buffer e) (putting_back e w) w (sym told ∙ rw k at h)))
        (λ (k : is_whole w ≡ false). sym (not_chosen (is_whole w) _ w k))

  pub take-held : (k : ℕ) → w.file.holds && eqb w.file.held k ≡ true → w ≡ taking e k w
  unfolding taking
  take-held k h = rw (h, taking)

  pub take-other : (k : ℕ) → w.file.holds && eqb w.file.held k ≡ false → loaded e k (putting_back e w) ≡ taking e k w
  unfolding taking
  take-other k h = rw (h, taking)

-- bytes laid in a buffer that a file has taken a sector into
pub worked : {image buffer new : List ℕ} {h : Holding} {w : Bench} (byte behind n : ℕ) (xs : List ℕ) → lent image h buffer ≡ w
    → new ≡ lay buffer byte (padded behind n xs) → n ≡ sector - byte
    → lent image (record { holds = true; held = h.held; changed = true }) new ≡ working byte (padded behind (sector - byte) xs) w
unfolding working
worked byte behind n xs p q z = rw (q, z, sym p)

-- ---- one effect

-- t says whether the sector is there
module _ (e : Entry) (w : Bench) (k : ℕ) (t : Bool) (told : t ≡ is_there e k (length w.image)) where
  abbrev there : Bool
  there = is_whole w && is_there e k (length w.image)

  is : {u : Bool} → is_whole w && t ≡ u → there ≡ u
  is h = ap (◌&&◌ (is_whole w)) (sym told) ∙ h

  pub there-inside : is_whole w && t ≡ true → (sector_at e k + sector ≤ length w.image) × (length w.file.buffer ≡ sector)
  unfolding is_there
  there-inside h = (
    leb-true (sector_at e k + sector) (length w.image) (and_right (ltb k e.sectors) (leb (sector_at e k + sector) (length w.image)) (and_right (is_whole w) (is_there e k (length w.image)) (is h))),
    eqb-true (length w.file.buffer) sector (and_left (is_whole w) (is_there e k (length w.image)) (is h)),
  )

  pub hold-there : is_whole w && t ≡ true → taking e k w ≡ held_do (scene 0 e) (hold k) w
  unfolding held_do can_do buffered_do
  hold-there h = rw (is h, held_do)

  pub hold-nowhere : is_whole w && t ≡ false → w ≡ held_do (scene 0 e) (hold k) w
  unfolding held_do can_do
  hold-nowhere h = rw (is h, held_do)

  module _ (byte : ℕ) (xs : List ℕ) where
    pub change-there : is_whole w && t ≡ true → working byte xs (taking e k w) ≡ held_do (scene 0 e) (change (record { place = record { sector = k; byte = byte }; bytes = xs })) w
    unfolding held_do can_do buffered_do
    change-there h = rw (is h, held_do)

    pub change-nowhere : is_whole w && t ≡ false → w ≡ held_do (scene 0 e) (change (record { place = record { sector = k; byte = byte }; bytes = xs })) w
    unfolding held_do can_do
    change-nowhere h = rw (is h, held_do)
