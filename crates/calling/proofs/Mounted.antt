-- The table that mounting lays is the one that it hands out, and so is what the session says of itself.
use mathlib.Core.Path.{◌≡◌, refl, sym, ap, ◌∙◌}
use mathlib.Core.Bool.{Bool, true, false}
use mathlib.Core.List.{List}
use Prim.Native.Nat.{ℕ, ◌*◌, ◌≤◌}
use native.Mathlib.Omega.{arith}
use lib.ListN.{length}
use borrow.Author.Tests.{eq-eqb}
use Rattle.geometry.specs.Sizes.{sector, entries, lawful_length, sectors_of}
use Rattle.geometry.proofs.Places.{lawful-whole, lawful-some}
use Rattle.geometry.proofs.Tests.{either, and_left}
use Rattle.tables.specs.Tables.{one_word_wide, has_rows}
use Rattle.tables.proofs.Widths.{rows-there}
use Rattle.requests.specs.Numbers.{number_of}
use Rattle.mounting.specs.Mounting.{mounts, start_with, plain_mount}
use Rattle.storing.specs.Stored.{size_of, has_buffers, start_saying, start_table, lay_start}
use Rattle.storing.proofs.Start.{is_size, sized, other-number, start-other}
use Rattle.calling.specs.Mounted.{mount_number, mount_bytes}

module _ (image : List ℕ) where
  has-directory : mounts image ≡ true → has_rows one_word_wide entries image ≡ true
  unfolding mounts
  has-directory h =
      let ok : lawful_length image ≡ true = and_left (lawful_length image) _ h in
      let l : length image ≡ sector * sectors_of image = lawful-whole image ok in
      let s : 1 ≤ sectors_of image = lawful-some image ok in
      rows-there one_word_wide entries image (omega arith, omega arith, refl) (omega arith)

  table_is : start_table (mounts image) image ≡ (plain_mount image).session.table
  unfolding start_table plain_mount start_with
  table_is = either (mounts image) (λ (t : mounts image ≡ true). rw (t, has-directory t, start_table, plain_mount)) (λ (t : mounts image ≡ false). rw (t, start_table, plain_mount))

  says_is : start_saying (mounts image) ≡ (plain_mount image).session.says
  unfolding start_saying plain_mount start_with
  says_is = either (mounts image) (λ (t : mounts image ≡ true). rw (t, plain_mount)) (λ (t : mounts image ≡ false). rw (t, plain_mount))

module _ (image b : List ℕ) where
  -- of bytes that are as many as a session takes
  module _ (t : is_size b ≡ true) (g : Bool) (e : g ≡ mounts image) where
    number_is : mount_number image b ≡ number_of (plain_mount image).answer
    unfolding mount_number
    number_is = rw (eq-eqb (length b) (size_of (has_buffers b)) (sized b image t), mount_number)

    pub mount-done : g ≡ true → 0 ≡ mount_number image b
    mount-done h = sym (number_is ∙ done)
      where
        done : number_of (plain_mount image).answer ≡ 0
        done = unfold plain_mount in rw (sym e ∙ h, plain_mount)

    pub mount-bad : g ≡ false → 11 ≡ mount_number image b
    mount-bad h = sym (number_is ∙ bad)
      where
        bad : number_of (plain_mount image).answer ≡ 11
        bad = unfold plain_mount in rw (sym e ∙ h, plain_mount)

    pub mount-leaves : (b' : List ℕ) → b' ≡ lay_start b (start_saying g) (start_table g image) → b' ≡ mount_bytes image b
    unfolding mount_bytes
    mount-leaves b' h = h ∙ ap (λ (x : Bool). lay_start b (start_saying x) (start_table x image)) e ∙ rw (says_is image, table_is image)

  -- and of others
  pub mount-none : is_size b ≡ false → (12 ≡ mount_number image b) × (b ≡ mount_bytes image b)
  unfolding mount_number mount_bytes
  mount-none t = (sym (rw (other-number b image t, mount_number)), start-other b image (plain_mount image).session.says (plain_mount image).session.table t)
