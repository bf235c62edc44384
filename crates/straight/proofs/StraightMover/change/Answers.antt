-- `Straight::change` meets the trait's contract: padded bytes are laid in the image, and what begins past the last number that is counted begins past any image.
use mathlib.Core.Path.{◌≡◌, refl, sym, ap, ◌∙◌}
use mathlib.Core.List.{List}
use Prim.Native.Nat.{ℕ, ◌+◌, ◌-◌, ◌≤◌, ◌<◌}
use native.Mathlib.Omega.{arith}
use native.Mathlib.Decide.{dec_lt}
use lib.ListN.{length}
use Rattle.geometry.specs.Bytes.{lay, padded}
use Rattle.geometry.specs.Sizes.{sector}
use Rattle.geometry.proofs.Bytes.{lay-short}
use Rattle.steps.specs.Effects.{sector_at, plain_do}
use Rattle.sessions.specs.Session.{idle, fresh}
use Rattle.straight.specs.Moving.{bench}
use borrow.Author.Rules.{rules}
use Rattle.straight.proofs.StraightMover.change.Goals as goal

pub returns : goal.returns
unfolding plain_do
returns c =
    let a = c.args in
    let s = a.self.now in
    let n : length s.image.now ≤ 9223372036854775807 = search rules in
    let at : ℕ = c.saturating_add-at.result in
    let to : ℕ = sector_at s.entry a.k + a.byte in
    let xs : List ℕ = padded a.behind (sector - a.byte) a.xs.now in (
      ap (λ image. bench image (fresh idle)) (rw (c.lay_padded.ensures, c.room_behind.ensures) (go s.image.now xs at to n
          (λ (h : to < 18446744073709551616). omega (arith, h, c.saturating_add-sector.ensures, c.saturating_mul.ensures, c.saturating_add-at.ensures))
          (λ (h : ¬ (to < 18446744073709551616)). omega (arith, h, c.saturating_add-sector.ensures, c.saturating_mul.ensures, c.saturating_add-at.ensures)))),
      (refl, refl),
    )
  where
    go : (image xs : List ℕ) (at to : ℕ) → length image ≤ 9223372036854775807 → (to < 18446744073709551616 → at ≡ to) → (¬ (to < 18446744073709551616) → 18446744073709551615 ≤ at)
        → lay image at xs ≡ lay image to xs
    go image xs at to n same far = by (dec_lt to 18446744073709551616)
      where
        by : Dec (to < 18446744073709551616) → lay image at xs ≡ lay image to xs
        by (yes h) = ap (λ (at : ℕ). lay image at xs) (same h)
        by (no h) = let f : 18446744073709551615 ≤ at = far h in lay-short image at xs (omega arith) ∙ sym (lay-short image to xs (omega arith))
