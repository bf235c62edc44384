-- An extent with a held sector in place of its own: that sector's bytes are those lent for it, and every other sector's are the extent's.
use mathlib.Core.Path.{◌≡◌, ap, ◌∙◌}
use mathlib.Core.Bool.{Bool, true, false, ◌&&◌}
use mathlib.Core.List.{List, []}
use Prim.Native.Nat.{ℕ, ◌+◌, ◌*◌, ◌≤◌, ◌<◌}
use native.Mathlib.Omega.{arith}
use lib.ListN.{length}
use lib.Dec.{eqb, leb}
use borrow.Author.Tests.{eq-eqb, ne_eqb, eqb-true, eqb-false, leb-true, leb-false}
use Rattle.geometry.specs.Bytes.{part, lay}
use Rattle.geometry.specs.Sizes.{sector}
use Rattle.geometry.proofs.Bytes.{lay-short, part-lay-same, part-lay-apart}
use Rattle.geometry.proofs.Tests.{either, and_left, and_right, and_both, both_ways}
use Rattle.packing.specs.Reading.{overlaid}

module _ (bytes : List ℕ) (held : ℕ) (over : List ℕ) where
  -- nothing is held where no sector is lent
  pub overlaid-none : ¬ (length over ≡ sector) → overlaid bytes held over ≡ bytes
  unfolding overlaid
  overlaid-none n = rw (ne_eqb (length over) sector n, overlaid)

  pub overlaid-held : length over ≡ sector → overlaid bytes held over ≡ lay bytes (sector * held) over
  unfolding overlaid
  overlaid-held h = rw (eq-eqb (length over) sector h, overlaid)

  -- whether the n-th sector is the held one, and there is such a sector
  abbrev pub is_held : ℕ → Bool
  is_held n = (eqb (length over) sector && eqb n held) && leb (sector * held + sector) (length bytes)

  module _ (n : ℕ) where
    pub sector-held : is_held n ≡ true → part (overlaid bytes held over) (sector * n) sector ≡ over
    sector-held h =
        let both : eqb (length over) sector && eqb n held ≡ true = and_left _ (leb (sector * held + sector) (length bytes)) h in
        let size : length over ≡ sector = eqb-true (length over) sector (and_left _ _ both) in
        let is : n ≡ held = eqb-true n held (and_right (eqb (length over) sector) (eqb n held) both) in
        let fits : sector * held + sector ≤ length bytes = leb-true _ (length bytes) (and_right (eqb (length over) sector && eqb n held) _ h) in
        rw (overlaid-held size, is) (part-lay-same bytes (sector * held) over sector size fits)

    pub sector-own : is_held n ≡ false → part (overlaid bytes held over) (sector * n) sector ≡ part bytes (sector * n) sector
    sector-own h = either (eqb (length over) sector) (λ s. lent s) (λ s. ap there (overlaid-none (eqb-false _ _ s)))
      where
        there : List ℕ → List ℕ
        there z = part z (sector * n) sector

        same : length over ≡ sector → eqb (length over) sector ≡ true → eqb n held ≡ true → there (overlaid bytes held over) ≡ there bytes
        same size s i =
            either (leb (sector * held + sector) (length bytes)) (λ f. both_ways (is_held n) (and_both _ _ (and_both _ _ s i) f) h)
            (λ f. let short : length bytes < sector * held + sector = leb-false _ _ f in ap there (overlaid-held size ∙ lay-short bytes (sector * held) over (omega arith)))

        lent : eqb (length over) sector ≡ true → there (overlaid bytes held over) ≡ there bytes
        lent s =
            let size : length over ≡ sector = eqb-true _ _ s in
            either (eqb n held) (λ i. same size s i)
            (λ o. let other : ¬ (n ≡ held) = eqb-false n held o in rw (overlaid-held size) (part-lay-apart bytes (sector * held) over (sector * n) sector (omega arith)))

-- nothing is lent
pub overlaid-nil : (bytes : List ℕ) (held : ℕ) → overlaid bytes held [] ≡ bytes
overlaid-nil bytes held = overlaid-none bytes held [] (λ h. omega arith)
