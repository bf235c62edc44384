-- The place behind a record written: of a compressed file behind its code, in this sector or the next; of any other the place as it was.
use mathlib.Core.Path.{◌≡◌}
use mathlib.Core.Bool.{true, false}
use Prim.Native.Nat.{ℕ, ◌+◌, ◌≤◌}
use native.Mathlib.Omega.{arith}
use Rattle.geometry.specs.Sizes.{compressed}
use Rattle.geometry.proofs.Tests.{either}
use Rattle.directory.specs.Entries.{is_kind}
use Rattle.packing.specs.Placing.{fits_here, goes_to, behind_new}
use Rattle.judging.specs.Turns.{written_at}
use Rattle.geometry.specs.declared.Place.{Place}
use Rattle.directory.specs.declared.Entry.{Entry}
use Rattle.sessions.specs.declared.OpenFile.{OpenFile}

pub goes_near : (p : Place) (e : ℕ) → ((goes_to p e).sector ≤ p.sector + 1) × ((goes_to p e).byte ≤ p.byte)
unfolding goes_to
goes_near p e = either (fits_here p e)
    (λ (k : fits_here p e ≡ true). rw (k, goes_to) (omega arith, omega arith))
    (λ (k : fits_here p e ≡ false). rw (k, goes_to) (omega arith, omega arith))

pub written-packed : (code : ℕ) (e : Entry) (f : OpenFile) → is_kind compressed e ≡ true
    → written_at code e f ≡ record { sector = (goes_to f.here code).sector; byte = (goes_to f.here code).byte + code }
unfolding written_at behind_new
written-packed code e f k = rw (k, written_at)

pub written-fixed : (code : ℕ) (e : Entry) (f : OpenFile) → is_kind compressed e ≡ false → written_at code e f ≡ f.here
unfolding written_at
written-fixed code e f k = rw (k, written_at)
