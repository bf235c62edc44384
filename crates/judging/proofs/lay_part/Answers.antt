-- What a sector has from byte o on begins with the record.
use Rattle.geometry.specs.Bytes.{part, lay}
use Rattle.geometry.proofs.Bytes.{part-part}
use native.Mathlib.Omega.{arith}
use Prim.Native.Nat.{ℕ, ◌+◌, ◌-◌}
use lib.ListN.{length}
use mathlib.Core.Path.{◌≡◌, ap, ◌∙◌}
use Rattle.judging.proofs.lay_part.Goals as goal

pub returns : goal.returns
unfolding part
returns c =
    let a = c.args in
    let z : a.o + 0 ≡ a.o = omega arith in
    c.read_record.ensures
    ∙ ap (lay a.buffer.now 0) (part-part a.sector.now a.o (length a.sector.now - a.o) 0 a.n (omega (arith, c.requires)) ∙ ap (λ (k : ℕ). part a.sector.now k a.n) z)
