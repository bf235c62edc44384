-- A coded record goes into this sector or the next, which is why its place has room in its numbers.
use mathlib.Core.Path.{◌≡◌, sym}
use mathlib.Core.Bool.{true}
use native.Mathlib.Omega.{arith}
use borrow.Author.Tests.{eq-eqb, ne_eqb}
use Rattle.geometry.specs.Sizes.{compressed}
use Rattle.directory.specs.Entries.{is_kind}
use Rattle.judging.proofs.Written.{goes_near, written-packed, written-fixed}
use Rattle.judging.proofs.behind_written.Goals as goal

pub overflow_cast-result : goal.overflow_cast-result
overflow_cast-result c =
    let a = c.args in
    let k : is_kind compressed a.e ≡ true = eq-eqb a.e.kind 3 c.if-e-eq-COMPRESSED.true in
    record { fits = omega (arith, c.goes_to_sector.ensures, goes_near a.f.here a.code, c.requires k) }

pub overflow_add-result : goal.overflow_add-result
overflow_add-result c =
    let a = c.args in
    let k : is_kind compressed a.e ≡ true = eq-eqb a.e.kind 3 c.if-e-eq-COMPRESSED.true in
    record { fits = omega (arith, c.goes_to_byte.ensures, goes_near a.f.here a.code, c.requires k) }

pub overflow_cast-result-then-e-eq-COMPRESSED : goal.overflow_cast-result-then-e-eq-COMPRESSED
overflow_cast-result-then-e-eq-COMPRESSED c =
    let a = c.args in
    let k : is_kind compressed a.e ≡ true = eq-eqb a.e.kind 3 c.if-e-eq-COMPRESSED.true in
    record { fits = omega (arith, c.goes_to_byte.ensures, goes_near a.f.here a.code, c.requires k) }

pub returns-then-e-eq-COMPRESSED : goal.returns-then-e-eq-COMPRESSED
returns-then-e-eq-COMPRESSED c =
    let a = c.args in
    rw (c.goes_to_sector.ensures, c.goes_to_byte.ensures) (sym (written-packed a.code a.e a.f (eq-eqb a.e.kind 3 c.if-e-eq-COMPRESSED.true)))

pub returns-else-e-eq-COMPRESSED : goal.returns-else-e-eq-COMPRESSED
returns-else-e-eq-COMPRESSED c =
    let a = c.args in
    sym (written-fixed a.code a.e a.f (ne_eqb a.e.kind 3 c.if-e-eq-COMPRESSED.false))
