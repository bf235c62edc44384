-- The invariant: the records that are left lead from the place p to where all of them lead from the origin.
use mathlib.Core.Path.{◌≡◌, refl, sym, ◌∙◌}
use mathlib.Core.List.{List, []}
use Prim.Native.Nat.{ℕ, suc, ◌+◌, ◌-◌, ◌<◌}
use native.Mathlib.Omega.{arith}
use native.Mathlib.Nat.{sub-zero}
use Rattle.std.specs.Prelude.{Result, Ok}
use Rattle.std.proofs.lemmas.Result.{err_from_is_err_and}
use Rattle.geometry.specs.declared.Place.{Place}
use Rattle.packing.specs.declared.BadPlace.{BadPlace}
use Rattle.packing.specs.Reading.{overlaid, read_behind, lost_at, led_to, walk, walked_to}
use Rattle.walking.proofs.Overlaid.{overlaid-nil}
use Rattle.packing.proofs.Walks.{leads-on, leads-off}
use Rattle.walking.proofs.walk.Goals as goal

-- one record more, behind the place p
module _ (R sectors : ℕ) (bytes : List ℕ) (count k : ℕ) (p : Place) (more : k < count) (led : Result Place BadPlace) (is : led ≡ led_to (read_behind R sectors (overlaid bytes 0 []) p)) where
  left : count - k ≡ suc (count - (k + 1))
  left = omega arith

  on-to : (q : Place) → led ≡ Ok q → walked_to p (walk R sectors bytes (count - k) p) ≡ walked_to q (walk R sectors bytes (count - (k + 1)) q)
  on-to q e = rw left (leads-on R sectors bytes (count - (k + 1)) p q (rw (overlaid-nil bytes 0) at (sym is ∙ e)))

  off_at : (q : Place) → led ≡ lost_at q → walked_to p (walk R sectors bytes (count - k) p) ≡ lost_at q
  off_at q e = rw left (leads-off R sectors bytes (count - (k + 1)) p q (rw (overlaid-nil bytes 0) at (sym is ∙ e)))

pub loop-init : goal.loop-init
loop-init c = rw sub-zero refl

pub returns-in_err-p : goal.returns-in_err-p
returns-in_err-p c =
    let a = c.args in
    let l = c.loop in
    let s = c.skip_behind in
    let p = err_from_is_err_and c.from_residual.result c.from_residual.ensures.1 in
    rw (p.1, p.2) (sym (off_at a.length a.sectors a.bytes.now a.count l.counter l.p c.loop-test.true s.result s.ensures c.in_err-p.field-0.0.place c.in_err-p.was) ∙ l.invariant)

pub loop-preserved : goal.loop-preserved
loop-preserved c =
    let a = c.args in
    let l = c.loop in
    let s = c.skip_behind in
    sym (on-to a.length a.sectors a.bytes.now a.count l.counter l.p c.loop-test.true s.result s.ensures c.in_ok-p.p c.in_ok-p.was) ∙ l.invariant

pub returns : goal.returns
unfolding walk walked_to
returns c =
    let none : c.args.count - c.loop.counter ≡ 0 = omega arith in
    rw none at c.loop.invariant
