-- `decoding::place` meets its contract. The invariant: what is still to be read, from i on into the room from j on, fills out as the whole does.
use mathlib.Core.Path.{◌≡◌, refl, sym, ◌∙◌}
use Prim.Native.Nat.{◌+◌, ◌-◌}
use native.Mathlib.Nat.{sub-zero}
use native.Mathlib.Omega.{arith}
use lib.ListN.{get_or}
use Rattle.decoding.proofs.Filled.{inside, stops, passes, over, run_fits, laid}
use Rattle.decoding.proofs.place.Goals as goal

pub loop-i-init : goal.loop-i-init
loop-i-init c = (refl, rw sub-zero c.requires, refl)

-- the control byte at hand is there
pub bounds-s-i : goal.bounds-s-i
bounds-s-i c = inside c.args.s.now c.loop-i.i c.loop-i.out c.loop-i.j c.loop-i.invariant.1

-- a run of characters
pub slice_bounds-lay-end : goal.slice_bounds-lay-end
slice_bounds-lay-end c =
    let l = c.loop-i in
    let fit = run_fits c.args.s.now l.i l.out l.j l.invariant.1 (λ z. omega arith) (omega arith) in
    omega (arith, fit.0)

pub overflow_add-j : goal.overflow_add-j
overflow_add-j c =
    let l = c.loop-i in
    let fit = run_fits c.args.s.now l.i l.out l.j l.invariant.1 (λ z. omega arith) (omega arith) in
    omega (arith, fit.1)

pub loop-i-smaller-then-c-lt128 : goal.loop-i-smaller-then-c-lt128
loop-i-smaller-then-c-lt128 c =
    let l = c.loop-i in
    let fit = run_fits c.args.s.now l.i l.out l.j l.invariant.1 (λ z. omega arith) (omega arith) in
    omega (arith, fit.0)

pub loop-i-preserved-then-c-lt128 : goal.loop-i-preserved-then-c-lt128
loop-i-preserved-then-c-lt128 c =
    let l = c.loop-i in
    let a = c.args in
    let p = c.lay in
    let n = get_or a.s.now l.i 0 in
    let size : l.i + 1 + n - (l.i + 1) ≡ n = omega arith in
    let r = laid a.s.now l.i l.out l.j l.invariant.1 (λ z. omega arith) (omega arith) p.new.out (rw size at p.ensures) in
    (p.auto.out ∙ l.invariant.0, r.0, l.invariant.2 ∙ r.1)

-- a run of blanks
pub overflow_add-j-else-c-lt128 : goal.overflow_add-j-else-c-lt128
overflow_add-j-else-c-lt128 c =
    let l = c.loop-i in
    let s = c.args.s.now in
    let passed = passes s l.i l.out l.j l.invariant.1 (over s l.i l.out l.j l.invariant.1 (omega arith)) in
    omega (arith, passed.0)

pub loop-i-smaller : goal.loop-i-smaller
loop-i-smaller c = omega (arith, inside c.args.s.now c.loop-i.i c.loop-i.out c.loop-i.j c.loop-i.invariant.1)

pub loop-i-preserved : goal.loop-i-preserved
loop-i-preserved c =
    let l = c.loop-i in
    let s = c.args.s.now in
    let p = passes s l.i l.out l.j l.invariant.1 (over s l.i l.out l.j l.invariant.1 (omega arith)) in
    (l.invariant.0, p.1, l.invariant.2 ∙ p.2)

pub returns : goal.returns
returns c =
    let l = c.loop-i in
    stops c.args.s.now l.i l.out l.j l.invariant.1 (omega arith) ∙ sym l.invariant.2 ∙ rw sub-zero
