-- The invariant: the run has the characters before j, and they are put.
use mathlib.Core.Path.{◌≡◌, refl, sym, ◌∙◌}
use mathlib.Core.Bool.{false}
use Prim.Native.Nat.{◌+◌, ◌-◌}
use native.Mathlib.Omega.{arith}
use Rattle.coding.proofs.Writer.{scan-none, scan-full, scan-other, characters-more}
use Rattle.coding.proofs.Kept.put_characters.Goals as goal

pub loop-j-init : goal.loop-j-init
loop-j-init c =
    let a = c.args in
    let none : a.i - a.i ≡ 0 = omega arith in
    let back : a.i + 1 - 1 ≡ a.i = omega arith in
    let m = characters-more a.self.text.now a.out.now a.out.now c.put.new.out a.i a.at a.i a.at (omega arith) (omega arith) (omega arith) c.requires.1 (rw none (scan-none a.self.text.now false a.i)) (omega arith) (rw none) c.put.ensures in
    (rw back c.requires.1, m.0, m.1)

pub begins_gap-requires : goal.begins_gap-requires
begins_gap-requires c =
    let e = c.min-end.ensures in
    let l = c.loop-j.auto in
    (omega arith, omega arith, c.loop-j.invariant.0)

pub returns-then-begins_gap : goal.returns-then-begins_gap
returns-then-begins_gap c =
    let a = c.args in
    let e = c.min-end.ensures in
    let l = c.loop-j in
    let back : a.i + (l.j - a.i) ≡ l.j = omega arith in
    (scan-other a.self.text.now false a.i (l.j - a.i) l.invariant.1 (omega arith) (omega arith) (rw back (sym c.begins_gap.ensures ∙ c.if-begins_gap.true)), l.invariant.2)

-- the character at j is put
pub loop-j-preserved : goal.loop-j-preserved
loop-j-preserved c =
    let a = c.args in
    let e = c.min-end.ensures in
    let l = c.loop-j in
    let back : l.j + 1 - 1 ≡ l.j = omega arith in
    let none = sym c.begins_gap.ensures ∙ c.if-begins_gap.false in
    let m = characters-more a.self.text.now a.out.now l.out c.put-in-loop-j.new.out a.i a.at l.j (a.at + (l.j - a.i)) (omega arith) (omega arith) (omega arith) none l.invariant.1 refl l.invariant.2 c.put-in-loop-j.ensures in
    (rw back none, m.0, m.1)

pub returns : goal.returns
returns c =
    let a = c.args in
    let e = c.min-end.ensures in
    let l = c.loop-j in
    let s = l.auto.j-end (omega arith) in
    let all : l.j ≡ c.min-end.result = omega arith in
    (scan-full a.self.text.now false a.i (c.min-end.result - a.i) (rw all at l.invariant.1) (omega arith), rw all at l.invariant.2)
