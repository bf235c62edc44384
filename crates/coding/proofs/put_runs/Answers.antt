-- `coding::put_runs` meets its contract. The invariant: the code from i on, stored from at on, gives the whole code stored. That of the scan: k blanks
-- of the run are passed, the two that are seen already among them, and x does not end behind them.
use mathlib.Core.Path.{◌≡◌, refl, sym, ◌∙◌}
use mathlib.Core.Bool.{Bool, true, false}
use mathlib.Core.List.{List}
use Prim.Native.Nat.{ℕ, ◌≤◌, ◌<◌, ◌+◌}
use native.Mathlib.Omega.{arith}
use lib.ListN.{length, get_or, drop}
use Rattle.coding.specs.Encode.{gap_at, run_length}
use Rattle.coding.proofs.Runs.{gap-second}
use Rattle.coding.proofs.Writer.{Before, scan-full, scan-other, gap-none, gap_more, seen_none, seen-some, seen-two, rest_end, run-size, turn_gap, turn-characters}
use Rattle.coding.proofs.put_runs.Goals as goal
use Rattle.coding.proofs.put_runs.Goals.{Joined-n-eq2, After-put_characters-n, then-n-eq2+then-k-eq127, then-n-eq2+else-k-eq127+then-x-i-ne-BLANK, else-n-eq2}

-- the run from the place i of x on has n characters, blanks or others
record Run (x : List ℕ) (gap : Bool) (i n : ℕ) : Type 0 where
  is : gap_at x i ≡ gap
  all : n ≡ run_length 127 gap (Before x i) (drop i x)
  size : (0 < n) × (n ≤ 127) × (i + n ≤ length x)

run : (x : List ℕ) (gap : Bool) (i n : ℕ) → i < length x → gap_at x i ≡ gap → n ≡ run_length 127 gap (Before x i) (drop i x) → Run x gap i n
run x gap i n h is all = let s = run-size x i h gap is in record { is = is; all = all; size = (omega arith, omega arith, omega arith) }

-- a blank run is one blank, or the scan was left at its end
blank-run : (c : Joined-n-eq2) → Run c.args.kept.text.now true c.loop-i.i c.if-n-eq2.n
blank-run c =
    let x = c.args.kept.text.now in
    let i = c.loop-i.i in
    let e : c.if-n-eq2.n ≡ run_length 127 true (Before x i) (drop i x) =
    elim c.if-n-eq2.branch [
      | then-n-eq2+then-k-eq127 w ↦ w.n-is ∙ scan-full x true i w.run.k w.run.invariant.3 (omega (arith, w.run.invariant))
      | then-n-eq2+else-k-eq127+then-x-i-ne-BLANK w ↦ w.n-is ∙ scan-other x true i w.run.k w.run.invariant.3 (omega (arith, w.run.invariant)) w.run.invariant.1 (sym (gap-none x (i + w.run.k) w.if-x-i-ne-BLANK.true))
      | else-n-eq2 w ↦ omega arith
    ] in
    run x true i _ (omega arith) (seen-some x i (omega arith) (omega arith)) e

character-run : (c : After-put_characters-n) → Run c.args.kept.text.now false c.loop-i.i c.put_characters-n.result
character-run c =
    let x = c.args.kept.text.now in
    run x false c.loop-i.i _ (omega arith) (seen_none x c.loop-i.i (omega arith) (omega arith)) c.put_characters-n.ensures.0

pub loop-i-init : goal.loop-i-init
loop-i-init c = (omega arith, omega arith, refl, omega arith, refl)

-- ---- a run of blanks
pub first_blanks-n-requires : goal.first_blanks-n-requires
first_blanks-n-requires c = omega arith

pub run-init : goal.run-init
run-init c =
    let seen = c.first_blanks-n.ensures in
    let m = seen-two c.args.kept.text.now c.loop-i.i (omega arith) c.args.kept.kept (omega arith) in
    (omega arith, m.0, m.1, m.2)

pub run-preserved : goal.run-preserved
run-preserved c =
    let x = c.args.kept.text.now in
    let i = c.loop-i.i in
    let j = i + c.run.k in
    let m = gap_more x i c.run.k c.args.kept.kept (omega arith) (omega arith) (gap-second (Before x j) (get_or x j 0) (drop (j + 1) x) c.run.invariant.2 c.if-x-i-ne-BLANK.false) c.run.invariant.3 in
    (omega arith, m.0, m.1, m.2)

pub overflow_add-n : goal.overflow_add-n
overflow_add-n c = let s = (blank-run (goal.at.overflow_add-n c).Joined-n-eq2).size in omega arith

pub overflow_cast-n : goal.overflow_cast-n
overflow_cast-n c = let s = (blank-run (goal.at.overflow_cast-n c).Joined-n-eq2).size in omega arith

pub overflow_add-i-then-n-gt0 : goal.overflow_add-i-then-n-gt0
overflow_add-i-then-n-gt0 c = let s = (blank-run (goal.at.overflow_add-i-then-n-gt0 c).Joined-n-eq2).size in omega arith

pub overflow_add-at : goal.overflow_add-at
overflow_add-at c = let s = (blank-run (goal.at.overflow_add-at c).Joined-n-eq2).size in omega arith

pub loop-i-smaller-then-n-gt0 : goal.loop-i-smaller-then-n-gt0
loop-i-smaller-then-n-gt0 c = let s = (blank-run (goal.at.loop-i-smaller-then-n-gt0 c).Joined-n-eq2).size in omega arith

pub loop-i-preserved-then-n-gt0 : goal.loop-i-preserved-then-n-gt0
loop-i-preserved-then-n-gt0 c =
    let l = c.loop-i in
    let r = blank-run (goal.at.loop-i-preserved-then-n-gt0 c).Joined-n-eq2 in
    let p = c.put in
    let t = turn_gap c.args.kept.text.now l.out l.i l.at _ _ (omega arith) l.invariant.1 l.invariant.3 l.invariant.4 c.if-n-eq2.n p.new.out r.is r.all p.ensures in
    (t.0, t.1, p.auto.out ∙ l.invariant.2, t.2, t.3)

-- ---- a run of characters
pub put_characters-n-requires : goal.put_characters-n-requires
put_characters-n-requires c = (omega arith, seen_none c.args.kept.text.now c.loop-i.i (omega arith) (omega arith), omega arith)

pub overflow_cast-n-else-n-gt0 : goal.overflow_cast-n-else-n-gt0
overflow_cast-n-else-n-gt0 c = let s = (character-run (goal.at.overflow_cast-n-else-n-gt0 c).After-put_characters-n).size in omega arith

pub overflow_add-i-else-n-gt0 : goal.overflow_add-i-else-n-gt0
overflow_add-i-else-n-gt0 c = let s = (character-run (goal.at.overflow_add-i-else-n-gt0 c).After-put_characters-n).size in omega arith

pub overflow_add-at-else-n-gt0-2 : goal.overflow_add-at-else-n-gt0-2
overflow_add-at-else-n-gt0-2 c = let s = (character-run (goal.at.overflow_add-at-else-n-gt0-2 c).After-put_characters-n).size in omega arith

pub overflow_add-at-else-n-gt0-3 : goal.overflow_add-at-else-n-gt0-3
overflow_add-at-else-n-gt0-3 c = let s = (character-run (goal.at.overflow_add-at-else-n-gt0-3 c).After-put_characters-n).size in omega arith

pub loop-i-smaller : goal.loop-i-smaller
loop-i-smaller c = let s = (character-run (goal.at.loop-i-smaller c).After-put_characters-n).size in omega arith

pub loop-i-preserved : goal.loop-i-preserved
loop-i-preserved c =
    let l = c.loop-i in
    let r = character-run (goal.at.loop-i-preserved c).After-put_characters-n in
    let m = c.put_characters-n in
    let p = c.put-else-n-gt0 in
    let t = turn-characters c.args.kept.text.now l.out l.i l.at _ _ (omega arith) l.invariant.1 l.invariant.3 l.invariant.4 m.result m.new.out p.new.out r.is m.ensures.0 m.ensures.1 p.ensures in
    (t.0, t.1, p.auto.out ∙ m.auto.out ∙ l.invariant.2, t.2, t.3)

-- ---- the end
pub shape_of-out : goal.shape_of-out
shape_of-out c = c.put-2.auto.out ∙ c.loop-i.invariant.2

pub returns : goal.returns
returns c =
    let x = c.args.kept.text.now in
    let past : length x ≤ c.loop-i.i = omega arith in
    let e = rest_end x c.loop-i.i past in
    (rw e at c.loop-i.invariant.3, c.put-2.ensures ∙ rw e at c.loop-i.invariant.4)
