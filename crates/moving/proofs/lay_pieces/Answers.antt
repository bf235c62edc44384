-- `moving::lay_pieces` meets its contract. The invariant: the first i bytes of xs are laid; the last turn lays some of them again.
use mathlib.Core.Path.{◌≡◌, refl, sym, ap, ◌∙◌}
use mathlib.Core.List.{List}
use Prim.Native.Nat.{ℕ, ◌+◌, ◌-◌, ◌≤◌, min}
use native.Mathlib.Omega.{arith}
use lib.ListN.{length, take}
use lib.Seq.{take_all}
use Rattle.geometry.specs.Bytes.{lay, part}
use Rattle.geometry.proofs.Bytes.{lay-nil, lay-again, length-lay}
use Rattle.moving.proofs.lay_pieces.Goals as goal

abbrev Laid : List ℕ → ℕ → List ℕ → List ℕ → ℕ → Type 0
Laid old at xs out i = (at + length xs ≤ length old) × (32 ≤ length xs) × (i ≤ length xs) × (length out ≡ length old) × (out ≡ lay old at (take i xs))

-- a piece that begins there lies in xs
starts : (i n j : ℕ) → 32 ≤ n → j ≡ min i (n - 32) → j + 32 ≤ n
starts i n j h e = omega arith

-- a turn keeps the invariant
turn : (old out new : List ℕ) (at : ℕ) (xs : List ℕ) (i j : ℕ) → Laid old at xs out i → j ≡ min i (length xs - 32)
    → new ≡ lay out (at + j) (part xs j 32) → Laid old at xs new (j + 32)
turn old out new at xs i j (h, k, m, l, o) e f =
    let g : new ≡ lay old at (take (j + 32) xs) = f ∙ rw o (lay-again old at xs i j 32 h (omega arith) (omega arith) (omega arith)) in
    (h, k, starts i (length xs) j k e, ap length g ∙ length-lay old at (take (j + 32) xs), g)

pub loop-i-init : goal.loop-i-init
loop-i-init c =
    let a = c.args in
    (c.requires.1, c.requires.0, omega arith, refl, sym (lay-nil a.out.now a.at))

pub lay_piece-requires : goal.lay_piece-requires
lay_piece-requires c =
    let l = c.loop-i in
    let n = length c.args.xs.now in
    (starts l.i n c.min-from.result l.invariant.1 c.min-from.ensures, rw l.invariant.3 l.invariant.0)

pub overflow_add-i : goal.overflow_add-i
overflow_add-i c =
    let l = c.loop-i in
    omega (arith, l.invariant.1, c.min-from.ensures)

pub loop-i-smaller : goal.loop-i-smaller
loop-i-smaller c = omega (arith, c.min-from.ensures)

pub loop-i-preserved : goal.loop-i-preserved
loop-i-preserved c =
    let a = c.args in
    let l = c.loop-i in
    turn a.out.now l.out _ a.at a.xs.now l.i _ l.invariant c.min-from.ensures c.lay_piece.ensures

pub shape_of-out : goal.shape_of-out
shape_of-out c = c.loop-i.invariant.3

pub returns : goal.returns
returns c =
    let a = c.args in
    let l = c.loop-i in
    l.invariant.4 ∙ ap (λ (xs : List ℕ). lay a.out.now a.at xs) (take_all l.i a.xs.now (omega arith))
