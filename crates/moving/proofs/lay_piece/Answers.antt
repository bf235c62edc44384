-- What is laid over the whole piece is the piece.
use mathlib.Core.Path.{◌≡◌, ap, ◌∙◌}
use mathlib.Core.List.{List}
use Prim.Native.Nat.{ℕ, ◌+◌, ◌-◌}
use native.Mathlib.Omega.{arith}
use lib.ListN.{length, take, drop, replicate, length-replicate}
use Rattle.geometry.specs.Bytes.{lay, part}
use Rattle.geometry.proofs.Bytes.{length-lay, length_part, lay-all}
use Rattle.moving.proofs.lay_piece.Goals as goal

-- the part that is read
of-xs : (xs : List ℕ) (i : ℕ) → take (i + 32 - i) (drop i xs) ≡ part xs i 32
unfolding part
of-xs xs i =
    let e : i + 32 - i ≡ 32 = omega arith in
    ap (λ (n : ℕ). take n (drop i xs)) e

pub lay_bytes-requires : goal.lay_bytes-requires
lay_bytes-requires c =
    let a = c.args in
    rw (of-xs a.xs.now a.i) (omega (arith, length_part a.xs.now a.i 32 c.requires.0))

pub lay_bytes-requires-2 : goal.lay_bytes-requires-2
lay_bytes-requires-2 c =
    let e = ap length c.lay_bytes.ensures ∙ length-lay (replicate 32 0) 0 _ in
    omega (arith, e, c.requires.0, c.requires.1)

pub returns : goal.returns
returns c =
    let a = c.args in
    let l = length_part a.xs.now a.i 32 c.requires.0 in
    let first = c.lay_bytes.ensures in
    c.lay_bytes-2.ensures
    ∙ ap (lay a.out.now (a.at + a.i)) (first ∙ ap (lay (replicate 32 0) 0) (of-xs a.xs.now a.i) ∙ lay-all 32 (replicate 32 0) (part a.xs.now a.i 32) (length-replicate {A = ℕ} 32 0) l)
