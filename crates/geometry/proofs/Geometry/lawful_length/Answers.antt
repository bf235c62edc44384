-- `Geometry::lawful_length` meets its contract: an image is made of whole sectors exactly if as many as there are fill it.
use mathlib.Core.Path.{◌≡◌}
use mathlib.Core.List.{List}
use Prim.Native.Nat.{ℕ, ◌/◌, ◌<◌, ◌^◌}
use native.Mathlib.Omega.{arith}
use lib.ListN.{length}
use Rattle.geometry.specs.Sizes.{sectors_of, lawful_length}
use Rattle.geometry.proofs.Places.{whole-fills}
use borrow.Author.Rules.{rules}
use Rattle.geometry.proofs.Geometry.lawful_length.Goals as goal

pub overflow_mul-result : goal.overflow_mul-result
unfolding sectors_of
overflow_mul-result c =
    let xs : List ℕ = c.args.image.now in
    let l : length xs < 2 ^ 64 = search rules in
    let q : c.sectors_of-n.result ≡ length xs / 360 = c.sectors_of-n.ensures in
    omega arith

pub returns : goal.returns
unfolding lawful_length sectors_of
returns c = rw (c.sectors_of-n.ensures, whole-fills (length c.args.image.now))
