-- A record over 360 bytes fits nowhere; any other is tested as the definition says.
use mathlib.Core.Path.{sym}
use Prim.Native.Nat.{◌+◌}
use borrow.Author.Rules.{rules}
use borrow.Author.Tests.{ltb-true, lt-leb}
use native.Mathlib.Omega.{arith}
use Rattle.packing.specs.Placing.{fits_here}
use Rattle.packing.proofs.fits_here.Goals as goal

pub returns-then-e-gt-SECTOR : goal.returns-then-e-gt-SECTOR
unfolding fits_here
returns-then-e-gt-SECTOR c = sym (lt-leb (c.args.p.byte + c.args.e) 360 (omega (arith, ltb-true)))

pub returns : goal.returns
unfolding fits_here
returns c = search rules
