-- The lesser of the code's length and the room, which stays as it was.
use mathlib.Core.Path.{◌≡◌, ap, ◌∙◌}
use Prim.Native.Nat.{ℕ, min}
use lib.ListN.{length}
use lib.Seq.{length-sets}
use Rattle.coding.specs.Encode.{encode}
use Rattle.numbering.proofs.encode.Goals as goal

pub returns : goal.returns
returns c =
    let a = c.args in
    let e = c.encode-n.ensures in
    let room : length c.encode-n.new.out ≡ length a.code.now = ap length e.1 ∙ length-sets a.code.now 0 (encode a.text.now) in
    (c.min.ensures ∙ ap (λ (n : ℕ). min n (length c.encode-n.new.out)) e.0 ∙ ap (λ (n : ℕ). min (length (encode a.text.now)) n) room, e.1)
