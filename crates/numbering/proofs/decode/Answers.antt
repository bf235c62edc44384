-- By the answer of the decoding.
use mathlib.Core.Path.{ap, ◌∙◌}
use lib.ListN.{length}
use Rattle.std.specs.Prelude.{Result}
use Rattle.std.specs.Result.{result_unwrap_or}
use Rattle.decoding.specs.Decode.{decode}
use Rattle.decoding.specs.declared.BadCode.{BadCode}
use Rattle.numbering.proofs.Codes.{answer-size}
use Rattle.numbering.proofs.decode.Goals as goal

pub returns : goal.returns
returns c =
    let a = c.args in
    let d = c.decode.ensures in
    (c.unwrap_or.ensures ∙ ap (λ (r : Result _ BadCode). result_unwrap_or r 0) d.0 ∙ answer-size (decode (length a.text.now) a.code.now), d.1)
