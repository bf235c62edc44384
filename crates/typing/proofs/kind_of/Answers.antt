-- `typing::kind_of` meets its contract: the words are compared in their order.
use mathlib.Core.Path.{◌≡◌, sym, ap, ◌∙◌}
use mathlib.Core.Bool.{Bool}
use mathlib.Core.List.{List}
use Prim.Native.Nat.{ℕ}
use lib.Dec.{eqb}
use lib.Pointwise.{pointwise}
use Rattle.geometry.specs.Lists.{same}
use Rattle.geometry.proofs.Tests.{equal_same}
use Rattle.texts.specs.Texts.{spelled}
use Rattle.typing.proofs.Numbers.{first, second, third, fourth, no_word}
use Rattle.typing.proofs.kind_of.Goals as goal

-- what a comparison has told
told : (text w word : List ℕ) (r b : Bool) → r ≡ pointwise eqb text w → w ≡ word → r ≡ b → same text word ≡ b
told text w word r b e f h = sym (e ∙ ap (pointwise eqb text) f ∙ equal_same text word) ∙ h

pub returns-then-eq : goal.returns-then-eq
unfolding spelled
returns-then-eq c = let t = c.args.text.now in sym (first t (told t _ _ _ _ c.eq.ensures c.as_slice.ensures c.if-eq.true))

pub returns-then-eq-2 : goal.returns-then-eq-2
unfolding spelled
returns-then-eq-2 c =
    let t = c.args.text.now in
    sym
    (second t (told t _ _ _ _ c.eq.ensures c.as_slice.ensures c.if-eq.false)
    (told t _ _ _ _ c.eq-2.ensures c.as_slice-2.ensures c.if-eq-2.true))

pub returns-then-eq-3 : goal.returns-then-eq-3
unfolding spelled
returns-then-eq-3 c =
    let t = c.args.text.now in
    sym
    (third t (told t _ _ _ _ c.eq.ensures c.as_slice.ensures c.if-eq.false)
    (told t _ _ _ _ c.eq-2.ensures c.as_slice-2.ensures c.if-eq-2.false)
    (told t _ _ _ _ c.eq-3.ensures c.as_slice-3.ensures c.if-eq-3.true))

pub returns-then-eq-4 : goal.returns-then-eq-4
unfolding spelled
returns-then-eq-4 c =
    let t = c.args.text.now in
    sym
    (fourth t (told t _ _ _ _ c.eq.ensures c.as_slice.ensures c.if-eq.false)
    (told t _ _ _ _ c.eq-2.ensures c.as_slice-2.ensures c.if-eq-2.false)
    (told t _ _ _ _ c.eq-3.ensures c.as_slice-3.ensures c.if-eq-3.false)
    (told t _ _ _ _ c.eq-4.ensures c.as_slice-4.ensures c.if-eq-4.true))

pub returns : goal.returns
unfolding spelled
returns c =
    let t = c.args.text.now in
    c.number_of.ensures
    ∙ sym
    (no_word t (told t _ _ _ _ c.eq.ensures c.as_slice.ensures c.if-eq.false)
    (told t _ _ _ _ c.eq-2.ensures c.as_slice-2.ensures c.if-eq-2.false)
    (told t _ _ _ _ c.eq-3.ensures c.as_slice-3.ensures c.if-eq-3.false)
    (told t _ _ _ _ c.eq-4.ensures c.as_slice-4.ensures c.if-eq-4.false))
