-- `directory::used_good` meets its contract: the rules that do not differ from kind to kind first, then those of the kind; there is no fifth.
use mathlib.Core.Path.{sym, ◌∙◌}
use native.Mathlib.Omega.{arith}
use borrow.Author.Tests.{le-leb, lt-leb}
use Rattle.directory.specs.Rules.{flags_known}
use Rattle.directory.proofs.Grouped.{used-outside, used-flagged, used-kind, used-other}
use Rattle.vetting.proofs.used_good.Goals as goal

pub returns-then-not-extent_inside : goal.returns-then-not-extent_inside
returns-then-not-extent_inside c =
    let a = c.args in
    sym (used-outside a.n a.e (sym c.extent_inside.ensures ∙ c.if-not-extent_inside.true))

pub returns-then-e-gt3 : goal.returns-then-e-gt3
unfolding flags_known
returns-then-e-gt3 c =
    let a = c.args in
    sym (used-flagged a.n a.e (sym c.extent_inside.ensures ∙ c.if-not-extent_inside.false) (lt-leb _ _ c.if-e-gt3.true))

pub returns-in-1 : goal.returns-in-1
unfolding flags_known
returns-in-1 c =
    let a = c.args in
    c.unblocked_good.ensures ∙ sym (used-kind a.n a.e (sym c.extent_inside.ensures ∙ c.if-not-extent_inside.false) (le-leb _ _ c.if-e-gt3.false) (omega arith) (omega arith))

pub returns-in-2 : goal.returns-in-2
unfolding flags_known
returns-in-2 c =
    let a = c.args in
    c.blocked_good.ensures ∙ sym (used-kind a.n a.e (sym c.extent_inside.ensures ∙ c.if-not-extent_inside.false) (le-leb _ _ c.if-e-gt3.false) (omega arith) (omega arith))

pub returns-in-3 : goal.returns-in-3
unfolding flags_known
returns-in-3 c =
    let a = c.args in
    c.compressed_good.ensures ∙ sym (used-kind a.n a.e (sym c.extent_inside.ensures ∙ c.if-not-extent_inside.false) (le-leb _ _ c.if-e-gt3.false) (omega arith) (omega arith))

pub returns-in-4 : goal.returns-in-4
unfolding flags_known
returns-in-4 c =
    let a = c.args in
    c.random_good.ensures ∙ sym (used-kind a.n a.e (sym c.extent_inside.ensures ∙ c.if-not-extent_inside.false) (le-leb _ _ c.if-e-gt3.false) (omega arith) (omega arith))

pub returns-in_default : goal.returns-in_default
unfolding flags_known
returns-in_default c =
    let a = c.args in
    sym (used-other a.n a.e (sym c.extent_inside.ensures ∙ c.if-not-extent_inside.false) (le-leb _ _ c.if-e-gt3.false) (λ z. omega arith) (λ z. omega arith) (λ z. omega arith) (λ z. omega arith))

pub returns-in_default-kind : goal.returns-in_default-kind
unfolding flags_known
returns-in_default-kind c =
    let a = c.args in
    sym (used-other a.n a.e (sym c.extent_inside.ensures ∙ c.if-not-extent_inside.false) (le-leb _ _ c.if-e-gt3.false) (λ z. omega arith) (λ z. omega arith) (λ z. omega arith) (λ z. omega arith))
