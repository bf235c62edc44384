-- A request by a code that names one is that request: its number tells its answer, since no two answers have the same.
use mathlib.Core.Path.{◌≡◌, ap, ◌∙◌}
use mathlib.Core.List.{List}
use Prim.Native.Nat.{ℕ}
use Rattle.std.specs.Prelude.{Some}
use Rattle.requests.specs.Numbers.{number_of}
use Rattle.requests.specs.declared.Answer.{Answer}
use Rattle.requests.specs.declared.Request.{Request}
use Rattle.requests.proofs.Numbers.{same_number}
use Rattle.judging.specs.Lent.{after_in}
use Rattle.steps.specs.Step.{After}
use Rattle.engines.specs.Engines as Engines
use Rattle.asking.specs.Requested.{Left, left, requested}

-- what a caller learns of it
pub told-by : (image b : List ℕ) (i : ℕ) (q : Request) (given buffer : List ℕ) (a : Answer) (to lent moved : List ℕ)
    → left (number_of a) to lent moved ≡ requested image b i (Some q) given buffer
    → after_in a to lent moved ≡ Engines.requested image b i q given buffer
unfolding requested
told-by image b i q given buffer a to lent moved h =
    let w : After (List ℕ) = Engines.requested image b i q given buffer in
    let an : a ≡ w.answer = same_number a w.answer (ap (λ (l : Left). l.number) h) in
    ap (λ (x : Answer). after_in x to lent moved) an
    ∙ ap (λ (xs : List ℕ). after_in w.answer xs lent moved) (ap (λ (l : Left). l.image) h)
    ∙ ap (λ (xs : List ℕ). after_in w.answer w.image xs moved) (ap (λ (l : Left). l.session) h)
    ∙ ap (λ (xs : List ℕ). after_in w.answer w.image w.session xs) (ap (λ (l : Left). l.buffer) h)
