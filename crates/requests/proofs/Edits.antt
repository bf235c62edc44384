-- What the answer to an edit tells of the facts: 0 that each test was passed; and no test of an edit gives 1 or 2.
use mathlib.Core.Path.{◌≡◌, subst}
use mathlib.Core.Bool.{Bool, true, false, not}
use mathlib.Core.List.{List, [], ◌∷◌}
use Prim.Native.Nat.{ℕ}
use borrow.Author.Tests.{not-false}
use Rattle.requests.specs.Judge.{Stage, Test, refused_if, whether, or_else, first_of, edit_tests, judge_edit, EditFacts}
use Rattle.requests.proofs.Done.{passing}
use Rattle.requests.specs.declared.Answer.{Answer}
use Rattle.requests.specs.declared.Answer.TheVariants.{Done, Met, Refused}
use Rattle.requests.specs.declared.Edge.{Edge}
use Rattle.requests.specs.declared.Edit.{Edit}
use Rattle.requests.specs.declared.Edit.TheVariants.{Add, Delete}
use Rattle.requests.specs.declared.Refusal.{Refusal}
use Rattle.requests.specs.declared.Refusal.TheVariants.{BadName}

-- ---- what holds where an edit is done

pub record Adds (f : EditFacts) : Type 0 where
  pub legal : f.legal ≡ true
  pub mounted : f.refused ≡ false
  pub named : f.named ≡ true
  pub shaped : f.shaped ≡ true
  pub untaken : f.taken ≡ false
  pub entry : f.entry ≡ true
  pub gap : f.gap ≡ true

pub record Deletes (f : EditFacts) : Type 0 where
  pub legal : f.legal ≡ true
  pub used : f.used ≡ true
  pub shut : f.opened ≡ false

abbrev pub EditAllows : Edit → EditFacts → Type 0
EditAllows (Add kind length sectors) f = Adds f
EditAllows Delete f = Deletes f

-- what an answer tells
abbrev pub EditTells : Edit → EditFacts → Answer → Type 0
EditTells x f Done = EditAllows x f
EditTells x f (Met e) = ⊥
EditTells x f (Refused r) = Unit {0}

-- ---- one test after another

module _ (x : Edit) (f : EditFacts) where
  last : EditAllows x f → EditTells x f (first_of [] f)
  unfolding first_of or_else
  last h = h

  past : (o : Stage) (r : Refusal) (p : EditFacts → Bool) (ts : List (Test EditFacts)) → (p f ≡ false → EditTells x f (first_of ts f))
      → EditTells x f (first_of (refused_if o r p ∷ ts) f)
  past o r p ts k = passing (EditTells x f) (refused_if o r p) ts f (λ e. tt) k

pub edit-tells : (x : Edit) (f : EditFacts) → EditTells x f (judge_edit x f)
unfolding judge_edit edit_tests
edit-tells (Add k l n) f =
    past (Add k l n) f _ _ _ _ λ (a : not f.legal ≡ false). past (Add k l n) f _ _ _ _ λ b. past (Add k l n) f _ _ _ _ λ (c : not f.named ≡ false).
    past (Add k l n) f _ _ _ _ λ (d : not f.shaped ≡ false). past (Add k l n) f _ _ _ _ λ e. past (Add k l n) f _ _ _ _ λ (g : not f.entry ≡ false).
    past (Add k l n) f _ _ _ _ λ (h : not f.gap ≡ false).
    last (Add k l n) f (record { legal = not-false _ a; mounted = b; named = not-false _ c; shaped = not-false _ d; untaken = e; entry = not-false _ g; gap = not-false _ h })
edit-tells Delete f =
    past Delete f _ _ _ _ λ (a : not f.legal ≡ false). past Delete f _ _ _ _ λ (b : not f.used ≡ false). past Delete f _ _ _ _ λ c.
    last Delete f (record { legal = not-false _ a; used = not-false _ b; shut = c })

pub done-edits : (x : Edit) (f : EditFacts) → judge_edit x f ≡ Done → EditAllows x f
done-edits x f e = subst (EditTells x f) e (edit-tells x f)

pub never_met : (x : Edit) (f : EditFacts) (e : Edge) → judge_edit x f ≡ Met e → ⊥
never_met x f e m = subst (EditTells x f) m (edit-tells x f)

-- a bad name is refused whatever is behind it
pub bad-name : (k l n : ℕ) (f : EditFacts) → f.legal ≡ true → f.refused ≡ false → f.named ≡ false → judge_edit (Add k l n) f ≡ Refused BadName
unfolding judge_edit edit_tests first_of or_else whether
bad-name k l n f a b c = rw (a, b, c)
