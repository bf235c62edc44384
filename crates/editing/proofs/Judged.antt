-- The answer to an edit by its facts: the refusal of the first test that holds, or 0.
use mathlib.Core.Path.{◌≡◌}
use mathlib.Core.Bool.{true, false}
use Prim.Native.Nat.{ℕ}
use Rattle.requests.specs.Judge.{whether, or_else, first_of, edit_tests, judge_edit, EditFacts}
use Rattle.requests.specs.declared.Answer.TheVariants.{Done, Refused}
use Rattle.requests.specs.declared.Edit.{Edit}
use Rattle.requests.specs.declared.Edit.TheVariants.{Add, Delete}
use Rattle.requests.specs.declared.Refusal.TheVariants.{NotThere, AlreadyOpen, BadImage, NotLegal, NameInUse, NoEntry, NoGap, BadShape}

pub not-legal : (x : Edit) (f : EditFacts) → f.legal ≡ false → judge_edit x f ≡ Refused NotLegal
unfolding judge_edit edit_tests first_of or_else whether
not-legal (Add k l n) f a = rw a
not-legal Delete f a = rw a

module _ (k l n : ℕ) (f : EditFacts) (a : f.legal ≡ true) where
  pub bad-image : f.refused ≡ true → judge_edit (Add k l n) f ≡ Refused BadImage
  unfolding judge_edit edit_tests first_of or_else whether
  bad-image b = rw (a, b)

  module _ (b : f.refused ≡ false) (c : f.named ≡ true) where
    pub bad-shape : f.shaped ≡ false → judge_edit (Add k l n) f ≡ Refused BadShape
    unfolding judge_edit edit_tests first_of or_else whether
    bad-shape d = rw (a, b, c, d)

    module _ (d : f.shaped ≡ true) where
      pub name-in-use : f.taken ≡ true → judge_edit (Add k l n) f ≡ Refused NameInUse
      unfolding judge_edit edit_tests first_of or_else whether
      name-in-use e = rw (a, b, c, d, e)

      module _ (e : f.taken ≡ false) where
        pub no-entry : f.entry ≡ false → judge_edit (Add k l n) f ≡ Refused NoEntry
        unfolding judge_edit edit_tests first_of or_else whether
        no-entry g = rw (a, b, c, d, e, g)

        module _ (g : f.entry ≡ true) where
          pub no_gap : f.gap ≡ false → judge_edit (Add k l n) f ≡ Refused NoGap
          unfolding judge_edit edit_tests first_of or_else whether
          no_gap h = rw (a, b, c, d, e, g, h)

          pub adds : f.gap ≡ true → judge_edit (Add k l n) f ≡ Done
          unfolding judge_edit edit_tests first_of or_else whether
          adds h = rw (a, b, c, d, e, g, h)

module _ (f : EditFacts) (a : f.legal ≡ true) where
  pub not_there : f.used ≡ false → judge_edit Delete f ≡ Refused NotThere
  unfolding judge_edit edit_tests first_of or_else whether
  not_there b = rw (a, b)

  module _ (b : f.used ≡ true) where
    pub still_open : f.opened ≡ true → judge_edit Delete f ≡ Refused AlreadyOpen
    unfolding judge_edit edit_tests first_of or_else whether
    still_open c = rw (a, b, c)

    pub deletes : f.opened ≡ false → judge_edit Delete f ≡ Done
    unfolding judge_edit edit_tests first_of or_else whether
    deletes c = rw (a, b, c)
