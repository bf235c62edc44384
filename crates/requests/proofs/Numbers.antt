-- No two answers have one number: each can be read off the table of answer numbers.
use mathlib.Core.Path.{◌≡◌, refl, sym, ap, ◌∙◌}
use mathlib.Core.List.{[], ◌∷◌}
use Prim.Native.Nat.{ℕ}
use lib.ListN.{get_or}
use Rattle.requests.specs.Numbers.{number_of}
use Rattle.requests.specs.declared.Edge.TheVariants.{EndOfFile, BeginningOfTape}
use Rattle.requests.specs.declared.Refusal.TheVariants.{NoRoom, Protected, OddCount, BadSize, WrongSequence, NotThere, AlreadyOpen, FifthFile, BadImage, NotLegal, BadName, NameInUse, NoEntry, NoGap, BadShape}
use Rattle.requests.specs.declared.Answer.{Answer}
use Rattle.requests.specs.declared.Answer.TheVariants.{Done, Met, Refused}

answer_of : ℕ → Answer
answer_of n =
    get_or (Done ∷ Met EndOfFile ∷ Met BeginningOfTape ∷ Refused NoRoom ∷ Refused Protected ∷ Refused OddCount ∷ Refused BadSize ∷ Refused WrongSequence
    ∷ Refused NotThere ∷ Refused AlreadyOpen ∷ Refused FifthFile ∷ Refused BadImage ∷ Refused NotLegal ∷ Refused BadName
    ∷ Refused NameInUse ∷ Refused NoEntry ∷ Refused NoGap ∷ Refused BadShape ∷ []) n Done

of_number : (a : Answer) → answer_of (number_of a) ≡ a
unfolding answer_of
of_number Done = refl
of_number (Met EndOfFile) = refl
of_number (Met BeginningOfTape) = refl
of_number (Refused NoRoom) = refl
of_number (Refused Protected) = refl
of_number (Refused OddCount) = refl
of_number (Refused BadSize) = refl
of_number (Refused WrongSequence) = refl
of_number (Refused NotThere) = refl
of_number (Refused AlreadyOpen) = refl
of_number (Refused FifthFile) = refl
of_number (Refused BadImage) = refl
of_number (Refused NotLegal) = refl
of_number (Refused BadName) = refl
of_number (Refused NameInUse) = refl
of_number (Refused NoEntry) = refl
of_number (Refused NoGap) = refl
of_number (Refused BadShape) = refl

pub same_number : (a b : Answer) → number_of a ≡ number_of b → a ≡ b
same_number a b h = sym (of_number a) ∙ ap answer_of h ∙ of_number b

-- 0 is "done"
pub done-is : (a : Answer) → number_of a ≡ 0 → a ≡ Done
done-is a h = same_number a Done h
