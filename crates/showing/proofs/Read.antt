-- The next record: it is read into the front of the room, and a byte is left behind it for the line's end.
use mathlib.Core.Path.{◌≡◌, refl, ap, subst, ◌∙◌}
use mathlib.Core.List.{List, [], ◌++◌}
use Prim.Native.Nat.{ℕ, ◌≤◌, ◌<◌}
use native.Mathlib.Omega.{arith}
use lib.Dec.{ltb}
use lib.ListN.{length, take, drop}
use lib.Seq.{take_at}
use borrow.Author.Tests.{ltb-true}
use Rattle.geometry.proofs.Tests.{either, chosen, not_chosen}
use Rattle.requests.specs.Numbers.{number_of}
use Rattle.requests.specs.declared.Answer.{Answer}
use Rattle.requests.specs.declared.Request.TheVariants.{Read}
use Rattle.judging.specs.Lent.{after_in}
use Rattle.steps.specs.Step.{After}
use Rattle.engines.specs.Engines.{requested}
use Rattle.texts.specs.Texts.{Wrote}
use Rattle.showing.specs.Lines.{printed}
use Rattle.showing.specs.Showing.{room_for, read_into, room_after, Prints}

module _ (R : ℕ) (out : List ℕ) where
  room_most : room_for R out ≤ length out
  unfolding room_for
  room_most =
      either (ltb R (length out)) (λ t. let h : R < length out = ltb-true R (length out) t in omega (arith, chosen (ltb R (length out)) R 0 t))
      (λ t. omega (arith, not_chosen (ltb R (length out)) R 0 t))

  pub room-is : (n : ℕ) → n ≡ room_for R out → n ≤ length out
  room-is n e = omega (arith, room_most)

-- what is read is in the front of the room, and printed there
module _ (image b : List ℕ) (i R : ℕ) (out : List ℕ) (n : ℕ) (room : n ≡ room_for R out) (a : Answer) (to lent moved : List ℕ)
    (t : after_in a to lent moved ≡ requested image b i Read [] (take n out)) (size : length moved ≡ n) where
  abbrev w : After (List ℕ)
  w = requested image b i Read [] (take n out)

  is_read : w ≡ read_into image b i R out
  unfolding read_into
  is_read = ap (λ (k : ℕ). requested image b i Read [] (take k out)) room

  pub shows : (s : ℕ) (new : List ℕ) → Wrote (moved ++ drop n out) 0 (printed (number_of a) (take n (moved ++ drop n out))) new s
      → Prints (read_into image b i R out) (room_after image b i R out) (number_of a) s to lent new
  unfolding room_after
  shows s new wrote =
      subst (λ (v : After (List ℕ)). Prints v (v.buffer ++ drop (room_for R out) out) (number_of a) s to lent new) (t ∙ is_read) (
        refl,
        refl,
        refl,
        subst (λ (k : ℕ). Wrote (moved ++ drop k out) 0 (printed (number_of a) moved) new s) room
            (subst (λ (xs : List ℕ). Wrote (moved ++ drop n out) 0 (printed (number_of a) xs) new s) (take_at moved (drop n out) n size) wrote),
      )
