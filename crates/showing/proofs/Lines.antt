-- A record becomes its line where it stands: what is kept of a part is kept of the whole. And what is printed by a number is its definition's.
use mathlib.Core.Path.{◌≡◌, refl, sym, ap, subst, ◌∙◌}
use mathlib.Core.Logic.{◌≢◌}
use mathlib.Core.Bool.{true, false}
use mathlib.Core.List.{List, [], ◌∷◌, ◌++◌, map}
use Prim.Native.Nat.{ℕ, zero, suc, ◌≤◌, min}
use native.Mathlib.Omega.{arith}
use lib.ListN.{length, take, length-take}
use lib.Seq.{take-take}
use Rattle.coding.specs.Encode.{keeps}
use Rattle.coding.proofs.Runs.{keeps-le}
use Rattle.characters.specs.Characters.{ascii_of}
use Rattle.texts.specs.Texts.{Wrote}
use Rattle.geometry.proofs.Tests.{chosen, not_chosen}
use Rattle.showing.specs.Lines.{line_of, answer_line, is_end, printed, printed_first}

-- another word for the same text
pub as-text : {o xs ys new : List ℕ} {n : ℕ} → xs ≡ ys → Wrote o 0 xs new n → Wrote o 0 ys new n
as-text {o} {xs} {ys} {new} {n} e w = subst (λ (zs : List ℕ). Wrote o 0 zs new n) e w

-- the line of the first n bytes, which keep m
pub line-is : (o : List ℕ) (n m : ℕ) → m ≡ keeps (length (take n o)) (take n o) → map ascii_of (take m o) ++ (10 ∷ []) ≡ line_of (take n o)
unfolding line_of
line-is o n m e =
    let l : length (take n o) ≡ min n (length o) = length-take n o in
    let k : keeps (length (take n o)) (take n o) ≤ length (take n o) = keeps-le (length (take n o)) (take n o) in
    let t : take m (take n o) ≡ take m o = take-take m n o (omega arith) in
    ap (λ (xs : List ℕ). map ascii_of xs ++ (10 ∷ [])) (sym t ∙ ap (λ (j : ℕ). take j (take n o)) e)

-- ---- what is printed of a number

module _ (n : ℕ) (bytes : List ℕ) where
  pub printed-line : n ≡ 0 → printed n bytes ≡ line_of bytes
  unfolding printed
  printed-line e = ap (λ (k : ℕ). printed k bytes) e

  not_first : n ≢ 0 → printed n bytes ≡ elim (is_end n) [ true ↦ [] | false ↦ answer_line n ]
  unfolding printed
  not_first h = go n h
    where
      go : (k : ℕ) → k ≢ 0 → printed k bytes ≡ elim (is_end k) [ true ↦ [] | false ↦ answer_line k ]
      go zero h = absurd (h refl)
      go (suc k) h = refl

  pub printed-end : n ≢ 0 → is_end n ≡ true → printed n bytes ≡ []
  printed-end h e = not_first h ∙ chosen (is_end n) [] (answer_line n) e

  pub printed-answer : n ≢ 0 → is_end n ≡ false → printed n bytes ≡ answer_line n
  printed-answer h e = not_first h ∙ not_chosen (is_end n) [] (answer_line n) e

pub first-none : (n : ℕ) → n ≡ 0 → printed_first n ≡ []
unfolding printed_first
first-none n e = ap printed_first e

pub first-answer : (n : ℕ) → n ≢ 0 → printed_first n ≡ answer_line n
unfolding printed_first
first-answer zero h = absurd (h refl)
first-answer (suc n) h = refl
