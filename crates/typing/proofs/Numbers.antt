-- A kind by its word: the branches are the definition's.
use mathlib.Core.Path.{◌≡◌, refl, ap, ◌∙◌}
use mathlib.Core.Bool.{true, false}
use mathlib.Core.List.{List, [], ◌∷◌}
use Prim.Native.Nat.{ℕ, suc}
use lib.Dec.{ltb}
use Rattle.geometry.specs.Lists.{first_with, same}
use Rattle.geometry.proofs.Tests.{chosen, not_chosen}
use Rattle.texts.specs.Texts.{spelled}
use Rattle.std.specs.Prelude.{Option, Some}
use Rattle.typing.specs.Typing.{number_of, kinds, kind_of}

-- the words are compared one after another
module _ (text : List ℕ) where
  module _ (w : List ℕ) (ws : List (List ℕ)) where
    here : same text w ≡ true → first_with (same text) (w ∷ ws) ≡ 0
    unfolding first_with
    here = chosen (same text w) 0 (suc (first_with (same text) ws))

    later : same text w ≡ false → (k : ℕ) → first_with (same text) ws ≡ k → first_with (same text) (w ∷ ws) ≡ suc k
    unfolding first_with
    later h k e = not_chosen (same text w) 0 (suc (first_with (same text) ws)) h ∙ ap suc e

  nowhere : first_with (same text) [] ≡ 0
  unfolding first_with
  nowhere = refl

  by_place : (k : ℕ) → first_with (same text) kinds ≡ k → kind_of text ≡ elim (ltb k 4) [ true ↦ Some (suc k) | false ↦ number_of text ]
  unfolding kind_of kinds
  by_place k e = ap (λ (k : ℕ). elim (ltb k 4) as (λ _. Option ℕ) [ true ↦ Some (suc k) | false ↦ number_of text ]) e

  pub first : same text (spelled "unblocked") ≡ true → kind_of text ≡ Some 1
  unfolding kinds
  first a = by_place 0 (here _ _ a)

  module _ (a : same text (spelled "unblocked") ≡ false) where
    pub second : same text (spelled "blocked") ≡ true → kind_of text ≡ Some 2
    unfolding kinds
    second b = by_place 1 (later _ _ a 0 (here _ _ b))

    module _ (b : same text (spelled "blocked") ≡ false) where
      pub third : same text (spelled "compressed") ≡ true → kind_of text ≡ Some 3
      unfolding kinds
      third c = by_place 2 (later _ _ a 1 (later _ _ b 0 (here _ _ c)))

      module _ (c : same text (spelled "compressed") ≡ false) where
        pub fourth : same text (spelled "random") ≡ true → kind_of text ≡ Some 4
        unfolding kinds
        fourth d = by_place 3 (later _ _ a 2 (later _ _ b 1 (later _ _ c 0 (here _ _ d))))

        pub no_word : same text (spelled "random") ≡ false → kind_of text ≡ number_of text
        unfolding kinds
        no_word d = by_place 4 (later _ _ a 3 (later _ _ b 2 (later _ _ c 1 (later _ _ d 0 nowhere))))
