-- Things that stand in bytes one behind another, each in as many bytes. Definitions only.
use Rattle.std.specs.Prelude.{List, [], ◌∷◌, ◌++◌, ℕ, zero, suc, ◌+◌}

module _ {A : Type 0} where
  -- the bytes of each, one behind another
  unfoldable pub row_of : (A → List ℕ) → List A → List ℕ
  row_of f [] = []
  row_of f (x ∷ xs) = f x ++ row_of f xs

  -- what n of them hold, the first at byte `at`, each in w bytes; g tells what stands at a byte
  unfoldable pub row_in : (List ℕ → ℕ → A) → ℕ → ℕ → List ℕ → ℕ → List A
  row_in g w zero b at = []
  row_in g w (suc n) b at = g b at ∷ row_in g w n b (at + w)
