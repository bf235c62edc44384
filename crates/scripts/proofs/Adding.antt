-- Sums word by word: behind each word the sum of the rest is to be added, and a remainder may be taken at any time.
use mathlib.Core.Path.{◌≡◌, refl, ap}
use mathlib.Core.List.{List, [], ◌∷◌, ◌++◌}
use Prim.Native.Nat.{ℕ, min, ◌+◌, ◌%◌, ◌<◌}
use native.Mathlib.Omega.{arith}
use lib.ListN.{length}
use Rattle.std.proofs.lemmas.List.{nil_from_length}
use Rattle.geometry.specs.Bytes.{word_at}
use Rattle.scripts.specs.Sums.{words_of, total, sum_of, running}

front : (word rest : List ℕ) → length word ≡ min 2 (length (word ++ rest)) → 0 < length (word ++ rest) → words_of (word ++ rest) ≡ word_at word 0 ∷ words_of rest
unfolding words_of word_at
front [] rest n p = absurd (omega (arith, n, p))
front (x ∷ []) [] n p = ap (λ (w : ℕ). w ∷ []) (omega arith)
front (x ∷ []) (y ∷ rest) n p = absurd (omega (arith, n))
front (x ∷ y ∷ []) rest n p = refl
front (x ∷ y ∷ z ∷ word) rest n p = absurd (omega (arith, n))

-- a word and what is left behind it: only the last may have one byte
pub next : (all word rest : List ℕ) → all ≡ word ++ rest → length word ≡ min 2 (length all) → 0 < length all → words_of all ≡ word_at word 0 ∷ words_of rest
next all word rest e n p = rw e (front word rest (rw e at n) (rw e at p))

pub none : (rest : List ℕ) → length rest ≡ 0 → words_of rest ≡ []
unfolding words_of
none rest n = rw (nil_from_length rest n)

-- what the sum before the words ws and a come to
abbrev pub To : ℕ → List ℕ → ℕ
To a ws = (a + total ws) % 65535

pub added : (a w : ℕ) (ws : List ℕ) → To a (w ∷ ws) ≡ To ((a + w) % 65535) ws
unfolding total
added a w ws = omega arith

pub ended : (a : ℕ) → a < 65535 → To a [] ≡ a
unfolding total
ended a h = omega arith

pub begun : (ws : List ℕ) → To 0 ws ≡ sum_of ws
unfolding sum_of
begun ws = omega arith

pub behind : (a w : ℕ) (ws : List ℕ) → running a (w ∷ ws) ≡ (a + w) % 65535 ∷ running ((a + w) % 65535) ws
unfolding running
behind a w ws = refl

pub behind-none : (a : ℕ) → running a [] ≡ []
unfolding running
behind-none a = refl
