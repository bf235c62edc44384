-- A field laid behind those before it is laid with them; a word's bytes, the high one first, are those that std gives.
use mathlib.Core.Path.{◌≡◌, sym, ap, ◌∙◌}
use mathlib.Core.List.{List, ◌++◌, append_assoc}
use Prim.Native.Nat.{ℕ, ◌+◌, ◌/◌, ◌%◌, ◌≤◌, ◌<◌}
use native.Mathlib.Omega.{arith}
use lib.ListN.{length, length-append}
use Rattle.std.specs.Int.{w16, to_be_bytes}
use Rattle.geometry.specs.Bytes.{lay, word}
use Rattle.geometry.proofs.Bytes.{lay-append}

pub word-bytes : (n : ℕ) → n < 65536 → to_be_bytes w16 n ≡ word n
unfolding word
word-bytes n h = let e : n / 256 % 256 ≡ n / 256 = omega arith in rw e

-- ---- one field behind another

module _ (b b' b″ : List ℕ) (at c : ℕ) (xs ys : List ℕ) where
  pub behind : b' ≡ lay b at xs → c ≡ at + length xs → b″ ≡ lay b' c ys → at + (length xs + length ys) ≤ length b → b″ ≡ lay b at (xs ++ ys)
  behind e p f h =
      f ∙ ap (λ (k : ℕ). lay b' k ys) p ∙ ap (λ (x : List ℕ). lay x (at + length xs) ys) e ∙ sym (lay-append b at xs ys h)

-- a name, four words and what comes behind them
pub fields : (b b₁ b₂ b₃ b₄ b₅ b₆ : List ℕ) (at k l f s : ℕ) (name rest : List ℕ) → length name ≡ 8 → at + (16 + length rest) ≤ length b
    → b₁ ≡ lay b at name → b₂ ≡ lay b₁ (at + 8) (word k) → b₃ ≡ lay b₂ (at + 10) (word l) → b₄ ≡ lay b₃ (at + 12) (word f) → b₅ ≡ lay b₄ (at + 14) (word s) → b₆ ≡ lay b₅ (at + 16) rest
    → b₆ ≡ lay b at (name ++ (word k ++ (word l ++ (word f ++ (word s ++ rest)))))
unfolding word
fields b b₁ b₂ b₃ b₄ b₅ b₆ at k l f s name rest n room e₁ e₂ e₃ e₄ e₅ e₆ =
    let n₂ : length (name ++ word k) ≡ 10 = length-append name (word k) ∙ omega arith in
    let n₃ : length ((name ++ word k) ++ word l) ≡ 12 = length-append (name ++ word k) (word l) ∙ omega arith in
    let n₄ : length (((name ++ word k) ++ word l) ++ word f) ≡ 14 = length-append ((name ++ word k) ++ word l) (word f) ∙ omega arith in
    let n₅ : length ((((name ++ word k) ++ word l) ++ word f) ++ word s) ≡ 16 = length-append (((name ++ word k) ++ word l) ++ word f) (word s) ∙ omega arith in
    let h₂ = behind b b₁ b₂ at (at + 8) name (word k) e₁ (omega arith) e₂ (omega arith) in
    let h₃ = behind b b₂ b₃ at (at + 10) (name ++ word k) (word l) h₂ (omega arith) e₃ (omega arith) in
    let h₄ = behind b b₃ b₄ at (at + 12) ((name ++ word k) ++ word l) (word f) h₃ (omega arith) e₄ (omega arith) in
    let h₅ = behind b b₄ b₅ at (at + 14) (((name ++ word k) ++ word l) ++ word f) (word s) h₄ (omega arith) e₅ (omega arith) in
    let h₆ = behind b b₅ b₆ at (at + 16) ((((name ++ word k) ++ word l) ++ word f) ++ word s) rest h₅ (omega arith) e₆ (omega arith) in
    h₆ ∙ ap (lay b at) (simp append_assoc)
