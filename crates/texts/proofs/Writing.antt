-- Bytes put behind bytes are those bytes joined, and past the end nothing is put; a loop that puts a list piece by piece has at each turn the
-- rest of it to put.
use mathlib.Core.Path.{◌≡◌, refl, sym, subst, ◌∙◌}
use mathlib.Core.List.{List, [], ◌∷◌, ◌++◌, append_assoc}
use Prim.Native.Nat.{ℕ, suc, ◌+◌, ◌-◌, ◌≤◌, min}
use native.Mathlib.Omega.{arith}
use lib.Dec.{leb}
use lib.ListN.{length, length-append}
use lib.Seq.{sets, set_out, length-sets}
use borrow.Author.Tests.{leb-true, leb-false}
use Rattle.geometry.proofs.Bytes.{sets-append}
use Rattle.geometry.proofs.Tests.{either}
use Rattle.texts.specs.Texts.{Wrote}

pub sets-out : (xs l : List ℕ) (i : ℕ) → length l ≤ i → sets l i xs ≡ l
sets-out [] l i h = refl
sets-out (x ∷ xs) l i h = rw (set_out l i x h) (sets-out xs l (suc i) (omega arith))

-- b is i, or both are past the end
sets-from : (xs l : List ℕ) (a n b : ℕ) → b ≡ a + min n (length l - a) → sets l b xs ≡ sets l (a + n) xs
sets-from xs l a n b e =
    either (leb (a + n) (length l))
    (λ t. let h : a + n ≤ length l = leb-true (a + n) (length l) t in let f : b ≡ a + n = omega arith in rw f)
    (λ t. let h : suc (length l) ≤ a + n = leb-false (a + n) (length l) t in sets-out xs l b (omega arith) ∙ sym (sets-out xs l (a + n) (omega arith)))

-- the place behind m bytes and then n, in k bytes of room
behind : (a m n k b c : ℕ) → b ≡ a + min m (k - a) → c ≡ b + min n (k - b) → c ≡ a + min (m + n) (k - a)
behind a m n k b c e f = omega arith

pub wrote_none : (o : List ℕ) (a : ℕ) → Wrote o a [] o a
wrote_none o a = record { ends = omega arith; puts = refl }

module _ {o₀ o₁ o₂ : List ℕ} {a₀ a₁ a₂ : ℕ} {xs ys : List ℕ} where
  -- bytes put behind bytes
  pub then : Wrote o₀ a₀ xs o₁ a₁ → Wrote o₁ a₁ ys o₂ a₂ → Wrote o₀ a₀ (xs ++ ys) o₂ a₂
  then p q =
      let l : length o₁ ≡ length o₀ = rw p.puts (length-sets o₀ a₀ xs) in
      record {
        ends = rw length-append (behind a₀ (length xs) (length ys) (length o₀) a₁ a₂ p.ends (rw (← l) q.ends));
        puts = q.puts ∙ sets-from ys o₁ a₀ (length xs) a₁ (rw l p.ends) ∙ rw p.puts (sym (sets-append xs ys o₀ a₀));
      }

module _ {o₀ o₁ o₂ : List ℕ} {a₀ a₁ a₂ : ℕ} {ws : List ℕ} where
  -- bytes put behind a word and the byte that ends it
  pub word-then : (w : List ℕ) (c : ℕ) → Wrote o₀ a₀ (w ++ (c ∷ [])) o₁ a₁ → Wrote o₁ a₁ ws o₂ a₂ → Wrote o₀ a₀ (w ++ (c ∷ ws)) o₂ a₂
  word-then w c p q = subst (λ (zs : List ℕ). Wrote o₀ a₀ zs o₂ a₂) (append_assoc w (c ∷ []) ws) (then p q)

module _ {o₀ o₁ : List ℕ} {b : ℕ} {xs : List ℕ} where
  -- from the start on, the place behind the bytes is how many were put
  pub ends_at : Wrote o₀ 0 xs o₁ b → b ≡ min (length xs) (length o₀)
  ends_at w = let e : b ≡ 0 + min (length xs) (length o₀ - 0) = w.ends in omega arith

-- where ys are put from here on, xs have been put from the start on
abbrev pub Leads : List ℕ → ℕ → List ℕ → List ℕ → ℕ → List ℕ → Type 0
Leads o₀ a₀ xs o a ys = (new : List ℕ) (b : ℕ) → Wrote o a ys new b → Wrote o₀ a₀ xs new b

module _ {o₀ o₁ o₂ : List ℕ} {a₀ a₁ a₂ : ℕ} {xs ys zs : List ℕ} where
  pub leads-on : Leads o₀ a₀ xs o₁ a₁ (ys ++ zs) → Wrote o₁ a₁ ys o₂ a₂ → Leads o₀ a₀ xs o₂ a₂ zs
  leads-on l p new b q = l new b (then p q)

module _ {o₀ o₁ : List ℕ} {a₀ a₁ : ℕ} {xs : List ℕ} where
  pub leads-end : Leads o₀ a₀ xs o₁ a₁ [] → Wrote o₀ a₀ xs o₁ a₁
  leads-end l = l o₁ a₁ (wrote_none o₁ a₁)
