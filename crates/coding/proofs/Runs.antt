-- The writer's runs: how long they are, that a blank run has blanks alone, and that what the writer keeps of a record is the record without its
-- trailing blanks. Each by induction on the characters.
use mathlib.Core.Path.{◌≡◌, refl, sym, ap₂, ◌∙◌}
use mathlib.Core.Logic.{◌⊎◌, inl, inr}
use mathlib.Core.Bool.{Bool, true, false, not, ◌&&◌, ◌||◌, beq}
use mathlib.Core.List.{List, [], ◌∷◌, ◌++◌, append_assoc, append-nil}
use Prim.Native.Nat.{ℕ, zero, suc, ◌+◌, ◌-◌, ◌≤◌}
use native.Mathlib.Omega.{arith}
use lib.ListN.{length, take, get_or, replicate, replicate-append-replicate, get_or-replicate, get_or-append}
use lib.Seq.{take-suc, get_or-append-add}
use lib.Dec.{eqb}
use borrow.Author.Tests.{ne_eqb, eqb-true}
use Rattle.geometry.specs.Sizes.{blank}
use Rattle.coding.specs.Encode.{keeps, in_gap, run_length}

pub same_self : (b : Bool) → beq b b ≡ true
same_self true = refl
same_self false = refl

pub same_not : (b : Bool) → beq (not b) b ≡ false
same_not true = refl
same_not false = refl

pub same_or_not : (a b : Bool) → (a ≡ b) ⊎ (a ≡ not b)
same_or_not true true = inl refl
same_or_not true false = inr refl
same_or_not false true = inr refl
same_or_not false false = inl refl

same-is : (a b : Bool) → beq a b ≡ true → a ≡ b
same-is true true h = refl
same-is true false h = let z : ◌≡◌ {A = ℕ} 0 1 = cc in absurd (omega arith)
same-is false true h = let z : ◌≡◌ {A = ℕ} 0 1 = cc in absurd (omega arith)
same-is false false h = refl

-- ---- one run

-- at most its limit, and at most the list
pub run-le : (n : ℕ) (gap : Bool) (q : ℕ) (s : List ℕ) → (run_length n gap q s ≤ n) × (run_length n gap q s ≤ length s)
unfolding run_length
run-le zero gap q s = omega arith
run-le (suc n) gap q [] = omega arith
run-le (suc n) gap q (c ∷ s) = go (beq (in_gap q c s) gap) (run-le n gap c s)
  where
    go : (t : Bool) → (run_length n gap c s ≤ n) × (run_length n gap c s ≤ length s)
        → (elim t [ true ↦ suc (run_length n gap c s) | false ↦ 0 ] ≤ suc n) × (elim t [ true ↦ suc (run_length n gap c s) | false ↦ 0 ] ≤ suc (length s))
    go true h = omega arith
    go false h = omega arith

-- a run of the sort of its first character has that character
pub run-own : (n q c : ℕ) (s : List ℕ) → run_length (suc n) (in_gap q c s) q (c ∷ s) ≡ suc (run_length n (in_gap q c s) c s)
unfolding run_length
run-own n q c s = rw (same_self (in_gap q c s), run_length)

-- only blanks go into a blank run
pub gap-blank : (q c : ℕ) (s : List ℕ) → in_gap q c s ≡ true → c ≡ blank
unfolding in_gap
gap-blank q c s h = go (eqb c blank) refl h
  where
    go : (t : Bool) → eqb c blank ≡ t → t && (eqb q blank || eqb (get_or s 0 0) blank) ≡ true → c ≡ blank
    go true e h = eqb-true c blank e
    go false e h = let z : ◌≡◌ {A = ℕ} 0 1 = cc in absurd (omega arith)

-- two blanks beside each other
pub gap-first : (q c : ℕ) (s : List ℕ) → c ≡ blank → get_or s 0 0 ≡ blank → in_gap q c s ≡ true
unfolding in_gap
gap-first q c s e f = rw (e, f) (go (eqb q blank))
  where
    go : (t : Bool) → t || true ≡ true
    go true = refl
    go false = refl

pub gap-second : (q c : ℕ) (s : List ℕ) → q ≡ blank → c ≡ blank → in_gap q c s ≡ true
unfolding in_gap
gap-second q c s e f = rw (e, f)

pub gap-follows : (q c : ℕ) (s : List ℕ) → in_gap q c s ≡ true → (q ≡ blank → ⊥) → get_or s 0 0 ≡ blank
unfolding in_gap
gap-follows q c s h n = go (eqb c blank) (eqb (get_or s 0 0) blank) refl (rw (ne_eqb q blank n) at h)
  where
    go : (t u : Bool) → eqb (get_or s 0 0) blank ≡ u → t && u ≡ true → get_or s 0 0 ≡ blank
    go true true e h = eqb-true (get_or s 0 0) blank e
    go true false e h = let z : ◌≡◌ {A = ℕ} 0 1 = cc in absurd (omega arith)
    go false u e h = let z : ◌≡◌ {A = ℕ} 0 1 = cc in absurd (omega arith)

pub run-blanks : (n q : ℕ) (s : List ℕ) → take (run_length n true q s) s ≡ replicate (run_length n true q s) blank
unfolding run_length
run-blanks zero q s = refl
run-blanks (suc n) q [] = refl
run-blanks (suc n) q (c ∷ s) = go (beq (in_gap q c s) true) refl (run-blanks n c s)
  where
    go : (t : Bool) → beq (in_gap q c s) true ≡ t → take (run_length n true c s) s ≡ replicate (run_length n true c s) blank
        → take (elim t [ true ↦ suc (run_length n true c s) | false ↦ 0 ]) (c ∷ s) ≡ replicate (elim t [ true ↦ suc (run_length n true c s) | false ↦ 0 ]) blank
    go true e h = ap₂ ◌∷◌ (gap-blank q c s (same-is (in_gap q c s) true e)) h
    go false e h = refl

-- ---- trailing blanks

pub keeps-le : (n : ℕ) (x : List ℕ) → keeps n x ≤ n
unfolding keeps
keeps-le zero x = omega arith
keeps-le (suc n) x = go (eqb (get_or x n 0) blank) (keeps-le n x)
  where
    go : (t : Bool) → keeps n x ≤ n → elim t [ true ↦ keeps n x | false ↦ suc n ] ≤ suc n
    go true h = omega arith
    go false h = omega arith

-- the first n characters are those that are kept of them, and blanks
pub keeps-trims : (n : ℕ) (x : List ℕ) → n ≤ length x → take n x ≡ take (keeps n x) x ++ replicate (n - keeps n x) blank
unfolding keeps
keeps-trims zero x h = refl
keeps-trims (suc n) x h = go (eqb (get_or x n 0) blank) refl (keeps-trims n x (omega arith))
  where
    go : (t : Bool) → eqb (get_or x n 0) blank ≡ t → take n x ≡ take (keeps n x) x ++ replicate (n - keeps n x) blank
        → take (suc n) x ≡ take (elim t [ true ↦ keeps n x | false ↦ suc n ]) x ++ replicate (suc n - elim t [ true ↦ keeps n x | false ↦ suc n ]) blank
    go true e ih =
        let l = keeps-le n x in
        let one : suc n - keeps n x ≡ n - keeps n x + 1 = omega arith in
        take-suc x n 0 h ∙ rw (ih, eqb-true (get_or x n 0) blank e, one, ← replicate-append-replicate {A = ℕ} (n - keeps n x) 1 blank, append_assoc)
    go false e ih = let z : suc n - suc n ≡ 0 = omega arith in rw z (sym (append-nil (take (suc n) x)))

-- characters behind do not count
pub keeps-front : (n : ℕ) (x y : List ℕ) → n ≤ length x → keeps n (x ++ y) ≡ keeps n x
unfolding keeps
keeps-front zero x y h = refl
keeps-front (suc n) x y h = ap₂ (λ (c k : ℕ). elim (eqb c blank) [ true ↦ k | false ↦ suc n ]) (get_or-append x y 0 n h) (keeps-front n x y (omega arith))

-- nor do blanks behind
pub keeps-blanks : (j : ℕ) (x : List ℕ) (m : ℕ) → j ≤ m → keeps (length x + j) (x ++ replicate m blank) ≡ keeps (length x) (x ++ replicate m blank)
unfolding keeps
keeps-blanks zero x m h = let e : length x + 0 ≡ length x = omega arith in rw e
keeps-blanks (suc j) x m h =
    let e : length x + suc j ≡ suc (length x + j) = omega arith in
    rw (e, get_or-append-add x (replicate m blank) j 0, get_or-replicate m j blank 0 h, keeps) (keeps-blanks j x m (omega arith))
