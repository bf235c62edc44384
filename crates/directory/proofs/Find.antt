-- The lowest match: where no entry below matches and this one does, and where none does. What is told of a search says what was found.
use mathlib.Core.Path.{◌≡◌, refl, ap, ◌∙◌}
use mathlib.Core.Bool.{Bool, true, false, ◌&&◌, not}
use mathlib.Core.List.{List, [], ◌∷◌}
use Prim.Native.Nat.{ℕ, ◌<◌}
use native.Mathlib.Omega.{arith}
use Rattle.std.specs.Prelude.{Option, Some, None}
use lib.Dec.{eqb, ltb}
use lib.ListN.{length, get_or}
use borrow.Author.Tests.{lt-ltb, le-ltb}
use Rattle.geometry.specs.Lists.{same}
use Rattle.geometry.proofs.Tests.{first-is}
use Rattle.directory.specs.declared.Entry.{Entry}
use Rattle.directory.specs.Entries.{is_free}
use Rattle.directory.specs.Search.{matches, told, find}

module _ (table : List Entry) (name : List ℕ) where
  abbrev answer : ℕ → ℕ × List ℕ
  answer k = elim (ltb k (length table)) [ true ↦ (0, k ∷ []) | false ↦ (8, []) ]

  -- what stands past the end is no matter
  pub found_here : (i : ℕ) (d : Entry) → i < length table → ((j : ℕ) → j < i → matches name (get_or table j d) ≡ false) → matches name (get_or table i d) ≡ true
      → find table name ≡ told (Some i)
  unfolding find
  found_here i d h below m = ap answer (first-is (matches name) table i d (omega arith) below (λ l. m)) ∙ rw (lt-ltb i (length table) h, answer)

  pub found_none : (d : Entry) → ((j : ℕ) → j < length table → matches name (get_or table j d) ≡ false) → find table name ≡ told None
  unfolding find
  found_none d all = ap answer (first-is (matches name) table (length table) d (omega arith) all (λ l. absurd (omega arith))) ∙ rw (le-ltb (length table) (length table) (omega arith), answer)

-- no two answers tell the same
pub same-told : (r q : Option ℕ) → told r ≡ told q → r ≡ q
same-told (Some i) (Some j) e = let y : i ∷ [] ≡ j ∷ [] = ap (λ (p : ℕ × List ℕ). p.1) e in cc
same-told (Some i) None e = absurd (let z : ◌≡◌ {A = ℕ} 0 8 = ap (λ (p : ℕ × List ℕ). p.0) e in omega arith)
same-told None (Some j) e = absurd (let z : ◌≡◌ {A = ℕ} 8 0 = ap (λ (p : ℕ × List ℕ). p.0) e in omega arith)
same-told None None e = refl

-- the tests of a match before the names are compared
module _ (name : List ℕ) (e : Entry) where
  join : (a b c : Bool) → (a && (b && c)) ≡ ((a && b) && c)
  join true b c = refl
  join false b c = refl

  pub match-tested : (eqb (length name) 8 && not (is_free e)) ≡ true → matches name e ≡ same e.name name
  unfolding matches
  match-tested h = join (eqb (length name) 8) (not (is_free e)) (same e.name name) ∙ rw h

  pub match-refused : (eqb (length name) 8 && not (is_free e)) ≡ false → matches name e ≡ false
  unfolding matches
  match-refused h = join (eqb (length name) 8) (not (is_free e)) (same e.name name) ∙ rw h
