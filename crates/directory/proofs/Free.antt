-- A free entry keeps every rule exactly if its bytes are zero, which they are if its name and its words are; one that is not zero must be a used one.
use mathlib.Core.Path.{◌≡◌, refl, sym, ap, ◌∙◌}
use mathlib.Core.Bool.{Bool, true, false, ◌&&◌, and_assoc, and-false}
use mathlib.Core.List.{List, [], ◌∷◌, ◌++◌}
use Prim.Native.Nat.{ℕ, ◌/◌, ◌%◌}
use native.Mathlib.Omega.{arith}
use native.Mathlib.Decide.{ℕ_discrete}
use lib.Dec.{eqb}
use borrow.Author.Tests.{eq-eqb, ne_eqb, eqb-true, eqb-false}
use Rattle.geometry.specs.Lists.{every}
use Rattle.geometry.specs.Bytes.{word}
use Rattle.names.specs.Names.{is_name}
use Rattle.directory.specs.declared.Entry.{Entry}
use Rattle.geometry.proofs.Tests.{either, and_left, and_right}
use Rattle.directory.specs.Entries.{entry_bytes}
use Rattle.directory.specs.Rules.{kind_known, free_is_zero, name_good, extent_inside, flags_known, length_good, count_good, random_bare}
use Rattle.directory.specs.Grouped.{is_zero, entry_good, used_good}
use Rattle.directory.proofs.Grouped.{used-good}

pub every_append : {A : Type 0} (p : A → Bool) (xs ys : List A) → every p (xs ++ ys) ≡ (every p xs && every p ys)
unfolding every
every_append p [] ys = refl
every_append p (x ∷ xs) ys = rw (every_append p xs ys, and_assoc (p x) (every p xs) (every p ys))

abbrev zero-byte : ℕ → Bool
zero-byte b = eqb b 0

zero_word : (n : ℕ) → every zero-byte (word n) ≡ eqb n 0
unfolding every word
zero_word n = go (eqb (n / 256) 0) (eqb (n % 256) 0) refl refl
  where
    go : (a b : Bool) → eqb (n / 256) 0 ≡ a → eqb (n % 256) 0 ≡ b → (a && (b && true)) ≡ eqb n 0
    go true true p q = sym (eq-eqb n 0 (omega (arith, eqb-true (n / 256) 0 p, eqb-true (n % 256) 0 q)))
    go true false p q = sym (ne_eqb n 0 (λ e. eqb-false (n % 256) 0 q (omega arith)))
    go false b p q = sym (ne_eqb n 0 (λ e. eqb-false (n / 256) 0 p (omega arith)))

-- the name, then a word after the other
pub zero-entry : (e : Entry) → every (λ b. eqb b 0) (entry_bytes e)
    ≡ (every (λ b. eqb b 0) e.name && (eqb e.kind 0 && (eqb e.length 0 && (eqb e.first 0 && (eqb e.sectors 0 && (eqb e.count 0 && eqb e.flags 0))))))
unfolding entry_bytes
zero-entry e =
    behind e.name _ ∙ ap (λ (b : Bool). every zero-byte e.name && b) (next e.kind _ (next e.length _ (next e.first _ (next e.sectors _ (next e.count (word e.flags) (zero_word e.flags))))))
  where
    behind : (xs ys : List ℕ) → every zero-byte (xs ++ ys) ≡ (every zero-byte xs && every zero-byte ys)
    behind xs ys = every_append zero-byte xs ys

    next : {b : Bool} (n : ℕ) (ys : List ℕ) → every zero-byte ys ≡ b → every zero-byte (word n ++ ys) ≡ (eqb n 0 && b)
    next n ys h = every_append zero-byte (word n) ys ∙ rw (zero_word n, h)

-- the rules of one entry, for a free one, and for one that is not zero
module _ (N : ℕ) (e : Entry) where
  zero-words : is_zero e ≡ true → (eqb e.kind 0 && (eqb e.length 0 && (eqb e.first 0 && (eqb e.sectors 0 && (eqb e.count 0 && eqb e.flags 0))))) ≡ true
  zero-words h = and_right (every zero-byte e.name) _ (sym (zero-entry e) ∙ h)

  pub zero-free : is_zero e ≡ true → e.kind ≡ 0
  zero-free h = eqb-true e.kind 0 (and_left (eqb e.kind 0) _ (zero-words h))

  last-words : is_zero e ≡ true → (eqb e.count 0 && eqb e.flags 0) ≡ true
  last-words h =
      and_right (eqb e.sectors 0) (eqb e.count 0 && eqb e.flags 0)
      (and_right (eqb e.first 0) _ (and_right (eqb e.length 0) _ (and_right (eqb e.kind 0) _ (zero-words h))))

  pub free-good : e.kind ≡ 0 → entry_good N e ≡ is_zero e
  unfolding entry_good kind_known free_is_zero name_good extent_inside flags_known length_good count_good random_bare
  free-good k =
      either (is_zero e)
      (λ (h : is_zero e ≡ true).
      let c : e.count ≡ 0 = eqb-true e.count 0 (and_left (eqb e.count 0) (eqb e.flags 0) (last-words h)) in
      let f : e.flags ≡ 0 = eqb-true e.flags 0 (and_right (eqb e.count 0) (eqb e.flags 0) (last-words h)) in
      rw (h, k, c, f))
      (λ (h : is_zero e ≡ false). rw (h, k))

  pub zero-good : is_zero e ≡ true → entry_good N e ≡ true
  zero-good h = free-good (zero-free h) ∙ h

  pub other-good : is_zero e ≡ false → entry_good N e ≡ (is_name e.name && used_good N e)
  unfolding used_good
  other-good h = go (ℕ_discrete e.kind 0)
    where
      go : Dec (e.kind ≡ 0) → entry_good N e ≡ (is_name e.name && used_good N e)
      go (yes k) = free-good k ∙ h ∙ rw (eq-eqb e.kind 0 k) (sym (and-false (is_name e.name)))
      go (no u) = used-good N e u
