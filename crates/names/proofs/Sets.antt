-- A set of the bytes from C0 on has one bit for each. That it is a class of bytes is computed, one byte after another.
use mathlib.Core.Path.{◌≡◌, refl, sym, ap, ◌∙◌}
use mathlib.Core.Bool.{Bool, true, false, ◌&&◌, ◌||◌, not, false≢true}
use mathlib.Core.List.{map}
use Prim.Native.Nat.{ℕ, ◌/◌, ◌%◌, ◌^◌, ◌<◌}
use native.Mathlib.Nat.{zero-add}
use native.Mathlib.Omega.{arith}
use lib.Dec.{eqb, leb}
use lib.ListN.{length}
use Rattle.geometry.specs.Lists.{every, numbers_from}
use Rattle.geometry.proofs.Tests.{every-get_or}
use Rattle.geometry.proofs.Numbered.{length-numbered, get_d_numbered}
use Rattle.names.specs.Names.{capital, digit}

abbrev agree : Bool → Bool → Bool
agree true b = b
agree false b = not b

agreed : (a b : Bool) → agree a b ≡ true → a ≡ b
agreed true b h = sym h
agreed false true h = absurd (false≢true h)
agreed false false h = refl

abbrev is_in : ℕ → ℕ → Bool
is_in set c = leb 0xC0 c && eqb ((set / 2 ^ (c % 64)) % 2) 1

module _ (set : ℕ) (p : ℕ → Bool) where
  abbrev right : ℕ → Bool
  right c = agree (p c) (is_in set c)

  module _ (all : every (λ b. b) (map right (numbers_from 0 256)) ≡ true) (c : ℕ) (h : c < 256) where
    told : is_in set c ≡ p c
    told =
        let n : length (map right (numbers_from 0 256)) ≡ 256 = length-numbered right 0 256 in
        sym (agreed (p c) _ (sym (get_d_numbered right 0 256 c true h ∙ ap right (zero-add c)) ∙ every-get_or (λ b. b) (map right (numbers_from 0 256)) c true all (omega arith)))

pub capitals : (c : ℕ) → c < 256 → is_in 0x000003FC03FE03FE c ≡ capital c
unfolding capital every
capitals = told 0x000003FC03FE03FE capital refl

pub capitals-and-digits : (c : ℕ) → c < 256 → is_in 0x03FF03FC03FE03FE c ≡ (capital c || digit c)
unfolding capital digit every
capitals-and-digits = told 0x03FF03FC03FE03FE (λ c. capital c || digit c) refl
