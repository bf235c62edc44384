-- The rule of the two tables at each byte: one test, computed over the whole tables, and a law that turns it into the rule at each byte.
use mathlib.Core.Path.{◌≡◌, refl, sym, ap, ◌∙◌}
use mathlib.Core.Bool.{Bool, true, false, ◌&&◌}
use mathlib.Core.List.{List, map}
use Prim.Native.Nat.{ℕ, ◌<◌}
use native.Mathlib.Nat.{zero-add}
use lib.Dec.{eqb}
use lib.ListN.{get_or}
use borrow.Author.Tests.{eqb-true}
use Rattle.geometry.specs.Lists.{first_with, numbers_from}
use Rattle.geometry.specs.Sizes.{blank}
use Rattle.geometry.proofs.Numbered.{get_d_numbered}
use Rattle.geometry.proofs.Tests.{and_left, and_right, chosen, not_chosen}
use Rattle.texts.specs.Texts.{spelled}
use Rattle.characters.specs.Characters.{listed, codes, among, across, ascii_of, ebcdic_of}
use Rattle.characters.specs.Undone.{Undone}

-- ---- a table of 256 bytes: its rule at each of them

-- what a table of f has at c
pub table_at : (f : ℕ → ℕ) (c : ℕ) → c < 256 → get_or (map f (numbers_from 0 256)) c 0 ≡ f c
table_at f c h = get_d_numbered f 0 256 c 0 h ∙ ap f (zero-add c)

-- a test that holds at all of them holds at each
holds_at : (p : ℕ → Bool) → map p (numbers_from 0 256) ≡ map (λ _. true) (numbers_from 0 256) → (c : ℕ) → c < 256 → p c ≡ true
holds_at p e c h =
    sym (get_d_numbered p 0 256 c false h ∙ ap p (zero-add c)) ∙ ap (λ (l : List Bool). get_or l c false) e ∙ get_d_numbered (λ _. true) 0 256 c false h

-- ---- the two

-- a byte that is in its list comes back as itself, and another is the other byte
abbrev undone : List ℕ → (ℕ → ℕ) → (ℕ → ℕ) → ℕ → ℕ → Bool
undone xs there back other c = elim (among xs c) [ true ↦ eqb (back (there c)) c | false ↦ eqb (there c) other ]

abbrev test : ℕ → Bool
test c = undone codes ascii_of ebcdic_of 0x2E c && undone listed ebcdic_of ascii_of blank c

tested : map test (numbers_from 0 256) ≡ map (λ _. true) (numbers_from 0 256)
unfolding ascii_of ebcdic_of across among listed codes spelled first_with
tested = refl

module _ (c : ℕ) (h : c < 256) where
  of-codes : undone codes ascii_of ebcdic_of 0x2E c ≡ true
  of-codes = and_left _ _ (holds_at test tested c h)

  of-listed : undone listed ebcdic_of ascii_of blank c ≡ true
  of-listed = and_right (undone codes ascii_of ebcdic_of 0x2E c) _ (holds_at test tested c h)

pub undone-both : Undone
undone-both = record {
  code_back = λ c h t. eqb-true _ _ (sym (chosen (among codes c) _ _ t) ∙ of-codes c h);
  no_code = λ c h t. eqb-true _ _ (sym (not_chosen (among codes c) _ _ t) ∙ of-codes c h);
  listed_back = λ c h t. eqb-true _ _ (sym (chosen (among listed c) _ _ t) ∙ of-listed c h);
  not_listed = λ c h t. eqb-true _ _ (sym (not_chosen (among listed c) _ _ t) ∙ of-listed c h);
}
