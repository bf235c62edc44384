-- A typed character in EBCDIC: of the first 96 characters it is computed, one after another, and behind these none is listed, so that none comes back.
use mathlib.Core.Path.{◌≡◌, refl, sym, ap, ap₂, ◌∙◌}
use mathlib.Core.Bool.{Bool, true, false, ◌&&◌, ◌||◌, and-false}
use mathlib.Core.List.{List, map}
use Prim.Native.Nat.{ℕ, ◌≤◌, ◌<◌}
use native.Mathlib.Omega.{arith}
use native.Mathlib.Nat.{zero-add}
use lib.Dec.{eqb, leb, ltb}
use lib.ListN.{length, get_or}
use borrow.Author.Tests.{ltb-true, ltb-false, lt-leb, eq-eqb, ne_eqb}
use Rattle.geometry.specs.Lists.{every, first_with, numbers_from}
use Rattle.geometry.specs.Sizes.{blank}
use Rattle.geometry.proofs.Numbered.{get_d_numbered}
use Rattle.geometry.proofs.Tests.{either, chosen, not_chosen, every-get_or, first-is}
use Rattle.names.specs.Names.{capital, digit}
use Rattle.characters.specs.Characters.{listed, codes, across, ascii_of, ebcdic_of}
use Rattle.texts.specs.Texts.{spelled, is_digit}
use Rattle.typing.specs.Typing.{is_capital, is_letter, typed_code}

-- two functions that agree on n numbers, and behind them
module _ {A : Type 0} (f g : ℕ → A) (n : ℕ) where
  alike-below : map f (numbers_from 0 n) ≡ map g (numbers_from 0 n) → (c : ℕ) → c < n → f c ≡ g c
  alike-below e c h =
      sym (get_d_numbered f 0 n c (f c) h ∙ ap f (zero-add c)) ∙ ap (λ (l : List A). get_or l c (f c)) e ∙ get_d_numbered g 0 n c (f c) h ∙ ap g (zero-add c)

  alike : map f (numbers_from 0 n) ≡ map g (numbers_from 0 n) → (c : ℕ) → (n ≤ c → f c ≡ g c) → f c ≡ g c
  alike e c behind = either (ltb c n) (λ t. alike-below e c (ltb-true c n t)) (λ t. behind (ltb-false c n t))

module _ (c : ℕ) (h : 96 ≤ c) where
  no-capital : is_capital c ≡ false
  no-capital = rw (lt-leb c 90 (omega arith)) (and-false (leb 65 c))

  no_digit : is_digit c ≡ false
  no_digit = rw (lt-leb c 57 (omega arith)) (and-false (leb 48 c))

  no-letter : is_letter c ≡ false
  no-letter = ap₂ ◌||◌ no-capital no_digit

  not-blank : eqb c 32 ≡ false
  not-blank = ne_eqb c 32 (λ (e : c ≡ 32). absurd (omega arith))

  low : every (λ x. ltb x 96) listed ≡ true
  unfolding every listed spelled
  low = refl

  many : length listed ≡ 59
  unfolding listed spelled
  many = refl

  nowhere : first_with (eqb c) listed ≡ 59
  nowhere =
      first-is (eqb c) listed 59 0 (omega (arith, many))
      (λ i l. let b : get_or listed i 0 < 96 = ltb-true _ 96 (every-get_or (λ x. ltb x 96) listed i 0 low (omega (arith, many))) in
      ne_eqb c (get_or listed i 0) (λ (e : c ≡ get_or listed i 0). absurd (omega arith)))
      (λ l. absurd (omega (arith, many)))

  none : typed_code c ≡ 0
  unfolding typed_code ebcdic_of across
  none = rw (typed_code, ebcdic_of, across, nowhere) (not_chosen (eqb (ascii_of (get_or codes 59 blank)) c) _ 0 other)
    where
      shown : ascii_of (get_or codes 59 blank) ≡ 32
      shown = unfold ascii_of across codes listed spelled first_with in refl

      other : eqb (ascii_of (get_or codes 59 blank)) c ≡ false
      other = ne_eqb _ c (λ (e : ascii_of (get_or codes 59 blank) ≡ c). absurd (omega (arith, shown)))

module _ (c : ℕ) where
  pub is-capital : capital (typed_code c) ≡ is_capital c
  unfolding capital typed_code ascii_of ebcdic_of across codes listed spelled first_with
  is-capital = alike (λ c. capital (typed_code c)) is_capital 96 refl c (λ h. ap capital (none c h) ∙ sym (no-capital c h))

  pub is-letter : (capital (typed_code c) || digit (typed_code c)) ≡ is_letter c
  unfolding capital digit typed_code ascii_of ebcdic_of across codes listed spelled first_with
  is-letter =
      alike (λ c. capital (typed_code c) || digit (typed_code c)) is_letter 96 refl c
      (λ h. ap (λ e. capital e || digit e) (none c h) ∙ sym (no-letter c h))

  pub is-blank : eqb (typed_code c) blank ≡ eqb c 32
  unfolding typed_code ascii_of ebcdic_of across codes listed spelled first_with
  is-blank = alike (λ c. eqb (typed_code c) blank) (λ c. eqb c 32) 96 refl c (λ h. ap (λ e. eqb e blank) (none c h) ∙ sym (not-blank c h))

  -- and back
  abbrev back : ℕ → ℕ
  back c = elim (is_letter c) [ true ↦ ascii_of (typed_code c) | false ↦ c ]

  pub letter-back : is_letter c ≡ true → ascii_of (typed_code c) ≡ c
  unfolding typed_code ascii_of ebcdic_of across codes listed spelled first_with
  letter-back l =
      sym (chosen (is_letter c) (ascii_of (typed_code c)) c l) ∙ alike back (λ c. c) 96 refl c (λ h. not_chosen (is_letter c) (ascii_of (typed_code c)) c (no-letter c h))

  pub letter-no-blank : is_letter c ≡ true → eqb (typed_code c) blank ≡ false
  letter-no-blank l = is-blank ∙ ap (λ (b : Bool). b && eqb c 32) (sym l) ∙ alike (λ c. is_letter c && eqb c 32) (λ c. false) 96 refl c (λ h. ap (◌&& eqb c 32) (no-letter c h))

-- ---- as it is tested: there, and back

module _ (c e a : ℕ) (there : e ≡ ebcdic_of c) (back : a ≡ ascii_of e) where
  again : ascii_of (ebcdic_of c) ≡ a
  again = ap ascii_of (sym there) ∙ sym back

  pub comes_back : a ≡ c → e ≡ typed_code c
  unfolding typed_code
  comes_back h = there ∙ sym (chosen (eqb (ascii_of (ebcdic_of c)) c) (ebcdic_of c) 0 (eq-eqb _ c (again ∙ h)))

  pub does_not : ¬ (a ≡ c) → 0 ≡ typed_code c
  unfolding typed_code
  does_not h = sym (not_chosen (eqb (ascii_of (ebcdic_of c)) c) (ebcdic_of c) 0 (ne_eqb _ c (λ (k : ascii_of (ebcdic_of c) ≡ c). h (sym again ∙ k))))
