-- Beginning step by step: each is its definition's own equation.
use mathlib.Core.Path.{◌≡◌, refl, sym, ap, ◌∙◌}
use mathlib.Core.Logic.{◌≢◌}
use mathlib.Core.Bool.{true, false}
use mathlib.Core.List.{List, [], ◌∷◌}
use Prim.Native.Nat.{ℕ, zero, suc}
use native.Mathlib.Omega.{arith}
use Rattle.std.specs.Prelude.{Result, Ok, Err}
use lib.Dec.{eqb}
use lib.ListN.{get_or}
use borrow.Author.Tests.{eq-eqb, ne_eqb}
use Rattle.geometry.specs.Sizes.{random}
use Rattle.geometry.proofs.Tests.{chosen, not_chosen}
use Rattle.requests.specs.Numbers.{number_of}
use Rattle.requests.proofs.Numbers.{done-is}
use Rattle.requests.specs.declared.Answer.{Answer}
use Rattle.requests.specs.declared.Answer.TheVariants.{Done, Refused}
use Rattle.requests.specs.declared.Refusal.{Refusal}
use Rattle.requests.specs.declared.Request.TheVariants.{Open}
use Rattle.engines.specs.Engines.{requested}
use Rattle.judging.specs.Lent.{after_in}
use Rattle.listing.specs.Listing.{is_short}
use Rattle.typing.specs.Typing.{name_of}
use Rattle.telling.specs.Told.{found, told_of, field_in}
use Rattle.calling.specs.Mounted.{mount_number, mount_bytes}
use Rattle.showing.specs.Showing.{stopped, tells, opened_as, opening, sought, begun_on, begun, led_to, begun_as}

-- ---- the opening

module _ (image b : List ℕ) (i : ℕ) where
  pub random-stops : field_in b i 1 ≡ random → opening image b i ≡ stopped 7 image b
  unfolding opening
  random-stops h = chosen (eqb (field_in b i 1) random) _ _ (eq-eqb _ _ h)

  pub other-opens : field_in b i 1 ≢ random → opening image b i ≡ opened_as i (field_in b i 2) (requested image b i Open [] [])
  unfolding opening
  other-opens h = not_chosen (eqb (field_in b i 1) random) _ _ (ne_eqb _ _ h)

  -- by what the engine does
  module _ (R : ℕ) (h : field_in b i 1 ≢ random) (size : R ≡ field_in b i 2) (a : Answer) (to lent moved : List ℕ)
      (w : after_in a to lent moved ≡ requested image b i Open [] []) where
    is-opened : opened_as i R (after_in a to lent moved) ≡ opening image b i
    is-opened = ap (opened_as i R) w ∙ ap (λ (r : ℕ). opened_as i r (requested image b i Open [] [])) size ∙ sym (other-opens h)

    pub opens : a ≡ Done → begun_as (Ok (record { entry = i; length = R })) to lent ≡ opening image b i
    unfolding tells
    opens d = rw d at is-opened

    pub shut : a ≢ Done → begun_as (Err a) to lent ≡ opening image b i
    shut d = ap (λ (l : List ℕ). record { number = number_of a; told = l; image = to; session = lent }) (sym (none (number_of a) (λ z. d (done-is a z)))) ∙ is-opened
      where
        none : (k : ℕ) → k ≢ 0 → tells k (i ∷ R ∷ []) ≡ []
        none zero h = absurd (h refl)
        none (suc k) h = unfold tells in refl

-- ---- what comes before it

-- no refusal has the number 0
pub refused-some : (x : Refusal) → number_of (Refused x) ≢ 0
refused-some x z = let e : Refused x ≡ Done = done-is (Refused x) z in cc

module _ (image b typed : List ℕ) where
  pub long-stops : is_short image ≡ false → begun image b typed ≡ stopped 11 image b
  unfolding begun
  long-stops h = not_chosen (is_short image) _ _ h

  -- as it is mounted
  module _ (short : is_short image ≡ true) (n : ℕ) (b' : List ℕ) (number : n ≡ mount_number image b) (session : b' ≡ mount_bytes image b) where
    is-mounted : begun image b typed ≡ begun_on image b' typed n
    unfolding begun
    is-mounted = chosen (is_short image) _ _ short ∙ rw (number, session)

    pub bad-stops : n ≢ 0 → begun image b typed ≡ stopped n image b'
    bad-stops h = is-mounted ∙ go n h
      where
        go : (k : ℕ) → k ≢ 0 → begun_on image b' typed k ≡ stopped k image b'
        go zero h = absurd (h refl)
        go (suc k) h = unfold begun_on in refl

    -- as its name is found
    module _ (good : n ≡ 0) where
      is-sought : begun image b typed ≡ sought image b' (found b' (name_of typed))
      is-sought = is-mounted ∙ ap (begun_on image b' typed) good ∙ (unfold begun_on in refl)

      pub unknown-stops : (f : ℕ) → f ≡ (found b' (name_of typed)).0 → f ≢ 0 → begun image b typed ≡ stopped f image b'
      unknown-stops f e h = is-sought ∙ go (found b' (name_of typed)) e
        where
          go : (r : ℕ × List ℕ) → f ≡ r.0 → sought image b' r ≡ stopped f image b'
          go (zero, told) e = absurd (h e)
          go (suc k, told) e = stops ∙ ap (λ (j : ℕ). stopped j image b') (sym e)
            where
              stops : sought image b' (suc k, told) ≡ stopped (suc k) image b'
              stops = unfold sought in refl

      pub known-opens : (found b' (name_of typed)).0 ≡ 0 → (i : ℕ) → i ≡ get_or (found b' (name_of typed)).1 0 0 → opening image b' i ≡ begun image b typed
      known-opens z i at = sym (is-sought ∙ go (found b' (name_of typed)) z ∙ ap (opening image b') (sym at))
        where
          go : (r : ℕ × List ℕ) → r.0 ≡ 0 → sought image b' r ≡ opening image b' (get_or r.1 0 0)
          go (zero, told) z = unfold sought in refl
          go (suc k, told) z = absurd (omega arith)

      pub goes-on : (r : Result ℕ Refusal) → told_of r ≡ found b' (name_of typed) → led_to r image b' ≡ begun image b typed
      goes-on (Ok i) h = known-opens (sym (ap (λ (t : ℕ × List ℕ). t.0) h)) i (ap (λ (t : ℕ × List ℕ). get_or t.1 0 0) h)
      goes-on (Err x) h = sym (unknown-stops (number_of (Refused x)) (ap (λ (t : ℕ × List ℕ). t.0) h) (refused-some x))
