-- A list tested from its front, by a rule of one member and a rule of two, the later member against each before it: what is done of it keeps both rules, and one member or two that break one break the whole.
use mathlib.Core.Path.{◌≡◌, refl}
use mathlib.Core.Bool.{Bool, true, false, ◌&&◌, and-false}
use mathlib.Core.List.{List}
use Prim.Native.Nat.{ℕ, ◌+◌, ◌≤◌, ◌<◌}
use lib.ListN.{length, take, get_or}
use lib.Seq.{take_all, length-take-le, get_or-take}
use native.Mathlib.Omega.{arith}
use Rattle.geometry.specs.Lists.{every, pairwise}
use Rattle.geometry.proofs.Tests.{denied, and_left, and_right, every-from, every-get_or, every_more, pairwise-get_or, pairwise-more}

module _ {A : Type 0} (one : A → Bool) (two : A → A → Bool) (xs : List A) where
  -- both rules, of the first i members
  unfoldable pub Front : ℕ → Bool
  Front i = every one (take i xs) && pairwise two (take i xs)

  pub front-none : Front 0 ≡ true
  unfolding Front every pairwise
  front-none = refl

  pub front-whole : (i : ℕ) → length xs ≤ i → Front i ≡ true → every one xs && pairwise two xs ≡ true
  unfolding Front
  front-whole i h done = rw (take_all i xs h) at done

  module _ (i : ℕ) (d : A) (h : i < length xs) where
    abbrev x : A
    x = get_or xs i d

    -- j is where the members before number i have all been tested
    pub front-on : (j : ℕ) → j ≡ i → Front i ≡ true → one x ≡ true → every (λ a. two a x) (take j xs) ≡ true → Front (i + 1) ≡ true
    unfolding Front
    front-on j q done a b =
        let e : every one (take i xs) ≡ true = and_left (every one (take i xs)) (pairwise two (take i xs)) done in
        let p : pairwise two (take i xs) ≡ true = and_right (every one (take i xs)) (pairwise two (take i xs)) done in
        let c : every (λ a. two a x) (take i xs) ≡ true = rw q at b in
        rw (every_more one xs i d h, pairwise-more two xs i d h, e, a, p, c)

    pub front-one : one x ≡ false → every one xs && pairwise two xs ≡ false
    front-one a = rw (denied (every one xs) (one x) (λ e. every-get_or one xs i d e h) a)

    -- one that breaks the rule of two with some member before it
    pub front-some : every (λ a. two a x) (take i xs) ≡ false → (every one xs && pairwise two xs) ≡ false
    front-some b = rw (denied (pairwise two xs) (every (λ a. two a x) (take i xs)) all_two b, and-false (every one xs))
      where
        all_two : pairwise two xs ≡ true → every (λ a. two a x) (take i xs) ≡ true
        all_two p = every-from (λ a. two a x) (take i xs) d λ (j : ℕ) (l : j < length (take i xs)).
            let n : length (take i xs) ≡ i = length-take-le i xs (omega arith) in
            let u : j < i = omega arith in
            rw (get_or-take i xs j d u) (pairwise-get_or two xs j i d p u h)
