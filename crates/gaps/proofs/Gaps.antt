-- The lowest free entry is the first that is free, and the lowest gap the first of the numbers 0 to N − 1 that stands free: what is known of a first with a rule is known of both.
use mathlib.Core.Path.{◌≡◌, sym, ap, ◌∙◌}
use mathlib.Core.Bool.{Bool, true, false, ◌&&◌, not}
use mathlib.Core.List.{List}
use Prim.Native.Nat.{ℕ, zero, suc, ◌+◌, ◌-◌, ◌≤◌, ◌<◌}
use native.Mathlib.Omega.{arith}
use native.Mathlib.Decide.{dec_lt}
use lib.Dec.{leb}
use lib.ListN.{length, get_or}
use borrow.Author.Tests.{le-leb, leb-true, not-true}
use Rattle.geometry.specs.Lists.{every, numbers_from}
use Rattle.geometry.proofs.Numbered.{length-numbers}
use Rattle.geometry.proofs.Tests.{both_ways, either, and_left, and_right, and_both, every-get_or, every-from, every-alike, first-most, first_holds, first_below, first-is, first_alike}
use Rattle.directory.specs.declared.Entry.{Entry}
use Rattle.directory.specs.Entries.{free_entry, entry_at, is_free}
use Rattle.gaps.specs.Gaps.{lowest_free, stands_free, lowest_gap}

-- ---- the lowest free entry

module _ (t : List Entry) where
  pub free-most : lowest_free t ≤ length t
  unfolding lowest_free
  free-most = first-most is_free t

  pub free-lowest : lowest_free t < length t → is_free (entry_at t (lowest_free t)) ≡ true
  unfolding lowest_free
  free-lowest l = first_holds is_free t free_entry l

  -- each below it is used
  pub free-below : (i : ℕ) → i < lowest_free t → is_free (entry_at t i) ≡ false
  unfolding lowest_free
  free-below i l = first_below is_free t i free_entry l

  pub free-none : lowest_free t ≡ length t → every (λ e. not (is_free e)) t ≡ true
  free-none e = every-from (λ f. not (is_free f)) t free_entry λ i l. ap not (free-below i (omega arith))

-- ---- n numbers from a on

number_at : (a n i d : ℕ) → i < n → get_or (numbers_from a n) i d ≡ a + i
number_at a zero i d h = absurd (omega arith)
number_at a (suc n) zero d h = omega arith
number_at a (suc n) (suc i) d h = number_at (suc a) n i d (omega arith) ∙ omega arith

number_up : (n i : ℕ) → i < n → get_or (numbers_from 0 n) i 0 ≡ i
number_up n i h = number_at 0 n i 0 h ∙ omega arith

module _ (p : ℕ → Bool) (a n : ℕ) where
  each_number : every p (numbers_from a n) ≡ true → (k : ℕ) → a ≤ k → k < a + n → p k ≡ true
  each_number h k l u =
      let m : length (numbers_from a n) ≡ n = length-numbers a n in
      let e : a + (k - a) ≡ k = omega arith in
      sym (ap p (number_at a n (k - a) 0 (omega arith) ∙ e)) ∙ every-get_or p (numbers_from a n) (k - a) 0 h (omega arith)

  every-number : ((k : ℕ) → a ≤ k → k < a + n → p k ≡ true) → every p (numbers_from a n) ≡ true
  every-number h = every-from p (numbers_from a n) 0 λ (i : ℕ) (l : i < length (numbers_from a n)).
      let m : length (numbers_from a n) ≡ n = length-numbers a n in
      ap p (number_at a n i 0 (omega arith)) ∙ h (a + i) (omega arith) (omega arith)

-- ---- n free sectors from p on

module _ (t : ℕ → Bool) (N n p : ℕ) where
  abbrev clear : Bool
  clear = every (λ k. not (t k)) (numbers_from p n)

  pub stands-inside : stands_free t N n p ≡ true → (1 ≤ p) × (p + n ≤ N)
  unfolding stands_free
  stands-inside h = (
    leb-true 1 p (and_left (leb 1 p) (leb (p + n) N && clear) h),
    leb-true (p + n) N (and_left (leb (p + n) N) clear (and_right (leb 1 p) (leb (p + n) N && clear) h)),
  )

  pub stands-clear : stands_free t N n p ≡ true → (k : ℕ) → p ≤ k → k < p + n → t k ≡ false
  unfolding stands_free
  stands-clear h k l u =
      not-true (t k) (each_number (λ k. not (t k)) p n (and_right (leb (p + n) N) clear (and_right (leb 1 p) (leb (p + n) N && clear) h)) k l u)

  -- and back
  pub stands-there : 1 ≤ p → p + n ≤ N → ((k : ℕ) → p ≤ k → k < p + n → t k ≡ false) → stands_free t N n p ≡ true
  unfolding stands_free
  stands-there s e f =
      and_both (leb 1 p) (leb (p + n) N && clear) (le-leb 1 p s)
      (and_both (leb (p + n) N) clear (le-leb (p + n) N e) (every-number (λ k. not (t k)) p n λ k l u. ap not (f k l u)))

  -- not where one of them is taken, nor where they do not lie inside
  pub stands-not : (k : ℕ) → p ≤ k → k < p + n → t k ≡ true → stands_free t N n p ≡ false
  stands-not k l u h = either (stands_free t N n p) (λ (y : stands_free t N n p ≡ true). both_ways (t k) h (stands-clear y k l u)) (λ (y : stands_free t N n p ≡ false). y)

  pub stands-outside : N < p + n → stands_free t N n p ≡ false
  stands-outside l = either (stands_free t N n p) (λ (y : stands_free t N n p ≡ true). absurd (omega (arith, (stands-inside y).1))) (λ (y : stands_free t N n p ≡ false). y)

  pub stands-directory : p < 1 → stands_free t N n p ≡ false
  stands-directory l = either (stands_free t N n p) (λ (y : stands_free t N n p ≡ true). absurd (omega (arith, (stands-inside y).0))) (λ (y : stands_free t N n p ≡ false). y)

-- ---- the lowest gap

module _ (t : ℕ → Bool) (N n : ℕ) where
  pub gap-most : lowest_gap t N n ≤ N
  unfolding lowest_gap
  gap-most = omega (arith, first-most (stands_free t N n) (numbers_from 0 N), length-numbers 0 N)

  -- where there is one, that many free sectors stand there
  pub gap-stands : lowest_gap t N n < N → stands_free t N n (lowest_gap t N n) ≡ true
  unfolding lowest_gap
  gap-stands l =
      ap (stands_free t N n) (sym (number_up N (lowest_gap t N n) l)) ∙ first_holds (stands_free t N n) (numbers_from 0 N) 0 (omega (arith, length-numbers 0 N))

  -- and at no lower sector
  pub gap-lowest : (p : ℕ) → p < lowest_gap t N n → stands_free t N n p ≡ false
  unfolding lowest_gap
  gap-lowest p l =
      ap (stands_free t N n) (sym (number_up N p (omega (arith, gap-most)))) ∙ first_below (stands_free t N n) (numbers_from 0 N) p 0 l

  -- no other number is it
  pub gap_is : (p : ℕ) → p ≤ N → ((q : ℕ) → q < p → stands_free t N n q ≡ false) → (p < N → stands_free t N n p ≡ true) → lowest_gap t N n ≡ p
  unfolding lowest_gap
  gap_is p l f g =
      let m : length (numbers_from 0 N) ≡ N = length-numbers 0 N in
      first-is (stands_free t N n) (numbers_from 0 N) p 0 (omega arith)
      (λ j k. ap (stands_free t N n) (number_up N j (omega arith)) ∙ f j k)
      (λ k. ap (stands_free t N n) (number_up N p (omega arith)) ∙ g (omega arith))

  -- "refused for room exactly when no run of that many free sectors exists in 1 to N − 1"
  pub gap-none : lowest_gap t N n ≡ N → 1 ≤ n → (p : ℕ) → stands_free t N n p ≡ false
  gap-none e s p = go (dec_lt p N)
    where
      go : Dec (p < N) → stands_free t N n p ≡ false
      go (yes l) = gap-lowest p (omega arith)
      go (no l) = stands-outside t N n p (omega arith)

  pub gap-given : (p : ℕ) → stands_free t N n p ≡ true → 1 ≤ n → lowest_gap t N n < N
  gap-given p h s = go (dec_lt (lowest_gap t N n) N)
    where
      go : Dec (lowest_gap t N n < N) → lowest_gap t N n < N
      go (yes l) = l
      go (no l) = both_ways (stands_free t N n p) h (gap-none (omega (arith, gap-most)) s p)

  -- it goes by which sectors are taken alone
  pub gap_same : (u : ℕ → Bool) → ((k : ℕ) → t k ≡ u k) → lowest_gap t N n ≡ lowest_gap u N n
  unfolding lowest_gap stands_free
  gap_same u h = first_alike (stands_free t N n) (stands_free u N n) (numbers_from 0 N) 0 λ (i : ℕ) (l : i < length (numbers_from 0 N)). alike_at (get_or (numbers_from 0 N) i 0)
    where
      alike_at : (p : ℕ) → stands_free t N n p ≡ stands_free u N n p
      alike_at p =
          ap (λ (b : Bool). leb 1 p && (leb (p + n) N && b))
          (every-alike (λ k. not (t k)) (λ k. not (u k)) (numbers_from p n) 0 λ (i : ℕ) (l : i < length (numbers_from p n)). ap not (h (get_or (numbers_from p n) i 0)))
