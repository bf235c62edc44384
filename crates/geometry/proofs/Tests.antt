-- Laws of the tests over lists, by going down the list. For tests of numbers see borrow.Author.Tests: `le-leb`, `lt-leb`, `lt-ltb`,
-- `le-ltb`, `eq-eqb`, `ne_eqb` make them, and `leb-true`, `leb-false`, `ltb-true`, `ltb-false`, `eqb-true`, `eqb-false` read them.
use mathlib.Core.Path.{◌≡◌, refl, sym, ap, ◌∙◌}
use mathlib.Core.Bool.{Bool, true, false, not, ◌&&◌, ◌||◌, true≢false, and-true, and-false, and_assoc}
use mathlib.Core.List.{List, [], ◌∷◌}
use Prim.Native.Nat.{ℕ, zero, suc, ◌+◌, ◌≤◌, ◌<◌}
use native.Mathlib.Numerals.{add-one}
use native.Mathlib.Omega.{arith}
use lib.Dec.{eqb}
use lib.Pointwise.{pointwise}
use Rattle.std.specs.List.{list_all}
use lib.ListN.{length, take, drop, get_or, set, replicate}
use lib.Seq.{drop-cons, drop-length}
use borrow.Author.Tests.{eq-eqb, ne_eqb, eqb-true}
use Rattle.geometry.specs.Lists.{all, every, pairwise, first_with, how_many, same}

-- ---- truth values

-- a test holds, or it does not
pub either : {P : Type 0} (b : Bool) → (b ≡ true → P) → (b ≡ false → P) → P
either true f g = f refl
either false f g = g refl

pub both_ways : {P : Type 0} (b : Bool) → b ≡ true → b ≡ false → P
both_ways b h k = absurd (true≢false (sym h ∙ k))

-- a case whose test is known
pub chosen : {A : Type 0} (t : Bool) (x y : A) → t ≡ true → elim t [ true ↦ x | false ↦ y ] ≡ x
chosen true x y h = refl
chosen false x y h = both_ways false h refl

pub not_chosen : {A : Type 0} (t : Bool) (x y : A) → t ≡ false → elim t [ true ↦ x | false ↦ y ] ≡ y
not_chosen true x y h = both_ways true refl h
not_chosen false x y h = refl

pub and_left : (a b : Bool) → a && b ≡ true → a ≡ true
and_left true b h = refl
and_left false b h = h

pub and_right : (a b : Bool) → a && b ≡ true → b ≡ true
and_right true b h = h
and_right false b h = absurd (true≢false (sym h))

pub and_both : (a b : Bool) → a ≡ true → b ≡ true → a && b ≡ true
and_both a b h k = rw (h, k)

pub or-either : {P : Type 0} (a b : Bool) → a || b ≡ true → (a ≡ true → P) → (b ≡ true → P) → P
or-either true b h f g = f refl
or-either false b h f g = g h

-- of two tests neither holds
pub neither_left : (a b : Bool) → a || b ≡ false → a ≡ false
neither_left true b h = h
neither_left false b h = refl

pub neither_right : (a b : Bool) → a || b ≡ false → b ≡ false
neither_right true b h = absurd (true≢false h)
neither_right false b h = h

-- what would follow from a test does not hold, so neither does the test
pub denied : (a b : Bool) → (a ≡ true → b ≡ true) → b ≡ false → a ≡ false
denied true b f h = sym (f refl) ∙ h
denied false b f h = refl

-- two tests that say the same
pub alike : (a b : Bool) → (a ≡ true → b ≡ true) → (b ≡ true → a ≡ true) → a ≡ b
alike true b f g = sym (f refl)
alike false true f g = g refl
alike false false f g = refl

swap : (a b c d : Bool) → (a && b) && (c && d) ≡ (a && c) && (b && d)
swap true b true d = refl
swap true b false d = and-false b
swap false b c d = refl

-- ---- all

pub all_get_d : (bs : List Bool) (i : ℕ) → all bs ≡ true → get_or bs i true ≡ true
unfolding all
all_get_d [] i h = refl
all_get_d (b ∷ bs) zero h = and_left b (all bs) h
all_get_d (b ∷ bs) (suc i) h = all_get_d bs i (and_right b (all bs) h)

pub all_from : (bs : List Bool) → ((i : ℕ) → i < length bs → get_or bs i true ≡ true) → all bs ≡ true
unfolding all
all_from [] h = refl
all_from (b ∷ bs) h = and_both b (all bs) (h 0 (omega arith)) (all_from bs λ i l. h (suc i) (omega arith))

-- ---- every

module _ {A : Type 0} where
  -- what std's `all` of a chain finds
  pub all_every : (p : A → Bool) (xs : List A) → list_all p xs ≡ every p xs
  unfolding every
  all_every p [] = refl
  all_every p (x ∷ xs) = rw (all_every p xs) refl

  pub every-get_or : (p : A → Bool) (xs : List A) (i : ℕ) (d : A) → every p xs ≡ true → i < length xs → p (get_or xs i d) ≡ true
  unfolding every
  every-get_or p [] i d h l = absurd (omega arith)
  every-get_or p (x ∷ xs) zero d h l = and_left (p x) (every p xs) h
  every-get_or p (x ∷ xs) (suc i) d h l = every-get_or p xs i d (and_right (p x) (every p xs) h) (omega arith)

  -- of a member or of what stands where there is none
  pub every_any : (p : A → Bool) (xs : List A) (i : ℕ) (d : A) → every p xs ≡ true → p d ≡ true → p (get_or xs i d) ≡ true
  unfolding every
  every_any p [] i d h k = k
  every_any p (x ∷ xs) zero d h k = and_left (p x) (every p xs) h
  every_any p (x ∷ xs) (suc i) d h k = every_any p xs i d (and_right (p x) (every p xs) h) k

  pub every-from : (p : A → Bool) (xs : List A) (d : A) → ((i : ℕ) → i < length xs → p (get_or xs i d) ≡ true) → every p xs ≡ true
  unfolding every
  every-from p [] d h = refl
  every-from p (x ∷ xs) d h = and_both (p x) (every p xs) (h 0 (omega arith)) (every-from p xs d λ i l. h (suc i) (omega arith))

  pub every-and : (p q : A → Bool) (xs : List A) → every (λ x. p x && q x) xs ≡ every p xs && every q xs
  unfolding every
  every-and p q [] = refl
  every-and p q (x ∷ xs) = rw (every-and p q xs) (swap (p x) (q x) (every p xs) (every q xs))

  pub every-alike : (p q : A → Bool) (xs : List A) (d : A) → ((i : ℕ) → i < length xs → p (get_or xs i d) ≡ q (get_or xs i d)) → every p xs ≡ every q xs
  unfolding every
  every-alike p q [] d h = refl
  every-alike p q (x ∷ xs) d h = rw (h 0 (omega arith), every-alike p q xs d (λ i l. h (suc i) (omega arith)))

  -- after a change of one member of which p says what it said
  pub every-set-same : (p : A → Bool) (xs : List A) (i : ℕ) (a d : A) → p a ≡ p (get_or xs i d) → every p (set xs i a) ≡ every p xs
  unfolding every
  every-set-same p [] i a d e = refl
  every-set-same p (x ∷ xs) zero a d e = rw e
  every-set-same p (x ∷ xs) (suc i) a d e = rw (every-set-same p xs i a d e)

  pub every_set : (p : A → Bool) (xs : List A) (i : ℕ) (a : A) → every p xs ≡ true → p a ≡ true → every p (set xs i a) ≡ true
  unfolding every
  every_set p [] i a h k = refl
  every_set p (x ∷ xs) zero a h k = and_both (p a) (every p xs) k (and_right (p x) (every p xs) h)
  every_set p (x ∷ xs) (suc i) a h k =
      and_both (p x) (every p (set xs i a)) (and_left (p x) (every p xs) h) (every_set p xs i a (and_right (p x) (every p xs) h) k)

  -- a turn of a loop from the front; and what is left behind it
  pub every_more : (p : A → Bool) (xs : List A) (i : ℕ) (d : A) → i < length xs → every p (take (i + 1) xs) ≡ every p (take i xs) && p (get_or xs i d)
  unfolding every
  every_more p xs i d l = rw (add-one i) (go xs i l)
    where
      go : (xs : List A) (i : ℕ) → i < length xs → every p (take (suc i) xs) ≡ every p (take i xs) && p (get_or xs i d)
      go [] i l = absurd (omega arith)
      go (x ∷ xs) zero l = and-true (p x)
      go (x ∷ xs) (suc i) l = rw (go xs i (omega arith)) (sym (and_assoc (p x) (every p (take i xs)) (p (get_or xs i d))))

  pub every-left : (p : A → Bool) (xs : List A) (i : ℕ) (d : A) → i < length xs → every p (drop i xs) ≡ p (get_or xs i d) && every p (drop (i + 1) xs)
  unfolding every
  every-left p xs i d l = rw (add-one, drop-cons xs i d)

-- a list of one number over and over
pub every-equal : (v : ℕ) (xs : List ℕ) → every (λ x. eqb x v) xs ≡ true → xs ≡ replicate (length xs) v
unfolding every
every-equal v [] h = refl
every-equal v (x ∷ xs) h =
    let e : x ≡ v = eqb-true x v (and_left (eqb x v) (every (λ y. eqb y v) xs) h) in
    let f : xs ≡ replicate (length xs) v = every-equal v xs (and_right (eqb x v) (every (λ y. eqb y v) xs) h) in
    cc

pub every-replicate : {A : Type 0} (p : A → Bool) (n : ℕ) (v : A) → p v ≡ true → every p (replicate n v) ≡ true
unfolding every
every-replicate p zero v h = refl
every-replicate p (suc n) v h = and_both (p v) (every p (replicate n v)) h (every-replicate p n v h)

-- ---- pairwise

module _ {A : Type 0} where
  pub pairwise-get_or : (r : A → A → Bool) (xs : List A) (i j : ℕ) (d : A) → pairwise r xs ≡ true → i < j → j < length xs → r (get_or xs i d) (get_or xs j d) ≡ true
  unfolding pairwise
  pairwise-get_or r [] i j d h l k = absurd (omega arith)
  pairwise-get_or r (x ∷ xs) i zero d h l k = absurd (omega arith)
  pairwise-get_or r (x ∷ xs) zero (suc j) d h l k = every-get_or (r x) xs j d (and_left (every (r x) xs) (pairwise r xs) h) (omega arith)
  pairwise-get_or r (x ∷ xs) (suc i) (suc j) d h l k =
      pairwise-get_or r xs i j d (and_right (every (r x) xs) (pairwise r xs) h) (omega arith) (omega arith)

  pub pairwise-from : (r : A → A → Bool) (xs : List A) (d : A)
      → ((i j : ℕ) → i < j → j < length xs → r (get_or xs i d) (get_or xs j d) ≡ true) → pairwise r xs ≡ true
  unfolding pairwise
  pairwise-from r [] d h = refl
  pairwise-from r (x ∷ xs) d h =
      and_both (every (r x) xs) (pairwise r xs) (every-from (r x) xs d λ j l. h 0 (suc j) (omega arith) (omega arith))
      (pairwise-from r xs d λ i j l k. h (suc i) (suc j) (omega arith) (omega arith))

  pub pairwise-and : (r s : A → A → Bool) (xs : List A) → pairwise (λ x y. r x y && s x y) xs ≡ pairwise r xs && pairwise s xs
  unfolding pairwise
  pairwise-and r s [] = refl
  pairwise-and r s (x ∷ xs) =
      rw (every-and (r x) (s x) xs, pairwise-and r s xs) (swap (every (r x) xs) (every (s x) xs) (pairwise r xs) (pairwise s xs))

  -- after a change of one member that r cannot tell from what it was
  pub pairwise-set-same : (r : A → A → Bool) (xs : List A) (i : ℕ) (a d : A)
      → ((x : A) → r a x ≡ r (get_or xs i d) x) → ((x : A) → r x a ≡ r x (get_or xs i d)) → pairwise r (set xs i a) ≡ pairwise r xs
  unfolding pairwise
  pairwise-set-same r [] i a d h k = refl
  pairwise-set-same r (x ∷ xs) zero a d h k = rw (every-alike (r a) (r x) xs d (λ i l. h (get_or xs i d)))
  pairwise-set-same r (x ∷ xs) (suc i) a d h k = rw (every-set-same (r x) xs i a d (k x), pairwise-set-same r xs i a d h k)

  -- a turn of a loop from the front: the next member and each before it
  pub pairwise-more : (r : A → A → Bool) (xs : List A) (i : ℕ) (d : A) → i < length xs
      → pairwise r (take (i + 1) xs) ≡ pairwise r (take i xs) && every (λ x. r x (get_or xs i d)) (take i xs)
  unfolding pairwise every
  pairwise-more r xs i d l = rw (add-one i) (go xs i l)
    where
      go : (xs : List A) (i : ℕ) → i < length xs → pairwise r (take (suc i) xs) ≡ pairwise r (take i xs) && every (λ x. r x (get_or xs i d)) (take i xs)
      go [] i l = absurd (omega arith)
      go (x ∷ xs) zero l = refl
      go (x ∷ xs) (suc i) l =
          let h : i < length xs = omega arith in
          let e : every (r x) (take (suc i) xs) ≡ every (r x) (take i xs) && r x (get_or xs i d) = rw (add-one i) at (every_more (r x) xs i d h) in
          rw (e, go xs i h) (swap (every (r x) (take i xs)) (r x (get_or xs i d)) (pairwise r (take i xs)) (every (λ y. r y (get_or xs i d)) (take i xs)))

-- ---- first_with: the lowest

module _ {A : Type 0} where
  first-yes : (p : A → Bool) (x : A) (xs : List A) → p x ≡ true → first_with p (x ∷ xs) ≡ 0
  unfolding first_with
  first-yes p x xs h = rw (h, first_with)

  first-no : (p : A → Bool) (x : A) (xs : List A) → p x ≡ false → first_with p (x ∷ xs) ≡ suc (first_with p xs)
  unfolding first_with
  first-no p x xs h = rw (h, first_with)

  pub first-most : (p : A → Bool) (xs : List A) → first_with p xs ≤ length xs
  unfolding first_with
  first-most p [] = omega arith
  first-most p (x ∷ xs) =
      either (p x) (λ (h : p x ≡ true). rw (first-yes p x xs h) (omega arith)) (λ (h : p x ≡ false). rw (first-no p x xs h) (omega (arith, first-most p xs)))

  pub first_holds : (p : A → Bool) (xs : List A) (d : A) → first_with p xs < length xs → p (get_or xs (first_with p xs) d) ≡ true
  unfolding first_with
  first_holds p [] d l = absurd (omega arith)
  first_holds p (x ∷ xs) d l =
      either (p x) (λ (h : p x ≡ true). rw (first-yes p x xs h) h)
      (λ (h : p x ≡ false). rw (first-no p x xs h) (first_holds p xs d (omega (arith, first-no p x xs h))))

  pub first_below : (p : A → Bool) (xs : List A) (i : ℕ) (d : A) → i < first_with p xs → p (get_or xs i d) ≡ false
  unfolding first_with
  first_below p [] i d l = absurd (omega arith)
  first_below p (x ∷ xs) zero d l = either (p x) (λ (h : p x ≡ true). absurd (omega (arith, first-yes p x xs h))) (λ (h : p x ≡ false). h)
  first_below p (x ∷ xs) (suc i) d l =
      either (p x) (λ (h : p x ≡ true). absurd (omega (arith, first-yes p x xs h)))
      (λ (h : p x ≡ false). first_below p xs i d (omega (arith, first-no p x xs h)))

  -- no other number is the lowest
  pub first-is : (p : A → Bool) (xs : List A) (i : ℕ) (d : A) → i ≤ length xs → ((j : ℕ) → j < i → p (get_or xs j d) ≡ false)
      → (i < length xs → p (get_or xs i d) ≡ true) → first_with p xs ≡ i
  unfolding first_with
  first-is p [] i d l f g = omega arith
  first-is p (x ∷ xs) zero d l f g = first-yes p x xs (g (omega arith))
  first-is p (x ∷ xs) (suc i) d l f g =
      first-no p x xs (f 0 (omega arith)) ∙ ap suc (first-is p xs i d (omega arith) (λ j k. f (suc j) (omega arith)) (λ k. g (omega arith)))

  pub first_alike : (p q : A → Bool) (xs : List A) (d : A) → ((i : ℕ) → i < length xs → p (get_or xs i d) ≡ q (get_or xs i d)) → first_with p xs ≡ first_with q xs
  unfolding first_with
  first_alike p q [] d h = refl
  first_alike p q (x ∷ xs) d h =
      either (p x) (λ (k : p x ≡ true). first-yes p x xs k ∙ sym (first-yes q x xs (sym (h 0 (omega arith)) ∙ k)))
      (λ (k : p x ≡ false). first-no p x xs k ∙ ap suc (first_alike p q xs d (λ i l. h (suc i) (omega arith))) ∙ sym (first-no q x xs (sym (h 0 (omega arith)) ∙ k)))

-- ---- how_many

module _ {A : Type 0} where
  many-yes : (p : A → Bool) (x : A) (xs : List A) → p x ≡ true → how_many p (x ∷ xs) ≡ suc (how_many p xs)
  unfolding how_many
  many-yes p x xs h = rw (h, how_many)

  many-no : (p : A → Bool) (x : A) (xs : List A) → p x ≡ false → how_many p (x ∷ xs) ≡ how_many p xs
  unfolding how_many
  many-no p x xs h = rw (h, how_many)

  one-yes : (p : A → Bool) (x : A) → p x ≡ true → how_many p (x ∷ []) ≡ 1
  unfolding how_many
  one-yes p x h = many-yes p x [] h

  one-no : (p : A → Bool) (x : A) → p x ≡ false → how_many p (x ∷ []) ≡ 0
  unfolding how_many
  one-no p x h = many-no p x [] h

  many-cons : (p : A → Bool) (x : A) (xs : List A) → how_many p (x ∷ xs) ≡ how_many p (x ∷ []) + how_many p xs
  many-cons p x xs =
      either (p x) (λ (h : p x ≡ true). rw (many-yes p x xs h, one-yes p x h) (omega arith)) (λ (h : p x ≡ false). rw (many-no p x xs h, one-no p x h) (omega arith))

  pub many-most : (p : A → Bool) (xs : List A) → how_many p xs ≤ length xs
  unfolding how_many
  many-most p [] = omega arith
  many-most p (x ∷ xs) =
      either (p x) (λ (h : p x ≡ true). rw (many-yes p x xs h) (omega (arith, many-most p xs))) (λ (h : p x ≡ false). rw (many-no p x xs h) (omega (arith, many-most p xs)))

  -- a change of one member takes the old one from the count and adds the new one
  many-set : (p : A → Bool) (xs : List A) (i : ℕ) (a d : A) → i < length xs
      → how_many p (set xs i a) + how_many p (get_or xs i d ∷ []) ≡ how_many p xs + how_many p (a ∷ [])
  many-set p [] i a d l = absurd (omega arith)
  many-set p (x ∷ xs) zero a d l = omega (arith, many-cons p a xs, many-cons p x xs)
  many-set p (x ∷ xs) (suc i) a d l = omega (arith, many-set p xs i a d (omega arith), many-cons p x xs, many-cons p x (set xs i a))

  -- a turn of a loop from the front
  many_more : (p : A → Bool) (xs : List A) (i : ℕ) (d : A) → i < length xs → how_many p (take (suc i) xs) ≡ how_many p (take i xs) + how_many p (get_or xs i d ∷ [])
  unfolding how_many
  many_more p [] i d l = absurd (omega arith)
  many_more p (x ∷ xs) zero d l = omega arith
  many_more p (x ∷ xs) (suc i) d l = omega (arith, many_more p xs i d (omega arith), many-cons p x (take (suc i) xs), many-cons p x (take i xs))

  pub many-more-yes : (p : A → Bool) (xs : List A) (i : ℕ) (d : A) → i < length xs → p (get_or xs i d) ≡ true
      → how_many p (take (i + 1) xs) ≡ how_many p (take i xs) + 1
  many-more-yes p xs i d l h = rw (add-one i) (omega (arith, many_more p xs i d l, one-yes p (get_or xs i d) h))

  pub many-more-no : (p : A → Bool) (xs : List A) (i : ℕ) (d : A) → i < length xs → p (get_or xs i d) ≡ false
      → how_many p (take (i + 1) xs) ≡ how_many p (take i xs)
  many-more-no p xs i d l h = rw (add-one i) (omega (arith, many_more p xs i d l, one-no p (get_or xs i d) h))

  -- where p does not hold of all, there is a first of which it does not
  pub many-room : (p : A → Bool) (xs : List A) → how_many p xs < length xs → first_with (λ x. not (p x)) xs < length xs
  unfolding how_many first_with
  many-room p [] l = absurd (omega arith)
  many-room p (x ∷ xs) l =
      either (p x)
      (λ (h : p x ≡ true). rw (first-no (λ y. not (p y)) x xs (ap not h)) (omega (arith, many-room p xs (omega (arith, many-yes p x xs h)))))
      (λ (h : p x ≡ false). rw (first-yes (λ y. not (p y)) x xs (ap not h)) (omega arith))

-- ---- two lists of numbers

-- they are what std's `==` finds equal
pub equal_same : (a b : List ℕ) → pointwise eqb a b ≡ same a b
unfolding same
equal_same [] [] = refl
equal_same [] (y ∷ b) = refl
equal_same (x ∷ a) [] = refl
equal_same (x ∷ a) (y ∷ b) = rw (equal_same a b) refl

-- lists of two lengths are not the same
pub same-lengths : (a b : List ℕ) → ¬ (length a ≡ length b) → same a b ≡ false
unfolding same
same-lengths [] [] n = absurd (n refl)
same-lengths [] (y ∷ b) n = refl
same-lengths (x ∷ a) [] n = refl
same-lengths (x ∷ a) (y ∷ b) n = rw (same-lengths a b (λ e. n (ap suc e))) (and-false (eqb x y))

-- what is left of both decides, one place on
pub same-on : (a b : List ℕ) (i : ℕ) → i < length a → i < length b → get_or a i 0 ≡ get_or b i 0
    → same (drop i a) (drop i b) ≡ same (drop (i + 1) a) (drop (i + 1) b)
unfolding same
same-on a b i la lb e = rw (add-one, drop-cons a i 0, drop-cons b i 0, eq-eqb (get_or a i 0) (get_or b i 0) e)

pub same_differs : (a b : List ℕ) (i : ℕ) → i < length a → i < length b → ¬ (get_or a i 0 ≡ get_or b i 0) → same (drop i a) (drop i b) ≡ false
unfolding same
same_differs a b i la lb e = rw (drop-cons a i 0, drop-cons b i 0, ne_eqb (get_or a i 0) (get_or b i 0) e)

pub same_end : (a b : List ℕ) (i : ℕ) → i ≡ length a → i ≡ length b → same (drop i a) (drop i b) ≡ true
unfolding same
same_end a b i ea eb =
    ap (λ (n : ℕ). same (drop n a) (drop i b)) ea ∙ (ap (λ (n : ℕ). same (drop (length a) a) (drop n b)) eb ∙ rw (drop-length a, drop-length b))

pub same_true : (a b : List ℕ) → same a b ≡ true → a ≡ b
unfolding same
same_true [] [] h = refl
same_true [] (y ∷ b) h = absurd (true≢false (sym h))
same_true (x ∷ a) [] h = absurd (true≢false (sym h))
same_true (x ∷ a) (y ∷ b) h =
    let e : x ≡ y = eqb-true x y (and_left (eqb x y) (same a b) h) in
    let f : a ≡ b = same_true a b (and_right (eqb x y) (same a b) h) in
    cc
