-- The rules of a directory are those of each entry and those of every two: a rule of both sorts holds where each of its parts does.
use mathlib.Core.Path.{◌≡◌, refl, sym}
use mathlib.Core.Bool.{Bool, true, false, ◌&&◌, ◌||◌, not, and-true, and-false, or-true}
use mathlib.Core.List.{List, [], ◌∷◌}
use Prim.Native.Nat.{ℕ, zero, suc, ◌*◌, ◌/◌, ◌%◌, ◌≤◌, ◌<◌}
use native.Mathlib.Nat.{le-div_iff_mul-le}
use native.Mathlib.Omega.{arith}
use native.Mathlib.Decide.{ℕ_discrete}
use lib.Dec.{leb, eqb}
use borrow.Author.Tests.{le-leb, lt-leb, leb-true, eq-eqb, ne_eqb}
use Rattle.geometry.specs.Lists.{all, every, pairwise}
use Rattle.geometry.specs.Places.{sectors_for, shares, capacity}
use Rattle.geometry.specs.Sizes.{unblocked, blocked, compressed, random, most_records}
use Rattle.geometry.proofs.Tests.{alike, and_left, and_right, or-either, every-and, pairwise-and}
use Rattle.names.specs.Names.{is_name}
use Rattle.directory.specs.Entries.{is_free, is_marked}
use Rattle.directory.specs.Rules.{kind_known, free_is_zero, name_good, names_differ, extent_fits, extent_inside, extents_apart, flags_known, longest, length_good, count_good, random_bare, table_rules, table_good}
use Rattle.directory.specs.Grouped.{entry_good, length_up_to, sizes_good, used_good, two_good}
use Rattle.directory.specs.declared.Entry.{Entry}

module _ {A : Type 0} where
  one-first : (p q : A → Bool) (xs : List A) (b : Bool) → every q xs ≡ b → every (λ x. p x && q x) xs ≡ (every p xs && b)
  one-first p q xs b e = rw (every-and p q xs, e)

-- document 01 has the rules of two entries, d and f, among those of one
order : (a b c d e f g h i j : Bool)
    → (a && (b && (c && (d && (e && (f && (g && (h && (i && (j && true))))))))))
    ≡ ((a && (b && (c && (e && (g && (h && (i && j))))))) && (d && f))
order false b c d e f g h i j = refl
order true false c d e f g h i j = refl
order true true false d e f g h i j = refl
order true true true false e f g h i j = sym (and-false (e && (g && (h && (i && j)))))
order true true true true false f g h i j = refl
order true true true true true false g h i j = sym (and-false (g && (h && (i && j))))
order true true true true true true g h i j = rw (and-true j, and-true (g && (h && (i && j))))

module _ (N : ℕ) (table : List Entry) where
  of_one : every (entry_good N) table
      ≡ (every kind_known table && (every free_is_zero table && (every name_good table && (every (extent_inside N) table && (every flags_known table && (every length_good table && (every count_good table && every random_bare table)))))))
  unfolding entry_good
  of_one =
      one-first kind_known _ table _ (one-first free_is_zero _ table _ (one-first name_good _ table _ (one-first (extent_inside N) _ table _ (one-first flags_known _ table _ (one-first length_good _ table _ (every-and count_good random_bare table))))))

  of_two : pairwise two_good table ≡ (pairwise names_differ table && pairwise extents_apart table)
  unfolding two_good
  of_two = pairwise-and names_differ extents_apart table

  pub grouped : table_good N table ≡ (every (entry_good N) table && pairwise two_good table)
  unfolding table_good table_rules all
  grouped =
      rw (of_one, of_two)
      (order (every kind_known table) (every free_is_zero table) (every name_good table) (pairwise names_differ table) (every (extent_inside N) table) (pairwise extents_apart table) (every flags_known table) (every length_good table) (every count_good table) (every random_bare table))

-- the rules of a used entry: that of its name, and the others one after another
swap : (k n r : Bool) → (k && (n && r)) ≡ (n && (k && r))
swap true n r = refl
swap false n r = sym (and-false n)

over : (k : ℕ) → ¬ (k ≡ 0) → ¬ (k ≡ 1) → ¬ (k ≡ 2) → ¬ (k ≡ 3) → ¬ (k ≡ 4) → 4 < k
over k z a b c d = omega arith

module _ (N : ℕ) (e : Entry) where
  module _ (used : ¬ (e.kind ≡ 0)) where
    pub used-good : entry_good N e ≡ (is_name e.name && used_good N e)
    unfolding entry_good free_is_zero name_good extent_inside length_good used_good sizes_good
    used-good = rw (ne_eqb e.kind 0 used) (swap (kind_known e) (is_name e.name) _)

  pub used-outside : extent_fits N e ≡ false → used_good N e ≡ false
  unfolding used_good
  used-outside h = rw (h, and-false (kind_known e), and-false (not (is_free e)))

  module _ (x : extent_fits N e ≡ true) where
    pub used-flagged : flags_known e ≡ false → used_good N e ≡ false
    unfolding used_good
    used-flagged h = rw (x, h, and-false (kind_known e), and-false (not (is_free e)))

    -- what is left is decided by kind
    module _ (f : flags_known e ≡ true) where
      pub used-kind : 1 ≤ e.kind → e.kind ≤ 4 → used_good N e ≡ sizes_good e
      unfolding used_good kind_known
      used-kind l h = rw (ne_eqb e.kind 0 (omega arith), le-leb e.kind 4 h, x, f)

      pub used-other : ¬ (e.kind ≡ 1) → ¬ (e.kind ≡ 2) → ¬ (e.kind ≡ 3) → ¬ (e.kind ≡ 4) → used_good N e ≡ false
      unfolding used_good kind_known
      used-other a b c d = go (ℕ_discrete e.kind 0)
        where
          go : Dec (e.kind ≡ 0) → (not (is_free e) && (leb e.kind 4 && (extent_fits N e && (flags_known e && sizes_good e)))) ≡ false
          go (yes z) = rw (eq-eqb e.kind 0 z)
          go (no u) = rw (lt-leb e.kind 4 (over e.kind u a b c d), and-false (not (is_free e)))

sectors-some : (R : ℕ) → 2 ≤ R → 0 < sectors_for R
unfolding sectors_for
sectors-some R l = omega arith

-- R and the count, kind by kind
module _ (e : Entry) where
  pub sizes-off : (most : ℕ) → longest e.kind ≡ most → length_up_to most e ≡ false → sizes_good e ≡ false
  unfolding sizes_good
  sizes-off most m h = rw (m, h)

  -- as many records as the count take no more sectors than there are
  pub sizes-unblocked : e.kind ≡ unblocked → length_up_to 3600 e ≡ true → leb (e.count * sectors_for e.length) e.sectors ≡ sizes_good e
  unfolding sizes_good longest count_good random_bare shares capacity
  sizes-unblocked k h =
      let some : 0 < sectors_for e.length = sectors-some e.length (leb-true 2 e.length (and_left (leb 2 e.length) _ (and_right (eqb (e.length % 2) 0) _ h))) in
      let each = le-div_iff_mul-le {x = e.count} {y = e.sectors} some in
      rw (k, h, and-true (leb e.count (e.sectors / sectors_for e.length)))
      (alike _ _
      (λ (q : leb (e.count * sectors_for e.length) e.sectors ≡ true). le-leb _ _ (each.1 (leb-true _ _ q)))
      (λ (q : leb e.count (e.sectors / sectors_for e.length) ≡ true). le-leb _ _ (each.0 (leb-true _ _ q))))

  pub sizes-blocked : e.kind ≡ blocked → length_up_to 360 e ≡ true → leb e.count (capacity e.kind e.length e.sectors) ≡ sizes_good e
  unfolding sizes_good longest count_good random_bare
  sizes-blocked k h = sym (rw (k, h, and-true (leb e.count (capacity blocked e.length e.sectors))))

  pub sizes-compressed : e.kind ≡ compressed → length_up_to 132 e ≡ true → leb e.count most_records ≡ sizes_good e
  unfolding sizes_good longest count_good random_bare
  sizes-compressed k h = sym (rw (k, h, and-true (leb e.count most_records)))

  pub sizes-random : e.kind ≡ random → length_up_to 3600 e ≡ true → (eqb e.count 0 && not (is_marked e)) ≡ sizes_good e
  unfolding sizes_good longest count_good random_bare is_marked
  sizes-random k h = sym (rw (k, h) (none e.count (not (is_marked e))))
    where
      none : (n : ℕ) (m : Bool) → (leb n most_records && (eqb n 0 && m)) ≡ (eqb n 0 && m)
      none zero m = refl
      none (suc n) m = rw (ne_eqb (suc n) 0 (omega arith)) (and-false (leb (suc n) most_records))

-- two entries of which one is free
module _ (a b : Entry) where
  pub two-free : (is_free a || is_free b) ≡ true → two_good a b ≡ true
  unfolding two_good names_differ extents_apart
  two-free h = or-either (is_free a) (is_free b) h (λ (p : is_free a ≡ true). rw p) (λ (p : is_free b ≡ true). rw (p, or-true (is_free a)))

-- any entries and a free one
pub free-apart : (b : Entry) → b.kind ≡ 0 → (xs : List Entry) → every (λ a. two_good a b) xs ≡ true
unfolding every
free-apart b f [] = refl
free-apart b f (a ∷ xs) = rw (two-free a b (rw (eq-eqb b.kind 0 f) (or-true (is_free a))), free-apart b f xs)
