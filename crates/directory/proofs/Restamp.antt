-- A count and flags within the rules keep a good directory good: no other rule looks at them.
use mathlib.Core.Path.{◌≡◌, refl, ◌∙◌}
use mathlib.Core.Bool.{Bool, true, false, ◌&&◌, ◌||◌, not}
use mathlib.Core.List.{List}
use Prim.Native.Nat.{ℕ, ◌≤◌}
use native.Mathlib.Omega.{arith}
use lib.ListN.{get_or, set}
use lib.Dec.{leb, eqb}
use borrow.Author.Tests.{le-leb, eq-eqb, ne_eqb, eqb-true}
use Rattle.geometry.specs.Lists.{all, every, pairwise}
use Rattle.geometry.specs.Sizes.{unblocked, blocked, random, most_records}
use Rattle.geometry.specs.Places.{capacity}
use Rattle.directory.specs.declared.Entry.{Entry}
use Rattle.directory.specs.Entries.{is_kind, is_marked, entry_at, free_entry}
use Rattle.directory.specs.Rules.{kind_known, free_is_zero, name_good, names_differ, extent_inside, extents_apart, flags_known, length_good, count_good, random_bare, table_rules, table_good}
use Rattle.directory.specs.Stamp.{restamped}
use Rattle.geometry.proofs.Tests.{all_get_d, every_set, every-set-same, pairwise-set-same}

-- a count and flags that the rules allow an entry
pub record Stampable (e : Entry) (count flags : ℕ) : Type 0 where
  pub flagged : flags ≤ 3
  pub held : e.kind ≤ 2 → count ≤ capacity e.kind e.length e.sectors
  pub counted : count ≤ most_records
  pub bare : e.kind ≡ random → count ≡ 0
  pub unmarked : e.kind ≡ random → is_marked (restamped e count flags) ≡ false

module _ (e : Entry) (used : ¬ (e.kind ≡ 0)) (count flags : ℕ) (s : Stampable e count flags) where
  abbrev new : Entry
  new = restamped e count flags

  new-free : free_is_zero new ≡ true
  unfolding free_is_zero
  new-free = rw (ne_eqb e.kind 0 used)

  new-flags : flags_known new ≡ true
  unfolding flags_known
  new-flags = le-leb flags 3 s.flagged

  new-count : count_good new ≡ true
  unfolding count_good
  new-count = go (is_kind unblocked e) (is_kind blocked e) refl refl
    where
      go : (a b : Bool) → is_kind unblocked e ≡ a → is_kind blocked e ≡ b
          → elim (a || b) [ true ↦ leb count (capacity e.kind e.length e.sectors) | false ↦ leb count most_records ] ≡ true
      go true b p q = le-leb count (capacity e.kind e.length e.sectors) (s.held (omega (arith, eqb-true e.kind unblocked p)))
      go false true p q = le-leb count (capacity e.kind e.length e.sectors) (s.held (omega (arith, eqb-true e.kind blocked q)))
      go false false p q = le-leb count most_records s.counted

  new-bare : random_bare new ≡ true
  unfolding random_bare
  new-bare = go (is_kind random e) refl
    where
      go : (b : Bool) → is_kind random e ≡ b → (not b || (eqb count 0 && not (is_marked new))) ≡ true
      go true q =
          let k : e.kind ≡ random = eqb-true e.kind random q in
          rw (eq-eqb count 0 (s.bare k), s.unmarked k)
      go false q = refl

module _ (N : ℕ) (t : List Entry) (i count flags : ℕ) (ok : table_good N t ≡ true) where
  abbrev e : Entry
  e = entry_at t i

  abbrev t' : List Entry
  t' = set t i (restamped e count flags)

  rule : (k : ℕ) → get_or (table_rules N t) k true ≡ true
  unfolding table_good
  rule k = all_get_d (table_rules N t) k ok

  -- a rule that the new entry keeps, and one that does not look at count and flags
  kept : (p : Entry → Bool) → every p t ≡ true → p (restamped e count flags) ≡ true → every p t' ≡ true
  kept p q h = every_set p t i (restamped e count flags) q h

  same-one : (p : Entry → Bool) → every p t ≡ true → p (restamped e count flags) ≡ p e → every p t' ≡ true
  same-one p q h = every-set-same p t i (restamped e count flags) free_entry h ∙ q

  same-two : (r : Entry → Entry → Bool) → pairwise r t ≡ true → ((y : Entry) → r (restamped e count flags) y ≡ r e y) → ((y : Entry) → r y (restamped e count flags) ≡ r y e) → pairwise r t' ≡ true
  same-two r q h k = pairwise-set-same r t i (restamped e count flags) free_entry h k ∙ q

  pub restamp-good : ¬ (e.kind ≡ 0) → Stampable e count flags → table_good N (set t i (restamped (entry_at t i) count flags)) ≡ true
  unfolding table_good table_rules all kind_known name_good names_differ extent_inside extents_apart length_good
  restamp-good used s =
      rw (same-one kind_known (rule 0) refl, kept free_is_zero (rule 1) (new-free e used count flags s), same-one name_good (rule 2) refl, same-two names_differ (rule 3) (λ y. refl) (λ y. refl), same-one (extent_inside N) (rule 4) refl, same-two extents_apart (rule 5) (λ y. refl) (λ y. refl), kept flags_known (rule 6) (new-flags e used count flags s), same-one length_good (rule 7) refl, kept count_good (rule 8) (new-count e used count flags s), kept random_bare (rule 9) (new-bare e used count flags s))
