-- What a used entry of a good directory keeps, and what two of them keep: each rule, read at those entries.
use mathlib.Core.Path.{◌≡◌, refl, ap}
use mathlib.Core.Bool.{Bool, true, false, ◌&&◌, ◌||◌, not}
use mathlib.Core.List.{List}
use Prim.Native.Nat.{ℕ, ◌+◌, ◌%◌, ◌≤◌, ◌<◌}
use native.Mathlib.Omega.{arith}
use native.Mathlib.Decide.{dec_lt}
use lib.ListN.{length, get_or, get_or-eq_default}
use lib.Dec.{leb, eqb}
use borrow.Author.Tests.{leb-true, eqb-true, eqb-false, ne_eqb, eq-eqb, not-true}
use Rattle.geometry.specs.Lists.{every}
use Rattle.geometry.specs.Sizes.{unblocked, blocked, random, most_records, most_sectors}
use Rattle.geometry.specs.Places.{capacity}
use Rattle.names.specs.Names.{is_name}
use Rattle.directory.specs.declared.Entry.{Entry}
use Rattle.directory.specs.Entries.{is_free, is_kind, is_marked, entry_at, free_entry}
use Rattle.directory.specs.Rules.{kind_known, name_good, extent_inside, extents_apart, flags_known, longest, length_good, count_good, random_bare, table_rules, table_good}
use Rattle.geometry.proofs.Bytes.{Apart}
use Rattle.geometry.proofs.Places.{capacity-word}
use Rattle.geometry.proofs.Tests.{and_left, and_right, or-either, all_get_d, every-get_or, pairwise-get_or}

-- what a used entry keeps, in an image of N sectors
pub record Lies (N : ℕ) (e : Entry) : Type 0 where
  pub used : 1 ≤ e.kind
  pub known : e.kind ≤ 4
  pub named : is_name e.name ≡ true
  pub starts : 1 ≤ e.first
  pub some : 1 ≤ e.sectors
  pub ends : e.first + e.sectors ≤ N
  pub flagged : e.flags ≤ 3
  pub even : e.length % 2 ≡ 0
  pub least : 2 ≤ e.length
  pub most : e.length ≤ longest e.kind
  pub held : e.kind ≤ 2 → e.count ≤ capacity e.kind e.length e.sectors
  pub counted : N ≤ most_sectors → e.count ≤ most_records
  pub bare : e.kind ≡ random → e.count ≡ 0
  pub unmarked : e.kind ≡ random → is_marked e ≡ false

-- kinds 1 and 2
has-capacity : (e : Entry) → 1 ≤ e.kind → e.kind ≤ 2 → (is_kind unblocked e || is_kind blocked e) ≡ true
has-capacity e h l = go (is_kind unblocked e) refl
  where
    go : (b : Bool) → is_kind unblocked e ≡ b → (b || is_kind blocked e) ≡ true
    go true q = refl
    go false q = eq-eqb e.kind blocked (omega (arith, eqb-false e.kind unblocked q))

-- the rules of one entry, read where it is used
module _ (N : ℕ) (e : Entry) (used : ¬ (e.kind ≡ 0)) where
  u : is_free e ≡ false
  u = ne_eqb e.kind 0 used

  extent : extent_inside N e ≡ true → (leb 1 e.first && (leb 1 e.sectors && leb (e.first + e.sectors) N)) ≡ true
  unfolding extent_inside
  extent h = rw u at h

  size : length_good e ≡ true → (eqb (e.length % 2) 0 && (leb 2 e.length && leb e.length (longest e.kind))) ≡ true
  unfolding length_good
  size h = rw u at h

  name : name_good e ≡ true → is_name e.name ≡ true
  unfolding name_good
  name h = rw u at h

  count_held : e.kind ≤ 2 → count_good e ≡ true → e.count ≤ capacity e.kind e.length e.sectors
  unfolding count_good
  count_held l h = leb-true e.count (capacity e.kind e.length e.sectors) (rw (has-capacity e (omega (arith, used)) l, count_good) at h)

  count_most : e.sectors ≤ most_records → count_good e ≡ true → e.count ≤ most_records
  unfolding count_good
  count_most l h = go (is_kind unblocked e || is_kind blocked e) refl h
    where
      tape : (is_kind unblocked e || is_kind blocked e) ≡ true → ¬ (e.kind ≡ random)
      tape t r = or-either (is_kind unblocked e) (is_kind blocked e) t (λ p. absurd (omega (arith, eqb-true e.kind unblocked p))) (λ p. absurd (omega (arith, eqb-true e.kind blocked p)))

      go : (b : Bool) → (is_kind unblocked e || is_kind blocked e) ≡ b
          → elim b [ true ↦ leb e.count (capacity e.kind e.length e.sectors) | false ↦ leb e.count most_records ] ≡ true → e.count ≤ most_records
      go true t q = omega (arith, leb-true e.count (capacity e.kind e.length e.sectors) q, capacity-word e.kind e.length e.sectors (tape t) l)
      go false t q = leb-true e.count most_records q

  bareness : e.kind ≡ random → random_bare e ≡ true → (eqb e.count 0 && not (is_marked e)) ≡ true
  unfolding random_bare
  bareness k h = rw (eq-eqb e.kind random k) at h

  entry-lies : kind_known e ≡ true → name_good e ≡ true → extent_inside N e ≡ true → flags_known e ≡ true → length_good e ≡ true → count_good e ≡ true → random_bare e ≡ true → Lies N e
  unfolding kind_known flags_known
  entry-lies k n x f l c r =
      let ext = extent x in
      let ins = and_right (leb 1 e.first) (leb 1 e.sectors && leb (e.first + e.sectors) N) ext in
      let siz = size l in
      let lon = and_right (eqb (e.length % 2) 0) (leb 2 e.length && leb e.length (longest e.kind)) siz in
      record {
        used = omega (arith, used);
        known = leb-true e.kind 4 k;
        named = name n;
        starts = leb-true 1 e.first (and_left (leb 1 e.first) (leb 1 e.sectors && leb (e.first + e.sectors) N) ext);
        some = leb-true 1 e.sectors (and_left (leb 1 e.sectors) (leb (e.first + e.sectors) N) ins);
        ends = leb-true (e.first + e.sectors) N (and_right (leb 1 e.sectors) (leb (e.first + e.sectors) N) ins);
        flagged = leb-true e.flags 3 f;
        even = eqb-true (e.length % 2) 0 (and_left (eqb (e.length % 2) 0) (leb 2 e.length && leb e.length (longest e.kind)) siz);
        least = leb-true 2 e.length (and_left (leb 2 e.length) (leb e.length (longest e.kind)) lon);
        most = leb-true e.length (longest e.kind) (and_right (leb 2 e.length) (leb e.length (longest e.kind)) lon);
        held = λ q. count_held q c;
        counted = λ q. count_most (omega (arith, leb-true (e.first + e.sectors) N (and_right (leb 1 e.sectors) (leb (e.first + e.sectors) N) ins))) c;
        bare = λ q. eqb-true e.count 0 (and_left (eqb e.count 0) (not (is_marked e)) (bareness q r));
        unmarked = λ q. not-true (is_marked e) (and_right (eqb e.count 0) (not (is_marked e)) (bareness q r));
      }

-- there is an entry where a used one is found
pub used-inside : (t : List Entry) (i : ℕ) → ¬ ((entry_at t i).kind ≡ 0) → i < length t
used-inside t i used = go (dec_lt i (length t))
  where
    go : Dec (i < length t) → i < length t
    go (yes h) = h
    go (no h) = absurd (used (ap (λ (e : Entry). e.kind) (get_or-eq_default t free_entry (omega arith))))

-- two used entries that share no sector
no_shared : (a b : Entry) → ¬ (a.kind ≡ 0) → ¬ (b.kind ≡ 0) → extents_apart a b ≡ true → Apart a.first a.sectors b.first b.sectors
unfolding extents_apart
no_shared a b u v e = go (leb (a.first + a.sectors) b.first) refl (rw (ne_eqb a.kind 0 u, ne_eqb b.kind 0 v) at e)
  where
    go : (p : Bool) → leb (a.first + a.sectors) b.first ≡ p → (p || leb (b.first + b.sectors) a.first) ≡ true → Apart a.first a.sectors b.first b.sectors
    go true h q = let l = leb-true (a.first + a.sectors) b.first h in omega arith
    go false h q = let l = leb-true (b.first + b.sectors) a.first q in omega arith

module _ (N : ℕ) (t : List Entry) (ok : table_good N t ≡ true) where
  rule : (k : ℕ) → get_or (table_rules N t) k true ≡ true
  unfolding table_good
  rule k = all_get_d (table_rules N t) k ok

  -- a used entry of a good table
  pub lies : (i : ℕ) → ¬ ((entry_at t i).kind ≡ 0) → Lies N (entry_at t i)
  unfolding table_rules
  lies i used =
      entry-lies N (entry_at t i) used (one kind_known (rule 0)) (one name_good (rule 2)) (one (extent_inside N) (rule 4)) (one flags_known (rule 6)) (one length_good (rule 7)) (one count_good (rule 8)) (one random_bare (rule 9))
    where
      one : (p : Entry → Bool) → every p t ≡ true → p (entry_at t i) ≡ true
      one p q = every-get_or p t i free_entry q (used-inside t i used)

  -- two of them share no sector
  pub extents-apart : (i j : ℕ) → ¬ (i ≡ j) → ¬ ((entry_at t i).kind ≡ 0) → ¬ ((entry_at t j).kind ≡ 0)
      → Apart (entry_at t i).first (entry_at t i).sectors (entry_at t j).first (entry_at t j).sectors
  unfolding table_rules
  extents-apart i j d u v = go (dec_lt i j)
    where
      two : (a b : ℕ) → a < b → ¬ ((entry_at t b).kind ≡ 0) → extents_apart (entry_at t a) (entry_at t b) ≡ true
      two a b l w = pairwise-get_or extents_apart t a b free_entry (rule 5) l (used-inside t b w)

      go : Dec (i < j) → Apart (entry_at t i).first (entry_at t i).sectors (entry_at t j).first (entry_at t j).sectors
      go (yes l) = no_shared (entry_at t i) (entry_at t j) u v (two i j l v)
      go (no l) =
          let h : j < i = omega (arith, d) in
          let s = no_shared (entry_at t j) (entry_at t i) v u (two j i h u) in
          omega arith

-- ---- a table with no used entry
