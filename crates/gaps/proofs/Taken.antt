-- Which sectors a table's extents take: those of its entries, one by one. So a run that stands free shares no sector with them, and a deleted entry's sectors are free again, as no other extent has them.
use mathlib.Core.Path.{◌≡◌, refl, sym, ap, ◌∙◌}
use mathlib.Core.Bool.{Bool, true, false, ◌&&◌, ◌||◌, not, or-true}
use mathlib.Core.List.{List, [], ◌∷◌}
use Prim.Native.Nat.{ℕ, zero, suc, ◌+◌, ◌≤◌, ◌<◌, max}
use native.Mathlib.Omega.{arith}
use native.Mathlib.Decide.{dec_lt, ℕ_discrete}
use lib.Dec.{leb, ltb}
use lib.ListN.{length, set, length-set}
use lib.Seq.{get_or-set_same, get_or-set_other}
use borrow.Author.Tests.{le-leb, leb-true, lt-ltb, ltb-true, not-true, not-false, eqb-false}
use Rattle.geometry.specs.Lists.{every, pairwise}
use Rattle.geometry.proofs.Tests.{either, both_ways, all_get_d, and_left, and_right, and_both, or-either, every-get_or, every_any, every-from, every_set, every-set-same, pairwise-get_or}
use Rattle.directory.specs.declared.Entry.{Entry}
use Rattle.directory.specs.Entries.{free_entry, entry_at, is_free}
use Rattle.directory.specs.Rules.{extents_apart, table_rules, table_good}
use Rattle.directory.proofs.Good.{Lies, lies, used-inside}
use Rattle.gaps.specs.Gaps.{used_by, is_taken, stands_free, lowest_gap}
use Rattle.gaps.proofs.Gaps.{stands-clear, stands-there, gap-given}

-- ---- one entry

module _ (e : Entry) (k : ℕ) where
  pub uses : is_free e ≡ false → e.first ≤ k → k < e.first + e.sectors → used_by e k ≡ true
  unfolding used_by
  uses u l h = rw (u, le-leb e.first k l, lt-ltb k (e.first + e.sectors) h)

  pub free-uses : is_free e ≡ true → used_by e k ≡ false
  unfolding used_by
  free-uses f = rw f

  abbrev within : Bool
  within = leb e.first k && ltb k (e.first + e.sectors)

  -- what it says
  pub used-used : used_by e k ≡ true → is_free e ≡ false
  unfolding used_by
  used-used h = not-true (is_free e) (and_left (not (is_free e)) within h)

  pub used-within : used_by e k ≡ true → (e.first ≤ k) × (k < e.first + e.sectors)
  unfolding used_by
  used-within h =
      let w : within ≡ true = and_right (not (is_free e)) within h in
      (leb-true e.first k (and_left (leb e.first k) (ltb k (e.first + e.sectors)) w), ltb-true k (e.first + e.sectors) (and_right (leb e.first k) (ltb k (e.first + e.sectors)) w))

-- ---- a table

pub taken_none : (k : ℕ) → is_taken [] k ≡ false
unfolding is_taken every
taken_none k = refl

pub taken-cons : (e : Entry) (es : List Entry) (k : ℕ) → is_taken (e ∷ es) k ≡ (used_by e k || is_taken es k)
unfolding is_taken every
taken-cons e es k = go (used_by e k) (every (λ f. not (used_by f k)) es)
  where
    go : (a b : Bool) → not (not a && b) ≡ (a || not b)
    go true b = refl
    go false b = refl

module _ (t : List Entry) (k : ℕ) where
  abbrev unused : Entry → Bool
  unused e = not (used_by e k)

  -- where no entry's extent has the sector it is free, and none has one that is free
  pub taken_not : ((i : ℕ) → i < length t → used_by (entry_at t i) k ≡ false) → is_taken t k ≡ false
  unfolding is_taken
  taken_not h = ap not (every-from unused t free_entry λ i l. ap not (h i l))

  pub not_taken : is_taken t k ≡ false → (i : ℕ) → used_by (entry_at t i) k ≡ false
  unfolding is_taken
  not_taken h i = not-true (used_by (entry_at t i) k) (every_any unused t i free_entry (not-false (every unused t) h) (ap not (free-uses free_entry k refl)))

-- ---- extents that share no sector

-- whichever is named first
apart-swap : (a b : Entry) → extents_apart a b ≡ true → extents_apart b a ≡ true
unfolding extents_apart
apart-swap a b h = go (is_free a) (is_free b) (leb (a.first + a.sectors) b.first) (leb (b.first + b.sectors) a.first) h
  where
    go : (f g x y : Bool) → (f || (g || (x || y))) ≡ true → (g || (f || (y || x))) ≡ true
    go f true x y q = refl
    go true false x y q = refl
    go false false x true q = refl
    go false false true false q = refl
    go false false false false q = q

apart-used : (a b : Entry) (k : ℕ) → extents_apart a b ≡ true → used_by a k ≡ true → used_by b k ≡ false
unfolding extents_apart
apart-used a b k h x = either (used_by b k) (λ (y : used_by b k ≡ true). absurd (shared y)) (λ (y : used_by b k ≡ false). y)
  where
    shared : used_by b k ≡ true → ⊥
    shared y =
        let u : is_free a ≡ false = used-used a k x in
        let v : is_free b ≡ false = used-used b k y in
        let f = used-within a k x in
        let g = used-within b k y in
        or-either (leb (a.first + a.sectors) b.first) (leb (b.first + b.sectors) a.first) (rw (u, v) at h)
        (λ (l : leb (a.first + a.sectors) b.first ≡ true). omega (arith, leb-true (a.first + a.sectors) b.first l))
        (λ (l : leb (b.first + b.sectors) a.first ≡ true). omega (arith, leb-true (b.first + b.sectors) a.first l))

-- two members after a change of one
pub pairwise-set : {A : Type 0} (r : A → A → Bool) (xs : List A) (i : ℕ) (a : A) → pairwise r xs ≡ true → every (λ x. r x a) xs ≡ true → every (r a) xs ≡ true → pairwise r (set xs i a) ≡ true
unfolding pairwise every
pairwise-set r [] i a h k l = refl
pairwise-set r (x ∷ xs) zero a h k l = and_both (every (r a) xs) (pairwise r xs) (and_right (r a x) (every (r a) xs) l) (and_right (every (r x) xs) (pairwise r xs) h)
pairwise-set r (x ∷ xs) (suc i) a h k l =
    and_both (every (r x) (set xs i a)) (pairwise r (set xs i a))
    (every_set (r x) xs i a (and_left (every (r x) xs) (pairwise r xs) h) (and_left (r x a) (every (λ y. r y a) xs) k))
    (pairwise-set r xs i a (and_right (every (r x) xs) (pairwise r xs) h) (and_right (r x a) (every (λ y. r y a) xs) k) (and_right (r a x) (every (r a) xs) l))

-- ---- a run that stands free is apart from every extent

-- an entry that has a sector, if it is used
abbrev pub has_sectors : Entry → Bool
has_sectors e = is_free e || leb 1 e.sectors

module _ (t : List Entry) (N n p : ℕ) (h : stands_free (is_taken t) N n p ≡ true) (some : 1 ≤ n) where
  pub gap-apart : (i : ℕ) → is_free (entry_at t i) ≡ false → 1 ≤ (entry_at t i).sectors
      → (leb ((entry_at t i).first + (entry_at t i).sectors) p || leb (p + n) (entry_at t i).first) ≡ true
  gap-apart i u s = go (entry_at t i) u s (λ k l m. not_taken t k (stands-clear (is_taken t) N n p h k l m) i)
    where
      go : (e : Entry) → is_free e ≡ false → 1 ≤ e.sectors → ((k : ℕ) → p ≤ k → k < p + n → used_by e k ≡ false)
          → (leb (e.first + e.sectors) p || leb (p + n) e.first) ≡ true
      go e u s f = by-ends (dec_lt p (e.first + e.sectors)) (dec_lt e.first (p + n))
        where
          by-ends : Dec (p < e.first + e.sectors) → Dec (e.first < p + n) → (leb (e.first + e.sectors) p || leb (p + n) e.first) ≡ true
          by-ends (no x) y = rw (le-leb (e.first + e.sectors) p (omega arith))
          by-ends (yes x) (no y) = rw (le-leb (p + n) e.first (omega arith), or-true (leb (e.first + e.sectors) p))
          -- else the later of the two first sectors is in both
          by-ends (yes x) (yes y) =
              both_ways (used_by e (max p e.first)) (uses e (max p e.first) u (omega arith) (omega arith)) (f (max p e.first) (omega arith) (omega arith))

  -- a new entry there shares no sector with any
  module _ (new : Entry) (first : new.first ≡ p) (sectors : new.sectors ≡ n) where
    new_apart : (i : ℕ) → has_sectors (entry_at t i) ≡ true → extents_apart (entry_at t i) new ≡ true
    unfolding extents_apart
    new_apart i k =
        either (is_free (entry_at t i)) (λ (f : is_free (entry_at t i) ≡ true). rw f) (λ (u : is_free (entry_at t i) ≡ false).
        rw (u, first, sectors, gap-apart i u (leb-true 1 (entry_at t i).sectors (rw u at k)), or-true (is_free new)))

    module _ (k : every has_sectors t ≡ true) where
      pub gap-extents : every (λ e. extents_apart e new) t ≡ true
      gap-extents = every-from (λ e. extents_apart e new) t free_entry λ i l. new_apart i (every-get_or has_sectors t i free_entry k l)

      pub gap-extents-back : every (extents_apart new) t ≡ true
      gap-extents-back = every-from (extents_apart new) t free_entry λ i l. apart-swap (entry_at t i) new (new_apart i (every-get_or has_sectors t i free_entry k l))

      pub gap-pairwise : pairwise extents_apart t ≡ true → (i : ℕ) → pairwise extents_apart (set t i new) ≡ true
      gap-pairwise q i = pairwise-set extents_apart t i new q gap-extents gap-extents-back

-- ---- entry i deleted

module _ (t : List Entry) (i k : ℕ) where
  -- a sector that it did not have is as it was
  pub freed-rest : used_by (entry_at t i) k ≡ false → is_taken (set t i free_entry) k ≡ is_taken t k
  unfolding is_taken
  freed-rest h = ap not (every-set-same (unused t k) t i free_entry free_entry (ap not (free-uses free_entry k refl ∙ sym h)))

  pub freed-only : is_taken (set t i free_entry) k ≡ true → is_taken t k ≡ true
  freed-only h =
      either (is_taken t k) (λ (y : is_taken t k ≡ true). y) (λ (y : is_taken t k ≡ false). sym (freed-rest (not_taken t k y i)) ∙ h)

  -- its own sectors are free
  pub freed : pairwise extents_apart t ≡ true → used_by (entry_at t i) k ≡ true → is_taken (set t i free_entry) k ≡ false
  freed q h = taken_not (set t i free_entry) k λ j l. go j (omega (arith, length-set t i free_entry)) (ℕ_discrete j i)
    where
      two : (a b : ℕ) → a < b → b < length t → extents_apart (entry_at t a) (entry_at t b) ≡ true
      two a b l m = pairwise-get_or extents_apart t a b free_entry q l m

      other : (j : ℕ) → j < length t → ¬ (j ≡ i) → Dec (i < j) → used_by (entry_at t j) k ≡ false
      other j l d (yes m) = apart-used (entry_at t i) (entry_at t j) k (two i j m l) h
      other j l d (no m) = apart-used (entry_at t i) (entry_at t j) k (apart-swap (entry_at t j) (entry_at t i) (two j i (omega (arith, d)) (used-inside t i λ (z : (entry_at t i).kind ≡ 0). eqb-false (entry_at t i).kind 0 (used-used (entry_at t i) k h) z))) h

      go : (j : ℕ) → j < length t → Dec (j ≡ i) → used_by (entry_at (set t i free_entry) j) k ≡ false
      go j l (yes e) =
          let m : i < length t = omega arith in
          ap (λ (z : ℕ). used_by (entry_at (set t i free_entry) z) k) e ∙ ap (λ (z : Entry). used_by z k) (get_or-set_same t i free_entry free_entry m) ∙ free-uses free_entry k refl
      go j l (no d) = ap (λ (z : Entry). used_by z k) (get_or-set_other t i j free_entry free_entry d) ∙ other j l d (dec_lt i j)

-- ---- a table that keeps the rules of a directory

module _ (N : ℕ) (t : List Entry) (ok : table_good N t ≡ true) where
  pub good-apart : pairwise extents_apart t ≡ true
  unfolding table_good table_rules
  good-apart = all_get_d (table_rules N t) 5 ok

  pub good-sectors : every has_sectors t ≡ true
  good-sectors = every-from has_sectors t free_entry λ i l.
      either (is_free (entry_at t i)) (λ (f : is_free (entry_at t i) ≡ true). rw f)
      (λ (u : is_free (entry_at t i) ≡ false). rw (u, le-leb 1 (entry_at t i).sectors (lies N t ok i (eqb-false (entry_at t i).kind 0 u)).some))

  -- "its sectors are free again for the next ADD"
  module _ (i : ℕ) (used : is_free (entry_at t i) ≡ false) where
    lie : Lies N (entry_at t i)
    lie = lies N t ok i (eqb-false (entry_at t i).kind 0 used)

    pub gap-freed : stands_free (is_taken (set t i free_entry)) N (entry_at t i).sectors (entry_at t i).first ≡ true
    gap-freed =
        stands-there (is_taken (set t i free_entry)) N (entry_at t i).sectors (entry_at t i).first lie.starts lie.ends
        λ k l m. freed t i k good-apart (uses (entry_at t i) k used l m)

    pub gap-again : lowest_gap (is_taken (set t i free_entry)) N (entry_at t i).sectors < N
    gap-again = gap-given (is_taken (set t i free_entry)) N (entry_at t i).sectors (entry_at t i).first gap-freed lie.some
