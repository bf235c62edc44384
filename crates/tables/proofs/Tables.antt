-- A table where it lies: entry i stands at w·i, and what is tested of the bytes of entries is tested of the entries that they hold, from the front on.
use mathlib.Core.Path.{◌≡◌, refl, sym, ap, ◌∙◌}
use mathlib.Core.Bool.{Bool, true, false, ◌&&◌, ◌||◌, not, and-true, and-false, or-true, or-false}
use mathlib.Core.List.{List, []}
use Prim.Native.Nat.{ℕ, ◌+◌, ◌-◌, ◌*◌, ◌/◌, ◌%◌, ◌≤◌, ◌<◌, max}
use native.Mathlib.Omega.{arith}
use lib.Dec.{eqb, leb}
use lib.ListN.{length, take, get_or}
use lib.Seq.{take_all}
use borrow.Author.Tests.{eq-eqb, ne_eqb, le-leb, lt-leb, leb-true}
use Rattle.geometry.specs.Bytes.{part, word_at, is_byte}
use Rattle.geometry.specs.Lists.{every, pairwise, same}
use Rattle.geometry.proofs.Bytes.{part-all}
use Rattle.geometry.proofs.Front.{front-one, front-some}
use Rattle.geometry.proofs.Tests.{denied, or-either, every-and, every-get_or, every-from, every_more, pairwise-more}
use Rattle.directory.specs.Entries.{free_entry, is_free}
use Rattle.directory.specs.Rules.{names_differ, extents_apart, table_good}
use Rattle.directory.specs.Grouped.{is_zero, entry_good, two_good}
use Rattle.directory.specs.Search.{matches, told, find}
use Rattle.directory.proofs.Free.{zero-free, zero-good}
use Rattle.directory.proofs.Grouped.{grouped, free-apart}
use Rattle.directory.proofs.Find.{found_none}
use Rattle.directory.specs.declared.Entry.{Entry}
use Rattle.std.specs.Prelude.{None}
use Rattle.tables.specs.Numbers.{long_at, number_in}
use Rattle.tables.specs.Rows.{row_in}
use Rattle.tables.specs.Tables.{has_rows, entry_in, entries_in, table_in}
use Rattle.tables.specs.Table.{rows_of}
use Rattle.tables.specs.declared.Table.{Table}
use Rattle.tables.proofs.Numbers.{same-eights}
use Rattle.tables.proofs.Rows.{length-row, get_or-row, take_row}
use Rattle.tables.proofs.Entries.{name-is}

-- ---- entry i

module _ (w n : ℕ) (b : List ℕ) where
  pub length-entries : length (entries_in w n b) ≡ n
  unfolding entries_in
  length-entries = length-row (entry_in w) w n b 0

  pub entry-is : (i at : ℕ) → i < n → at ≡ w * i → get_or (entries_in w n b) i free_entry ≡ entry_in w b at
  unfolding entries_in
  entry-is i at h q =
      let e : 0 + w * i ≡ at = omega arith in
      get_or-row (entry_in w) w n b 0 i free_entry h ∙ ap (entry_in w b) e

  pub first-entries : (i : ℕ) → i ≤ n → take i (entries_in w n b) ≡ entries_in w i b
  unfolding entries_in
  first-entries i h = take_row (entry_in w) w n i b 0 h

  pub table_is : has_rows w n b ≡ true → table_in w n b ≡ entries_in w n b
  unfolding table_in
  table_is h = rw (h, table_in)

  pub table_none : has_rows w n b ≡ false → table_in w n b ≡ []
  unfolding table_in
  table_none h = rw (h, table_in)

-- the table that was made of bytes
pub table-made : (t : Table) (w n : ℕ) (b : List ℕ) → (has_rows w n b ≡ true) × ((t.bytes.now ≡ b) × ((t.width ≡ w) × (t.rows ≡ n))) → rows_of t ≡ table_in w n b
table-made t w n b h =
    ap (entries_in t.width t.rows) h.1.0
    ∙ ap (λ (k : ℕ). entries_in k t.rows b) h.1.1.0
    ∙ ap (λ (k : ℕ). entries_in w k b) h.1.1.1
    ∙ sym (table_is w n b h.0)

-- ---- the next entry

module _ (w i : ℕ) (b : List ℕ) where
  there : i < length (entries_in w (i + 1) b)
  there = omega (arith, length-entries w (i + 1) b)

  all_of : take (i + 1) (entries_in w (i + 1) b) ≡ entries_in w (i + 1) b
  all_of = take_all (i + 1) (entries_in w (i + 1) b) (omega (arith, length-entries w (i + 1) b))

  next-is : get_or (entries_in w (i + 1) b) i free_entry ≡ entry_in w b (w * i)
  next-is = entry-is w (i + 1) b i (w * i) (omega arith) refl

  pub more-every : (p : Entry → Bool) → every p (entries_in w (i + 1) b) ≡ (every p (entries_in w i b) && p (entry_in w b (w * i)))
  more-every p =
      ap (every p) (sym all_of) ∙ every_more p (entries_in w (i + 1) b) i free_entry there ∙ rw (first-entries w (i + 1) b i (omega arith), next-is)

  more-pairs : (r : Entry → Entry → Bool) → pairwise r (entries_in w (i + 1) b) ≡ (pairwise r (entries_in w i b) && every (λ a. r a (entry_in w b (w * i))) (entries_in w i b))
  more-pairs r =
      ap (pairwise r) (sym all_of) ∙ pairwise-more r (entries_in w (i + 1) b) i free_entry there ∙ rw (first-entries w (i + 1) b i (omega arith), next-is)

  -- the rules of a table, with one entry more
  pub more-good : (N : ℕ) → table_good N (entries_in w (i + 1) b)
      ≡ (table_good N (entries_in w i b) && (entry_good N (entry_in w b (w * i)) && every (λ a. two_good a (entry_in w b (w * i))) (entries_in w i b)))
  more-good N =
      grouped N (entries_in w (i + 1) b)
      ∙ rw (more-every (entry_good N), more-pairs two_good, grouped N (entries_in w i b))
      (swapped (every (entry_good N) (entries_in w i b)) (entry_good N (entry_in w b (w * i))) (pairwise two_good (entries_in w i b)) (every (λ a. two_good a (entry_in w b (w * i))) (entries_in w i b)))
    where
      swapped : (a x c y : Bool) → ((a && x) && (c && y)) ≡ ((a && c) && (x && y))
      swapped false x c y = refl
      swapped true false false y = refl
      swapped true false true y = refl
      swapped true true c y = refl

  -- which is zero
  pub zero_more : is_zero (entry_in w b (w * i)) ≡ true → (N : ℕ) → table_good N (entries_in w (i + 1) b) ≡ table_good N (entries_in w i b)
  zero_more z N =
      more-good N
      ∙ rw (zero-good N (entry_in w b (w * i)) z, free-apart (entry_in w b (w * i)) (zero-free N (entry_in w b (w * i)) z) (entries_in w i b), and-true (table_good N (entries_in w i b)))

pub zero-less : (w i : ℕ) (b : List ℕ) → 0 < i → is_zero (entry_in w b (w * (i - 1))) ≡ true → (N : ℕ) → table_good N (entries_in w i b) ≡ table_good N (entries_in w (i - 1) b)
zero-less w i b h z N =
    let e : i ≡ (i - 1) + 1 = omega arith in
    ap (λ (n : ℕ). table_good N (entries_in w n b)) e ∙ zero_more w (i - 1) b z N

-- ---- a rule of one, of the first entries

module _ (w : ℕ) (b : List ℕ) (p : Entry → Bool) where
  pub every-none : every p (entries_in w 0 b) ≡ true
  unfolding entries_in row_in every
  every-none = refl

  pub every_on : (i : ℕ) → every p (entries_in w i b) ≡ true → p (entry_in w b (w * i)) ≡ true → every p (entries_in w (i + 1) b) ≡ true
  every_on i h e = more-every w i b p ∙ rw (h, e)

  pub every_off : (j i : ℕ) → j < i → p (entry_in w b (w * j)) ≡ false → false ≡ every p (entries_in w i b)
  every_off j i h e =
      sym (denied (every p (entries_in w i b)) (p (entry_in w b (w * j))) (λ (t : every p (entries_in w i b) ≡ true).
      sym (ap p (entry-is w i b j (w * j) h refl)) ∙ every-get_or p (entries_in w i b) j free_entry t (omega (arith, length-entries w i b))) e)

  pub every-whole : (j i : ℕ) → j ≡ i → every p (entries_in w j b) ≡ true → true ≡ every p (entries_in w i b)
  every-whole j i e h = sym (ap (λ (n : ℕ). every p (entries_in w n b)) (sym e) ∙ h)

-- ---- names

used-kinds : (w : ℕ) (b : List ℕ) (at end kind : ℕ) → kind ≡ word_at b (at + 8) → ¬ (word_at b (end + 8) ≡ 0)
    → (is_free (entry_in w b at) || (is_free (entry_in w b end) || false)) ≡ eqb kind 0
unfolding entry_in
used-kinds w b at end kind k u = rw (sym k, ne_eqb (word_at b (end + 8)) 0 u) (or-false (eqb kind 0))

module _ (w : ℕ) (b : List ℕ) (at : ℕ) (room : at + 8 ≤ length b) (x : ℕ) (p : (x ≡ number_in (part b at 8)) × (every is_byte (part b at 8) ≡ true)) where
  -- with another entry
  module _ (end : ℕ) (room' : end + 8 ≤ length b) (y : ℕ) (q : (y ≡ number_in (part b end 8)) × (every is_byte (part b end 8) ≡ true)) where
    abbrev differ : Bool
    differ = names_differ (entry_in w b at) (entry_in w b end)

    alike-names : same (entry_in w b at).name (entry_in w b end).name ≡ eqb x y
    unfolding entry_in
    alike-names = rw (name-is b at room, name-is b end room', p.0, q.0) (sym (same-eights b b at end room room' p.1 q.1))

    pub names-other : ¬ (x ≡ y) → true ≡ differ
    unfolding names_differ
    names-other h = sym (rw (alike-names, ne_eqb x y h, or-true (is_free (entry_in w b end)), or-true (is_free (entry_in w b at))))

    pub names_same : x ≡ y → (kind : ℕ) → kind ≡ word_at b (at + 8) → ¬ (word_at b (end + 8) ≡ 0) → eqb kind 0 ≡ differ
    unfolding names_differ
    names_same e kind k u = sym (rw (alike-names, eq-eqb x y e) (used-kinds w b at end kind k u))

  -- with a name that is looked for
  module _ (name : List ℕ) (long : length name ≡ 8) (y : ℕ) (q : (y ≡ number_in (part name 0 8)) × (every is_byte (part name 0 8) ≡ true)) where
    sought : same (entry_in w b at).name name ≡ eqb x y
    unfolding entry_in
    sought =
        rw (name-is b at room, p.0, q.0)
        (sym (same-eights b name at 0 room (omega arith) p.1 q.1 ∙ ap (same (part b at 8)) (part-all name 8 long)))

    pub match-other : ¬ (x ≡ y) → matches name (entry_in w b at) ≡ false
    unfolding matches
    match-other h = rw (sought, ne_eqb x y h) (nothing (eqb (length name) 8) (not (is_free (entry_in w b at))))
      where
        nothing : (a c : Bool) → (a && (c && false)) ≡ false
        nothing false c = refl
        nothing true false = refl
        nothing true true = refl

    pub match-free : (kind : ℕ) → kind ≡ word_at b (at + 8) → kind ≡ 0 → matches name (entry_in w b at) ≡ false
    unfolding matches entry_in
    match-free kind k z = rw (sym k, eq-eqb kind 0 z, eq-eqb (length name) 8 long)

    kind-used : (kind : ℕ) → kind ≡ word_at b (at + 8) → ¬ (kind ≡ 0) → matches name (entry_in w b at) ≡ same (entry_in w b at).name name
    unfolding matches entry_in
    kind-used kind k u = rw (sym k, ne_eqb kind 0 u, eq-eqb (length name) 8 long)

    pub match-same : x ≡ y → (kind : ℕ) → kind ≡ word_at b (at + 8) → ¬ (kind ≡ 0) → matches name (entry_in w b at) ≡ true
    match-same e kind k u = kind-used kind k u ∙ sought ∙ eq-eqb x y e

pub match_none : (name : List ℕ) (e : Entry) → ¬ (length name ≡ 8) → matches name e ≡ false
unfolding matches
match_none name e h = rw (ne_eqb (length name) 8 h)

-- nothing is found by a name of another length, nor in no table
pub unnamed-none : (t : List Entry) (name : List ℕ) → ¬ (length name ≡ 8) → find t name ≡ told None
unnamed-none t name h = found_none t name free_entry (λ j l. match_none name (get_or t j free_entry) h)

pub empty-none : (t : List Entry) (name : List ℕ) → t ≡ [] → find t name ≡ told None
empty-none t name e = found_none t name free_entry (λ j l. absurd (omega (arith, ap length e)))

-- ---- extents

-- two words at once
module _ (b : List ℕ) (at x : ℕ) (p : (x ≡ long_at b (at + 12)) × (word_at b ((at + 12) + 2) < 65536)) where
  second : (at + 12) + 2 ≡ at + 14
  second = omega arith

  low : word_at b (at + 14) < 65536
  low = rw second at p.1

  both : x ≡ 65536 * word_at b (at + 12) + word_at b (at + 14)
  unfolding long_at
  both = p.0 ∙ rw second

  begins : x / 65536 ≡ word_at b (at + 12)
  begins = omega (arith, both, low)

  goes_on_lem : x % 65536 ≡ word_at b (at + 14)
  goes_on_lem = omega (arith, both, low)

  -- with those of a used entry
  module _ (w : ℕ) (e : Entry) (first behind : ℕ) (f : first ≡ e.first) (q : behind ≡ e.first + e.sectors) (used : ¬ (e.kind ≡ 0)) where
    abbrev none-shared : Bool
    none-shared = extents_apart (entry_in w b at) e

    by-words : none-shared ≡ (eqb (word_at b (at + 8)) 0 || (leb (x / 65536 + x % 65536) first || leb behind (x / 65536)))
    unfolding extents_apart entry_in
    by-words = rw (ne_eqb e.kind 0 used, begins, goes_on_lem, f, q)

    pub apart-before : 65536 * behind ≤ x → true ≡ none-shared
    apart-before h = sym (by-words ∙ rw (le-leb behind (x / 65536) (omega arith), or-true (leb (x / 65536 + x % 65536) first), or-true (eqb (word_at b (at + 8)) 0)))

    pub apart-behind : x / 65536 + x % 65536 ≤ first → true ≡ none-shared
    apart-behind h = sym (by-words ∙ rw (le-leb (x / 65536 + x % 65536) first h, or-true (eqb (word_at b (at + 8)) 0)))

    pub apart-free : x < 65536 * behind → first < x / 65536 + x % 65536 → (kind : ℕ) → kind ≡ word_at b (at + 8) → eqb kind 0 ≡ none-shared
    apart-free h l kind k = sym (by-words ∙ rw (sym k, lt-leb (x / 65536 + x % 65536) first l, lt-leb behind (x / 65536) (omega arith), or-false (eqb kind 0)))

-- an entry ends by a sector, or is free
abbrev pub ends_by : ℕ → Entry → Bool
ends_by s e = is_free e || leb (e.first + e.sectors) s

ends_on : (s t : ℕ) (e : Entry) → s ≤ t → ends_by s e ≡ true → ends_by t e ≡ true
ends_on s t e h q =
    or-either (is_free e) (leb (e.first + e.sectors) s) q (λ (f : is_free e ≡ true). rw f)
    (λ (l : leb (e.first + e.sectors) s ≡ true). rw (le-leb (e.first + e.sectors) t (omega (arith, leb-true (e.first + e.sectors) s l)), or-true (is_free e)))

ends-apart : (s : ℕ) (a e : Entry) → s ≤ e.first → ends_by s a ≡ true → extents_apart a e ≡ true
unfolding extents_apart
ends-apart s a e h q =
    or-either (is_free a) (leb (a.first + a.sectors) s) q (λ (f : is_free a ≡ true). rw f)
    (λ (l : leb (a.first + a.sectors) s ≡ true).
    rw (le-leb (a.first + a.sectors) e.first (omega (arith, leb-true (a.first + a.sectors) s l)), or-true (is_free e), or-true (is_free a)))

-- ---- both rules of two

module _ (a e : Entry) where
  pub two-shared : extents_apart a e ≡ false → two_good a e ≡ false
  unfolding two_good
  two-shared h = rw (h, and-false (names_differ a e))

  pub two-apart : extents_apart a e ≡ true → two_good a e ≡ names_differ a e
  unfolding two_good
  two-apart h = rw (h, and-true (names_differ a e))

pub two-told : (e : Entry) (t : List Entry) (r : Bool) → r ≡ every (λ f. names_differ f e) t → every (λ f. extents_apart f e) t ≡ true → r ≡ every (λ f. two_good f e) t
unfolding two_good
two-told e t r p q =
    p ∙ sym (every-and (λ f. names_differ f e) (λ f. extents_apart f e) t ∙ rw (q, and-true (every (λ f. names_differ f e) t)))

-- a rule that follows from another holds where that does
all-follow : (p q : Entry → Bool) → ((e : Entry) → p e ≡ true → q e ≡ true) → (t : List Entry) → every p t ≡ true → every q t ≡ true
all-follow p q f t h = every-from q t free_entry λ (i : ℕ) (l : i < length t). f (get_or t i free_entry) (every-get_or p t i free_entry h l)

-- ---- a table tested from its front: the first entries keep every rule, and end by a sector

pub record Passed (w N : ℕ) (b : List ℕ) (s i : ℕ) : Type 0 where
  pub good : table_good N (entries_in w i b) ≡ true
  pub ended : every (ends_by s) (entries_in w i b) ≡ true

module _ (w N : ℕ) (b : List ℕ) where
  pub passed_none : Passed w N b 0 0
  unfolding entries_in row_in every pairwise
  passed_none = record { good = grouped N []; ended = refl }

  module _ (s i : ℕ) (o : Passed w N b s i) where
    abbrev next : Entry
    next = entry_in w b (w * i)

    on : (s' : ℕ) → s ≤ s' → entry_good N next ≡ true → every (λ a. two_good a next) (entries_in w i b) ≡ true → ends_by s' next ≡ true → Passed w N b s' (i + 1)
    on s' l g t e = record {
      good = more-good w i b N ∙ rw (o.good, g, t);
      ended = more-every w i b (ends_by s') ∙ rw (all-follow (ends_by s) (ends_by s') (λ (x : Entry) (h : ends_by s x ≡ true). ends_on s s' x l h) (entries_in w i b) o.ended, e);
    }

    pub passed-zero : is_zero next ≡ true → (s' : ℕ) → s' ≡ s → Passed w N b s' (i + 1)
    passed-zero z s' q =
        let f = zero-free N next z in
        on s' (omega arith) (zero-good N next z) (free-apart next f (entries_in w i b)) (rw (eq-eqb next.kind 0 f))

    pub passed-used : entry_good N next ≡ true → (r : Bool) → r ≡ every (λ a. two_good a next) (entries_in w i b) → r ≡ true
        → (end s' : ℕ) → end ≡ word_at b (w * i + 12) + word_at b (w * i + 14) → s' ≡ max s end → Passed w N b s' (i + 1)
    unfolding entry_in
    passed-used g r t q end s' m n =
        on s' (omega arith) g (sym t ∙ q) (rw (sym m, le-leb end s' (omega arith), or-true (is_free next)))

    -- those before it share no sector with one that begins behind them
    pub passed-behind : s ≤ word_at b (w * i + 12) → every (λ a. extents_apart a next) (entries_in w i b) ≡ true
    unfolding entry_in
    passed-behind h = all-follow (ends_by s) (λ a. extents_apart a next) (λ (a : Entry) (m : ends_by s a ≡ true). ends-apart s a next h m) (entries_in w i b) o.ended

    module _ (n : ℕ) (here : i < n) where
      -- one that breaks a rule of one, and one that breaks a rule of two
      pub passed-one : entry_good N next ≡ false → false ≡ table_good N (entries_in w n b)
      passed-one e =
          sym (grouped N (entries_in w n b) ∙ front-one (entry_good N) two_good (entries_in w n b) i free_entry (omega (arith, length-entries w n b))
          (ap (entry_good N) (entry-is w n b i (w * i) here refl) ∙ e))

      pub passed-two : (r : Bool) → r ≡ every (λ a. two_good a next) (entries_in w i b) → r ≡ false → false ≡ table_good N (entries_in w n b)
      passed-two r t q =
          sym (grouped N (entries_in w n b) ∙ front-some (entry_good N) two_good (entries_in w n b) i free_entry (omega (arith, length-entries w n b))
          (rw (entry-is w n b i (w * i) here refl, first-entries w n b i (omega arith)) (sym t ∙ q)))

    pub passed-whole : (n : ℕ) → i ≡ n → true ≡ table_good N (entries_in w n b)
    passed-whole n e = sym (ap (λ (m : ℕ). table_good N (entries_in w m b)) (sym e) ∙ o.good)
