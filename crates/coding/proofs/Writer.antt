-- The writer's definition at a place of the record, as the code goes through it: each law is one turn of a loop, or one way out.
use mathlib.Core.Path.{◌≡◌, refl, sym, ap, ◌∙◌}
use mathlib.Core.Logic.{◌≢◌, ⊎_elim}
use mathlib.Core.Bool.{Bool, true, false, not, ◌||◌, true≢false}
use mathlib.Core.List.{List, [], ◌∷◌, ◌++◌}
use Prim.Native.Nat.{ℕ, zero, suc, ◌+◌, ◌-◌, ◌*◌, ◌≤◌, ◌<◌, min}
use native.Mathlib.Nat.{add-zero, zero-add, add-suc, suc-add}
use native.Mathlib.Numerals.{add-one, sub-one}
use native.Mathlib.Omega.{arith}
use native.Mathlib.Decide.{dec_lt}
use lib.ListN.{length, take, drop, get_or, set, length-append, length-drop, drop_of_length-le, take-append-drop}
use lib.Seq.{get_or-drop, drop-drop, drop-cons, take-suc, sets, set_comm, length-take-le}
use lib.Dec.{eqb}
use borrow.Author.Tests.{ne_eqb}
use Rattle.geometry.specs.Sizes.{blank}
use Rattle.coding.specs.Encode.{keeps, in_gap, gap_at, run_length, run_code, runs_code}
use Rattle.geometry.proofs.Bytes.{sets-append}
use Rattle.coding.proofs.Runs.{same_self, same_not, same_or_not, run-le, gap-blank, gap-first, gap-second, keeps-le, keeps-front}

-- ---- at the place i of x

-- the character before it
abbrev pub Before : List ℕ → ℕ → ℕ
Before x i = get_or (0 ∷ x) i 0

-- how many from there on, at most n, are of one sort
abbrev Length : List ℕ → ℕ → Bool → ℕ → ℕ
Length x n gap i = run_length n gap (Before x i) (drop i x)

-- the code from there on
abbrev pub Rest : List ℕ → ℕ → List ℕ
Rest x i = runs_code 0 (Before x i) (drop i x)

-- ---- tests at a place

pub before-is : (x : List ℕ) (j : ℕ) → j ≢ 0 → Before x j ≡ get_or x (j - 1) 0
before-is x zero n = absurd (n refl)
before-is x (suc j) n = rw sub-one

module _ (x : List ℕ) (j : ℕ) where
  next : get_or (drop (j + 1) x) 0 0 ≡ get_or x (j + 1) 0
  next = rw (get_or-drop, add-zero)

  pub gap-none : get_or x j 0 ≢ blank → false ≡ gap_at x j
  unfolding in_gap
  gap-none n = rw (ne_eqb (get_or x j 0) blank n)

  gap-two : get_or x j 0 ≡ blank → get_or x (j + 1) 0 ≡ blank → true ≡ gap_at x j
  gap-two b d = sym (gap-first (Before x j) (get_or x j 0) (drop (j + 1) x) b (next ∙ d))

  gap-last : get_or x j 0 ≡ blank → get_or x (j + 1) 0 ≢ blank → eqb (Before x j) blank ≡ gap_at x j
  unfolding in_gap
  gap-last b n = rw (b, next, ne_eqb (get_or x (j + 1) 0) blank n) (go (eqb (Before x j) blank))
    where
      go : (t : Bool) → t ≡ t || false
      go true = refl
      go false = refl

  -- by the character before it, if there is one
  pub gap-first-last : get_or x j 0 ≡ blank → get_or x (j + 1) 0 ≢ blank → j ≡ 0 → false ≡ gap_at x j
  gap-first-last b n z = sym (ap (λ (i : ℕ). eqb (Before x i) blank) z) ∙ gap-last b n

  pub gap-behind : get_or x j 0 ≡ blank → get_or x (j + 1) 0 ≢ blank → j ≢ 0 → eqb (get_or x (j - 1) 0) blank ≡ gap_at x j
  gap-behind b n more = ap (λ (q : ℕ). eqb q blank) (sym (before-is x j more)) ∙ gap-last b n

  -- behind a character that goes into none
  pub gap-begins : 0 < j → gap_at x (j - 1) ≡ false → get_or x j 0 ≡ blank → eqb (get_or x (j + 1) 0) blank ≡ gap_at x j
  unfolding in_gap
  gap-begins some none b =
      let back : j - 1 + 1 ≡ j = omega arith in
      let before : Before x j ≡ get_or x (j - 1) 0 = before-is x j (λ z. omega arith) in
      let apart : Before x j ≢ blank = λ q. true≢false (sym (gap-first (Before x (j - 1)) (get_or x (j - 1) 0) (drop (j - 1 + 1) x) (sym before ∙ q) (rw (get_or-drop, add-zero, back) b)) ∙ none) in
      rw (b, next, ne_eqb (Before x j) blank apart)

-- ---- trailing blanks

pub keeps-all : (x : List ℕ) (e : ℕ) → get_or x e 0 ≢ blank → keeps (e + 1) x ≡ e + 1
unfolding keeps
keeps-all x e n = rw (add-one, ne_eqb (get_or x e 0) blank n, keeps)

pub keeps-less : (x : List ℕ) (e : ℕ) → get_or x e 0 ≡ blank → keeps (e + 1) x ≡ keeps e x
unfolding keeps
keeps-less x e b = rw (add-one, b, keeps)

-- what is kept has no trailing blanks
keeps-again : (n : ℕ) (x : List ℕ) → keeps (keeps n x) x ≡ keeps n x
unfolding keeps
keeps-again zero x = refl
keeps-again (suc n) x = go (eqb (get_or x n 0) blank) refl (keeps-again n x)
  where
    go : (t : Bool) → eqb (get_or x n 0) blank ≡ t → keeps (keeps n x) x ≡ keeps n x
        → keeps (elim t [ true ↦ keeps n x | false ↦ suc n ]) x ≡ elim t [ true ↦ keeps n x | false ↦ suc n ]
    go true e h = h
    go false e h = rw (e, keeps)

pub kept : (x : List ℕ) (e : ℕ) → e ≡ keeps (length x) x → keeps (length (take e x)) (take e x) ≡ length (take e x)
kept x e is =
    let l = keeps-le (length x) x in
    let size : length (take e x) ≡ e = length-take-le e x (omega arith) in
    let whole : take e x ++ drop e x ≡ x = take-append-drop e x in
    rw size (sym (keeps-front e (take e x) (drop e x) (omega arith)) ∙ rw (whole, is) (keeps-again (length x) x))

-- where there are none, a blank has a character behind it
pub behind : (x : List ℕ) (j : ℕ) → keeps (length x) x ≡ length x → j < length x → get_or x j 0 ≡ blank → j + 1 < length x
unfolding keeps
behind x j all h b = go (dec_lt (j + 1) (length x))
  where
    go : Dec (j + 1 < length x) → j + 1 < length x
    go (yes l) = l
    go (no l) =
        let last : length x ≡ suc j = omega arith in
        let less : keeps j x ≡ suc j = rw (last, b, keeps) at all in
        let most = keeps-le j x in
        absurd (omega arith)

-- ---- runs

-- characters that are passed over
skip : (k q : ℕ) (s : List ℕ) → runs_code k q s ≡ runs_code 0 (get_or (q ∷ s) k 0) (drop k s)
unfolding runs_code
skip zero q s = refl
skip (suc k) q [] = refl
skip (suc k) q (c ∷ s) = skip k c s

module _ (x : List ℕ) (i : ℕ) where
  past : (n : ℕ) (gap : Bool) → length x ≤ i → Length x n gap i ≡ 0
  unfolding run_length
  past zero gap h = refl
  past (suc n) gap h = rw (drop_of_length-le x h)

  pub rest_end : length x ≤ i → Rest x i ≡ 0 ∷ []
  unfolding runs_code
  rest_end h = rw (drop_of_length-le x h)

  module _ (h : i < length x) where
    more : (n : ℕ) (gap : Bool) → gap_at x i ≡ gap → Length x (suc n) gap i ≡ suc (Length x n gap (i + 1))
    unfolding run_length
    more n gap e = let e' : in_gap (Before x i) (get_or x i 0) (drop (suc i) x) ≡ gap = rw add-one at e in rw (add-one, drop-cons x i 0, e', same_self gap, run_length)

    other : (n : ℕ) (gap : Bool) → gap_at x i ≡ not gap → Length x (suc n) gap i ≡ 0
    unfolding run_length
    other n gap e = let e' : in_gap (Before x i) (get_or x i 0) (drop (suc i) x) ≡ not gap = rw add-one at e in rw (drop-cons x i 0, e', same_not gap, run_length)

    -- a run has its first character, and at most 127, all of them in x
    pub run-size : (gap : Bool) → gap_at x i ≡ gap → (0 < Length x 127 gap i) × (Length x 127 gap i ≤ 127) × (i + Length x 127 gap i ≤ length x)
    run-size gap e =
        let first = more 126 gap e in
        let most = run-le 127 gap (Before x i) (drop i x) in
        let size = length-drop i x in
        (omega arith, most.0, omega arith)

    pub count_none : false ≡ gap_at x i → 0 ≡ min 2 (Length x 127 true i)
    count_none e = rw (other 126 true (sym e)) (omega arith)

    rest-skip : (p : ℕ) → runs_code p (get_or x i 0) (drop (suc i) x) ≡ Rest x (i + suc p)
    rest-skip p = skip p (get_or x i 0) (drop (suc i) x) ∙ rw (← drop-cons x i 0, get_or-drop, drop-drop, suc-add, add-suc)

    -- a run of n, and the code behind it
    rest-run : (gap : Bool) (n : ℕ) → gap_at x i ≡ gap → n ≡ Length x 127 gap i → Rest x i ≡ run_code gap (take n (drop i x)) ++ Rest x (i + n)
    unfolding runs_code
    rest-run gap n eg en =
        let eg' : in_gap (Before x i) (get_or x i 0) (drop (suc i) x) ≡ gap = rw add-one at eg in
        let en' : run_length 127 gap (Before x i) (get_or x i 0 ∷ drop (suc i) x) ≡ n = rw (drop-cons x i 0) at (sym en) in
        let e1 : n ≡ suc (Length x 126 gap (i + 1)) = en ∙ more 126 gap eg in
        rw (drop-cons x i 0, eg', en') (ap (λ (l : List ℕ). run_code gap (take n (get_or x i 0 ∷ drop (suc i) x)) ++ l) (rw (e1, sub-one) (rest-skip _)))

-- a blank run of one, and one of two or more, by the character behind its first
module _ (x : List ℕ) (i : ℕ) (h : i + 1 < length x) where
  pub count-one : gap_at x i ≡ true → get_or x (i + 1) 0 ≢ blank → 1 ≡ min 2 (Length x 127 true i)
  count-one is n = rw (more x i (omega arith) 126 true is, other x (i + 1) h 125 true (sym (gap-none x (i + 1) n))) (omega arith)

  pub count-two : get_or x i 0 ≡ blank → get_or x (i + 1) 0 ≡ blank → 2 ≡ min 2 (Length x 127 true i)
  count-two b d =
      let next : gap_at x (i + 1) ≡ true = gap-second (Before x (i + 1)) (get_or x (i + 1) 0) (drop (i + 1 + 1) x) (rw add-one b) d in
      rw (more x i (omega arith) 126 true (sym (gap-two x i b d)), more x (i + 1) h 125 true next) (omega arith)

-- the run from i on is scanned for k characters: it is k longer than what follows of it
abbrev pub Scanned : List ℕ → Bool → ℕ → ℕ → Type 0
Scanned x gap i k = Length x 127 gap i ≡ k + Length x (127 - k) gap (i + k)

pub scan-none : (x : List ℕ) (gap : Bool) (i : ℕ) → Scanned x gap i 0
scan-none x gap i = rw (add-zero, zero-add)

-- the ways out of the scan, and one turn
module _ (x : List ℕ) (gap : Bool) (i k : ℕ) (scanned : Scanned x gap i k) where
  pub scan-full : k ≡ min 127 (length x - i) → k ≡ Length x 127 gap i
  unfolding run_length
  scan-full e = go (dec_lt k 127)
    where
      go : Dec (k < 127) → k ≡ Length x 127 gap i
      go (yes h) = let p : length x ≤ i + k = omega arith in sym (scanned ∙ rw (past x (i + k) (127 - k) gap p, add-zero))
      go (no h) = let z : k ≡ 127 = omega arith in sym (scanned ∙ rw z)

  module _ (l : k < 127) (h : i + k < length x) where
    less : 127 - k ≡ suc (127 - (k + 1))
    less = omega arith

    pub scan-other : gap_at x (i + k) ≡ not gap → k ≡ Length x 127 gap i
    scan-other e = sym (scanned ∙ rw (less, other x (i + k) h (127 - (k + 1)) gap e, add-zero))

    scan-more : gap_at x (i + k) ≡ gap → Scanned x gap i (k + 1)
    scan-more e =
        let a : i + (k + 1) ≡ i + k + 1 = omega arith in
        let f : k + Length x (127 - k) gap (i + k) ≡ k + 1 + Length x (127 - (k + 1)) gap (i + k + 1) = rw (less, more x (i + k) h (127 - (k + 1)) gap e) (omega arith) in
        rw a (scanned ∙ f)

    scan-in : k < Length x 127 gap i → gap_at x (i + k) ≡ gap
    scan-in some = ⊎_elim (λ e. e) (λ e. let out = scan-other e in absurd (omega arith)) (same_or_not (gap_at x (i + k)) gap)

-- one more blank of a blank run: it is not the last character
pub gap_more : (x : List ℕ) (i n : ℕ) → keeps (length x) x ≡ length x → n < 127 → i + n < length x → gap_at x (i + n) ≡ true → Scanned x true i n
    → (i + (n + 1) < length x) × (Before x (i + (n + 1)) ≡ blank) × Scanned x true i (n + 1)
gap_more x i n all l h is scanned =
    let b : get_or x (i + n) 0 ≡ blank = gap-blank (Before x (i + n)) (get_or x (i + n) 0) (drop (i + n + 1) x) is in
    let next = behind x (i + n) all h b in
    let a : i + (n + 1) ≡ suc (i + n) = omega arith in
    (omega arith, rw a b, scan-more x true i n scanned l h is)

-- what the first blanks that are seen say of the run
module _ (x : List ℕ) (i : ℕ) (h : i < length x) where
  pub seen_none : 0 ≡ min 2 (Length x 127 true i) → gap_at x i ≡ false
  seen_none none = ⊎_elim (λ e. e) (λ e. let own = run-size x i h true e in absurd (omega arith)) (same_or_not (gap_at x i) false)

  pub seen-some : 0 < Length x 127 true i → gap_at x i ≡ true
  seen-some some = rw add-zero at (scan-in x true i 0 (scan-none x true i) (omega arith) (omega arith) some)

  pub seen-two : keeps (length x) x ≡ length x → 1 < Length x 127 true i → (i + 2 < length x) × (Before x (i + 2) ≡ blank) × Scanned x true i 2
  seen-two all some =
      let one = gap_more x i 0 all (omega arith) (omega arith) (rw add-zero (seen-some (omega arith))) (scan-none x true i) in
      gap_more x i 1 all (omega arith) one.0 (scan-in x true i 1 one.2 (omega arith) one.0 some) one.2

-- ---- what is put

-- one more character of a run, at j, behind those from i on
pub characters-more : (x old mid new : List ℕ) (i at j to : ℕ) → i ≤ j → j - i < 127 → j < length x → gap_at x j ≡ false → Scanned x false i (j - i)
    → to ≡ at + (j - i) → mid ≡ sets old at (take (j - i) (drop i x)) → new ≡ set mid to (get_or x j 0)
    → Scanned x false i (j + 1 - i) × (new ≡ sets old at (take (j + 1 - i) (drop i x)))
characters-more x old mid new i at j to low few h is scanned place laid put =
    let k = j - i in
    let one : j + 1 - i ≡ k + 1 = omega arith in
    let back : i + k ≡ j = omega arith in
    let fits : k < length (drop i x) = simp length-drop (omega arith) in
    let size : length (take k (drop i x)) ≡ k = length-take-le k (drop i x) (omega arith) in
    let more : sets old at (take (suc k) (drop i x)) ≡ set mid to (get_or x j 0) =
    rw (take-suc (drop i x) k 0 fits, sets-append (take k (drop i x)) (get_or (drop i x) k 0 ∷ []) old at, size, get_or-drop, back, laid, place) in
    (rw one (scan-more x false i k scanned few (omega arith) (rw back is)), rw (one, add-one) (put ∙ sym more))

-- a byte before a list that is stored already
sets-before : (xs l : List ℕ) (i j v : ℕ) → i < j → set (sets l j xs) i v ≡ sets (set l i v) j xs
sets-before [] l i j v h = refl
sets-before (x ∷ xs) l i j v h = sets-before xs (set l j x) i (suc j) v (omega arith) ∙ rw (set_comm l j i x v (λ z. omega arith))

-- one turn of the writer: the run from i on was put from at on, and what is left of the code is what is due behind it
module _ (x out : List ℕ) (i at e : ℕ) (f : List ℕ) (h : i < length x) (low : at ≤ 2 * i) (size : at + length (Rest x i) ≡ e) (code : sets out at (Rest x i) ≡ f) where
  turn : (gap : Bool) (n at' : ℕ) (new : List ℕ) → gap_at x i ≡ gap → n ≡ Length x 127 gap i
      → at' ≡ at + length (run_code gap (take n (drop i x))) → new ≡ sets out at (run_code gap (take n (drop i x)))
      → (at' + length (Rest x (i + n)) ≡ e) × (sets new at' (Rest x (i + n)) ≡ f)
  turn gap n at' new is run ends puts =
      let own = run_code gap (take n (drop i x)) in
      let step : Rest x i ≡ own ++ Rest x (i + n) = rest-run x i h gap n is run in
      let total : length (Rest x i) ≡ length own + length (Rest x (i + n)) = ap length step ∙ length-append own (Rest x (i + n)) in
      (omega arith, rw (puts, ends) (sym (sets-append own (Rest x (i + n)) out at) ∙ rw (← step) code))

  long : (gap : Bool) (n : ℕ) → gap_at x i ≡ gap → n ≡ Length x 127 gap i → length (take n (drop i x)) ≡ n
  long gap n is run = let fits = run-size x i h gap is in length-take-le n (drop i x) (simp length-drop (omega arith))

  pub turn_gap : (n : ℕ) (new : List ℕ) → gap_at x i ≡ true → n ≡ Length x 127 true i → new ≡ set out at (128 + n)
      → (i + n ≤ length x) × (at + 1 ≤ 2 * (i + n)) × (at + 1 + length (Rest x (i + n)) ≡ e) × (sets new (at + 1) (Rest x (i + n)) ≡ f)
  unfolding run_code
  turn_gap n new is run put =
      let fits = run-size x i h true is in
      let t = turn true n (at + 1) new is run refl (rw (long true n is run) put) in
      (omega arith, omega arith, t.0, t.1)

  pub turn-characters : (n : ℕ) (mid new : List ℕ) → gap_at x i ≡ false → n ≡ Length x 127 false i → mid ≡ sets out (at + 1) (take n (drop i x)) → new ≡ set mid at n
      → (i + n ≤ length x) × (at + (1 + n) ≤ 2 * (i + n)) × (at + (1 + n) + length (Rest x (i + n)) ≡ e) × (sets new (at + (1 + n)) (Rest x (i + n)) ≡ f)
  unfolding run_code
  turn-characters n mid new is run laid put =
      let fits = run-size x i h false is in
      let l = long false n is run in
      let all : new ≡ sets out at (n ∷ take n (drop i x)) = put ∙ rw (laid, add-one) (sets-before (take n (drop i x)) out at (suc at) n (omega arith)) in
      let t = turn false n (at + (1 + n)) new is run (rw l (omega arith)) (rw l all) in
      (omega arith, omega arith, t.0, t.1)
