-- "each a different used entry": no two open-file states are of one entry, so a state put where an entry's file is, or is to be, changes the
-- file of no other entry.
use mathlib.Core.Path.{◌≡◌, refl, sym, ap, ◌∙◌}
use mathlib.Core.Logic.{◌≢◌}
use mathlib.Core.Bool.{true, false, ◌&&◌, not}
use mathlib.Core.List.{List}
use Prim.Native.Nat.{ℕ, ◌<◌}
use native.Mathlib.Omega.{arith}
use native.Mathlib.Decide.{dec_lt, ℕ_discrete}
use lib.ListN.{length, get_or, set, get_or-eq_default}
use lib.Seq.{get_or-set_same, get_or-set_other, set_out}
use borrow.Author.Tests.{not-true}
use Rattle.geometry.specs.Lists.{pairwise}
use Rattle.geometry.proofs.Tests.{either, both_ways, and_left, and_right, first_holds, pairwise-from}
use Rattle.directory.specs.Entries.{entry_at, is_free}
use Rattle.sessions.specs.Session.{idle, is_of, file_of, slot_of, of_other, legal}
use Rattle.sessions.proofs.Files.{is-of, of-used, of_entry, Finds, opened, closed, finds}
use Rattle.sessions.proofs.Legal.{entry-used, files-differ}
use Rattle.sessions.specs.declared.OpenFile.{OpenFile}
use Rattle.sessions.specs.declared.Session.{Session}

abbrev pub Distinct : List OpenFile → Type 0
Distinct files = (m n i : ℕ) → is_of i (get_or files m idle) ≡ true → is_of i (get_or files n idle) ≡ true → m ≡ n

-- what stands where there is no state is of no entry
idle-not : (i : ℕ) → is_of i idle ≡ false
unfolding is_of
idle-not i = refl

inside : (files : List OpenFile) (i m : ℕ) → is_of i (get_or files m idle) ≡ true → m < length files
inside files i m e = go (dec_lt m (length files))
  where
    go : Dec (m < length files) → m < length files
    go (yes h) = h
    go (no h) = both_ways (is_of i (get_or files m idle)) e (ap (is_of i) (get_or-eq_default files idle (omega arith)) ∙ idle-not i)

-- ---- the rule of a legal session says so

pub distinct : (image : List ℕ) (s : Session) → legal image s ≡ true → Distinct s.files
distinct image s ok m n i p q = go (ℕ_discrete m n)
  where
    go : Dec (m ≡ n) → m ≡ n
    go (yes e) = e
    go (no d) = absurd (files-differ image s ok m n d (of-used i (get_or s.files m idle) p) (of-used i (get_or s.files n idle) q)
        (of_entry i (get_or s.files m idle) p ∙ sym (of_entry i (get_or s.files n idle) q)))

pub distinct-rule : (files : List OpenFile) → Distinct files → pairwise of_other files ≡ true
unfolding of_other
distinct-rule files d = pairwise-from of_other files idle λ m n l k. two m n l
  where
    two : (m n : ℕ) → m < n → not ((get_or files m idle).used && is_of (get_or files m idle).entry (get_or files n idle)) ≡ true
    two m n l =
        let f : OpenFile = get_or files m idle in
        let g : OpenFile = get_or files n idle in
        either (f.used && is_of f.entry g)
        (λ (e : (f.used && is_of f.entry g) ≡ true).
        let z : m ≡ n = d m n f.entry (is-of f.entry f (and_left f.used _ e) refl) (and_right f.used _ e) in
        absurd (omega arith))
        (λ (e : (f.used && is_of f.entry g) ≡ false). rw e)

-- ---- an entry's file is the one state that is its

module _ (files : List OpenFile) (d : Distinct files) where
  pub file-is : (i m : ℕ) → is_of i (get_or files m idle) ≡ true → file_of files i ≡ get_or files m idle
  file-is i m e = go (finds files i)
    where
      go : Finds files i → file_of files i ≡ get_or files m idle
      go (opened h f u n b) =
          let t : is_of i (get_or files (slot_of files i) idle) ≡ true = rw f at (is-of i (file_of files i) u n) in
          f ∙ ap (λ (k : ℕ). get_or files k idle) (d (slot_of files i) m i t e)
      go (closed f k b) = both_ways (is_of i (get_or files m idle)) e (b m)

pub file-none : (files : List OpenFile) (i : ℕ) → ((m : ℕ) → is_of i (get_or files m idle) ≡ false) → file_of files i ≡ idle
file-none files i b = go (finds files i)
  where
    go : Finds files i → file_of files i ≡ idle
    go (opened h f u n c) = both_ways (is_of i (get_or files (slot_of files i) idle)) (rw f at (is-of i (file_of files i) u n)) (b (slot_of files i))
    go (closed f k c) = f

-- a file that is open is its entry's, and one that is not is idle
pub file-entry : (files : List OpenFile) (i : ℕ) → (file_of files i).used ≡ true → (file_of files i).entry ≡ i
file-entry files i e = go (finds files i)
  where
    go : Finds files i → (file_of files i).entry ≡ i
    go (opened h f u n c) = n
    go (closed f k c) = both_ways (file_of files i).used e (ap (λ (g : OpenFile). g.used) f)

pub file-idle : (files : List OpenFile) (i : ℕ) → (file_of files i).used ≡ false → file_of files i ≡ idle
file-idle files i e = go (finds files i)
  where
    go : Finds files i → file_of files i ≡ idle
    go (opened h f u n c) = both_ways (file_of files i).used u e
    go (closed f k c) = f

-- of a file that is not open there is no state
pub file-not : (files : List OpenFile) (i : ℕ) → (file_of files i).used ≡ false → (k : ℕ) → is_of i (get_or files k idle) ≡ false
file-not files i e k = go (finds files i)
  where
    go : Finds files i → is_of i (get_or files k idle) ≡ false
    go (opened h f u n b) = both_ways (file_of files i).used u e
    go (closed f h b) = b k

-- a free entry has no open file
pub free-shut : (image : List ℕ) (s : Session) → legal image s ≡ true → (i : ℕ) → is_free (entry_at s.table i) ≡ true → (file_of s.files i).used ≡ false
free-shut image s ok i e = go (finds s.files i)
  where
    go : Finds s.files i → (file_of s.files i).used ≡ false
    go (opened h f u n b) =
        let w : is_free (entry_at s.table (get_or s.files (slot_of s.files i) idle).entry) ≡ false = entry-used image s ok (slot_of s.files i) (rw f at u) in
        both_ways (is_free (entry_at s.table i)) e (rw (← f, n) at w)
    go (closed f k b) = ap (λ (g : OpenFile). g.used) f

-- ---- a state put where entry i's file is, or is to be

module _ (files : List OpenFile) (d : Distinct files) (i : ℕ) where
  abbrev k : ℕ
  k = slot_of files i

  -- no other state is entry i's
  pub only-slot : (m : ℕ) → is_of i (get_or files m idle) ≡ true → m ≡ k
  only-slot m e = go (finds files i)
    where
      go : Finds files i → m ≡ k
      go (opened h f u n b) = d m k i e (rw f at (is-of i (file_of files i) u n))
      go (closed f h b) = both_ways (is_of i (get_or files m idle)) e (b m)

  -- and that state is no other entry's
  not-other : (j : ℕ) → j ≢ i → is_of j (get_or files k idle) ≡ false
  unfolding is_of
  not-other j ne = either (is_of j (get_or files k idle)) (λ (e : is_of j (get_or files k idle) ≡ true). absurd (go e (finds files i))) (λ e. e)
    where
      go : is_of j (get_or files k idle) ≡ true → Finds files i → ⊥
      go e (opened h f u n b) =
          let a : (get_or files k idle).entry ≡ j = of_entry j (get_or files k idle) e in
          let b : (get_or files k idle).entry ≡ i = rw f at n in
          ne (sym a ∙ b)
      go e (closed f h b) =
          let r : not (get_or files k idle).used ≡ true = rw (← h) at (first_holds (λ g. not g.used) files idle (rw h at (inside files j k e))) in
          both_ways (get_or files k idle).used (of-used j (get_or files k idle) e) (not-true _ r)

  module _ (f : OpenFile) (mine : f.used ≡ true → f.entry ≡ i) where
    abbrev files' : List OpenFile
    files' = set files k f

    f-not : (j : ℕ) → j ≢ i → is_of j f ≡ false
    f-not j ne = either (is_of j f) (λ (e : is_of j f ≡ true). absurd (ne (sym (of_entry j f e) ∙ mine (of-used j f e)))) (λ e. e)

    -- what stands there afterwards
    at_slot : k < length files → get_or files' k idle ≡ f
    at_slot h = get_or-set_same files k f idle h

    elsewhere : (m : ℕ) → m ≢ k → get_or files' m idle ≡ get_or files m idle
    elsewhere m ne = get_or-set_other files k m f idle ne

    pub distinct-set : Distinct files'
    distinct-set m n j p q = go (dec_lt k (length files))
      where
        old : (a b : ℕ) → b ≢ k → is_of j f ≡ true → is_of j (get_or files' b idle) ≡ true → ⊥
        old a b ne u v =
            let t : j ≡ i = sym (of_entry j f u) ∙ mine (of-used j f u) in
            ne (only-slot b (rw (elsewhere b ne, t) at v))

        both : k < length files → Dec (m ≡ k) → Dec (n ≡ k) → m ≡ n
        both h (yes a) (yes b) = omega arith
        both h (yes a) (no b) = absurd (old m n b (rw (a, at_slot h) at p) q)
        both h (no a) (yes b) = absurd (old n m a (rw (b, at_slot h) at q) p)
        both h (no a) (no b) = d m n j (rw (elsewhere m a) at p) (rw (elsewhere n b) at q)

        go : Dec (k < length files) → m ≡ n
        go (yes h) = both h (ℕ_discrete m k) (ℕ_discrete n k)
        go (no h) =
            let s : files' ≡ files = set_out files k f (omega arith) in
            d m n j (rw s at p) (rw s at q)

    pub file-other : (j : ℕ) → j ≢ i → file_of files' j ≡ file_of files j
    file-other j ne = go (finds files j)
      where
        none : ((m : ℕ) → is_of j (get_or files m idle) ≡ false) → (m : ℕ) → Dec (m ≡ k) → Dec (k < length files) → is_of j (get_or files' m idle) ≡ false
        none b m (yes a) (yes h) = rw (a, at_slot h) (f-not j ne)
        none b m (yes a) (no h) = let s : files' ≡ files = set_out files k f (omega arith) in rw s (b m)
        none b m (no a) h = rw (elsewhere m a) (b m)

        go : Finds files j → file_of files' j ≡ file_of files j
        go (opened h g u n b) =
            let m : ℕ = slot_of files j in
            let t : is_of j (get_or files m idle) ≡ true = rw g at (is-of j (file_of files j) u n) in
            let a : m ≢ k = λ (z : m ≡ k). both_ways (is_of j (get_or files k idle)) (rw z at t) (not-other j ne) in
            let r : get_or files' m idle ≡ get_or files m idle = elsewhere m a in
            file-is files' distinct-set j m (rw r t) ∙ r ∙ sym g
        go (closed g h b) = file-none files' j (λ m. none b m (ℕ_discrete m k) (dec_lt k (length files))) ∙ sym g

    pub file-new : f.used ≡ true → k < length files → file_of files' i ≡ f
    file-new u h = let r : get_or files' k idle ≡ f = at_slot h in file-is files' distinct-set i k (rw r (is-of i f u (mine u))) ∙ r

    pub file-shut : f.used ≡ false → k < length files → file_of files' i ≡ idle
    file-shut u h = file-none files' i (λ m. none m (ℕ_discrete m k))
      where
        shut : is_of i f ≡ false
        shut = either (is_of i f) (λ (e : is_of i f ≡ true). both_ways f.used (of-used i f e) u) (λ e. e)

        none : (m : ℕ) → Dec (m ≡ k) → is_of i (get_or files' m idle) ≡ false
        none m (yes a) = rw (a, at_slot h) shut
        none m (no a) =
            rw (elsewhere m a)
            (either (is_of i (get_or files m idle)) (λ (e : is_of i (get_or files m idle) ≡ true). absurd (a (only-slot m e))) (λ e. e))
