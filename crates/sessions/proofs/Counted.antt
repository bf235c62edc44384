-- As many states are in use as entries have an open file, since each is a different entry's.
use mathlib.Core.Path.{◌≡◌, refl, sym, ap, ◌∙◌}
use mathlib.Core.Bool.{Bool, true, false, ◌||◌}
use mathlib.Core.List.{List, [], ◌∷◌}
use Prim.Native.Nat.{ℕ, zero, suc, ◌<◌}
use native.Mathlib.Omega.{arith}
use native.Mathlib.Nat.{suc_inj}
use lib.Dec.{eqb}
use lib.ListN.{get_or}
use Rattle.geometry.specs.Lists.{how_many, first_with, numbers_from}
use Rattle.geometry.proofs.Numbered.{many-alike, many-or}
use Rattle.sessions.specs.Session.{idle, is_of, file_of, slot_of, open_files}
use Rattle.sessions.proofs.Files.{is-of, of-used, Finds, opened, closed, finds}
use Rattle.sessions.proofs.Distinct.{Distinct}
use Rattle.sessions.specs.declared.OpenFile.{OpenFile}

first-or-later : (f : OpenFile) (fs : List OpenFile) (i : ℕ) → (file_of (f ∷ fs) i).used ≡ (is_of i f || (file_of fs i).used)
unfolding file_of first_with
first-or-later f fs i = go (is_of i f) refl
  where
    go : (b : Bool) → is_of i f ≡ b → (get_or (f ∷ fs) (elim b [ true ↦ 0 | false ↦ suc (first_with (is_of i) fs) ]) idle).used ≡ (b || (get_or fs (first_with (is_of i) fs) idle).used)
    go true e = of-used i f e
    go false e = refl

-- where the first state is in use, no other is its entry's
no_second : (f : OpenFile) (fs : List OpenFile) → Distinct (f ∷ fs) → f.used ≡ true → (file_of fs f.entry).used ≡ false
no_second f fs d u = go (finds fs f.entry)
  where
    go : Finds fs f.entry → (file_of fs f.entry).used ≡ false
    go (opened h g v n b) =
        let z : 0 ≡ suc (slot_of fs f.entry) = d 0 (suc (slot_of fs f.entry)) f.entry (is-of f.entry f u refl) (rw g at (is-of f.entry (file_of fs f.entry) v n)) in
        absurd (omega arith)
    go (closed g k b) = ap (λ (h : OpenFile). h.used) g

pub open-count : (n : ℕ) (files : List OpenFile) → Distinct files → ((m : ℕ) → (get_or files m idle).used ≡ true → (get_or files m idle).entry < n)
    → open_files files ≡ how_many (λ i. (file_of files i).used) (numbers_from 0 n)
unfolding open_files how_many file_of
open-count n [] d h = sym (none 0 n)
  where
    none : (a k : ℕ) → how_many (λ i. (file_of [] i).used) (numbers_from a k) ≡ 0
    none a zero = refl
    none a (suc k) = none (suc a) k
open-count n (f ∷ fs) d h = go f.used refl (open-count n fs (λ a b i p q. suc_inj (d (suc a) (suc b) i p q)) (λ m u. h (suc m) u))
  where
    go : (b : Bool) → f.used ≡ b → open_files fs ≡ how_many (λ i. (file_of fs i).used) (numbers_from 0 n)
        → elim b [ true ↦ suc (open_files fs) | false ↦ open_files fs ] ≡ how_many (λ i. (file_of (f ∷ fs) i).used) (numbers_from 0 n)
    go true u e =
        rw e (sym (many-or (λ i. (file_of fs i).used) f.entry 0 n (omega arith) (omega (arith, h 0 u)) (no_second f fs d u)))
        ∙ many-alike _ _ 0 n (λ i k l. sym (first-or-later f fs i ∙ ap (λ (t : Bool). t || (file_of fs i).used) (is-its i)))
      where
        is-its : (i : ℕ) → is_of i f ≡ eqb f.entry i
        is-its i = unfold is_of in rw u
    go false u e = e ∙ many-alike _ _ 0 n (λ i k l. sym (first-or-later f fs i ∙ ap (λ (t : Bool). t || (file_of fs i).used) (is_none i)))
      where
        is_none : (i : ℕ) → is_of i f ≡ false
        is_none i = unfold is_of in rw u
