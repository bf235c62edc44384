-- Finding an entry's file among the open-file states: the first one that is that entry's.
use mathlib.Core.Path.{◌≡◌, ap}
use mathlib.Core.Bool.{true, false, not}
use mathlib.Core.List.{List}
use Prim.Native.Nat.{ℕ, ◌≤◌, ◌<◌}
use native.Mathlib.Omega.{arith}
use native.Mathlib.Decide.{dec_lt}
use lib.ListN.{length, get_or, get_or-eq_default}
use lib.Dec.{eqb}
use borrow.Author.Tests.{lt-ltb, le-ltb, eqb-true, eq-eqb}
use Rattle.geometry.specs.Lists.{first_with}
use Rattle.geometry.proofs.Tests.{and_left, and_right, and_both, first_holds, first_below}
use Rattle.sessions.specs.Session.{idle, is_of, file_of, slot_of}
use Rattle.sessions.specs.declared.OpenFile.{OpenFile}

pub is-of : (i : ℕ) (f : OpenFile) → f.used ≡ true → f.entry ≡ i → is_of i f ≡ true
unfolding is_of
is-of i f u e = and_both f.used (eqb f.entry i) u (eq-eqb f.entry i e)

pub of-used : (i : ℕ) (f : OpenFile) → is_of i f ≡ true → f.used ≡ true
unfolding is_of
of-used i f e = and_left f.used (eqb f.entry i) e

pub of_entry : (i : ℕ) (f : OpenFile) → is_of i f ≡ true → f.entry ≡ i
unfolding is_of
of_entry i f e = eqb-true f.entry i (and_right f.used (eqb f.entry i) e)

-- the two ways to a slot
module _ (files : List OpenFile) (i : ℕ) where
  pub slot-own : first_with (is_of i) files < length files → slot_of files i ≡ first_with (is_of i) files
  unfolding slot_of
  slot-own h = rw (lt-ltb (first_with (is_of i) files) (length files) h, slot_of)

  pub slot-new : length files ≤ first_with (is_of i) files → slot_of files i ≡ first_with (λ f. not f.used) files
  unfolding slot_of
  slot-new h = rw (le-ltb (first_with (is_of i) files) (length files) h, slot_of)

-- an entry has one of the states, or none: then the idle one stands for it, and an opening takes the first that is not in use
pub data Finds (files : List OpenFile) (i : ℕ) : Type 0 where
  opened : slot_of files i < length files → file_of files i ≡ get_or files (slot_of files i) idle → (file_of files i).used ≡ true → (file_of files i).entry ≡ i
      → ((k : ℕ) → k < slot_of files i → is_of i (get_or files k idle) ≡ false) → Finds files i
  closed : file_of files i ≡ idle → slot_of files i ≡ first_with (λ f. not f.used) files → ((k : ℕ) → is_of i (get_or files k idle) ≡ false) → Finds files i

pub finds : (files : List OpenFile) (i : ℕ) → Finds files i
unfolding file_of slot_of is_of
finds files i = go (dec_lt (first_with (is_of i) files) (length files))
  where
    go : Dec (first_with (is_of i) files < length files) → Finds files i
    go (yes h) =
        let t : is_of i (file_of files i) ≡ true = first_holds (is_of i) files idle h in
        let e : slot_of files i ≡ first_with (is_of i) files = slot-own files i h in
        opened (rw e h) (rw e) (of-used i (file_of files i) t) (of_entry i (file_of files i) t) (rw e (λ k l. first_below (is_of i) files k idle l))
    go (no h) =
        closed (get_or-eq_default files idle (omega arith)) (slot-new files i (omega arith)) (λ k. none k (dec_lt k (length files)))
      where
        none : (k : ℕ) → Dec (k < length files) → is_of i (get_or files k idle) ≡ false
        none k (yes l) = first_below (is_of i) files k idle (omega arith)
        none k (no l) = ap (is_of i) (get_or-eq_default files idle (omega arith))
