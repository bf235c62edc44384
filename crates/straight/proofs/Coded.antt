-- The code of the bytes given: the blanks that the record has behind them are dropped, so it is their own code.
use mathlib.Core.Path.{◌≡◌, refl, sym, ap, ◌∙◌}
use mathlib.Core.Bool.{Bool, true, false, ◌&&◌}
use mathlib.Core.List.{List, []}
use Prim.Native.Nat.{ℕ, ◌≤◌}
use native.Mathlib.Omega.{arith}
use lib.ListN.{length}
use lib.Dec.{leb}
use lib.Seq.{sets, sets-eq}
use Rattle.geometry.specs.Bytes.{part}
use Rattle.geometry.specs.Sizes.{compressed}
use Rattle.geometry.proofs.Bytes.{lay-fits, part-lay-same}
use Rattle.coding.specs.Encode.{encode, code_of}
use Rattle.coding.proofs.Round.{encode-padded}
use Rattle.directory.specs.Entries.{is_kind}
use Rattle.straight.specs.Straight.{code_given}
use Rattle.directory.specs.declared.Entry.{Entry}

module _ (e : Entry) (given : List ℕ) where
  abbrev may : Bool
  may = is_kind compressed e && (leb (length given) e.length && leb e.length 132)

  pub given-coded : may ≡ true → code_of e.length given ≡ code_given e given
  unfolding code_given
  given-coded h = rw (h, code_given)

  pub given-encoded : may ≡ true → encode given ≡ code_given e given
  unfolding code_of
  given-encoded h = sym (encode-padded e.length given) ∙ given-coded h

  pub given-none : may ≡ false → [] ≡ code_given e given
  unfolding code_given
  given-none h = rw (h, code_given)

-- bytes set at the front of a list stand there
pub sets-part : (old xs : List ℕ) → length xs ≤ length old → part (sets old 0 xs) 0 (length xs) ≡ xs
sets-part old xs h = ap (λ (ys : List ℕ). part ys 0 (length xs)) (sets-eq xs old 0 (omega arith) ∙ sym (lay-fits old 0 xs (omega arith))) ∙ part-lay-same old 0 xs (length xs) refl (omega arith)
