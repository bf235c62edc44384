-- A row that is whole and well shaped is in order where its code names a request, or adds or deletes a file; else its code is told.
use mathlib.Core.Path.{◌≡◌, refl, sym, ap, ◌∙◌}
use mathlib.Core.Bool.{Bool, true, false, not, ◌&&◌, false≢true}
use mathlib.Core.List.{List}
use Prim.Native.Nat.{ℕ, ◌≤◌}
use lib.ListN.{length}
use borrow.Author.Tests.{le-ltb, not-true, not-false}
use Rattle.std.specs.Prelude.{Option, Some, None, Ok, Err, is_some}
use Rattle.geometry.specs.Bytes.{word_at}
use Rattle.geometry.proofs.Tests.{chosen, not_chosen}
use Rattle.requests.specs.Codes.{asked_for}
use Rattle.requests.specs.declared.Request.{Request}
use Rattle.scripts.specs.Script.{is_edit, row_in, row_for, is_misshapen, row_of}
use Rattle.scripts.specs.declared.Fault.TheVariants.{Code}
use Rattle.scripts.specs.declared.Row.{Row}

module _ (b : List ℕ) where
  good : (x : Option Request) (none : Bool) → is_some x ≡ not none → none && not (is_edit (word_at b 0)) ≡ false → Ok (row_in b) ≡ row_for b x
  unfolding row_for
  good (Some q) none s t = refl
  good None true s t = sym (chosen (is_edit (word_at b 0)) _ _ (not-false (is_edit (word_at b 0)) t))
  good None false s t = absurd (false≢true s)

  bad : (x : Option Request) (none : Bool) → is_some x ≡ not none → none && not (is_edit (word_at b 0)) ≡ true → Err (Code (word_at b 0)) ≡ row_for b x
  unfolding row_for
  bad (Some q) true s t = absurd (false≢true (sym s))
  bad (Some q) false s t = absurd (false≢true t)
  bad None true s t = sym (not_chosen (is_edit (word_at b 0)) _ _ (not-true (is_edit (word_at b 0)) t))
  bad None false s t = absurd (false≢true s)

  module _ (h : 16 ≤ length b) (z : is_misshapen b ≡ false) (row : Row) (k : row ≡ row_in b) (x : Option Request) (e : x ≡ asked_for row.code row.granule) (none : Bool) (s : is_some x ≡ not none) where
    by_code : row_for b x ≡ row_of b
    unfolding row_of row_in
    by_code = rw (row_of, le-ltb (length b) 16 h, z, e, k)

    pub in-order : none && not (is_edit row.code) ≡ false → Ok row ≡ row_of b
    unfolding row_in
    in-order t = ap Ok k ∙ good x none s (ap (λ (r : Row). none && not (is_edit r.code)) (sym k) ∙ t) ∙ by_code

    pub unknown : none && not (is_edit row.code) ≡ true → Err (Code row.code) ≡ row_of b
    unfolding row_in
    unknown t = ap (λ (r : Row). Err (Code r.code)) k ∙ bad x none s (ap (λ (r : Row). none && not (is_edit r.code)) (sym k) ∙ t) ∙ by_code
