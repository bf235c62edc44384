-- A row by its code: an adding, a deleting, or a request.
use mathlib.Core.Path.{◌≡◌, sym, ap, ap₂, subst, ◌∙◌}
use mathlib.Core.Bool.{true, false}
use mathlib.Core.Logic.{◌≢◌}
use mathlib.Core.List.{List, []}
use Prim.Native.Nat.{ℕ, ◌%◌}
use lib.Dec.{eqb}
use lib.ListN.{get_or}
use borrow.Author.Tests.{eq-eqb, ne_eqb}
use Rattle.geometry.proofs.Tests.{chosen, not_chosen}
use Rattle.requests.specs.declared.Edit.TheVariants.{Add, Delete}
use Rattle.steps.specs.Edit.{Edited}
use Rattle.editing.specs.Editing.{edited_in}
use Rattle.asking.specs.Requested.{left}
use Rattle.lleuadrys.specs.Calls.{Edits}
use Rattle.scripts.specs.Script.{is_edit}
use Rattle.scripts.specs.declared.Played.{Played}
use Rattle.scripts.specs.declared.Row.{Row}
use Rattle.playing.specs.Played.{edit_said, said_of_edit, edited, asked, leaves, said_of, played}

-- what a call hands back of an edit that the row's is
pub handed : (w v : Edited (List ℕ)) → w ≡ v → (n told : ℕ) (to lent : List ℕ) (r : Played) → Edits w n to lent → told ≡ get_or w.told 0 0 → r ≡ edit_said n told
    → Edits v r.number to lent × (r ≡ said_of_edit v)
unfolding said_of_edit
handed w v e n told to lent r h t p =
    subst (λ (x : Edited (List ℕ)). Edits x r.number to lent × (r ≡ said_of_edit x)) e
    ((ap (λ (x : Played). x.number) p ∙ h.0, h.1, h.2), p ∙ ap₂ edit_said h.0 t)

module _ (row : Row) (given image session : List ℕ) where
  pub adding : row.code ≡ 14 → edited_in image session 0 (Add row.entry (row.granule % 65536) row.sectors) given ≡ edited row given image session
  unfolding edited
  adding h = sym (chosen (eqb row.code 14) _ _ (eq-eqb row.code 14 h))

  pub deleting : row.code ≢ 14 → edited_in image session row.entry Delete [] ≡ edited row given image session
  unfolding edited
  deleting h = sym (not_chosen (eqb row.code 14) _ _ (ne_eqb row.code 14 h))

  module _ (buffer to lent after : List ℕ) (r : Played) where
    pub of-edit : is_edit row.code ≡ true → Edits (edited row given image session) r.number to lent → r ≡ said_of_edit (edited row given image session)
        → (left r.number to lent buffer ≡ leaves row given image session buffer) × (r ≡ played row given image session buffer)
    unfolding leaves played
    of-edit h e p = (rw (e.0, e.1, e.2) (sym (chosen (is_edit row.code) _ _ h)), p ∙ sym (chosen (is_edit row.code) _ _ h))

    pub of-request : is_edit row.code ≡ false → left r.number to lent after ≡ asked row given image session buffer
        → r ≡ said_of row given (asked row given image session buffer)
        → (left r.number to lent after ≡ leaves row given image session buffer) × (r ≡ played row given image session buffer)
    unfolding leaves played
    of-request h e p = (e ∙ sym (not_chosen (is_edit row.code) _ _ h), p ∙ sym (not_chosen (is_edit row.code) _ _ h))
