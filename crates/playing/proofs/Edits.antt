-- What an edit tells: an adding at most the table's length, since the lowest free entry is there or behind it; a deleting nothing.
use mathlib.Core.Path.{◌≡◌, refl, ap, ◌∙◌}
use mathlib.Core.Bool.{Bool, true, false}
use mathlib.Core.List.{List}
use Prim.Native.Nat.{ℕ, ◌≤◌}
use native.Mathlib.Omega.{arith}
use lib.ListN.{length, get_or, length-replicate}
use Rattle.geometry.specs.Sizes.{entries}
use Rattle.geometry.proofs.Tests.{either, chosen, not_chosen, first-most}
use Rattle.directory.specs.Entries.{is_free}
use Rattle.directory.specs.declared.Entry.{Entry}
use Rattle.tables.specs.Tables.{two_words_wide}
use Rattle.tables.proofs.Tables.{length-entries}
use Rattle.gaps.specs.Gaps.{lowest_free}
use Rattle.requests.specs.declared.Answer.{Answer}
use Rattle.requests.specs.declared.Answer.TheVariants.{Done, Met, Refused}
use Rattle.requests.specs.declared.Edit.TheVariants.{Add, Delete}
use Rattle.sessions.specs.declared.BufferedSession.{BufferedSession}
use Rattle.sessions.specs.Session.{bare}
use Rattle.steps.specs.Edit.{told_of, told_by, edited_number, edit_by}
use Rattle.storing.specs.Stored.{has_buffers, is_session, unlawful_entry, unlawful, session_in}
use Rattle.editing.specs.Editing.{lent_edited, edited_in}

-- ---- the table of lent bytes

table-many : (u : Bool) (b : List ℕ) → length (session_in u b).table ≡ entries
unfolding session_in unlawful
table-many u b = either (is_session u b)
    (λ (h : is_session u b ≡ true). ap (λ (s : BufferedSession). length s.table) (chosen (is_session u b) _ _ h) ∙ length-entries two_words_wide entries b)
    (λ (h : is_session u b ≡ false). ap (λ (s : BufferedSession). length s.table) (not_chosen (is_session u b) _ _ h) ∙ length-replicate {A = Entry} entries unlawful_entry)

free-most : (u : Bool) (b : List ℕ) → lowest_free (session_in u b).table ≤ entries
unfolding lowest_free
free-most u b =
    let l : length (session_in u b).table ≡ entries = table-many u b in
    let m = first-most is_free (session_in u b).table in
    omega (arith, l, m)

-- ---- what is told, by the answer

told-most : (a : Answer) (k l n : ℕ) (t : ℕ) → t ≤ entries → get_or (told_by a (Add k l n) t) 0 0 ≤ entries
unfolding told_by told_of
told-most Done k l n t h = h
told-most (Met x) k l n t h = omega arith
told-most (Refused x) k l n t h = omega arith

told_none : (a : Answer) (t : ℕ) → get_or (told_by a Delete t) 0 0 ≡ 0
unfolding told_by told_of
told_none Done t = refl
told_none (Met x) t = refl
told_none (Refused x) t = refl

module _ (image b : List ℕ) (i : ℕ) where
  pub adds-most : (k l n : ℕ) (name : List ℕ) → get_or (edited_in image b i (Add k l n) name).told 0 0 ≤ entries
  unfolding edited_in lent_edited edit_by edited_number bare
  adds-most k l n name = either (has_buffers b)
      (λ (h : has_buffers b ≡ true). rw (h, edited_in) (told-most _ k l n _ (free-most true b)))
      (λ (h : has_buffers b ≡ false). rw (h, edited_in) (told-most _ k l n _ (free-most false b)))

  pub deletes-none : (name : List ℕ) → get_or (edited_in image b i Delete name).told 0 0 ≡ 0
  unfolding edited_in lent_edited edit_by
  deletes-none name = either (has_buffers b)
      (λ (h : has_buffers b ≡ true). rw (h, edited_in) (told_none _ _))
      (λ (h : has_buffers b ≡ false). rw (h, edited_in) (told_none _ _))
