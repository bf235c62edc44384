-- DELETE on a legal session in lent bytes: an entry that is not used, one whose file is open, and one that is laid free.
use mathlib.Core.Path.{◌≡◌, sym, ◌∙◌}
use mathlib.Core.Bool.{Bool, true, false, not}
use mathlib.Core.List.{List}
use Prim.Native.Nat.{ℕ}
use Rattle.geometry.specs.Sizes.{entries}
use Rattle.directory.specs.Entries.{entry_at, free_entry, is_free}
use Rattle.tables.specs.Tables.{one_word_wide, two_words_wide, lay_entry}
use Rattle.sessions.specs.Session.{bare, file_of, buffered_legal}
use Rattle.steps.specs.Edit.{edit_facts, edited_number, edited_entry, told_of}
use Rattle.storing.specs.Stored.{lent_session}
use Rattle.editing.specs.Editing.{edited_in, Handed}
use Rattle.editing.proofs.Fits.{free-fits}
use Rattle.editing.proofs.Judged.{not_there, still_open, deletes}
use Rattle.editing.proofs.Lent.{legal-told, facts_in, refused-in, done-in}
use Rattle.requests.specs.declared.Answer.TheVariants.{Done, Refused}
use Rattle.requests.specs.declared.Edit.TheVariants.{Delete}
use Rattle.requests.specs.declared.Refusal.TheVariants.{NotThere, AlreadyOpen}
use Rattle.sessions.specs.declared.BufferedSession.{BufferedSession}

module _ (image b : List ℕ) (ok : buffered_legal image (lent_session b) ≡ true) (i : ℕ) (name : List ℕ) (before : ℕ) where
  abbrev s : BufferedSession
  s = lent_session b

  lawful : (facts_in image b i Delete name).legal ≡ true
  unfolding edit_facts
  lawful = ok

  module _ (u : Bool) (u-is : u ≡ not (is_free (entry_at s.table i))) where
    used-so : (facts_in image b i Delete name).used ≡ u
    unfolding edit_facts bare
    used-so = sym u-is

    pub none-such : u ≡ false → Handed (edited_in image b i Delete name) (Refused NotThere) image b before before
    none-such h = refused-in image b i Delete name NotThere (not_there (facts_in image b i Delete name) lawful (used-so ∙ h)) before

    module _ (u-yes : u ≡ true) (o : Bool) (o_is : o ≡ (file_of (bare s).files i).used) where
      open-so : (facts_in image b i Delete name).opened ≡ o
      unfolding edit_facts
      open-so = sym o_is

      pub is_open : o ≡ true → Handed (edited_in image b i Delete name) (Refused AlreadyOpen) image b before before
      is_open h = refused-in image b i Delete name AlreadyOpen (still_open (facts_in image b i Delete name) lawful (used-so ∙ u-yes) (open-so ∙ h)) before

      pub deleted : o ≡ false → (image' b' : List ℕ) → image' ≡ lay_entry one_word_wide entries image i free_entry → b' ≡ lay_entry two_words_wide entries b i free_entry
          → Handed (edited_in image b i Delete name) Done image' b' before before
      unfolding edited_number edited_entry told_of
      deleted h image' b' x y =
          rw (x, y)
          (done-in image b i Delete name (legal-told image b ok) (deletes (facts_in image b i Delete name) lawful (used-so ∙ u-yes) (open-so ∙ h)) free-fits before)
