-- An edit on lent bytes, for both engines at once: refused, all stays; done, one entry is laid in the image and in the bytes of the session.
use mathlib.Core.Path.{◌≡◌, refl, sym, ap, subst, ◌∙◌}
use mathlib.Core.Bool.{Bool, true, false, not}
use mathlib.Core.List.{List}
use Prim.Native.Nat.{ℕ}
use lib.ListN.{get_or, set}
use Rattle.geometry.specs.Sizes.{entries, sectors_of}
use Rattle.geometry.proofs.Tests.{either, both_ways, chosen, not_chosen}
use Rattle.directory.specs.Entries.{entry_at, is_free}
use Rattle.tables.specs.Tables.{one_word_wide, two_words_wide, lay_entry}
use Rattle.requests.specs.Judge.{judge_edit, EditFacts}
use Rattle.sessions.specs.Session.{bare, file_of, buffered_legal}
use Rattle.steps.specs.Edit.{Edited, edit_facts, edited_number, edited_entry, told_of, told_by, image_edited, table_edited, edit_answer_by, edit_by, plain_edit, buffered_edit}
use Rattle.steps.proofs.Unheld.{plain-as-held}
use Rattle.storing.specs.Fits.{entry_fits}
use Rattle.storing.specs.Stored.{has_buffers, stored, is_session, session_in, lent_session, plain_in, plain_stored}
use Rattle.storing.proofs.Counts.{entry_set}
use Rattle.storing.proofs.Illegal.{none-legal}
use Rattle.storing.proofs.Laws.{stored-kept}
use Rattle.storing.proofs.Read.{plain-holds-nothing}
use Rattle.finding.specs.Lent.{seen_of, seen_in}
use Rattle.editing.specs.Editing.{lent_edited, edited_in, Handed}
use Rattle.editing.proofs.Judged.{not-legal}
use Rattle.directory.specs.declared.Entry.{Entry}
use Rattle.finding.specs.declared.Seen.{Seen}
use Rattle.requests.specs.declared.Answer.{Answer}
use Rattle.requests.specs.declared.Answer.TheVariants.{Done, Refused}
use Rattle.requests.specs.declared.Edit.{Edit}
use Rattle.requests.specs.declared.Edit.TheVariants.{Add, Delete}
use Rattle.requests.specs.declared.Refusal.{Refusal}
use Rattle.requests.specs.declared.Refusal.TheVariants.{NotLegal}
use Rattle.sessions.specs.declared.BufferedSession.{BufferedSession}

-- a legal session's bytes are one
pub legal-told : (image b : List ℕ) → buffered_legal image (lent_session b) ≡ true → is_session (has_buffers b) b ≡ true
legal-told image b ok =
    either (is_session (has_buffers b) b) (λ h. h) (λ h. both_ways (buffered_legal image (lent_session b)) ok (none-legal (has_buffers b) image b h))

module _ (image b : List ℕ) (i : ℕ) (x : Edit) (name : List ℕ) where
  abbrev s : BufferedSession
  s = lent_session b

  abbrev pub facts_in : EditFacts
  facts_in = edit_facts (buffered_legal image s) (sectors_of image) (bare s) i x name

  abbrev n : ℕ
  n = edited_number x s.table i

  abbrev e : Entry
  e = edited_entry x (sectors_of image) s.table name

  -- a session with no buffers is one that holds nothing
  plain-too : lent_edited (is_session false b) plain_stored b (plain_edit image (plain_in b) i x name)
      ≡ lent_edited (is_session false b) (stored false) b (buffered_edit image (session_in false b) i x name)
  unfolding lent_edited
  plain-too =
      sym (ap (λ (s : BufferedSession). lent_edited (is_session false b) (stored false) b (buffered_edit image s i x name)) (sym (plain-holds-nothing b))
      ∙ ap (lent_edited (is_session false b) (stored false) b) (plain-as-held image (plain_in b) i x name))

  -- so one description does for both
  pub in_both : edited_in image b i x name ≡ lent_edited (is_session (has_buffers b) b) (stored (has_buffers b)) b (buffered_edit image s i x name)
  unfolding edited_in
  in_both = go (has_buffers b)
    where
      go : (u : Bool) → elim u [
        | true ↦ lent_edited (is_session true b) (stored true) b (buffered_edit image (session_in true b) i x name)
        | false ↦ lent_edited (is_session false b) plain_stored b (plain_edit image (plain_in b) i x name)
      ] ≡ lent_edited (is_session u b) (stored u) b (buffered_edit image (session_in u b) i x name)
      go true = refl
      go false = plain-too

  -- with the answer by itself
  abbrev by_answer : Answer → Edited (List ℕ)
  by_answer a = record {
    answer = a;
    told = told_by a x n;
    image = image_edited a image n e;
    session = elim (is_session (has_buffers b) b) [
      | true ↦ stored (has_buffers b) (record { says = s.says; table = table_edited a s.table n e; files = s.files })
      | false ↦ b
    ];
  }

  by_answer_lem : edited_in image b i x name ≡ by_answer (judge_edit x facts_in)
  unfolding lent_edited edit_by edit_answer_by bare
  by_answer_lem = in_both

  hands : (a : Answer) → judge_edit x facts_in ≡ a → (image' b' : List ℕ) (before at : ℕ) → Handed (by_answer a) a image' b' before at → Handed (edited_in image b i x name) a image' b' before at
  hands a h image' b' before at = subst (λ (w : Edited (List ℕ)). Handed w a image' b' before at) (sym (by_answer_lem ∙ ap by_answer h))

  pub refused-in : (y : Refusal) → judge_edit x facts_in ≡ Refused y → (before : ℕ) → Handed (edited_in image b i x name) (Refused y) image b before before
  unfolding told_by image_edited table_edited
  refused-in y h before = hands (Refused y) h image b before before (refl, refl, stays, refl)
    where
      stays : b ≡ elim (is_session (has_buffers b) b) [ true ↦ stored (has_buffers b) s | false ↦ b ]
      stays = sym (either (is_session (has_buffers b) b)
          (λ (t : is_session (has_buffers b) b ≡ true). chosen (is_session (has_buffers b) b) (stored (has_buffers b) s) b t ∙ stored-kept (has_buffers b) b t)
          (λ (t : is_session (has_buffers b) b ≡ false). not_chosen (is_session (has_buffers b) b) (stored (has_buffers b) s) b t))

  pub done-in : is_session (has_buffers b) b ≡ true → judge_edit x facts_in ≡ Done → entry_fits e ≡ true → (before : ℕ)
      → Handed (edited_in image b i x name) Done (lay_entry one_word_wide entries image n e) (lay_entry two_words_wide entries b n e) before (get_or (told_of x n) 0 before)
  unfolding told_by image_edited table_edited
  done-in t h q before =
      hands Done h (lay_entry one_word_wide entries image n e) (lay_entry two_words_wide entries b n e) before (get_or (told_of x n) 0 before)
      (refl, refl, entry_set (has_buffers b) b t n e q ∙ sym (chosen (is_session (has_buffers b) b) (stored (has_buffers b) (record { says = s.says; table = set s.table n e; files = s.files })) b t), refl)

  pub unlawful-in : buffered_legal image s ≡ false → (before : ℕ) → Handed (edited_in image b i x name) (Refused NotLegal) image b before before
  unlawful-in h before = refused-in NotLegal (not-legal x facts_in (facts-legal x ∙ h)) before
    where
      facts-legal : (x : Edit) → (edit_facts (buffered_legal image s) (sectors_of image) (bare s) i x name).legal ≡ buffered_legal image s
      facts-legal (Add k l m) = unfold edit_facts in refl
      facts-legal Delete = unfold edit_facts in refl

-- ---- what is seen of the session and of entry i

module _ (image b : List ℕ) (i : ℕ) (z : Seen) (z-is : z ≡ seen_in image b i) where
  pub seen-lawful : z.lawful ≡ buffered_legal image (lent_session b)
  unfolding seen_of
  seen-lawful = ap (λ (z : Seen). z.lawful) z-is

  pub seen-used : not (is_free z.entry) ≡ not (is_free (entry_at (lent_session b).table i))
  unfolding seen_of
  seen-used = ap (λ (z : Seen). not (is_free z.entry)) z-is

  pub seen-open : z.file.used ≡ (file_of (bare (lent_session b)).files i).used
  unfolding seen_of
  seen-open = ap (λ (z : Seen). z.file.used) z-is

-- of an edit that is known
pub handed-as : (image b : List ℕ) (i : ℕ) (x y : Edit) (name : List ℕ) → x ≡ y → (a : Answer) (image' b' : List ℕ) (before at : ℕ)
    → Handed (edited_in image b i y name) a image' b' before at → Handed (edited_in image b i x name) a image' b' before at
handed-as image b i x y name e a image' b' before at = subst (λ (z : Edit). Handed (edited_in image b i z name) a image' b' before at) (sym e)
