-- ADD on a legal session in lent bytes: what the program finds in them are the facts, so it ends at the test that the definition ends at.
use mathlib.Core.Path.{◌≡◌, refl, sym, ap, ◌∙◌}
use mathlib.Core.Bool.{Bool, true, false, not}
use mathlib.Core.List.{List, [], ◌∷◌}
use Prim.Native.Nat.{ℕ, ◌+◌, ◌≤◌, ◌<◌}
use native.Mathlib.Omega.{arith}
use native.Mathlib.Decide.{dec_lt}
use lib.Dec.{eqb, ltb}
use lib.ListN.{length, get_or}
use borrow.Author.Tests.{lt-ltb, le-ltb, eqb-true}
use Rattle.geometry.specs.Bytes.{is_byte}
use Rattle.geometry.specs.Lists.{every, first_with}
use Rattle.geometry.specs.Sizes.{entries, sectors_of}
use Rattle.geometry.proofs.Places.{lawful-most}
use Rattle.geometry.proofs.Tests.{and_left, denied, every-get_or, every-from, first_holds, first_below}
use Rattle.directory.specs.Entries.{free_entry}
use Rattle.directory.specs.Search.{matches, told, find}
use Rattle.tables.specs.Tables.{one_word_wide, two_words_wide, table_in, lay_entry}
use Rattle.tables.proofs.Tables.{length-entries}
use Rattle.gaps.specs.Gaps.{lowest_free, is_taken, lowest_gap}
use Rattle.shapes.specs.Made.{is_named, shape_good, file_made}
use Rattle.requests.specs.Judge.{judge_edit, EditFacts}
use Rattle.requests.proofs.Edits.{bad-name}
use Rattle.sessions.specs.Session.{bare, buffered_legal}
use Rattle.sessions.proofs.Legal.{lawful-length, bare-legal}
use Rattle.steps.specs.Edit.{is_taken_name, edit_facts, edited_number, edited_entry, told_of, edit_answer_by}
use Rattle.storing.specs.Fits.{entry_fits}
use Rattle.storing.specs.Numbers.{is_set}
use Rattle.storing.specs.Stored.{has_buffers, said_at, said_width, size_of, saying_in, is_session, lent_session}
use Rattle.storing.proofs.Read.{session-size, session-is}
use Rattle.finding.proofs.Lent.{lent-table}
use Rattle.editing.specs.Editing.{edited_in, Handed}
use Rattle.editing.proofs.Fits.{made-fits}
use Rattle.editing.proofs.Judged.{bad-image, bad-shape, name-in-use, no-entry, no_gap, adds}
use Rattle.editing.proofs.Lent.{legal-told, facts_in, refused-in, done-in}
use Rattle.directory.specs.declared.Entry.{Entry}
use Rattle.std.specs.Prelude.{Option, Some, None, is_some}
use Rattle.requests.specs.declared.Answer.TheVariants.{Done, Refused}
use Rattle.requests.specs.declared.Edit.TheVariants.{Add}
use Rattle.requests.specs.declared.Refusal.{Refusal}
use Rattle.requests.specs.declared.Refusal.TheVariants.{BadImage, BadName, NameInUse, NoEntry, NoGap, BadShape}
use Rattle.sessions.specs.declared.BufferedSession.{BufferedSession}

-- ---- what a session says of itself

module _ (b : List ℕ) (h : is_session (has_buffers b) b ≡ true) where
  pub said-there : length b ≡ said_at (has_buffers b) + said_width
  unfolding size_of
  said-there = session-size (has_buffers b) b h

  pub said-is : (at : ℕ) → at ≡ said_at (has_buffers b) → is_set (get_or b at 0) ≡ (lent_session b).says.refused
  unfolding saying_in
  said-is at e = rw e (sym (ap (λ (s : BufferedSession). s.says.refused) (session-is (has_buffers b) b h)))

-- ---- a name in use

module _ {A : Type 0} (p : A → Bool) (xs : List A) (d : A) where
  first_some : ltb (first_with p xs) (length xs) ≡ not (every (λ x. not (p x)) xs)
  first_some = go (dec_lt (first_with p xs) (length xs))
    where
      go : Dec (first_with p xs < length xs) → ltb (first_with p xs) (length xs) ≡ not (every (λ x. not (p x)) xs)
      go (yes l) =
          lt-ltb (first_with p xs) (length xs) l
          ∙ sym (ap not (denied (every (λ x. not (p x)) xs) (not (p (get_or xs (first_with p xs) d))) (λ h. every-get_or (λ x. not (p x)) xs (first_with p xs) d h l) (ap not (first_holds p xs d l))))
      go (no l) =
          le-ltb (first_with p xs) (length xs) (omega arith)
          ∙ sym (ap not (every-from (λ x. not (p x)) xs d λ (j : ℕ) (h : j < length xs). ap not (first_below p xs j d (omega arith))))

module _ (t : List Entry) (name : List ℕ) where
  -- an entry is found exactly if the name is in use
  pub name-told : (r : Option ℕ) → told r ≡ find t name → is_some r ≡ is_taken_name t name
  unfolding is_taken_name find
  name-told r e = go r (ltb (first_with (matches name) t) (length t)) e ∙ first_some (matches name) t free_entry
    where
      go : (r : Option ℕ) (c : Bool) → told r ≡ elim c [ true ↦ (0, first_with (matches name) t ∷ []) | false ↦ (8, []) ] → is_some r ≡ c
      go (Some j) true q = refl
      go (Some j) false q = absurd (omega (arith, ap (λ (x : ℕ × List ℕ). x.0) q))
      go None true q = absurd (omega (arith, ap (λ (x : ℕ × List ℕ). x.0) q))
      go None false q = refl

-- ---- ADD

module _ (image b : List ℕ) (ok : buffered_legal image (lent_session b) ≡ true) where
  abbrev s : BufferedSession
  s = lent_session b

  abbrev t : List Entry
  t = table_in two_words_wide entries b

  abbrev N : ℕ
  N = sectors_of image

  pub few : N ≤ 4096
  few = lawful-most image (lawful-length image (bare s) (bare-legal image s ok))

  table : s.table ≡ t
  table = lent-table b (legal-told image b ok)

  many : length s.table ≡ entries
  many = ap (λ (s : BufferedSession). length s.table) (session-is (has_buffers b) b (legal-told image b ok)) ∙ length-entries two_words_wide entries b

  rows : length t ≡ entries
  rows = ap (λ (t : List Entry). length t) (sym table) ∙ many

  module _ (k l m : ℕ) (name : List ℕ) (i before : ℕ) where
    abbrev found : EditFacts
    found = record {
      legal = true;
      refused = s.says.refused;
      used = false;
      opened = false;
      named = is_named name;
      shaped = shape_good k l m;
      taken = is_taken_name t name;
      entry = ltb (lowest_free t) entries;
      gap = ltb (lowest_gap (is_taken t) N m) N;
    }

    are-found : facts_in image b i (Add k l m) name ≡ found
    unfolding edit_facts bare
    are-found = rw (ok, table)

    refuses : (y : Refusal) → judge_edit (Add k l m) found ≡ Refused y → Handed (edited_in image b i (Add k l m) name) (Refused y) image b before before
    refuses y h = refused-in image b i (Add k l m) name y (ap (judge_edit (Add k l m)) are-found ∙ h) before

    abbrev Left : Refusal → Type 0
    Left y = Handed (edited_in image b i (Add k l m) name) (Refused y) image b before before

    module _ (r : Bool) (r-is : r ≡ s.says.refused) where
      pub from-refused : r ≡ true → Left BadImage
      from-refused h = refuses BadImage (bad-image k l m found refl (sym r-is ∙ h))

      module _ (r-no : r ≡ false) (a : Bool) (a-is : a ≡ is_named name) where
        pub unnamed : a ≡ false → Left BadName
        unnamed h = refuses BadName (bad-name k l m found refl (sym r-is ∙ r-no) (sym a-is ∙ h))

        module _ (a-yes : a ≡ true) (f : Bool) (f-is : f ≡ shape_good k l m) where
          pub misshapen : f ≡ false → Left BadShape
          misshapen h = refuses BadShape (bad-shape k l m found refl (sym r-is ∙ r-no) (sym a-is ∙ a-yes) (sym f-is ∙ h))

          module _ (f-yes : f ≡ true) (q : Bool) (q-is : q ≡ is_taken_name t name) where
            pub in_use_lem : q ≡ true → Left NameInUse
            in_use_lem h = refuses NameInUse (name-in-use k l m found refl (sym r-is ∙ r-no) (sym a-is ∙ a-yes) (sym f-is ∙ f-yes) (sym q-is ∙ h))

            module _ (q-no : q ≡ false) where
              pub none_free : lowest_free t ≡ length t → Left NoEntry
              none_free h =
                  refuses NoEntry (no-entry k l m found refl (sym r-is ∙ r-no) (sym a-is ∙ a-yes) (sym f-is ∙ f-yes) (sym q-is ∙ q-no) (le-ltb (lowest_free t) entries (omega (arith, h, rows))))

              module _ (n : ℕ) (n-is : (lowest_free t ≡ n) × (n < length t)) (M : ℕ) (M-is : M ≡ N) (p : ℕ) (p-gap : p ≡ lowest_gap (is_taken t) M m) where
                p-is : p ≡ lowest_gap (is_taken t) N m
                p-is = p-gap ∙ ap (λ (M : ℕ). lowest_gap (is_taken t) M m) M-is

                free : ltb (lowest_free t) entries ≡ true
                free = lt-ltb (lowest_free t) entries (omega (arith, n-is.0, n-is.1, rows))

                pub no_room : M ≤ p → Left NoGap
                no_room h =
                    refuses NoGap (no_gap k l m found refl (sym r-is ∙ r-no) (sym a-is ∙ a-yes) (sym f-is ∙ f-yes) (sym q-is ∙ q-no) free (le-ltb (lowest_gap (is_taken t) N m) N (omega (arith, p-is))))

                pub eight : length name ≡ 8
                unfolding is_named
                eight = eqb-true (length name) 8 (and_left (eqb (length name) 8) _ (sym a-is ∙ a-yes))

                module _ (p-in : p < M) (bytes : every is_byte name ≡ true) where
                  done : judge_edit (Add k l m) (facts_in image b i (Add k l m) name) ≡ Done
                  done =
                      ap (judge_edit (Add k l m)) are-found
                      ∙ adds k l m found refl (sym r-is ∙ r-no) (sym a-is ∙ a-yes) (sym f-is ∙ f-yes) (sym q-is ∙ q-no) free (lt-ltb (lowest_gap (is_taken t) N m) N (omega (arith, p-is)))

                  fits-so : entry_fits (edited_entry (Add k l m) N s.table name) ≡ true
                  unfolding edit_answer_by bare
                  fits-so = made-fits image (bare s) (buffered_legal image s) (λ h. bare-legal image s h) many i (Add k l m) name done

                  pub added : (image' b' : List ℕ) → image' ≡ lay_entry one_word_wide entries image n (file_made k l m name p) → b' ≡ lay_entry two_words_wide entries b n (file_made k l m name p)
                      → Handed (edited_in image b i (Add k l m) name) Done image' b' before n
                  unfolding edited_number edited_entry told_of
                  added image' b' x y =
                      let z : lowest_free s.table ≡ n = ap lowest_free table ∙ n-is.0 in
                      let g : lowest_gap (is_taken s.table) N m ≡ p = ap (λ (t : List Entry). lowest_gap (is_taken t) N m) table ∙ sym p-is in
                      let w = done-in image b i (Add k l m) name (legal-told image b ok) done fits-so before in
                      rw (x, y) (rw (z, g) at w)
