-- The rules of a session are those of the image and the table, those of each open file, those of every two and that of what it says of itself: a rule of both sorts holds where each of its parts does, and four states are never more than four open files.
use mathlib.Core.Path.{◌≡◌, refl, sym, ap, ◌∙◌}
use mathlib.Core.Bool.{Bool, true, false, ◌&&◌, not, and-true, and-false, and_assoc}
use mathlib.Core.List.{List}
use Prim.Native.Nat.{ℕ, ◌≤◌}
use native.Mathlib.Omega.{arith}
use lib.Dec.{leb, ltb}
use lib.ListN.{length, get_or}
use borrow.Author.Tests.{le-leb}
use Rattle.geometry.specs.Lists.{all, every, pairwise}
use Rattle.geometry.specs.Sizes.{entries, most_open, sectors_of, lawful_length}
use Rattle.geometry.proofs.Tests.{every-and, every-from, many-most}
use Rattle.directory.specs.Entries.{entry_at, is_free}
use Rattle.directory.specs.Rules.{table_good}
use Rattle.sessions.specs.Session.{idle, is_of, open_files, of_used_entry, of_other, position_good, beyond_good, places_good, saying_good, session_rules, legal, held_good}
use Rattle.sessions.specs.Grouped.{file_good, files_good, open_good, hold_good}
use Rattle.directory.specs.declared.Entry.{Entry}
use Rattle.sessions.specs.declared.BufferedFile.{BufferedFile}
use Rattle.sessions.specs.declared.OpenFile.{OpenFile}
use Rattle.sessions.specs.declared.Session.{Session}

-- document 01 has the rule of two files, d, among those of one
order : (a b n c d e f g h : Bool)
    → (a && (b && (n && (c && (d && (e && (f && (g && (h && true))))))))) ≡ (a && (b && ((n && ((c && (e && (f && g))) && d)) && h)))
order false b n c d e f g h = refl
order true false n c d e f g h = refl
order true true false c d e f g h = refl
order true true true false d e f g h = refl
order true true true true false e f g h = sym (ap (λ (x : Bool). x && h) (and-false (e && (f && g))))
order true true true true true false f g h = refl
order true true true true true true false g h = refl
order true true true true true true true false h = refl
order true true true true true true true true h = and-true h

module _ (table : List Entry) (files : List OpenFile) where
  of_one : every (file_good table) files
      ≡ (every (of_used_entry table) files && (every (position_good table) files && (every (beyond_good table) files && every (places_good table) files)))
  unfolding file_good
  of_one =
      every-and (of_used_entry table) (λ f. position_good table f && (beyond_good table f && places_good table f)) files
      ∙ rw (every-and (position_good table) (λ f. beyond_good table f && places_good table f) files, every-and (beyond_good table) (places_good table) files)

pub grouped : (image : List ℕ) (s : Session) → legal image s ≡ (lawful_length image && (table_good (sectors_of image) s.table && (files_good s.table s.files && saying_good s)))
unfolding legal session_rules all files_good
grouped image s =
    rw (of_one s.table s.files)
    (order (lawful_length image) (table_good (sectors_of image) s.table) (leb (open_files s.files) most_open) (every (of_used_entry s.table) s.files) (pairwise of_other s.files) (every (position_good s.table) s.files) (every (beyond_good s.table) s.files) (every (places_good s.table) s.files) (saying_good s))

pub files-grouped : (table : List Entry) (files : List OpenFile) → length files ≤ most_open → files_good table files ≡ (every (file_good table) files && pairwise of_other files)
unfolding files_good open_files
files-grouped table files few = rw (le-leb (open_files files) most_open (omega (arith, many-most (λ f. f.used) files)))

-- ---- a state that is not in use keeps every rule; of one that is, its entry decides

module _ (table : List Entry) (f : OpenFile) where
  abbrev e : Entry
  e = entry_at table f.entry

  pub file-unused : f.used ≡ false → file_good table f ≡ true
  unfolding file_good of_used_entry position_good beyond_good places_good
  file-unused u = rw u

  file-used : f.used ≡ true → file_good table f ≡ open_good e f
  unfolding file_good of_used_entry position_good beyond_good places_good open_good
  file-used u = rw u (and_assoc (ltb f.entry entries) (not (is_free e)) _)

  pub file-told : (g : Entry) (r : Bool) → g ≡ e → r ≡ open_good g f → f.used ≡ true → file_good table f ≡ r
  file-told g r p q u = file-used u ∙ ap (λ (h : Entry). open_good h f) (sym p) ∙ sym q

-- any states and one that is not in use
pub others-unused : (f : OpenFile) → f.used ≡ false → (gs : List OpenFile) → every (λ g. of_other g f) gs ≡ true
unfolding of_other is_of
others-unused f u gs = every-from (λ g. of_other g f) gs idle λ i l. rw (u, and-false (get_or gs i idle).used)

module _ (table : List Entry) (b : BufferedFile) where
  pub held-unused : (b.file.used && b.holds) ≡ false → held_good table b ≡ true
  unfolding held_good
  held-unused u = rw u

  held-used : (b.file.used && b.holds) ≡ true → held_good table b ≡ hold_good (entry_at table b.file.entry) b.held
  unfolding held_good hold_good
  held-used u = rw u

  pub held-told : (g : Entry) (r : Bool) → g ≡ entry_at table b.file.entry → r ≡ hold_good g b.held → (b.file.used && b.holds) ≡ true → held_good table b ≡ r
  held-told g r p q u = held-used u ∙ ap (λ (h : Entry). hold_good h b.held) (sym p) ∙ sym q
