-- The table that is searched is the session's, since bytes that are one begin with it; a field and words are the ones of their number.
use mathlib.Core.Path.{◌≡◌, refl, sym, ap, ◌∙◌}
use mathlib.Core.Bool.{Bool, true, false}
use mathlib.Core.List.{List, []}
use Prim.Native.Nat.{ℕ, ◌≤◌}
use native.Mathlib.Omega.{arith}
use Rattle.std.specs.Prelude.{Option, Some, None}
use Rattle.std.specs.Option.{ok_or}
use lib.Dec.{leb}
use lib.ListN.{length, get_or-eq_default}
use borrow.Author.Tests.{eq-eqb, leb-true, leb-false}
use Rattle.geometry.specs.Lists.{every}
use Rattle.geometry.specs.Sizes.{entries, free}
use Rattle.geometry.proofs.Tests.{either, chosen, not_chosen, every-get_or}
use Rattle.directory.specs.Entries.{entry_at, is_free}
use Rattle.directory.specs.Search.{told, find}
use Rattle.directory.specs.declared.Entry.{Entry}
use Rattle.tables.specs.Tables.{two_words_wide}
use Rattle.tables.specs.Tables as Tables
use Rattle.requests.specs.declared.Refusal.TheVariants.{NotThere}
use Rattle.storing.specs.Stored.{has_buffers, is_session}
use Rattle.texts.specs.Texts.{spelled}
use Rattle.finding.proofs.Lent.{lent-table}
use Rattle.telling.specs.Told.{found, told_of, field_of, field_in, words, words_of}

-- ---- a session's entries

module _ (b : List ℕ) (u s : Bool) (pu : u ≡ has_buffers b) (ps : s ≡ is_session u b) where
  told-session : is_session (has_buffers b) b ≡ s
  told-session = sym (ps ∙ ap (λ (v : Bool). is_session v b) pu)

  module _ (name : List ℕ) where
    pub found_none : s ≡ false → (12, []) ≡ found b name
    unfolding found
    found_none t = sym (not_chosen (is_session (has_buffers b) b) _ _ (told-session ∙ t))

    pub found-told : s ≡ true → (r : Option ℕ) → told r ≡ find (Tables.table_in two_words_wide entries b) name → told_of (ok_or r NotThere) ≡ found b name
    unfolding found
    found-told t r h =
        let z : is_session (has_buffers b) b ≡ true = told-session ∙ t in
        refused r ∙ h ∙ ap (λ (table : List Entry). find table name) (sym (lent-table b z)) ∙ sym (chosen (is_session (has_buffers b) b) _ _ z)
      where
        refused : (o : Option ℕ) → told_of (ok_or o NotThere) ≡ told o
        refused None = refl
        refused (Some i) = refl

  module _ (i k : ℕ) where
    pub field-none : s ≡ false → 0 ≡ field_in b i k
    unfolding field_in
    field-none t = sym (not_chosen (is_session (has_buffers b) b) _ _ (told-session ∙ t))

    pub field_told : s ≡ true → (e : Entry) (r : ℕ) → e ≡ entry_at (Tables.table_in two_words_wide entries b) i → r ≡ field_of e k → r ≡ field_in b i k
    unfolding field_in
    field_told t e r p h =
        let z : is_session (has_buffers b) b ≡ true = told-session ∙ t in
        h ∙ ap (λ (x : Entry). field_of x k) (p ∙ ap (λ (table : List Entry). entry_at table i) (sym (lent-table b z)))
        ∙ sym (chosen (is_session (has_buffers b) b) _ _ z)

-- ---- the fields of an entry

pub free-field : (e : Entry) → e.kind ≡ free → (k : ℕ) → 0 ≡ field_of e k
unfolding field_of
free-field e f k = sym (chosen (is_free e) _ _ (eq-eqb e.kind free f))

-- ---- words

pub no_words : (xs : List ℕ) (n : ℕ) → length words ≤ n → xs ≡ spelled "no such number" → xs ≡ words_of n
unfolding words_of
no_words xs n h e = e ∙ sym (get_or-eq_default words (spelled "no such number") {n = n} h)

-- room for 50 bytes leaves nothing out
pub words-short : (n : ℕ) → length (words_of n) ≤ 50
unfolding words_of words spelled every
words-short n = either (leb 18 n)
    (λ (t : leb 18 n ≡ true). rw (get_or-eq_default words (spelled "no such number") {n = n} (leb-true 18 n t)) (omega arith))
    (λ (t : leb 18 n ≡ false). leb-true _ 50 (every-get_or (λ (xs : List ℕ). leb (length xs) 50) words n (spelled "no such number") refl (leb-false 18 n t)))
