-- The listing's texts piece by piece: a name's next letter, the next entry's line. Each is its definition's own equation.
use mathlib.Core.Path.{◌≡◌, refl, sym, ap, ◌∙◌}
use mathlib.Core.Logic.{◌≢◌}
use mathlib.Core.Bool.{Bool, true, false}
use mathlib.Core.List.{List, [], ◌∷◌, ◌++◌, map, append-nil}
use Prim.Native.Nat.{ℕ, ◌<◌, ◌≤◌, ◌+◌}
use native.Mathlib.Numerals.{add-one}
use native.Mathlib.Omega.{arith}
use native.Mathlib.Numerals.{one-add}
use Rattle.std.specs.Prelude.{Option, Some, None, unwrap_or, cond}
use Rattle.std.specs.List.{position, position_or_len}
use Rattle.geometry.proofs.Tests.{either}
use lib.Dec.{eqb, ltb}
use lib.ListN.{length, take, drop, get_or, drop_of_length-le}
use lib.Seq.{drop-cons, take_all}
use borrow.Author.Tests.{eq-eqb, ne_eqb, ltb-false}
use Rattle.geometry.specs.Sizes.{blank, free}
use Rattle.characters.specs.Characters.{ascii_of}
use Rattle.directory.specs.declared.Entry.{Entry}
use Rattle.directory.specs.Entries.{table_of, is_free}
use Rattle.listing.specs.Listing.{header, bad_image, name_text, line, lines_from, lists, listing}

-- ---- names

-- up to the first blank
to-blank : (x : List ℕ) → name_text x ≡ map ascii_of (take (position_or_len (λ c. eqb c blank) x) x)
unfolding name_text
to-blank [] = refl
to-blank (c ∷ x) =
    either (eqb c blank)
    (λ t. rw (t, name_text) refl)
    (λ f. rw (f, name_text, one-add, to-blank x) refl)

pub name-is : (o : Option ℕ) (n : ℕ) (x : List ℕ) → o ≡ position (λ c. eqb c blank) x → n ≡ unwrap_or o (length x) → map ascii_of (take n x) ≡ name_text x
name-is o n x = go o (ltb m (length x)) refl
  where
    m : ℕ
    m = position_or_len (λ c. eqb c blank) x

    go : (o : Option ℕ) (b : Bool) → b ≡ ltb m (length x) → o ≡ cond b (Some m) None → n ≡ unwrap_or o (length x) → map ascii_of (take n x) ≡ name_text x
    go None true q e h = absurd cc
    go None false q e h = ap (map ascii_of) (take_all n x (omega arith) ∙ sym (take_all m x (ltb-false m (length x) (sym q)))) ∙ sym (to-blank x)
    go (Some k) true q e h = let f : n ≡ m = cc in ap (λ i. map ascii_of (take i x)) f ∙ sym (to-blank x)
    go (Some k) false q e h = absurd cc

-- ---- lines

pub free-line : (i : ℕ) (e : Entry) → e.kind ≡ free → lines_from i (e ∷ []) ≡ []
unfolding lines_from
free-line i e f = rw (lines_from, eq-eqb e.kind free f)

pub used-line : (i : ℕ) (e : Entry) → e.kind ≢ free → lines_from i (e ∷ []) ≡ line i e
unfolding lines_from
used-line i e n = rw (lines_from, ne_eqb e.kind free n) (append-nil (line i e))

-- one entry's line, if it is used, and what stands behind it
either-line : (b : Bool) (l m : List ℕ) → elim b [ true ↦ m | false ↦ l ++ m ] ≡ elim b [ true ↦ [] | false ↦ l ++ [] ] ++ m
either-line true l m = refl
either-line false l m = rw (append-nil l)

pub lines_more : (t : List Entry) (i : ℕ) (d : Entry) → i < length t → lines_from i (drop i t) ≡ lines_from i (get_or t i d ∷ []) ++ lines_from (i + 1) (drop (i + 1) t)
unfolding lines_from
lines_more t i d h = rw (drop-cons t i d h, ← add-one i) (either-line (is_free (get_or t i d)) (line i (get_or t i d)) (lines_from (i + 1) (drop (i + 1) t)))

pub lines_end : (t : List Entry) (i : ℕ) → length t ≤ i → lines_from i (drop i t) ≡ []
unfolding lines_from
lines_end t i h = rw (drop_of_length-le t {i = i} h)

-- ---- the listing

pub good-listing : (image : List ℕ) → lists image ≡ true → listing image ≡ header ++ lines_from 0 (table_of image)
unfolding listing
good-listing image g = rw (listing, g)

pub bad-listing : (image : List ℕ) → lists image ≡ false → listing image ≡ bad_image
unfolding listing
bad-listing image b = rw (listing, b)
