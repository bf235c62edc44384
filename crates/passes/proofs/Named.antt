-- The file that an image shows under a name is that of the entry which a search for the name finds: both take the first, and a name in a directory has 8 bytes.
use mathlib.Core.Path.{◌≡◌, refl, sym, ap, ◌∙◌}
use mathlib.Core.Bool.{Bool, true, false, ◌&&◌, not, and-false}
use mathlib.Core.List.{List, [], ◌∷◌, map}
use Prim.Native.Nat.{ℕ, suc, ◌≤◌, ◌<◌}
use lib.Dec.{eqb}
use lib.ListN.{length}
use borrow.Author.Tests.{eqb-false, not-true, lt-ltb, le-ltb}
use Rattle.geometry.specs.Lists.{first_with, same}
use Rattle.geometry.specs.Sizes.{random}
use Rattle.geometry.proofs.Tests.{either, and_left, and_right, first_alike, first_holds, same-lengths}
use Rattle.directory.specs.Entries.{table_of, free_entry, entry_at, is_free, is_kind, is_marked}
use Rattle.directory.specs.Search.{matches, find}
use Rattle.directory.specs.declared.Entry.{Entry}
use Rattle.directory.proofs.Table.{table-name}
use Rattle.sessions.specs.Session.{extent}
use Rattle.tapes.specs.Row.{row_of}
use Rattle.tapes.specs.Tape.{tape_of}
use Rattle.tapes.specs.Model.{nothing, tape, row, shape_of, model_of, models_of, model_at}
use Rattle.tapes.specs.Edits.{of_shape, model_named}
use Rattle.serving.proofs.Mounted.{model-at}
use Rattle.passes.specs.Pass.{named}

-- ---- what an entry shows

module _ (image : List ℕ) (e : Entry) where
  pub shows_nothing : is_free e ≡ true → model_of image e ≡ nothing
  unfolding model_of
  shows_nothing u = rw (u, model_of)

  module _ (u : is_free e ≡ false) where
    pub shows-row : is_kind random e ≡ true → model_of image e ≡ row (row_of (shape_of e) (extent e image))
    unfolding model_of
    shows-row r = rw (u, r, model_of)

    pub shows-tape : is_kind random e ≡ false → model_of image e ≡ tape (tape_of (shape_of e) (is_marked e) e.count (extent e image))
    unfolding model_of
    shows-tape r = rw (u, r, model_of)

-- ---- its name

module _ (image name : List ℕ) (e : Entry) where
  named-used : is_free e ≡ false → model_named name (model_of image e) ≡ same e.name name
  unfolding model_named of_shape row_of tape_of shape_of
  named-used u = either (is_kind random e)
      (λ (r : is_kind random e ≡ true). rw (shows-row image e u r))
      (λ (r : is_kind random e ≡ false). rw (shows-tape image e u r))

  -- a name of another length is no entry's
  long_same : length e.name ≡ 8 → eqb (length name) 8 && same e.name name ≡ same e.name name
  long_same l = either (eqb (length name) 8) (λ (h : eqb (length name) 8 ≡ true). rw h)
      (λ (h : eqb (length name) 8 ≡ false).
      rw (h, same-lengths e.name name (λ (q : length e.name ≡ length name). eqb-false (length name) 8 h (sym q ∙ l))))

  named-same : length e.name ≡ 8 → model_named name (model_of image e) ≡ matches name e
  unfolding matches
  named-same l = either (is_free e)
      (λ (u : is_free e ≡ true). ap (model_named name) (shows_nothing image e u) ∙ sym (free-none u))
      (λ (u : is_free e ≡ false). named-used u ∙ sym (long_same l) ∙ rw u)
    where
      free-none : is_free e ≡ true → matches name e ≡ model_named name nothing
      free-none u = unfold model_named of_shape in rw u (and-false (eqb (length name) 8))

-- ---- the first of that name

first-map : {A B : Type 0} (p : B → Bool) (f : A → B) (xs : List A) → first_with p (map f xs) ≡ first_with (λ x. p (f x)) xs
unfolding first_with
first-map p f [] = refl
first-map p f (x ∷ xs) = ap (λ (n : ℕ). elim (p (f x)) [ true ↦ 0 | false ↦ suc n ]) (first-map p f xs)

module _ (image name : List ℕ) where
  -- its number
  abbrev pub spot : ℕ
  spot = first_with (matches name) (table_of image)

  pub named-is : named (models_of image) name ≡ model_of image (entry_at (table_of image) spot)
  unfolding named models_of
  named-is =
      ap (model_at (models_of image))
      (first-map (model_named name) (model_of image) (table_of image)
      ∙ first_alike (λ e. model_named name (model_of image e)) (matches name) (table_of image) free_entry
      (λ i l. named-same image name (entry_at (table_of image) i) (table-name image i)))
      ∙ model-at image spot

  pub found-spot : spot < length (table_of image) → find (table_of image) name ≡ (0, spot ∷ [])
  unfolding find
  found-spot h = rw (lt-ltb spot (length (table_of image)) h, find)

  pub found_nothing : length (table_of image) ≤ spot → find (table_of image) name ≡ (8, [])
  unfolding find
  found_nothing h = rw (le-ltb spot (length (table_of image)) h, find)

  pub spot-used : spot < length (table_of image) → is_free (entry_at (table_of image) spot) ≡ false
  unfolding matches
  spot-used h =
      let e : Entry = entry_at (table_of image) spot in
      let m : matches name e ≡ true = first_holds (matches name) (table_of image) free_entry h in
      not-true (is_free e) (and_left (not (is_free e)) (same e.name name) (and_right (eqb (length name) 8) _ m))
