-- What a whole session shows: for each of the 18 entries the tape or row of its entry, its open-file state and its extent.
use mathlib.Core.Path.{◌≡◌, sym, ap, ◌∙◌}
use mathlib.Core.Bool.{Bool, true, false}
use mathlib.Core.List.{List, map}
use Prim.Native.Nat.{ℕ, ◌+◌, ◌<◌}
use Rattle.std.specs.Prelude.{Option, None}
use native.Mathlib.Omega.{arith}
use native.Mathlib.Decide.{dec_lt}
use lib.ListN.{length, get_or-eq_default}
use Rattle.geometry.specs.Lists.{numbers_from}
use Rattle.geometry.specs.Sizes.{entries, random}
use Rattle.geometry.proofs.Tests.{either, both_ways}
use Rattle.geometry.proofs.Numbered.{length-numbered, get_d_numbered, many-map, many-alike}
use Rattle.directory.specs.Entries.{entry_at, free_entry, is_free, is_kind, is_marked}
use Rattle.sessions.specs.Session.{at, file_of, open_files, stand, spot_of, extent, legal}
use Rattle.sessions.proofs.Legal.{entry-inside}
use Rattle.sessions.proofs.Distinct.{distinct, free-shut}
use Rattle.sessions.proofs.Counted.{open-count}
use Rattle.steps.proofs.Lawful.{Lawful}
use Rattle.tapes.specs.Model.{Model, nothing, model_at, is_open_model, open_models, model_spot}
use Rattle.serving.proofs.Solo.{shows}
use Rattle.directory.specs.declared.Entry.{Entry}
use Rattle.sessions.specs.declared.OpenFile.{OpenFile}
use Rattle.sessions.specs.declared.Session.{Session}
use Rattle.sessions.specs.declared.Spot.{Spot}

-- what entry i shows
unfoldable pub shows_at : List ℕ → Session → ℕ → Model
shows_at image s i = shows (entry_at s.table i) (file_of s.files i) (extent (entry_at s.table i) image)

unfoldable pub view : List ℕ → Session → List Model
view image s = map (shows_at image s) (numbers_from 0 entries)

-- ---- of one entry

-- where an open file stands
abbrev spot : Bool → ℕ → Bool → Option Spot
spot b p y = elim b [ true ↦ at p y | false ↦ None ]

pub shows-free : (e : Entry) (f : OpenFile) (bytes : List ℕ) → is_free e ≡ true → shows e f bytes ≡ nothing
unfolding shows
shows-free e f bytes u = rw (u, shows)

-- a used entry's bytes alone are looked at
pub shows_same : (e : Entry) (f : OpenFile) (a b : List ℕ) → (is_free e ≡ false → a ≡ b) → shows e f a ≡ shows e f b
shows_same e f a b q =
    either (is_free e) (λ (u : is_free e ≡ true). shows-free e f a u ∙ sym (shows-free e f b u)) (λ (u : is_free e ≡ false). ap (shows e f) (q u))

module _ (e : Entry) (f : OpenFile) (bytes : List ℕ) (shut : is_free e ≡ true → f.used ≡ false) where
  open-shows : is_open_model (shows e f bytes) ≡ f.used
  unfolding shows is_open_model
  open-shows =
      either (is_free e) (λ (u : is_free e ≡ true). rw (u, shows) (sym (shut u)))
      λ (u : is_free e ≡ false). either (is_kind random e) (λ (r : is_kind random e ≡ true). rw (u, r, shows)) (λ (r : is_kind random e ≡ false). rw (u, r, shows))

  -- where a file stands is where its tape stands; a random file stands at 0
  spot-shows : (is_free e ≡ false → Lawful e f) → spot f.used f.position f.beyond ≡ model_spot (shows e f bytes)
  unfolding shows model_spot
  spot-shows w =
      either (is_free e) (λ (u : is_free e ≡ true). rw (u, shows) (ap (λ (b : Bool). spot b f.position f.beyond) (shut u)))
      λ (u : is_free e ≡ false). either (is_kind random e) (λ (r : is_kind random e ≡ true). rw (u, r, shows) (start (w u) r)) (λ (r : is_kind random e ≡ false). rw (u, r, shows))
    where
      start : Lawful e f → is_kind random e ≡ true → spot f.used f.position f.beyond ≡ spot f.used 0 false
      start l r =
          let p : f.position ≡ 0 = omega (arith, l.standing, (l.bare r).0) in
          let b : f.beyond ≡ false = either f.beyond (λ (b : f.beyond ≡ true). both_ways (is_marked e) (l.ahead b).0 (l.bare r).1) (λ b. b) in
          ap (λ (n : ℕ). spot f.used n f.beyond) p ∙ ap (spot f.used 0) b

-- ---- of all

module _ (image : List ℕ) (s : Session) where
  pub length-view : length (view image s) ≡ entries
  unfolding view
  length-view = length-numbered (shows_at image s) 0 entries

  pub view-at : length s.table ≡ entries → (i : ℕ) → model_at (view image s) i ≡ shows_at image s i
  unfolding view shows_at
  view-at many i = go (dec_lt i entries)
    where
      go : Dec (i < entries) → model_at (view image s) i ≡ shows_at image s i
      go (yes h) = let z : 0 + i ≡ i = omega arith in get_d_numbered (shows_at image s) 0 entries i nothing h ∙ ap (shows_at image s) z
      go (no h) =
          get_or-eq_default (view image s) nothing {n = i} (omega (arith, length-view))
          ∙ sym (shows-free (entry_at s.table i) _ _ (ap is_free (get_or-eq_default s.table free_entry {n = i} (omega (arith, many)))))

  module _ (ok : legal image s ≡ true) where
    pub open_at : (i : ℕ) → is_open_model (shows_at image s i) ≡ (file_of s.files i).used
    unfolding shows_at
    open_at i = open-shows (entry_at s.table i) (file_of s.files i) _ (free-shut image s ok i)

    pub open-view : open_files s.files ≡ open_models (view image s)
    unfolding view open_models
    open-view =
        open-count entries s.files (distinct image s ok) (entry-inside image s ok)
        ∙ many-alike _ _ 0 entries (λ i l k. sym (open_at i))
        ∙ sym (many-map is_open_model (shows_at image s) (numbers_from 0 entries))

    pub spot-view : (i : ℕ) → (is_free (entry_at s.table i) ≡ false → Lawful (entry_at s.table i) (file_of s.files i)) → spot_of s i ≡ model_spot (shows_at image s i)
    unfolding spot_of stand shows_at
    spot-view i w = spot-shows (entry_at s.table i) (file_of s.files i) _ (free-shut image s ok i) w
