-- A compressed file's count records decode where walking over them leads to a place behind them; any other file has none to decode.
use mathlib.Core.Path.{◌≡◌, sym, ◌∙◌}
use mathlib.Core.Bool.{true}
use mathlib.Core.List.{List}
use Prim.Native.Nat.{ℕ}
use borrow.Author.Tests.{eq-eqb, ne_eqb}
use Rattle.std.specs.Result.{is_ok}
use Rattle.geometry.specs.Places.{origin}
use Rattle.geometry.specs.Sizes.{compressed}
use Rattle.packing.specs.Reading.{decodes, walked_to}
use Rattle.packing.proofs.Walks.{ok-decodes}
use Rattle.sessions.specs.Session.{extent}
use Rattle.mounting.specs.Mounting.{counted_walk, count_decodes}
use Rattle.directory.specs.declared.Entry.{Entry}

module _ (image : List ℕ) (e : Entry) where
  pub none-counted : ¬ (e.kind ≡ compressed) → count_decodes image e ≡ true
  unfolding count_decodes
  none-counted k = rw (ne_eqb e.kind compressed k)

  -- the bytes of the extent lead to a place
  module _ (k : e.kind ≡ compressed) (bytes : List ℕ) (is : bytes ≡ extent e image) where
    tested : count_decodes image e ≡ decodes (counted_walk e bytes)
    unfolding count_decodes
    tested = rw (eq-eqb e.kind compressed k, is)

    pub counted-ok : is_ok (walked_to origin (counted_walk e bytes)) ≡ count_decodes image e
    counted-ok = ok-decodes origin (counted_walk e bytes) ∙ sym tested
