-- What a request moved, by its number and its code: one answered 0 what stands in the table at its code, any other nothing.
use mathlib.Core.Path.{◌≡◌, refl, sym, ap, ◌∙◌}
use mathlib.Core.Logic.{◌≢◌}
use mathlib.Core.List.{List, []}
use Prim.Native.Nat.{ℕ, zero, suc}
use lib.ListN.{get_or}
use borrow.Author.Tests.{eq-eqb, ne_eqb}
use Rattle.std.specs.Prelude.{Option, Some, None}
use Rattle.geometry.specs.Bytes.{part}
use Rattle.directory.specs.Entries.{entry_at, table_of}
use Rattle.looking.specs.Looking.{look_in}
use Rattle.asking.specs.Requested.{Left}
use Rattle.requests.specs.Codes.{codes, asked_for}
use Rattle.requests.specs.declared.Request.{Request}
use Rattle.requests.specs.declared.Request.TheVariants.{Open, Read, Write, GranuleRead, GranuleWrite, GranuleLook, Position}
use Rattle.scripts.specs.Sums.{words_of, total, sum_of}
use Rattle.summing.specs.Moved.{moved_by, moved}
use Rattle.scripts.specs.declared.Row.{Row}

pub no_words : 0 ≡ sum_of (words_of [])
unfolding words_of total sum_of
no_words = refl

-- what a request moves
module _ (read given : List ℕ) (shown : ℕ → List ℕ) where
  abbrev pub of_request : Option Request → List ℕ
  of_request (Some Read) = read
  of_request (Some (GranuleRead g)) = read
  of_request (Some Write) = given
  of_request (Some (GranuleWrite g)) = given
  of_request (Some (GranuleLook g)) = shown g
  of_request (Some Open) = []
  of_request (Some (Position o)) = []
  of_request None = []

module _ (row : Row) (given : List ℕ) (a : Left) where
  pub refused : a.number ≢ 0 → moved row given a ≡ []
  unfolding moved
  refused h = rw (moved, ne_eqb a.number 0 h)

  abbrev pub by_request : Option Request → List ℕ
  by_request = of_request (part a.buffer 0 (entry_at (table_of a.image) row.entry).length) given (look_in a.image a.session row.entry)

  -- the table of codes and that of what they move stand beside each other
  by-code : (k : ℕ) → get_or (moved_by row given a) k [] ≡ by_request (asked_for k row.granule)
  unfolding moved_by asked_for codes
  by-code zero = refl
  by-code (suc zero) = refl
  by-code (suc (suc zero)) = refl
  by-code (suc (suc (suc zero))) = refl
  by-code (suc (suc (suc (suc zero)))) = refl
  by-code (suc (suc (suc (suc (suc zero))))) = refl
  by-code (suc (suc (suc (suc (suc (suc zero)))))) = refl
  by-code (suc (suc (suc (suc (suc (suc (suc zero))))))) = refl
  by-code (suc (suc (suc (suc (suc (suc (suc (suc zero)))))))) = refl
  by-code (suc (suc (suc (suc (suc (suc (suc (suc (suc zero))))))))) = refl
  by-code (suc (suc (suc (suc (suc (suc (suc (suc (suc (suc zero)))))))))) = refl
  by-code (suc (suc (suc (suc (suc (suc (suc (suc (suc (suc (suc zero))))))))))) = refl
  by-code (suc (suc (suc (suc (suc (suc (suc (suc (suc (suc (suc (suc zero)))))))))))) = refl
  by-code (suc (suc (suc (suc (suc (suc (suc (suc (suc (suc (suc (suc (suc zero))))))))))))) = refl
  by-code (suc (suc (suc (suc (suc (suc (suc (suc (suc (suc (suc (suc (suc (suc k)))))))))))))) = refl

  pub moves : a.number ≡ 0 → (q : Option Request) → q ≡ asked_for row.code row.granule → moved row given a ≡ by_request q
  unfolding moved
  moves done q e = rw (moved, eq-eqb a.number 0 done) (by-code row.code) ∙ ap by_request (sym e)

  pub summed : a.number ≡ 0 → (q : Option Request) → q ≡ asked_for row.code row.granule → sum_of (words_of (by_request q)) ≡ sum_of (words_of (moved row given a))
  summed done q e = ap (λ (xs : List ℕ). sum_of (words_of xs)) (sym (moves done q e))
