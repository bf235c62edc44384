-- A run of the calls prints the pass listing: the first call stops it with 11, 8 or 7 where the listing is only that line, and else opens the file of that
-- name at its first record, from which the calls for the next line print its records.
use mathlib.Core.Path.{◌≡◌, sym, ap, ◌∙◌}
use mathlib.Core.Bool.{Bool, true, false}
use mathlib.Core.List.{List, [], ◌∷◌, append-nil}
use Prim.Native.Nat.{ℕ, suc, ◌≤◌, ◌<◌}
use native.Mathlib.Omega.{arith}
use native.Mathlib.Decide.{dec_lt}
use lib.ListN.{length, get_or-eq_default}
use Rattle.geometry.specs.Sizes.{random, most_records}
use Rattle.geometry.proofs.Tests.{either, and_left, and_right}
use Rattle.directory.specs.Entries.{table_of, free_entry, entry_at, is_free, is_kind}
use Rattle.directory.specs.Search.{find}
use Rattle.directory.specs.declared.Entry.{Entry}
use Rattle.mounting.specs.Mounting.{mounts}
use Rattle.requests.specs.declared.Answer.TheVariants.{Done}
use Rattle.steps.specs.Step.{After}
use Rattle.storing.specs.Stored.{size_of}
use Rattle.tapes.specs.Model.{model_of}
use Rattle.demands.specs.Engine.{are_bytes}
use Rattle.listing.specs.Listing.{is_short, lists}
use Rattle.typing.specs.Typing.{name_of}
use Rattle.showing.specs.Lines.{answer_line, printed_first}
use Rattle.showing.specs.Showing.{begun, opened_as, tells}
use Rattle.passes.specs.Pass.{pass_of, pass_listing}
use Rattle.passes.specs.Printed.{goes_on, lines_by, printed_by, longest_line, PassListing}
use Rattle.passes.proofs.Begun.{begun-bad, begun-unknown, begun-random, begun_opened}
use Rattle.passes.proofs.Named.{spot, shows_nothing, shows-row, shows-tape, named-is, found-spot, found_nothing, spot-used}
use Rattle.passes.proofs.Opened.{opened, open-call, open_done, opened-lines}
use Rattle.passes.proofs.Rooms.{text-whole, text-none, answer-most}
use Rattle.passes.proofs.Stays.{listing-leaves}

-- ---- what is printed, by what the first call comes to

module _ (k : ℕ) (image b typed out : List ℕ) where
  -- a number that stops the listing prints only its line
  stops : (n : ℕ) → (begun image b typed).number ≡ suc n → length (answer_line (suc n)) ≤ length out → printed_by k image b typed out ≡ answer_line (suc n)
  unfolding printed_by printed_first goes_on
  stops n e h = rw (e, text-whole out (answer_line (suc n)) h) (append-nil (answer_line (suc n)))

  -- a file that is opened prints its lines
  begins : (i R : ℕ) (w : After (List ℕ)) → begun image b typed ≡ opened_as i R w → w.answer ≡ Done
      → printed_by k image b typed out ≡ lines_by k w.image w.session i R out
  unfolding printed_by printed_first goes_on tells
  begins i R w e d = rw (e, d, text-none out)

-- ---- the listing

module _ (u : Bool) (image b typed out : List ℕ) (k : ℕ) (l : length b ≡ size_of u) (bytes : are_bytes image ≡ true)
    (room : longest_line ≤ length out) (many : most_records < k) where
  bad : lists image ≡ false → printed_by k image b typed out ≡ pass_listing image typed
  unfolding pass_listing
  bad h = stops k image b typed out 10 (begun-bad u image b l typed h) (omega (arith, answer-most 11)) ∙ rw (h, pass_listing)

  module _ (h : lists image ≡ true) where
    short : is_short image ≡ true
    short = and_left (is_short image) (mounts image) h

    ok : mounts image ≡ true
    ok = and_right (is_short image) (mounts image) h

    abbrev i : ℕ
    i = spot image (name_of typed)

    abbrev e : Entry
    e = entry_at (table_of image) i

    listing-is : pass_listing image typed ≡ pass_of (model_of image e)
    unfolding pass_listing
    listing-is = rw (h, pass_listing) (ap pass_of (named-is image (name_of typed)))

    unknown : length (table_of image) ≤ i → printed_by k image b typed out ≡ pass_listing image typed
    unfolding pass_of
    unknown n =
        let f : e ≡ free_entry = get_or-eq_default (table_of image) free_entry {n = i} n in
        stops k image b typed out 7 (begun-unknown u image b l typed short ok (found_nothing image (name_of typed) n)) (omega (arith, answer-most 8))
        ∙ sym (listing-is ∙ ap pass_of (shows_nothing image e (ap is_free f)))

    known : i < length (table_of image) → printed_by k image b typed out ≡ pass_listing image typed
    unfolding pass_of
    known n = either (is_kind random e)
        (λ (r : is_kind random e ≡ true).
        stops k image b typed out 6 (begun-random u image b l typed short ok i found used r) (omega (arith, answer-most 7))
        ∙ sym (listing-is ∙ ap pass_of (shows-row image e used r)))
        (λ (r : is_kind random e ≡ false).
        begins k image b typed out i e.length (opened u image i)
        (begun_opened u image b l typed short ok i found used r ∙ ap (opened_as i e.length) (open-call u image ok bytes i used r))
        (open_done u image ok bytes i used r)
        ∙ opened-lines u image ok bytes i used r k out room many
        ∙ sym (listing-is ∙ ap pass_of (shows-tape image e used r)))
      where
        found : find (table_of image) (name_of typed) ≡ (0, i ∷ [])
        found = found-spot image (name_of typed) n

        used : is_free e ≡ false
        used = spot-used image (name_of typed) n

    good : printed_by k image b typed out ≡ pass_listing image typed
    good = go (dec_lt i (length (table_of image)))
      where
        go : Dec (i < length (table_of image)) → printed_by k image b typed out ≡ pass_listing image typed
        go (yes n) = known n
        go (no n) = unknown (omega arith)

  prints : printed_by k image b typed out ≡ pass_listing image typed
  prints = either (lists image) good bad

pub pass-listing : PassListing
pass-listing = record { prints = prints; stays = λ u image b typed out k l bytes. listing-leaves u image bytes b l typed out k }
