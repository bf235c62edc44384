-- The chain tests the entries 0 to 17, which are the whole table.
use mathlib.Core.Path.{◌≡◌, refl, sym, ◌∙◌}
use mathlib.Core.Bool.{Bool, true, false, false≢true}
use mathlib.Core.List.{List}
use Prim.Native.Nat.{ℕ, ◌<◌}
use native.Mathlib.Omega.{arith}
use borrow.Author.Rules.{rules}
use borrow.Author.Tests.{tests}
use lib.ListN.{length, get_or}
use Rattle.std.specs.Bool.{MatchBool}
use Rattle.std.specs.List.{AllWithin, HoldsAt, range_with_len}
use Rattle.std.proofs.lemmas.Iterator.{cases_from_all, YieldsList-from_range}
use Rattle.std.proofs.lemmas.List.FromFn.{length-range_with_len, get_or-range_with_len}
use Rattle.geometry.specs.Lists.{every}
use Rattle.geometry.proofs.Tests.{either, every-get_or, every-from}
use Rattle.directory.specs.Entries.{entry_at, free_entry, table_of}
use Rattle.directory.specs.declared.Entry.{Entry}
use Rattle.directory.proofs.Table.{length-table}
use Rattle.mounting.specs.Mounting.{count_decodes}
use Rattle.mounting.proofs.all_decode.Goals as goal

abbrev numbers : List ℕ
numbers = range_with_len 0 18

is-number : (i : ℕ) → i < 18 → get_or numbers i 0 ≡ i
is-number i h = omega (arith, get_or-range_with_len 0 18 i 0 h)

all-told : (p : Entry → Bool) (xs : List Entry) (r : Bool) → length xs ≡ 18
    → MatchBool r (AllWithin (λ i. p (entry_at xs i) ≡ true) numbers 0 (length numbers)) ((k : ℕ) × (k < length numbers) × HoldsAt (λ i. p (entry_at xs i) ≡ false) numbers k)
    → r ≡ every p xs
all-told p xs true n h = sym (every-from p xs free_entry (λ i l. rw (is-number i (omega arith)) at (h i 0 (omega arith) (omega (arith, length-range_with_len 0 18)))))
all-told p xs false n (k, l, h) =
    let few : k < 18 = omega (arith, length-range_with_len 0 18) in
    let bad : p (entry_at xs k) ≡ false = rw (is-number k few) at (h 0) in
    either (every p xs) (λ (t : every p xs ≡ true). absurd (false≢true (sym bad ∙ every-get_or p xs k free_entry t (omega arith)))) (λ (f : every p xs ≡ false). sym f)

pub returns : goal.returns
returns c =
    let image = c.args.image.now in
    all-told (count_decodes image) (table_of image) _ (length-table image)
    (cases_from_all _ _ _ (λ i. count_decodes image (entry_at (table_of image) i) ≡ true) (λ i. count_decodes image (entry_at (table_of image) i) ≡ false) c.all.ensures.ran (YieldsList-from_range 0 18 18 refl refl) (λ x q k. search (rules, tests)) (λ x q k. search (rules, tests)))
