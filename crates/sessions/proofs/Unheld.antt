-- A plain session as a buffered one: nothing is held, so it is legal exactly if the plain one is.
use mathlib.Core.Path.{◌≡◌, refl, ap, ◌∙◌}
use mathlib.Core.Bool.{true, and-true, and-false}
use mathlib.Core.List.{List, [], ◌∷◌, map}
use Prim.Native.Nat.{ℕ}
use lib.ListN.{length, get_or, length-map, get_or-map}
use lib.Dec.{eqb}
use borrow.Author.Tests.{eq-eqb}
use Rattle.geometry.specs.Lists.{every}
use Rattle.geometry.specs.Sizes.{sector, entries, most_open}
use Rattle.geometry.proofs.Tests.{and_both}
use Rattle.sessions.specs.Session.{idle, fresh, bare, unheld, held_good, legal, buffered_legal, typed}
use Rattle.directory.specs.declared.Entry.{Entry}
use Rattle.sessions.specs.declared.OpenFile.{OpenFile}
use Rattle.sessions.specs.declared.Session.{Session}

bare-fresh : (files : List OpenFile) → map (λ b. b.file) (map fresh files) ≡ files
bare-fresh [] = refl
bare-fresh (f ∷ files) = ap (λ (fs : List OpenFile). f ∷ fs) (bare-fresh files)

pub bare-unheld : (s : Session) → bare (unheld s) ≡ s
unfolding bare unheld
bare-unheld s = ap (λ (fs : List OpenFile). record { says = s.says; table = s.table; files = fs }) (bare-fresh s.files)

-- each of its states is fresh
pub unheld-at : (s : Session) (k : ℕ) → get_or (unheld s).files k (fresh idle) ≡ fresh (get_or s.files k idle)
unfolding unheld
unheld-at s k = get_or-map fresh s.files k idle

fresh-held : (table : List Entry) (files : List OpenFile) → every (held_good table) (map fresh files) ≡ true
unfolding every held_good
fresh-held table [] = refl
fresh-held table (f ∷ files) = rw (and-false f.used) (fresh-held table files)

pub unheld-legal : (image : List ℕ) (s : Session) → buffered_legal image (unheld s) ≡ legal image s
unfolding buffered_legal unheld
unheld-legal image s = rw (bare-unheld s, fresh-held s.table s.files) (and-true (legal image s))

fresh-whole : (files : List OpenFile) → every (λ b. eqb (length b.buffer) sector) (map fresh files) ≡ true
unfolding every
fresh-whole [] = refl
fresh-whole (f ∷ files) = fresh-whole files

pub unheld-typed : (s : Session) → length s.table ≡ entries → every (λ e. eqb (length e.name) 8) s.table ≡ true → length s.files ≡ most_open → typed (unheld s) ≡ true
unfolding typed unheld
unheld-typed s t n f =
    and_both _ _ (eq-eqb (length s.table) entries t) (and_both _ _ n (and_both _ _ (eq-eqb (length (map fresh s.files)) most_open (length-map s.files fresh ∙ f)) (fresh-whole s.files)))
