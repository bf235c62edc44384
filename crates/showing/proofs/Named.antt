-- The first nine bytes of what is typed find what it finds: a name has eight, and more than that is no name, with nine bytes too.
use mathlib.Core.Path.{◌≡◌, refl, sym, ap, ◌∙◌}
use mathlib.Core.Bool.{true, false}
use mathlib.Core.List.{List, []}
use Prim.Native.Nat.{ℕ, ◌≤◌, ◌<◌, min}
use native.Mathlib.Omega.{arith}
use lib.Dec.{leb}
use lib.ListN.{length, take, drop, length-take, take-append-drop}
use lib.Seq.{sets, sets-eq, length-sets, take_all, take_at}
use borrow.Author.Tests.{leb-true, leb-false, ne_eqb}
use Rattle.geometry.specs.Bytes.{part}
use Rattle.geometry.proofs.Bytes.{sets-append}
use Rattle.geometry.proofs.Tests.{either}
use Rattle.directory.specs.Entries.{free_entry, entry_at}
use Rattle.directory.specs.Search.{matches, told, find}
use Rattle.directory.specs.declared.Entry.{Entry}
use Rattle.std.specs.Prelude.{None}
use Rattle.directory.proofs.Find.{found_none}
use Rattle.storing.specs.Stored.{has_buffers, is_session, lent_session}
use Rattle.telling.specs.Told.{found}
use Rattle.texts.specs.Texts.{Wrote}
use Rattle.texts.proofs.Writing.{ends_at, sets-out}

-- ---- the front of what was put

-- as much as there is room for
pub put_front : (o xs : List ℕ) → take (min (length xs) (length o)) (sets o 0 xs) ≡ take (length o) xs
put_front o xs =
    either (leb (length xs) (length o))
    (λ t.
    let h : length xs ≤ length o = leb-true (length xs) (length o) t in
    let m : min (length xs) (length o) ≡ length xs = omega arith in
    rw (m, sets-eq xs o 0 (omega arith)) (take_at xs _ (length xs) refl) ∙ sym (take_all (length o) xs h))
    (λ t.
    let h : length o < length xs = leb-false (length xs) (length o) t in
    let m : min (length xs) (length o) ≡ length o = omega arith in
    let l : length (take (length o) xs) ≡ length o = length-take (length o) xs ∙ omega arith in
    let cut : sets o 0 xs ≡ sets o 0 (take (length o) xs) =
    ap (sets o 0) (sym (take-append-drop (length o) xs)) ∙ sets-append (take (length o) xs) (drop (length o) xs) o 0
    ∙ sets-out (drop (length o) xs) (sets o 0 (take (length o) xs)) _ (omega (arith, length-sets o 0 (take (length o) xs))) in
    rw (m, cut, sets-eq (take (length o) xs) o 0 (omega arith)) (take_at (take (length o) xs) _ (length o) l))

pub put-part : (o xs new : List ℕ) (n : ℕ) → Wrote o 0 xs new n → part new 0 n ≡ take (length o) xs
unfolding part
put-part o xs new n w = rw (w.puts, ends_at w) (put_front o xs)

-- ---- nine bytes are enough

module _ (table : List Entry) where
  none : (name : List ℕ) → 8 < length name → find table name ≡ told None
  none name h = found_none table name free_entry (λ j l. no (entry_at table j))
    where
      no : (e : Entry) → matches name e ≡ false
      no e = unfold matches in rw (ne_eqb (length name) 8 (λ (q : length name ≡ 8). absurd (omega arith)))

  nine : (name : List ℕ) → find table (take 9 name) ≡ find table name
  nine name =
      either (leb (length name) 9) (λ t. ap (find table) (take_all 9 name (leb-true (length name) 9 t)))
      (λ t. let h : 9 < length name = leb-false (length name) 9 t in none (take 9 name) (omega (arith, length-take 9 name)) ∙ sym (none name (omega arith)))

pub nine-found : (b name : List ℕ) → found b (take 9 name) ≡ found b name
unfolding found
nine-found b name = ap (λ (r : ℕ × List ℕ). elim (is_session (has_buffers b) b) as (λ _. ℕ × List ℕ) [ true ↦ r | false ↦ (12, []) ]) (nine (lent_session b).table name)
