-- What a session is stored in are bytes: numbers by their last 256, truth values by being 0 or 1, and the rest by type.
use mathlib.Core.Path.{◌≡◌, refl}
use mathlib.Core.Bool.{Bool, true, false}
use mathlib.Core.List.{List, [], ◌∷◌, ◌++◌}
use Prim.Native.Nat.{ℕ, zero, suc, ◌/◌, ◌%◌}
use native.Mathlib.Omega.{arith}
use lib.Dec.{eqb}
use lib.ListN.{length}
use borrow.Author.Tests.{lt-ltb}
use Rattle.geometry.specs.Bytes.{is_byte}
use Rattle.geometry.specs.Lists.{every}
use Rattle.geometry.specs.Sizes.{sector}
use Rattle.geometry.proofs.Tests.{and_left, and_right, and_both, all_get_d}
use Rattle.geometry.specs.declared.Place.{Place}
use Rattle.sessions.specs.declared.BufferedFile.{BufferedFile}
use Rattle.sessions.specs.declared.OpenFile.{OpenFile}
use Rattle.sessions.specs.declared.Saying.{Saying}
use Rattle.storing.specs.Fits.{are_bytes, held_fits}
use Rattle.storing.specs.Numbers.{bytes_of, flag_of}
use Rattle.tables.specs.Rows.{row_of}
use Rattle.storing.specs.Stored.{place_stored, file_stored, hold_stored, held_stored, state_stored, saying_stored}
use Rattle.storing.proofs.Back.{state_fits}

pub every_append : {A : Type 0} (p : A → Bool) (xs ys : List A) → every p xs ≡ true → every p ys ≡ true → every p (xs ++ ys) ≡ true
unfolding every
every_append p [] ys h k = k
every_append p (x ∷ xs) ys h k = and_both (p x) (every p (xs ++ ys)) (and_left (p x) (every p xs) h) (every_append p xs ys (and_right (p x) (every p xs) h) k)

pub row-bytes : {A : Type 0} (f : A → List ℕ) (p : A → Bool) → ((x : A) → p x ≡ true → every is_byte (f x) ≡ true)
    → (xs : List A) → every p xs ≡ true → every is_byte (row_of f xs) ≡ true
unfolding row_of every
row-bytes f p bytes [] h = refl
row-bytes f p bytes (x ∷ xs) h =
    every_append is_byte (f x) (row_of f xs) (bytes x (and_left (p x) (every p xs) h)) (row-bytes f p bytes xs (and_right (p x) (every p xs) h))

number-bytes : (n x : ℕ) → every is_byte (bytes_of n x) ≡ true
unfolding bytes_of every
number-bytes zero x = refl
number-bytes (suc n) x = and_both (is_byte (x % 256)) _ (lt-ltb (x % 256) 256 (omega arith)) (number-bytes n (x / 256))

flag-bytes : (u : Bool) (r : List ℕ) → every is_byte r ≡ true → every is_byte (flag_of u ∷ r) ≡ true
unfolding flag_of every
flag-bytes true r h = h
flag-bytes false r h = h

no_bytes : every is_byte [] ≡ true
unfolding every
no_bytes = refl

pub array-bytes : (n : ℕ) (x : List ℕ) → are_bytes n x ≡ true → every is_byte x ≡ true
unfolding are_bytes
array-bytes n x h = and_right (eqb (length x) n) (every is_byte x) h

-- numbers, then bytes
then : (n x : ℕ) (r : List ℕ) → every is_byte r ≡ true → every is_byte (bytes_of n x ++ r) ≡ true
then n x r h = every_append is_byte (bytes_of n x) r (number-bytes n x) h

place-bytes : (p : Place) → every is_byte (place_stored p) ≡ true
unfolding place_stored
place-bytes p = then 4 p.sector _ (number-bytes 4 p.byte)

pub file-bytes : (f : OpenFile) → every is_byte (file_stored f) ≡ true
unfolding file_stored
file-bytes f =
    flag-bytes f.used _ (then 8 f.entry _ (then 4 f.position _ (flag-bytes f.beyond _ (every_append is_byte (place_stored f.here) _ (place-bytes f.here) (place-bytes f.end)))))

pub held_bytes : (f : BufferedFile) → held_fits f ≡ true → every is_byte (held_stored f) ≡ true
unfolding held_stored hold_stored held_fits
held_bytes f h =
    every_append is_byte (file_stored f.file) _ (file-bytes f.file)
    (flag-bytes f.holds _ (every_append is_byte (bytes_of 4 f.held ++ (flag_of f.changed ∷ [])) f.buffer (then 4 f.held _ (flag-bytes f.changed [] no_bytes)) (array-bytes sector f.buffer (all_get_d _ 2 h))))

pub state-bytes : (u : Bool) (f : BufferedFile) → state_fits u f ≡ true → every is_byte (state_stored u f) ≡ true
unfolding state_stored state_fits
state-bytes true f h = held_bytes f h
state-bytes false f h = file-bytes f.file

pub saying-bytes : (s : Saying) → every is_byte (saying_stored s) ≡ true
unfolding saying_stored
saying-bytes s = flag-bytes s.refused [] no_bytes
