-- The entry of a file in a good table fits its bytes: the characters of a name are bytes, and kind, length, extent, count and flags are small.
use mathlib.Core.Path.{◌≡◌, refl}
use mathlib.Core.Bool.{Bool, true, ◌&&◌, ◌||◌}
use mathlib.Core.List.{List, [], ◌∷◌}
use Prim.Native.Nat.{ℕ, ◌≤◌, ◌<◌, ◌^◌}
use native.Mathlib.Omega.{arith}
use lib.Dec.{eqb, leb}
use lib.ListN.{length}
use borrow.Author.Tests.{lt-ltb, leb-true, eqb-true, eq-eqb}
use Rattle.geometry.specs.Bytes.{is_byte}
use Rattle.geometry.specs.Lists.{all, every}
use Rattle.geometry.specs.Sizes.{blank, most_sectors}
use Rattle.geometry.proofs.Tests.{and_left, and_right, and_both, or-either}
use Rattle.names.specs.Names.{capital, digit, rest_of_name, is_name}
use Rattle.directory.proofs.Good.{Lies}
use Rattle.steps.proofs.Edited.{longest-most}
use Rattle.storing.specs.Fits.{fits, are_bytes, entry_fits}
use Rattle.directory.specs.declared.Entry.{Entry}

-- ---- bytes

pub every-weaker : {A : Type 0} (p q : A → Bool) → ((x : A) → p x ≡ true → q x ≡ true) → (xs : List A) → every p xs ≡ true → every q xs ≡ true
unfolding every
every-weaker p q w [] h = refl
every-weaker p q w (x ∷ xs) h = and_both (q x) (every q xs) (w x (and_left (p x) (every p xs) h)) (every-weaker p q w xs (and_right (p x) (every p xs) h))

up_to : (a n c : ℕ) → n < 256 → leb a c && leb c n ≡ true → is_byte c ≡ true
up_to a n c l h = lt-ltb c 256 (omega (arith, leb-true c n (and_right (leb a c) (leb c n) h)))

capital-byte : (c : ℕ) → capital c ≡ true → is_byte c ≡ true
unfolding capital
capital-byte c h =
    or-either (leb 0xC1 c && leb c 0xC9) ((leb 0xD1 c && leb c 0xD9) || (leb 0xE2 c && leb c 0xE9)) h (up_to 0xC1 0xC9 c (omega arith))
    λ k. or-either (leb 0xD1 c && leb c 0xD9) (leb 0xE2 c && leb c 0xE9) k (up_to 0xD1 0xD9 c (omega arith)) (up_to 0xE2 0xE9 c (omega arith))

digit-byte : (c : ℕ) → digit c ≡ true → is_byte c ≡ true
unfolding digit
digit-byte c h = up_to 0xF0 0xF9 c (omega arith) h

pub same_byte : (n : ℕ) → n < 256 → (c : ℕ) → eqb c n ≡ true → is_byte c ≡ true
same_byte n l c h = lt-ltb c 256 (omega (arith, eqb-true c n h))

rest-bytes : (cs : List ℕ) → rest_of_name cs ≡ true → every is_byte cs ≡ true
unfolding rest_of_name every
rest-bytes [] h = refl
rest-bytes (c ∷ cs) h =
    or-either ((capital c || digit c) && rest_of_name cs) (every (λ b. eqb b blank) (c ∷ cs)) h
    (λ k. and_both (is_byte c) (every is_byte cs)
    (or-either (capital c) (digit c) (and_left (capital c || digit c) (rest_of_name cs) k) (capital-byte c) (digit-byte c))
    (rest-bytes cs (and_right (capital c || digit c) (rest_of_name cs) k)))
    (λ k. every-weaker (λ b. eqb b blank) is_byte (same_byte blank (omega arith)) (c ∷ cs) k)

name-bytes : (cs : List ℕ) → is_name cs ≡ true → every is_byte cs ≡ true
unfolding is_name every
name-bytes [] h = refl
name-bytes (c ∷ cs) h = and_both (is_byte c) (every is_byte cs) (capital-byte c (and_left (capital c) (rest_of_name cs) h)) (rest-bytes cs (and_right (capital c) (rest_of_name cs) h))

pub are-bytes : (n : ℕ) (xs : List ℕ) → length xs ≡ n → every is_byte xs ≡ true → are_bytes n xs ≡ true
unfolding are_bytes
are-bytes n xs l h = and_both _ _ (eq-eqb (length xs) n l) h

-- ---- an entry

pub used-fits : (N : ℕ) (e : Entry) → N ≤ most_sectors → length e.name ≡ 8 → Lies N e → entry_fits e ≡ true
unfolding entry_fits all are_bytes fits
used-fits N e few eight l =
    rw (
      eq-eqb (length e.name) 8 eight,
      name-bytes e.name l.named,
      lt-ltb e.kind (256 ^ 2) (omega (arith, l.known)),
      lt-ltb e.length (256 ^ 2) (omega (arith, l.most, longest-most e.kind)),
      lt-ltb e.first (256 ^ 2) (omega (arith, l.ends)),
      lt-ltb e.sectors (256 ^ 2) (omega (arith, l.ends)),
      lt-ltb e.count (256 ^ 4) (omega (arith, l.counted few)),
      lt-ltb e.flags (256 ^ 2) (omega (arith, l.flagged)),
    )
