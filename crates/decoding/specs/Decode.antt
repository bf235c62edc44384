-- Document 01, "Compressed records": what one coded record says, read from the bytes up to its sector's end. Definitions only.
use Rattle.std.specs.Prelude.{◌≡◌, Bool, true, false, ◌&&◌, List, [], ◌∷◌, ◌++◌, ℕ, zero, suc, ◌+◌, ◌-◌, ◌≤◌, length, take, drop, get_or, replicate, eqb, leb, ltb, Result, Ok, Err}
use Rattle.geometry.specs.Sizes.{blank, sector}
use Rattle.decoding.specs.declared.BadCode.{BadCode}

-- what a control byte asks for
pub data Control : Type 0 where
  stop go_on : Control
  characters blanks : ℕ → Control

-- "A control byte 1–127 is followed by that many characters. 129–255 stands for 1–127 blanks. 0 ends the record"; 128 means go on
unfoldable pub control : ℕ → Control
control c = elim (eqb c 0) [
  | true ↦ stop
  | false ↦
      elim (ltb c 128) [
        | true ↦ characters c
        | false ↦
            elim (eqb c 128) [ true ↦ go_on | false ↦ blanks (c - 128) ]
      ]
]

-- the record's characters and the number of bytes that its code has; or the offset of the first control byte that cannot be obeyed
pub data Decoded : Type 0 where
  good : List ℕ → ℕ → Decoded
  bad : ℕ → Decoded

-- characters before those of a result
unfoldable pub before : List ℕ → Decoded → Decoded
before xs (good ys e) = good (xs ++ ys) e
before xs (bad k) = bad k

-- the control byte at offset `at`, with room for so many characters, s behind it; `run n r a`: a character and n more, at offset a, with room r behind
-- them; `next r a`: the control byte that follows. "the missing characters up to R are blanks"; bad if it "runs past its sector, gives more than R
-- characters, has 128 elsewhere"
unfoldable pub obey : Control → (room at : ℕ) → List ℕ → (ℕ → ℕ → ℕ → Decoded) → (ℕ → ℕ → Decoded) → Decoded
obey stop room at s run next = good (replicate room blank) (at + 1)
obey go_on room at s run next = bad at
obey (characters n) room at s run next = elim (leb n (length s) && leb n room) [ true ↦ run (n - 1) (room - n) (at + 1) | false ↦ bad at ]
obey (blanks n) room at s run next = elim (leb n room) [ true ↦ before (replicate n blank) (next (room - n) (at + 1)) | false ↦ bad at ]

-- "a run of characters gives over to a run of blanks and back until the 0; a run may also follow one of its own sort"
unfoldable mutual
  -- blanks and whatever a control byte asks for: from the control byte at offset `at` on, with room for so many characters
  pub decode_from : (room at : ℕ) → List ℕ → Decoded
  decode_from room at [] = bad at
  decode_from room at (c ∷ s) = obey (control c) room at s (λ n r a. characters_from n r a s) (λ r a. decode_from r a s)

  -- a character of a run and n more, with so much room behind them
  pub characters_from : (n room at : ℕ) → List ℕ → Decoded
  characters_from n room at [] = bad at
  characters_from zero room at (c ∷ s) = before (c ∷ []) (decode_from room (at + 1) s)
  characters_from (suc n) room at (c ∷ s) = before (c ∷ []) (characters_from n room (at + 1) s)

-- the record of R characters whose code the bytes s begin with; s ends where the sector ends, and no more than a sector's bytes are looked at
unfoldable pub decode : ℕ → List ℕ → Decoded
decode R s = decode_from R 0 (take sector s)

-- what the decoder answers: the number of bytes of a good code, or where a code is bad
abbrev pub bad_at : ℕ → Result ℕ BadCode
bad_at k = Err (record { at = k })

unfoldable pub answer : Decoded → Result ℕ BadCode
answer (good xs e) = Ok e
answer (bad k) = bad_at k

-- a lent buffer of the record's length, old before: the record; a bad code leaves it as it was
unfoldable pub given : Decoded → List ℕ → List ℕ
given (good xs e) old = xs
given (bad k) old = old

-- ---- the two decoding functions, one for each sort of run

-- what is answered where they stop at the control byte at offset k: at the 0 that ends the record, or at one that cannot be obeyed
unfoldable pub stopped : List ℕ → ℕ → Result ℕ BadCode
stopped s k = elim (ltb k (length s) && eqb (get_or s k 0) 0) [ true ↦ Ok (k + 1) | false ↦ bad_at k ]

-- ---- the characters of a good code

-- whether a code is good
unfoldable pub is_good : Decoded → Bool
is_good (good xs e) = true
is_good (bad k) = false

-- what is read is good, and out has blanks from the place `to` on, where it goes
pub record Awaited (f : Decoded) (out : List ℕ) (to : ℕ) : Type 0 where
  pub sound : is_good f ≡ true
  pub fits : to ≤ length out
  pub empty : drop to out ≡ replicate (length out - to) blank

-- out with what is read
unfoldable pub filled : Decoded → List ℕ → ℕ → List ℕ
filled f out to = take to out ++ given f []
