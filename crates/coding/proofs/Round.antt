-- Reading gives back what the writer coded: each run is read as its characters, and the blanks that the writer dropped come back with the 0.
use mathlib.Core.Path.{◌≡◌, refl, sym, ap, ap₂, ◌∙◌}
use mathlib.Core.Bool.{Bool, true, false}
use mathlib.Core.List.{List, [], ◌∷◌, ◌++◌, append_assoc}
use Prim.Native.Nat.{ℕ, zero, suc, ◌+◌, ◌-◌, ◌≤◌, ◌<◌}
use native.Mathlib.Nat.{le_refl, sub-zero, zero-add}
use native.Mathlib.Numerals.{sub-one}
use native.Mathlib.Omega.{arith}
use lib.ListN.{length, take, drop, replicate, length-append, length-drop, length-replicate, take-append-drop}
use lib.Seq.{take_at, drop_at, length-take-le, take-length, take-append-le, take-append-add}
use Rattle.geometry.specs.Sizes.{blank, sector}
use Rattle.geometry.specs.Bytes.{padded}
use Rattle.geometry.proofs.Bytes.{length-padded}
use Rattle.decoding.specs.Decode.{control, good, before, obey, decode_from, decode}
use Rattle.coding.specs.Encode.{keeps, in_gap, run_length, run_code, runs_code, encode, code_of}
use Rattle.decoding.proofs.Reader.{at-run, at-blanks}
use Rattle.coding.proofs.Runs.{run-le, run-own, gap-blank, run-blanks, keeps-le, keeps-trims, keeps-front, keeps-blanks}

-- a run is read as its characters
read-run : (gap : Bool) (n : ℕ) (xs t : List ℕ) (room at : ℕ) → length xs ≡ n → 0 < n → n ≤ 127 → n ≤ room → (gap ≡ true → xs ≡ replicate n blank)
    → decode_from room at (run_code gap xs ++ t) ≡ before xs (decode_from (room - n) (at + length (run_code gap xs)) t)
unfolding run_code
read-run false n xs t room at len some few fits blanks =
    let long : n ≤ length (xs ++ t) = rw length-append (omega arith) in
    let place : at + 1 + n ≡ at + suc n = omega arith in
    rw len (at-run room at (n ∷ xs ++ t) (omega arith) (λ z. omega arith) (omega arith) long fits ∙ rw (take_at xs t n len, drop_at xs t n len, place))
read-run true n xs t room at len some few fits blanks =
    let m : 128 + n - 128 ≡ n = omega arith in
    rw len (rw m at (at-blanks room at ((128 + n) ∷ t) (omega arith) (omega arith) (rw m fits)) ∙ ap (λ (l : List ℕ). before l (decode_from (room - n) (at + 1) t)) (sym (blanks refl)))

-- one run read back, before the code u of what follows
round-run : (gap : Bool) (p c room at : ℕ) (s t u : List ℕ) → p ≤ length s → p < 127 → suc (length s) ≤ room
    → (gap ≡ true → take (suc p) (c ∷ s) ≡ replicate (suc p) blank)
    → ((room at : ℕ) → length (drop p s) ≤ room → decode_from room at (u ++ t) ≡ good (drop p s ++ replicate (room - length (drop p s)) blank) (at + length u))
    → decode_from room at ((run_code gap (take (suc p) (c ∷ s)) ++ u) ++ t)
    ≡ good (c ∷ s ++ replicate (room - suc (length s)) blank) (at + length (run_code gap (take (suc p) (c ∷ s)) ++ u))
unfolding before
round-run gap p c room at s t u le few fits blanks rest =
    let xs = take (suc p) (c ∷ s) in
    let n : length xs ≡ suc p = length-take-le (suc p) (c ∷ s) (omega arith) in
    let d : length (drop p s) ≡ length s - p = length-drop p s in
    let left : room - suc p - length (drop p s) ≡ room - suc (length s) = omega arith in
    let size : at + length (run_code gap xs) + length u ≡ at + length (run_code gap xs ++ u) = rw length-append (omega arith) in
    let whole : xs ++ (drop p s ++ replicate (room - suc p - length (drop p s)) blank) ≡ c ∷ s ++ replicate (room - suc (length s)) blank =
    sym (append_assoc xs (drop p s) _) ∙ ap₂ ◌++◌ (take-append-drop (suc p) (c ∷ s)) (ap (λ k. replicate k blank) left) in
    rw append_assoc (read-run gap (suc p) xs (u ++ t) room at n (omega arith) (omega arith) (omega arith) blanks
    ∙ ap (before xs) (rest (room - suc p) (at + length (run_code gap xs)) (omega arith))
    ∙ ap₂ good whole size)

-- the code of s behind its first k characters is read as these, with blanks for the room that is left
round : (s : List ℕ) (k q room at : ℕ) (t : List ℕ) → length (drop k s) ≤ room
    → decode_from room at (runs_code k q s ++ t) ≡ good (drop k s ++ replicate (room - length (drop k s)) blank) (at + length (runs_code k q s))
unfolding runs_code decode_from control obey
round [] zero q room at t h = rw sub-zero
round [] (suc k) q room at t h = rw sub-zero
round (c ∷ s) (suc k) q room at t h = round s k c room at t h
round (c ∷ s) zero q room at t h =
    let gap = in_gap q c s in
    let p = run_length 126 gap c s in
    let le = run-le 126 gap c s in
    rw (run-own 126 q c s, sub-one) (round-run gap p c room at s t (runs_code p c s) le.1 (omega arith) h
    (λ z. ap₂ ◌∷◌ (gap-blank q c s z) (ap (λ (b : Bool). take (run_length 126 b c s) s) z ∙ run-blanks 126 c s ∙ ap (λ (b : Bool). replicate (run_length 126 b c s) blank) (sym z)))
    (λ room at fits. round s p c room at t fits))

-- decoding what was coded gives the record, whatever follows, where the code has its place in a sector
pub decode-encode : (x rest : List ℕ) → length (encode x) ≤ sector → decode (length x) (encode x ++ rest) ≡ good x (length (encode x))
unfolding decode encode
decode-encode x rest h =
    let e = keeps (length x) x in
    let l = keeps-le (length x) x in
    let n : length (take e x) ≡ e = length-take-le e x l in
    let whole : take e x ++ replicate (length x - e) blank ≡ x = sym (keeps-trims (length x) x (le_refl _)) ∙ take-length x in
    let all : sector ≡ length (encode x) + (sector - length (encode x)) = omega arith in
    ap (decode_from (length x) 0) (ap (λ n. take n (encode x ++ rest)) all ∙ take-append-add (encode x) rest _) ∙ round (take e x) 0 0 (length x) 0 _ (omega arith) ∙ rw (n, zero-add, whole)

-- trailing blanks are dropped, so the code can be made without padding
pub encode-padded : (R : ℕ) (given : List ℕ) → encode (padded blank R given) ≡ encode given
unfolding encode padded
encode-padded R given =
    let m = R - length given in
    let size : length (given ++ replicate m blank) ≡ length given + m = length-append given (replicate m blank) ∙ rw length-replicate in
    let same : keeps (length (given ++ replicate m blank)) (given ++ replicate m blank) ≡ keeps (length given) given =
    ap (λ n. keeps n (given ++ replicate m blank)) size ∙ keeps-blanks m given m (le_refl m) ∙ keeps-front (length given) given (replicate m blank) (le_refl _) in
    ap (runs_code 0 0) (ap (λ n. take n (given ++ replicate m blank)) same ∙ take-append-le (keeps (length given) given) given (replicate m blank) (keeps-le (length given) given))

pub decode-code_of : (R : ℕ) (given rest : List ℕ) → length given ≤ R → length (code_of R given) ≤ sector → decode R (code_of R given ++ rest) ≡ good (padded blank R given) (length (code_of R given))
unfolding code_of
decode-code_of R given rest h few = rw (length-padded blank R given h) at (decode-encode (padded blank R given) rest few)
