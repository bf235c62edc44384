-- "A coded record has at most R + 3 bytes": the code of any text has at most a byte more than characters, and one for each 127 of them that is begun. A run
-- of characters costs one byte more than its characters, and so does the 0 at the end; but a run that is not full has the end or two blanks behind it,
-- which cost one byte. So only full runs cost more.
use mathlib.Core.Path.{◌≡◌, refl, sym, ◌∙◌}
use mathlib.Core.Bool.{Bool, true, false, beq}
use mathlib.Core.List.{List, [], ◌∷◌, ◌++◌}
use Prim.Native.Nat.{ℕ, zero, suc, ◌+◌, ◌-◌, ◌/◌, ◌≤◌, ◌<◌}
use native.Mathlib.Numerals.{sub-one}
use native.Mathlib.Omega.{arith}
use native.Mathlib.Decide.{dec_lt}
use lib.ListN.{length, take, drop, get_or, length-append, length-drop}
use lib.Seq.{length-take-le}
use Rattle.geometry.specs.Sizes.{blank}
use Rattle.coding.specs.Encode.{keeps, in_gap, run_length, run_code, runs_code, encode, code_of}
use Rattle.coding.proofs.Runs.{run-le, run-own, gap-blank, gap-first, gap-second, gap-follows, keeps-le}
use Rattle.coding.proofs.Round.{encode-padded}

-- empty, or begun by two blanks
Tight : List ℕ → Type 0
Tight s = 0 < length s → (get_or s 0 0 ≡ blank) × (get_or s 1 0 ≡ blank)

-- a run of characters that ends before its limit ends the record, or two blanks follow it
run_ends : (n q c : ℕ) (s : List ℕ) → in_gap q c s ≡ false → run_length n false c s < n → Tight (drop (run_length n false c s) s)
unfolding run_length Tight
run_ends zero q c s z h = absurd (omega arith)
run_ends (suc n) q c [] z h = λ p. absurd (omega arith)
run_ends (suc n) q c (d ∷ s) z h = go (in_gap c d s) refl (run_ends n c d s) h
  where
    go : (gap : Bool) → in_gap c d s ≡ gap → (in_gap c d s ≡ false → run_length n false d s < n → Tight (drop (run_length n false d s) s))
        → elim (beq gap false) [ true ↦ suc (run_length n false d s) | false ↦ 0 ] < suc n
        → Tight (drop (elim (beq gap false) [ true ↦ suc (run_length n false d s) | false ↦ 0 ]) (d ∷ s))
    go true e ih h =
        let is : d ≡ blank = gap-blank c d s e in
        let other : c ≡ blank → ⊥ = λ f. let y = gap-first q c (d ∷ s) f is in let y : ◌≡◌ {A = ℕ} 0 1 = cc in omega arith in
        λ p. (is, gap-follows c d s e other)
    go false e ih h = ih e (omega arith)

-- a blank run that is begun by two blanks has both
run-two : (n q c : ℕ) (s : List ℕ) → Tight (c ∷ s) → 0 < run_length (suc n) (in_gap q c s) c s
unfolding Tight
run-two n q c [] t = let z : ◌≡◌ {A = ℕ} 0 blank = (t (omega arith)).1 in absurd (omega arith)
run-two n q c (d ∷ s) t =
    let two = t (omega arith) in
    let same : in_gap q c (d ∷ s) ≡ in_gap c d s = gap-first q c (d ∷ s) two.0 two.1 ∙ sym (gap-second c d s two.0 two.1) in
    rw (same, run-own n c d s) (omega arith)

-- ---- the length of a code

-- a byte more than characters, and one for each 127 of them that is begun; only for each 127 that is full where the list is tight
Short : List ℕ → ℕ → Type 0
Short s n = (n ≤ length s + 1 + (length s + 126) / 127) × (Tight s → n ≤ length s + 1 + length s / 127)

short-run : (gap : Bool) (q c : ℕ) (s u : List ℕ) → in_gap q c s ≡ gap → Short (drop (run_length 126 gap c s) s) (length u)
    → Short (c ∷ s) (length (run_code gap (take (suc (run_length 126 gap c s)) (c ∷ s)) ++ u))
unfolding run_code Short Tight
short-run false q c s u e ih =
    let p = run_length 126 false c s in
    let le = run-le 126 false c s in
    let n : length (take p s) ≡ p = length-take-le p s le.1 in
    let d : length (drop p s) ≡ length s - p = length-drop p s in
    (rw length-append (elim (dec_lt p 126) [ yes l ↦ (let i = ih.1 (run_ends 126 q c s e l) in omega arith) | no g ↦ omega arith ]), λ t. let two = t (omega arith) in let y = gap-first q c s two.0 two.1 in let z : ◌≡◌ {A = ℕ} 0 1 = cc in absurd (omega arith))
short-run true q c s u e ih =
    let p = run_length 126 true c s in
    let le = run-le 126 true c s in
    let d : length (drop p s) ≡ length s - p = length-drop p s in
    (omega arith, λ t. let two = rw e at (run-two 125 q c s t) in omega arith)

short : (s : List ℕ) (k q : ℕ) → Short (drop k s) (length (runs_code k q s))
unfolding runs_code Short Tight
short [] zero q = (omega arith, λ t. omega arith)
short [] (suc k) q = (omega arith, λ t. omega arith)
short (c ∷ s) (suc k) q = short s k c
short (c ∷ s) zero q = rw (run-own 126 q c s, sub-one) (short-run (in_gap q c s) q c s (runs_code (run_length 126 (in_gap q c s) c s) c s) refl (short s (run_length 126 (in_gap q c s) c s) c))

-- of any text; row 8 of the table has as many
pub encode-most : (x : List ℕ) → length (encode x) ≤ length x + 1 + (length x + 126) / 127
unfolding encode Short
encode-most x =
    let e = keeps (length x) x in
    let l = keeps-le (length x) x in
    let n : length (take e x) ≡ e = length-take-le e x l in
    let f = (short (take e x) 0 0).0 in
    omega arith

-- three more is enough up to 254 characters
pub encode-length : (x : List ℕ) → length x ≤ 254 → length (encode x) ≤ length x + 3
encode-length x h = let m = encode-most x in omega arith

pub code_of-length : (R : ℕ) (given : List ℕ) → length given ≤ R → R ≤ 132 → length (code_of R given) ≤ R + 3
unfolding code_of
code_of-length R given h b = rw (encode-padded R given) (let l = encode-length given (omega arith) in omega arith)
