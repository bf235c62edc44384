-- Document 01, "Compressed records": how the writer codes a record. Definitions only.
use Rattle.std.specs.Prelude.{Bool, true, false, ◌&&◌, ◌||◌, List, [], ◌∷◌, ◌++◌, ℕ, zero, suc, ◌+◌, ◌-◌, length, take, drop, get_or, eqb}
use Rattle.std.specs.Bool.{beq}
use Rattle.geometry.specs.Sizes.{blank}
use Rattle.geometry.specs.Bytes.{padded}

-- "drops trailing blanks": how many of the first n characters are left
unfoldable pub keeps : ℕ → List ℕ → ℕ
keeps zero x = 0
keeps (suc n) x = elim (eqb (get_or x n 0) blank) [ true ↦ keeps n x | false ↦ suc n ]

-- "each other unbroken group of two or more blanks a blank run, and lets a single blank stand among characters": whether the character c,
-- with q before it (0 where there is none) and s behind it, goes into a blank run
unfoldable pub in_gap : ℕ → ℕ → List ℕ → Bool
in_gap q c s = eqb c blank && (eqb q blank || eqb (get_or s 0 0) blank)

-- the same of the character at the place i of x
abbrev pub gap_at : List ℕ → ℕ → Bool
gap_at x i = in_gap (get_or (0 ∷ x) i 0) (get_or x i 0) (drop (i + 1) x)

-- how many characters at the front of a list, at most n, are of one sort; q stands before the list
unfoldable pub run_length : ℕ → Bool → ℕ → List ℕ → ℕ
run_length zero gap q s = 0
run_length (suc n) gap q [] = 0
run_length (suc n) gap q (c ∷ s) = elim (beq (in_gap q c s) gap) [ true ↦ suc (run_length n gap c s) | false ↦ 0 ]

-- a run: 128 and its length for blanks; its length and the characters themselves for any other
unfoldable pub run_code : Bool → List ℕ → List ℕ
run_code true xs = (128 + length xs) ∷ []
run_code false xs = length xs ∷ xs

-- "Runs over 127 are split, 127 first": the code of a list behind its first k characters, and the 0; q stands before the list
unfoldable pub runs_code : ℕ → ℕ → List ℕ → List ℕ
runs_code k q [] = 0 ∷ []
runs_code zero q (c ∷ s) =
    let gap : Bool = in_gap q c s in
    let n : ℕ = run_length 127 gap q (c ∷ s) in
    run_code gap (take n (c ∷ s)) ++ runs_code (n - 1) c s
runs_code (suc k) q (c ∷ s) = runs_code k c s

-- the code of a record
unfoldable pub encode : List ℕ → List ℕ
encode x = runs_code 0 0 (take (keeps (length x) x) x)

-- the code of the given bytes as a record of R: "Short records .. are padded .. in compressed files with blanks"
unfoldable pub code_of : ℕ → List ℕ → List ℕ
code_of R given = encode (padded blank R given)
