-- Numbers and their bytes: bytes are zero, or the same, if their numbers are; a word is two bytes turned. And a part of bytes, written out.
use mathlib.Core.Path.{◌≡◌, refl, sym, ap, ◌∙◌}
use mathlib.Core.Bool.{Bool, true, ◌&&◌}
use mathlib.Core.List.{List, [], ◌∷◌, map}
use Prim.Native.Nat.{ℕ, suc, ◌+◌, ◌*◌, ◌/◌, ◌%◌, ◌≤◌, ◌<◌}
use native.Mathlib.Omega.{arith}
use Rattle.std.specs.Int.{w32, w64, from_le_bytes}
use lib.Dec.{eqb}
use lib.ListN.{length, get_or}
use lib.Seq.{drop-cons}
use borrow.Author.Tests.{eq-eqb, eqb-true, ltb-true, lt-ltb}
use Rattle.geometry.specs.Bytes.{part, word_at, word, is_byte}
use Rattle.geometry.specs.Lists.{every, same, numbers_from}
use Rattle.geometry.proofs.Bytes.{same_bytes, length_part, get_d_part, part-split}
use Rattle.geometry.proofs.Numbered.{length-numbered, get_d_numbered}
use Rattle.geometry.proofs.Tests.{alike, and_left, and_right, and_both, every-from}
use Rattle.tables.specs.Numbers.{long_at, number_in}

-- ---- bytes written out

pub written : (b : List ℕ) (at n : ℕ) → at + suc n ≤ length b → part b at (suc n) ≡ get_or b at 0 ∷ map (λ k. get_or b (at + k) 0) (numbers_from 1 n)
unfolding part
written b at n h =
    let l : length (part b (suc at) n) ≡ n = length_part b (suc at) n (omega arith) in
    rw (drop-cons b at 0 (omega arith))
    (ap (λ (r : List ℕ). get_or b at 0 ∷ r)
    (same_bytes _ _ (l ∙ sym (length-numbered (λ k. get_or b (at + k) 0) 1 n)) λ (i : ℕ) (q : i < length (part b (suc at) n)).
    let p : i < n = omega arith in
    let e : suc at + i ≡ at + (1 + i) = omega arith in
    get_d_part b (suc at) n i 0 p ∙ ap (λ (j : ℕ). get_or b j 0) e ∙ sym (get_d_numbered (λ k. get_or b (at + k) 0) 1 n i 0 p)))

-- ---- bytes read at once

pub from_le-eight : (x₀ x₁ x₂ x₃ x₄ x₅ x₆ x₇ : ℕ) → from_le_bytes w64 (x₀ ∷ x₁ ∷ x₂ ∷ x₃ ∷ x₄ ∷ x₅ ∷ x₆ ∷ x₇ ∷ []) ≡ number_in (x₀ ∷ x₁ ∷ x₂ ∷ x₃ ∷ x₄ ∷ x₅ ∷ x₆ ∷ x₇ ∷ [])
unfolding number_in
from_le-eight x₀ x₁ x₂ x₃ x₄ x₅ x₆ x₇ = omega arith

pub from_le-four : (x₀ x₁ x₂ x₃ : ℕ) → from_le_bytes w32 (x₀ ∷ x₁ ∷ x₂ ∷ x₃ ∷ []) ≡ number_in (x₀ ∷ x₁ ∷ x₂ ∷ x₃ ∷ [])
unfolding number_in
from_le-four x₀ x₁ x₂ x₃ = omega arith

-- eight are four, and four behind them
pub eight-fours : (b : List ℕ) (at : ℕ) → at + 8 ≤ length b → number_in (part b at 4) + 4294967296 * number_in (part b (at + 4) 4) ≡ number_in (part b at 8)
unfolding number_in
eight-fours b at h =
    let front = written b at 3 (omega arith) in
    rw (part-split b at 8 4 (omega arith), front) (omega arith)

-- no byte behind a place is the place
pub at_front : (b : List ℕ) (at x : ℕ) → (x ≡ number_in (part b (at + 0) 8)) × (every is_byte (part b (at + 0) 8) ≡ true)
    → (x ≡ number_in (part b at 8)) × (every is_byte (part b at 8) ≡ true)
at_front b at x h = let e : at + 0 ≡ at = omega arith in rw e at h

-- the eight bytes at a place
pub from_le-part : (b : List ℕ) (at : ℕ) → at + 8 ≤ length b → from_le_bytes w64 (part b at 8) ≡ number_in (part b at 8)
from_le-part b at h = rw (written b at 7 h) (from_le-eight _ _ _ _ _ _ _ _)

-- the bytes of a number of four, taken out one by one
module _ (x p q r s : ℕ) (e : x ≡ p + 256 * (q + 256 * (r + 256 * s))) (hp : p < 256) (hq : q < 256) (hr : r < 256) where
  second : x / 256 % 256 ≡ q
  second = let t : x / 256 ≡ q + 256 * (r + 256 * s) = omega arith in omega arith

  third : x / 65536 % 256 ≡ r
  third = let t : x / 65536 ≡ r + 256 * s = omega arith in omega arith

  fourth : x / 16777216 ≡ s
  fourth = omega arith

  turned-bytes : 16777216 * (x % 256) + 65536 * (x / 256 % 256) + 256 * (x / 65536 % 256) + x / 16777216 ≡ 65536 * (256 * p + q) + (256 * r + s)
  turned-bytes = let t : x % 256 ≡ p = omega arith in rw (second, third, fourth) (omega arith)

-- four bytes read as a number, and turned, are the two words
pub turned-four : (b : List ℕ) (at : ℕ) → ((k : ℕ) → get_or b k 0 < 256) → at + 4 ≤ length b
    → 16777216 * (number_in (part b at 4) % 256) + 65536 * (number_in (part b at 4) / 256 % 256) + 256 * (number_in (part b at 4) / 65536 % 256) + number_in (part b at 4) / 16777216
    ≡ long_at b at
unfolding number_in long_at word_at
turned-four b at g h =
    let e : (at + 2) + 1 ≡ at + 3 = omega arith in
    let n : number_in (part b at 4) ≡ get_or b at 0 + 256 * (get_or b (at + 1) 0 + 256 * (get_or b (at + 2) 0 + 256 * get_or b (at + 3) 0)) = ap number_in (written b at 3 h) ∙ omega arith in
    rw e (turned-bytes (number_in (part b at 4)) (get_or b at 0) (get_or b (at + 1) 0) (get_or b (at + 2) 0) (get_or b (at + 3) 0) n (g at) (g (at + 1)) (g (at + 2)))

-- two bytes read as a number, and turned, are the word
pub turned_two : (b : List ℕ) (at : ℕ) → ((k : ℕ) → get_or b k 0 < 256) → at + 2 ≤ length b
    → 256 * (number_in (part b at 2) % 256) + number_in (part b at 2) / 256 ≡ word_at b at
unfolding number_in word_at
turned_two b at g h = rw (written b at 1 h) (omega (arith, g at, g (at + 1)))

-- a word that was turned, byte by byte
pub turned-back : (k t : ℕ) → k < 65536 → t ≡ 256 * (k % 256) + k / 256 → word k ≡ (t % 256 ∷ t / 256 ∷ [])
unfolding word
turned-back k t h e =
    let p : t % 256 ≡ k / 256 = omega arith in
    let q : t / 256 ≡ k % 256 = omega arith in
    rw (p, q)

-- ---- zero

abbrev pub zero-byte : ℕ → Bool
zero-byte x = eqb x 0

-- a sum is zero if what it is made of is
pub zero-sum : (s u v : ℕ) → (s ≡ 0 → (u ≡ 0) × (v ≡ 0)) → (u ≡ 0 → v ≡ 0 → s ≡ 0) → eqb s 0 ≡ (eqb u 0 && eqb v 0)
zero-sum s u v f g =
    alike (eqb s 0) (eqb u 0 && eqb v 0)
    (λ (h : eqb s 0 ≡ true). let p = f (eqb-true s 0 h) in and_both (eqb u 0) (eqb v 0) (eq-eqb u 0 p.0) (eq-eqb v 0 p.1))
    (λ (h : (eqb u 0 && eqb v 0) ≡ true).
    eq-eqb s 0 (g (eqb-true u 0 (and_left (eqb u 0) (eqb v 0) h)) (eqb-true v 0 (and_right (eqb u 0) (eqb v 0) h))))

-- a number is zero if its bytes are
pub zero_number : (xs : List ℕ) → eqb (number_in xs) 0 ≡ every zero-byte xs
unfolding number_in every
zero_number [] = refl
zero_number (x ∷ xs) =
    zero-sum (x + 256 * number_in xs) x (number_in xs) (λ (h : x + 256 * number_in xs ≡ 0). (omega arith, omega arith)) (λ (a : x ≡ 0) (c : number_in xs ≡ 0). omega arith)
    ∙ ap (λ (q : Bool). eqb x 0 && q) (zero_number xs)

-- and a word
pub zero_word : (b : List ℕ) (at : ℕ) → at + 2 ≤ length b → every zero-byte (part b at 2) ≡ eqb (word_at b at) 0
unfolding word_at number_in
zero_word b at h =
    let x : ℕ = get_or b at 0 in
    let y : ℕ = get_or b (at + 1) 0 in
    sym (zero_number (part b at 2))
    ∙ ap (λ (xs : List ℕ). eqb (number_in xs) 0) (written b at 1 h)
    ∙ zero-sum (x + 256 * (y + 256 * 0)) x y (λ (q : x + 256 * (y + 256 * 0) ≡ 0). (omega arith, omega arith)) (λ (a : x ≡ 0) (c : y ≡ 0). omega arith)
    ∙ sym (zero-sum (256 * x + y) x y (λ (q : 256 * x + y ≡ 0). (omega arith, omega arith)) (λ (a : x ≡ 0) (c : y ≡ 0). omega arith))

-- ---- the same

-- bytes are the same if their numbers are
same_number : (xs ys : List ℕ) → length xs ≡ length ys → every is_byte xs ≡ true → every is_byte ys ≡ true → eqb (number_in xs) (number_in ys) ≡ same xs ys
unfolding number_in every same
same_number [] [] l g h = refl
same_number [] (y ∷ ys) l g h = absurd (omega arith)
same_number (x ∷ xs) [] l g h = absurd (omega arith)
same_number (x ∷ xs) (y ∷ ys) l g h =
    let k : length xs ≡ length ys = omega arith in
    let n : eqb (number_in xs) (number_in ys) ≡ same xs ys = same_number xs ys k (and_right (is_byte x) (every is_byte xs) g) (and_right (is_byte y) (every is_byte ys) h) in
    let u : x < 256 = ltb-true x 256 (and_left (is_byte x) (every is_byte xs) g) in
    let v : y < 256 = ltb-true y 256 (and_left (is_byte y) (every is_byte ys) h) in
    alike _ _
    (λ (q : eqb (x + 256 * number_in xs) (y + 256 * number_in ys) ≡ true).
    let e : x + 256 * number_in xs ≡ y + 256 * number_in ys = eqb-true _ _ q in
    and_both (eqb x y) (same xs ys) (eq-eqb x y (omega arith)) (sym n ∙ eq-eqb (number_in xs) (number_in ys) (omega arith)))
    (λ (q : (eqb x y && same xs ys) ≡ true).
    let a : x ≡ y = eqb-true x y (and_left (eqb x y) (same xs ys) q) in
    let c : number_in xs ≡ number_in ys = eqb-true (number_in xs) (number_in ys) (n ∙ and_right (eqb x y) (same xs ys) q) in
    eq-eqb (x + 256 * number_in xs) (y + 256 * number_in ys) (omega arith))

pub eight-bytes : (b : List ℕ) → ((k : ℕ) → get_or b k 0 < 256) → (at : ℕ) → at + 8 ≤ length b → every is_byte (part b at 8) ≡ true
eight-bytes b g at h =
    every-from is_byte (part b at 8) 0 λ (i : ℕ) (q : i < length (part b at 8)).
    let n : length (part b at 8) ≡ 8 = length_part b at 8 h in
    lt-ltb (get_or (part b at 8) i 0) 256 (omega (arith, get_d_part b at 8 i 0 (omega arith), g (at + i)))

-- eight bytes and eight others
pub same-eights : (b d : List ℕ) (at end : ℕ) → at + 8 ≤ length b → end + 8 ≤ length d → every is_byte (part b at 8) ≡ true → every is_byte (part d end 8) ≡ true
    → eqb (number_in (part b at 8)) (number_in (part d end 8)) ≡ same (part b at 8) (part d end 8)
same-eights b d at end h k g g' = same_number (part b at 8) (part d end 8) (length_part b at 8 h ∙ sym (length_part d end 8 k)) g g'
