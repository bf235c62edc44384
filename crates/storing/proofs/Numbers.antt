-- Numbers and their bytes, by going down the bytes: each is told back from the other. And a part of bytes, written out.
use mathlib.Core.Path.{◌≡◌, refl, sym, ap, ◌∙◌}
use mathlib.Core.Bool.{Bool, true, false}
use mathlib.Core.List.{List, [], ◌∷◌, map}
use Prim.Native.Nat.{ℕ, zero, suc, ◌+◌, ◌*◌, ◌/◌, ◌%◌, ◌^◌, ◌≤◌, ◌<◌}
use native.Mathlib.Nat.{pow-succ'}
use native.Mathlib.Omega.{arith}
use lib.ListN.{length, get_or}
use lib.Seq.{drop-cons}
use borrow.Author.Tests.{ltb-true}
use Rattle.geometry.specs.Bytes.{part, is_byte}
use Rattle.geometry.specs.Lists.{every, numbers_from}
use Rattle.geometry.proofs.Bytes.{same_bytes, length_part, get_d_part}
use Rattle.geometry.proofs.Numbered.{length-numbered, get_d_numbered}
use Rattle.geometry.proofs.Tests.{and_left, and_right}
use Rattle.tables.specs.Numbers.{number_in}
use Rattle.std.specs.Int.{from_bool}
use Rattle.storing.specs.Numbers.{bytes_of, flag_of}

-- ---- a truth value

-- as std makes a byte of it
pub flag-byte : (u : Bool) (x : ℕ) → x ≡ from_bool u → x ≡ flag_of u
unfolding flag_of
flag-byte true x e = e
flag-byte false x e = e

-- ---- bytes written out

pub written : (b : List ℕ) (at n : ℕ) → at + suc n ≤ length b → part b at (suc n) ≡ get_or b at 0 ∷ map (λ k. get_or b (at + k) 0) (numbers_from 1 n)
unfolding part
written b at n h =
    let l : length (part b (suc at) n) ≡ n = length_part b (suc at) n (omega arith) in
    rw (drop-cons b at 0 (omega arith))
    (ap (λ (r : List ℕ). get_or b at 0 ∷ r)
    (same_bytes _ _ (l ∙ sym (length-numbered (λ k. get_or b (at + k) 0) 1 n)) λ (i : ℕ) (q : i < length (part b (suc at) n)).
    let p : i < n = omega arith in
    let e : suc at + i ≡ at + (1 + i) = omega arith in
    get_d_part b (suc at) n i 0 p ∙ ap (λ (j : ℕ). get_or b j 0) e ∙ sym (get_d_numbered (λ k. get_or b (at + k) 0) 1 n i 0 p)))

-- ---- a number from its bytes

pub number-back : (n x : ℕ) → x < 256 ^ n → number_in (bytes_of n x) ≡ x
unfolding number_in bytes_of
number-back zero x h = omega arith
number-back (suc n) x h =
    let p : 256 ^ suc n ≡ 256 * 256 ^ n = pow-succ' 256 n in
    let k : x / 256 < 256 ^ n = omega arith in
    let e : number_in (bytes_of n (x / 256)) ≡ x / 256 = number-back n (x / 256) k in
    rw e (omega arith)

pub length-bytes : (n x : ℕ) → length (bytes_of n x) ≡ n
unfolding bytes_of
length-bytes zero x = refl
length-bytes (suc n) x = ap suc (length-bytes n (x / 256))

-- ---- bytes from their number

pub bytes_back : (b : List ℕ) (n : ℕ) → length b ≡ n → every is_byte b ≡ true → bytes_of n (number_in b) ≡ b
unfolding number_in bytes_of every
bytes_back [] zero e h = refl
bytes_back [] (suc n) e h = absurd (omega arith)
bytes_back (x ∷ b) zero e h = absurd (omega arith)
bytes_back (x ∷ b) (suc n) e h =
    let s : x < 256 = ltb-true x 256 (and_left (is_byte x) (every is_byte b) h) in
    let l : length b ≡ n = omega arith in
    let low : (x + 256 * number_in b) % 256 ≡ x = omega arith in
    let high : (x + 256 * number_in b) / 256 ≡ number_in b = omega arith in
    rw (low, high) (ap (λ (r : List ℕ). x ∷ r) (bytes_back b n l (and_right (is_byte x) (every is_byte b) h)))
