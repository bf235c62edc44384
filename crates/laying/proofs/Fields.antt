-- The bytes of two words, the high one first, are those that std gives.
use mathlib.Core.Path.{◌≡◌, refl}
use Prim.Native.Nat.{ℕ, ◌/◌, ◌%◌, ◌<◌}
use native.Mathlib.Omega.{arith}
use Rattle.std.specs.Int.{w32, to_be_bytes}
use Rattle.geometry.specs.Bytes.{word}
use Rattle.tables.specs.Numbers.{long}

pub long-bytes : (n : ℕ) → n < 4294967296 → to_be_bytes w32 n ≡ long n
unfolding long word
long-bytes n h =
    let a : n / 16777216 % 256 ≡ n / 65536 / 256 = omega arith in
    let b : n / 65536 % 256 ≡ n / 65536 % 256 = refl in
    let c : n / 256 % 256 ≡ n % 65536 / 256 = omega arith in
    let d : n % 256 ≡ n % 65536 % 256 = omega arith in
    rw (a, c, d)
