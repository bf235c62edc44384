-- The bytes of a number, as std has them: each is a remainder by 256.
use mathlib.Core.Path.{◌≡◌, refl}
use mathlib.Core.List.{List, [], ◌∷◌}
use Prim.Native.Nat.{ℕ, ◌/◌}
use native.Mathlib.Omega.{arith}
use lib.ListN.{get_or}
use Rattle.std.specs.Int.{to_le_bytes, w32, w64}
use Rattle.geometry.specs.declared.Place.{Place}
use Rattle.storing.specs.Numbers.{bytes_of}
use Rattle.storing.specs.Stored.{place_stored}

module _ (b : List ℕ) (x : ℕ) where
  pub four-bytes : b ≡ to_le_bytes w32 x → (get_or b 0 0 ∷ get_or b 1 0 ∷ get_or b 2 0 ∷ get_or b 3 0 ∷ []) ≡ bytes_of 4 x
  unfolding bytes_of
  four-bytes e =
      let p : x / 65536 ≡ x / 256 / 256 = omega arith in
      let q : x / 16777216 ≡ x / 256 / 256 / 256 = omega arith in
      rw (e, p, q) refl

  pub eight-bytes : b ≡ to_le_bytes w64 x
      → (get_or b 0 0 ∷ get_or b 1 0 ∷ get_or b 2 0 ∷ get_or b 3 0 ∷ get_or b 4 0 ∷ get_or b 5 0 ∷ get_or b 6 0 ∷ get_or b 7 0 ∷ []) ≡ bytes_of 8 x
  unfolding bytes_of
  eight-bytes e =
      let p : x / 65536 ≡ x / 256 / 256 = omega arith in
      let q : x / 16777216 ≡ x / 256 / 256 / 256 = omega arith in
      let r : x / 4294967296 ≡ x / 256 / 256 / 256 / 256 = omega arith in
      let s : x / 1099511627776 ≡ x / 256 / 256 / 256 / 256 / 256 = omega arith in
      let t : x / 281474976710656 ≡ x / 256 / 256 / 256 / 256 / 256 / 256 = omega arith in
      let u : x / 72057594037927936 ≡ x / 256 / 256 / 256 / 256 / 256 / 256 / 256 = omega arith in
      rw (e, p, q, r, s, t, u) refl

-- eight bytes, written out
pub place-bytes : (b : List ℕ) (p : Place) → b ≡ place_stored p
    → (get_or b 0 0 ∷ get_or b 1 0 ∷ get_or b 2 0 ∷ get_or b 3 0 ∷ get_or b 4 0 ∷ get_or b 5 0 ∷ get_or b 6 0 ∷ get_or b 7 0 ∷ []) ≡ place_stored p
unfolding place_stored bytes_of
place-bytes b p e = rw e refl
