-- Bytes are a session if their number is that of one and each truth value is 0 or 1: those of the states, and of what it says of itself.
use mathlib.Core.Path.{◌≡◌, refl, sym, ap, ◌∙◌}
use mathlib.Core.Bool.{Bool, true, false, ◌&&◌}
use mathlib.Core.List.{List}
use Prim.Native.Nat.{ℕ, ◌+◌, ◌*◌, ◌≤◌}
use native.Mathlib.Omega.{arith}
use lib.ListN.{length, get_or, take}
use Rattle.geometry.specs.Bytes.{is_byte}
use Rattle.geometry.specs.Lists.{all, every}
use Rattle.storing.specs.Numbers.{is_flag}
use Rattle.storing.specs.Stored.{width, said_at, said_width, size_of, file_flags, held_flags, state_flags, saying_flags, is_session}
use Rattle.storing.proofs.Read.{flags_in, asked, other-size}

pub held-wide : (u : Bool) → u ≡ true → width u ≡ 396
unfolding width
held-wide u t = ap width t

module _ (u : Bool) (b : List ℕ) (at : ℕ) (x : Bool) (px : x ≡ file_flags b at) where
  pub flags-held : u ≡ true → (y z : Bool) → y ≡ is_flag (get_or b (at + 30) 0) → z ≡ is_flag (get_or b (at + 35) 0) → (x && (y && z)) ≡ state_flags u b at
  flags-held t y z py pz = rw (px, py, pz) (sym (ap (λ (v : Bool). state_flags v b at) t ∙ (unfold state_flags held_flags in refl)))

  pub flags-plain : u ≡ false → x ≡ state_flags u b at
  flags-plain t = px ∙ sym (ap (λ (v : Bool). state_flags v b at) t ∙ (unfold state_flags in refl))

module _ (u : Bool) (b : List ℕ) (w : ℕ) (pw : w ≡ width u) where
  size : size_of u ≡ 396 + 4 * w + said_width
  unfolding size_of
  size = omega (arith, pw)

  pub session-told : length b ≡ 396 + 4 * w + said_width → every is_byte b ≡ true → (k : ℕ) → 4 ≤ k → (p t : Bool) → p ≡ all (take k (flags_in u b)) → t ≡ saying_flags b (396 + 4 * w)
      → (p && t) ≡ is_session u b
  session-told l bytes k h p t pp pt =
      let z : 396 + 4 * w ≡ said_at u = omega (arith, pw) in
      rw (pp, pt ∙ ap (saying_flags b) z) (sym (asked u b bytes (l ∙ sym size) k h))

  pub session-not : ¬ (length b ≡ 396 + 4 * w + said_width) → false ≡ is_session u b
  session-not h = sym (other-size u b λ (l : length b ≡ size_of u). h (l ∙ size))
