-- The decoder's answer depends on the control bytes alone: it is the answer from the next control byte on, with the room that is left.
use mathlib.Core.Path.{◌≡◌, refl, sym, ap, ◌∙◌}
use mathlib.Core.Logic.{◌≢◌}
use mathlib.Core.Bool.{Bool, true, false, ◌&&◌}
use mathlib.Core.List.{List}
use Prim.Native.Nat.{ℕ, ◌+◌, ◌-◌, ◌≤◌, ◌<◌}
use native.Mathlib.Nat.{add-zero}
use native.Mathlib.Omega.{arith}
use native.Mathlib.Decide.{dec_lt}
use lib.ListN.{length, drop, get_or, length-drop}
use lib.Seq.{get_or-drop, drop-drop}
use lib.Dec.{eqb, ltb}
use borrow.Author.Tests.{lt-ltb, le-ltb, ne_eqb}
use Rattle.geometry.specs.Sizes.{sector}
use Rattle.geometry.specs.Bytes.{part}
use Rattle.std.specs.Prelude.{Result, Ok}
use Rattle.decoding.specs.declared.BadCode.{BadCode}
use Rattle.decoding.specs.Decode.{Decoded, good, bad, before, decode_from, decode, bad_at, answer, stopped}
use Rattle.decoding.proofs.Reader.{at-end, at-stop, at-go_on, at-short, at-over, at-run, at-full, at-blanks}

-- what is answered from the place `at` on
abbrev pub Answer : List ℕ → ℕ → ℕ → Result ℕ BadCode
Answer s room at = answer (decode_from room at (drop at s))

answer-before : (xs : List ℕ) (f : Decoded) → answer (before xs f) ≡ answer f
unfolding before answer
answer-before xs (good ys e) = refl
answer-before xs (bad k) = refl

answer-bad : (f : Decoded) (at : ℕ) → f ≡ bad at → answer f ≡ bad_at at
unfolding answer
answer-bad f at is = rw is

-- ---- where the decoder stops

pub stopped-end : (s : List ℕ) (k : ℕ) → length s ≤ k → stopped s k ≡ bad_at k
unfolding stopped
stopped-end s k h = rw (le-ltb k (length s) h, stopped)

pub stopped-bad : (s : List ℕ) (k : ℕ) → k < length s → get_or s k 0 ≢ 0 → stopped s k ≡ bad_at k
unfolding stopped
stopped-bad s k h n = rw (lt-ltb k (length s) h, ne_eqb (get_or s k 0) 0 n, stopped)

pub stopped-good : (s : List ℕ) (k : ℕ) → k < length s → get_or s k 0 ≡ 0 → stopped s k ≡ Ok (k + 1)
unfolding stopped
stopped-good s k h z = rw (lt-ltb k (length s) h, z, stopped)

pub ends : (s : List ℕ) (room at : ℕ) → length s ≤ at → stopped s at ≡ Answer s room at
ends s room at h = stopped-end s at h ∙ sym (answer-bad _ at (at-end room at (drop at s) (rw length-drop (omega arith))))

module _ (s : List ℕ) (room at : ℕ) (h : at < length s) where
  some : 0 < length (drop at s)
  some = rw length-drop (omega arith)

  abbrev c : ℕ
  c = get_or s at 0

  first : get_or (drop at s) 0 0 ≡ c
  first = rw (get_or-drop, add-zero)

  pub stops : c ≡ 0 → stopped s at ≡ Answer s room at
  unfolding answer
  stops e = stopped-good s at h e ∙ rw (at-stop room at (drop at s) some (first ∙ e))

  refused : c ≢ 0 → decode_from room at (drop at s) ≡ bad at → stopped s at ≡ Answer s room at
  refused n is = stopped-bad s at h n ∙ sym (answer-bad _ at is)

  -- a run of characters
  module _ (more : c ≢ 0) (few : c < 128) where
    more' : get_or (drop at s) 0 0 ≢ 0
    more' = rw first more

    few' : get_or (drop at s) 0 0 < 128
    few' = rw first few

    left : length (drop 1 (drop at s)) ≡ length s - at - 1
    left = rw (length-drop, length-drop)

    -- that runs past the sector, or has no room
    pub few-short : length s - at ≤ c → stopped s at ≡ Answer s room at
    few-short f = refused more (at-short room at (drop at s) some more' few' (rw (first, left) (omega arith)))

    pub few-over : room < c → stopped s at ≡ Answer s room at
    few-over f = go (dec_lt c (length s - at))
      where
        go : Dec (c < length s - at) → stopped s at ≡ Answer s room at
        go (yes l) = refused more (at-over room at (drop at s) some more' few' (rw (first, left) (omega arith)) (rw first f))
        go (no l) = few-short (omega arith)

    -- that is all there
    pub few-taken : c ≤ room → c < length s - at → Answer s room at ≡ Answer s (room - c) (at + 1 + c)
    few-taken f l =
        ap answer (rw first at (at-run room at (drop at s) some more' few' (rw (first, left) (omega arith)) (rw first f))) ∙ answer-before _ _
        ∙ rw (drop-drop 1 at s, drop-drop c (at + 1) s)

  -- a run of n blanks
  module _ (n : ℕ) (is : c ≡ 128 + n) where
    -- that is 128, or has no room
    pub most-none : n ≡ 0 → stopped s at ≡ Answer s room at
    most-none z = refused (λ e. omega arith) (at-go_on room at (drop at s) some (rw first (omega arith)))

    pub most-over : room < n → stopped s at ≡ Answer s room at
    most-over f = refused (λ e. omega arith) (at-full room at (drop at s) some (rw first (omega arith)) (rw first (omega arith)))

    pub most-taken : 0 < n → n ≤ room → Answer s room at ≡ Answer s (room - n) (at + 1)
    most-taken l f =
        let m : c - 128 ≡ n = omega arith in
        ap answer (rw (first, m) at (at-blanks room at (drop at s) some (rw first (omega arith)) (rw (first, m) f))) ∙ answer-before _ _ ∙ rw drop-drop

-- ---- in a sector's bytes, as far as there are any

abbrev pub told : ℕ → Bool → Result ℕ BadCode
told k t = elim t [ true ↦ Ok (k + 1) | false ↦ bad_at k ]

-- where they stop at the byte b
pub read_told : (R k b : ℕ) (l s : List ℕ) → l ≡ part s 0 sector → b ≡ get_or l k 0 → stopped l k ≡ answer (decode_from R 0 l)
    → (t : Bool) → ltb k (length l) && eqb b 0 ≡ t → told k t ≡ answer (decode R s)
unfolding decode stopped part
read_told R k b l s lent at is t h =
    let test : ltb k (length l) && eqb (get_or l k 0) 0 ≡ t = rw (← at) h in
    ap (told k) (sym test) ∙ is ∙ ap (λ (u : List ℕ). answer (decode_from R 0 u)) lent
