-- Open-file states, and what a session says of itself, and their bytes: each is read back from the other, field by field.
use mathlib.Core.Path.{◌≡◌, refl, sym, ap, ◌∙◌}
use mathlib.Core.Bool.{Bool, true, false, ◌&&◌}
use mathlib.Core.List.{List, [], ◌∷◌, ◌++◌}
use Prim.Native.Nat.{ℕ, ◌+◌, ◌≤◌}
use native.Mathlib.Omega.{arith}
use lib.Dec.{eqb}
use lib.ListN.{length, get_or}
use borrow.Author.Tests.{eqb-true}
use Rattle.geometry.specs.Bytes.{part, is_byte}
use Rattle.geometry.specs.Lists.{every}
use Rattle.geometry.specs.Sizes.{sector}
use Rattle.geometry.proofs.Tests.{and_left, and_right, all_get_d}
use Rattle.geometry.specs.declared.Place.{Place}
use Rattle.sessions.specs.Session.{fresh}
use Rattle.sessions.specs.declared.BufferedFile.{BufferedFile}
use Rattle.sessions.specs.declared.OpenFile.{OpenFile}
use Rattle.sessions.specs.declared.Saying.{Saying}
use Rattle.storing.specs.Fits.{fits, are_bytes, file_fits, held_fits}
use Rattle.storing.specs.Numbers.{bytes_of, flag_of, is_flag}
use Rattle.storing.specs.Stored.{file_width, held_width, width, said_width, place_stored, place_in, file_stored, file_in, file_flags, hold_stored, hold_of, held_stored, held_in, held_flags, state_stored, state_in, state_flags, saying_stored, saying_in, saying_flags}
use Rattle.storing.proofs.Laid.{length-file, length-hold}
use Rattle.storing.proofs.Numbers.{length-bytes}
use Rattle.storing.proofs.Parts.{Stands, cut, number_at, flag_at, set_back, flag-good, flag_same, next, after, number_same}

pub bytes-size : (n : ℕ) (x : List ℕ) → are_bytes n x ≡ true → length x ≡ n
unfolding are_bytes
bytes-size n x h = eqb-true (length x) n (and_left (eqb (length x) n) (every is_byte x) h)

-- ---- a place

module _ (p : Place) (hs : fits 4 p.sector ≡ true) (hb : fits 4 p.byte ≡ true) (b : List ℕ) (at : ℕ) (s : Stands b at (place_stored p)) where
  place-back : place_in b at ≡ p
  unfolding place_stored place_in
  place-back =
      let c₀ = cut b at (bytes_of 4 p.sector) _ 4 (at + 4) (length-bytes 4 p.sector) refl s in
      let c₁ : part b (at + 4) 4 ≡ bytes_of 4 p.byte = ap (part b (at + 4)) (sym (length-bytes 4 p.byte)) ∙ c₀.1 in
      rw (number_at b at 4 p.sector hs c₀.0, number_at b (at + 4) 4 p.byte hb c₁)

length-place : (p : Place) → length (place_stored p) ≡ 8
unfolding place_stored bytes_of
length-place p = refl

module _ (b : List ℕ) (bytes : every is_byte b ≡ true) (at : ℕ) where
  place_same : at + 8 ≤ length b → place_stored (place_in b at) ≡ part b at 8
  unfolding place_stored place_in
  place_same h = rw (number_same b bytes at 4 (omega arith), number_same b bytes (at + 4) 4 (omega arith)) (next b at 4 (at + 4) 4 refl refl)

-- ---- an open-file state

module _ (f : OpenFile) (b : List ℕ) (at : ℕ) (s : Stands b at (file_stored f)) where
  abbrev c₀ : (part b at 1 ≡ flag_of f.used ∷ []) × Stands b (at + 1) (bytes_of 8 f.entry ++ (bytes_of 4 f.position ++ ((flag_of f.beyond ∷ []) ++ (place_stored f.here ++ place_stored f.end))))
  unfolding file_stored
  c₀ = cut b at (flag_of f.used ∷ []) _ 1 (at + 1) refl refl s

  abbrev c₁ : (part b (at + 1) 8 ≡ bytes_of 8 f.entry) × Stands b (at + 9) (bytes_of 4 f.position ++ ((flag_of f.beyond ∷ []) ++ (place_stored f.here ++ place_stored f.end)))
  c₁ = cut b (at + 1) (bytes_of 8 f.entry) _ 8 (at + 9) (length-bytes 8 f.entry) (omega arith) c₀.1

  abbrev c₂ : (part b (at + 9) 4 ≡ bytes_of 4 f.position) × Stands b (at + 13) ((flag_of f.beyond ∷ []) ++ (place_stored f.here ++ place_stored f.end))
  c₂ = cut b (at + 9) (bytes_of 4 f.position) _ 4 (at + 13) (length-bytes 4 f.position) (omega arith) c₁.1

  abbrev c₃ : (part b (at + 13) 1 ≡ flag_of f.beyond ∷ []) × Stands b (at + 14) (place_stored f.here ++ place_stored f.end)
  c₃ = cut b (at + 13) (flag_of f.beyond ∷ []) _ 1 (at + 14) refl (omega arith) c₂.1

  abbrev c₄ : (part b (at + 14) 8 ≡ place_stored f.here) × Stands b (at + 22) (place_stored f.end)
  c₄ = cut b (at + 14) (place_stored f.here) (place_stored f.end) 8 (at + 22) (length-place f.here) (omega arith) c₃.1

  used : get_or b at 0 ≡ flag_of f.used
  used = flag_at b at f.used c₀.0

  beyond : get_or b (at + 13) 0 ≡ flag_of f.beyond
  beyond = flag_at b (at + 13) f.beyond c₃.0

  pub file-flagged : file_flags b at ≡ true
  unfolding file_flags
  file-flagged = rw (used, beyond, flag-good f.used, flag-good f.beyond)

  pub file-back : file_fits f ≡ true → file_in b at ≡ f
  unfolding file_in file_fits
  file-back h =
      let here : Stands b (at + 14) (place_stored f.here) = ap (part b (at + 14)) (length-place f.here) ∙ c₄.0 in
      rw (
        used,
        set_back f.used,
        number_at b (at + 1) 8 f.entry (all_get_d _ 0 h) c₁.0,
        number_at b (at + 9) 4 f.position (all_get_d _ 1 h) c₂.0,
        beyond,
        set_back f.beyond,
        place-back f.here (all_get_d _ 2 h) (all_get_d _ 3 h) b (at + 14) here,
        place-back f.end (all_get_d _ 4 h) (all_get_d _ 5 h) b (at + 22) c₄.1,
      )

module _ (b : List ℕ) (bytes : every is_byte b ≡ true) (at : ℕ) where
  pub file-same : at + file_width ≤ length b → file_flags b at ≡ true → file_stored (file_in b at) ≡ part b at file_width
  unfolding file_stored file_in file_flags
  file-same h g =
      rw (
        flag_same (get_or b at 0) (and_left (is_flag (get_or b at 0)) (is_flag (get_or b (at + 13) 0)) g),
        number_same b bytes (at + 1) 8 (omega arith),
        number_same b bytes (at + 9) 4 (omega arith),
        flag_same (get_or b (at + 13) 0) (and_right (is_flag (get_or b at 0)) (is_flag (get_or b (at + 13) 0)) g),
        place_same b bytes (at + 14) (omega arith),
        place_same b bytes (at + 22) (omega arith),
      ) (after b at (at + 1) 29 refl (omega arith) (next b (at + 1) 8 (at + 9) 21 (omega arith) (next b (at + 9) 4 (at + 13) 17 (omega arith) (after b (at + 13) (at + 14) 16 (omega arith) (omega arith) (next b (at + 14) 8 (at + 22) 8 (omega arith) refl)))))

-- ---- and one with its buffer

module _ (f : BufferedFile) (b : List ℕ) (at : ℕ) (s : Stands b at (held_stored f)) where
  abbrev d₀ : (part b at 30 ≡ file_stored f.file) × Stands b (at + 30) (hold_stored (hold_of f) ++ f.buffer)
  unfolding held_stored
  d₀ = cut b at (file_stored f.file) _ 30 (at + 30) (length-file f.file) refl s

  abbrev d₁ : (part b (at + 30) 6 ≡ hold_stored (hold_of f)) × Stands b (at + 36) f.buffer
  d₁ = cut b (at + 30) (hold_stored (hold_of f)) f.buffer 6 (at + 36) (length-hold (hold_of f)) (omega arith) d₀.1

  hold : Stands b (at + 30) (hold_stored (hold_of f))
  hold = ap (part b (at + 30)) (length-hold (hold_of f)) ∙ d₁.0

  abbrev d₂ : (part b (at + 30) 1 ≡ flag_of f.holds ∷ []) × Stands b (at + 31) (bytes_of 4 f.held ++ (flag_of f.changed ∷ []))
  unfolding hold_stored
  d₂ = cut b (at + 30) (flag_of f.holds ∷ []) _ 1 (at + 31) refl (omega arith) hold

  abbrev d₃ : (part b (at + 31) 4 ≡ bytes_of 4 f.held) × Stands b (at + 35) (flag_of f.changed ∷ [])
  d₃ = cut b (at + 31) (bytes_of 4 f.held) (flag_of f.changed ∷ []) 4 (at + 35) (length-bytes 4 f.held) (omega arith) d₂.1

  file : Stands b at (file_stored f.file)
  file = ap (part b at) (length-file f.file) ∙ d₀.0

  holds : get_or b (at + 30) 0 ≡ flag_of f.holds
  holds = flag_at b (at + 30) f.holds d₂.0

  changed : get_or b (at + 35) 0 ≡ flag_of f.changed
  changed = flag_at b (at + 35) f.changed d₃.1

  pub held-flagged : held_flags b at ≡ true
  unfolding held_flags
  held-flagged = rw (file-flagged f.file b at file, holds, changed, flag-good f.holds, flag-good f.changed)

  pub held_back : held_fits f ≡ true → held_in b at ≡ f
  unfolding held_in held_fits
  held_back h =
      let buffer : part b (at + 36) sector ≡ f.buffer = ap (part b (at + 36)) (sym (bytes-size sector f.buffer (all_get_d _ 2 h))) ∙ d₁.1 in
      rw (
        file-back f.file b at file (all_get_d _ 0 h),
        holds,
        set_back f.holds,
        number_at b (at + 31) 4 f.held (all_get_d _ 1 h) d₃.0,
        changed,
        set_back f.changed,
        buffer,
      )

module _ (b : List ℕ) (bytes : every is_byte b ≡ true) (at : ℕ) where
  hold-same : at + 36 ≤ length b → is_flag (get_or b (at + 30) 0) ≡ true → is_flag (get_or b (at + 35) 0) ≡ true
      → hold_stored (hold_of (held_in b at)) ≡ part b (at + 30) 6
  unfolding hold_stored held_in part
  hold-same h k l =
      rw (
        flag_same (get_or b (at + 30) 0) k,
        number_same b bytes (at + 31) 4 (omega arith),
        flag_same (get_or b (at + 35) 0) l,
      ) (after b (at + 30) (at + 31) 5 (omega arith) (omega arith) (next b (at + 31) 4 (at + 35) 1 (omega arith) (after b (at + 35) (at + 36) 0 (omega arith) (omega arith) refl)))

  pub held_same : at + held_width ≤ length b → held_flags b at ≡ true → held_stored (held_in b at) ≡ part b at held_width
  unfolding held_stored held_in held_flags
  held_same h g =
      let k = and_right (file_flags b at) (is_flag (get_or b (at + 30) 0) && is_flag (get_or b (at + 35) 0)) g in
      rw (
        file-same b bytes at (omega arith) (and_left (file_flags b at) _ g),
        hold-same (omega arith) (and_left (is_flag (get_or b (at + 30) 0)) (is_flag (get_or b (at + 35) 0)) k) (and_right (is_flag (get_or b (at + 30) 0)) (is_flag (get_or b (at + 35) 0)) k),
      ) (next b at 30 (at + 30) 366 refl (next b (at + 30) 6 (at + 36) 360 (omega arith) refl))

-- ---- with a buffer or without

-- what is kept of a state: all of it, or what it has without a buffer
unfoldable pub kept_in : Bool → BufferedFile → BufferedFile
kept_in true f = f
kept_in false f = fresh f.file

unfoldable pub state_fits : Bool → BufferedFile → Bool
state_fits true f = held_fits f
state_fits false f = file_fits f.file

pub state-back : (u : Bool) (f : BufferedFile) → state_fits u f ≡ true → (b : List ℕ) (at : ℕ) → Stands b at (state_stored u f) → state_in u b at ≡ kept_in u f
unfolding state_stored state_in kept_in state_fits
state-back true f h b at s = held_back f b at s h
state-back false f h b at s = ap fresh (file-back f.file b at s h)

pub state-flagged : (u : Bool) (f : BufferedFile) (b : List ℕ) (at : ℕ) → Stands b at (state_stored u f) → state_flags u b at ≡ true
unfolding state_stored state_flags
state-flagged true f b at s = held-flagged f b at s
state-flagged false f b at s = file-flagged f.file b at s

pub state-same : (u : Bool) (b : List ℕ) → every is_byte b ≡ true → (at : ℕ) → at + width u ≤ length b → state_flags u b at ≡ true → state_stored u (state_in u b at) ≡ part b at (width u)
unfolding state_stored state_in state_flags width
state-same true b bytes at h g = held_same b bytes at h g
state-same false b bytes at h g = file-same b bytes at h g

-- ---- what a session says of itself

module _ (s : Saying) (b : List ℕ) (at : ℕ) (stands : Stands b at (saying_stored s)) where
  refused : get_or b at 0 ≡ flag_of s.refused
  unfolding saying_stored
  refused = flag_at b at s.refused stands

  pub saying-flagged : saying_flags b at ≡ true
  unfolding saying_flags
  saying-flagged = rw (refused, flag-good s.refused)

  pub saying-back : saying_in b at ≡ s
  unfolding saying_in
  saying-back = rw (refused, set_back s.refused)

pub saying-same : (b : List ℕ) (at : ℕ) → at + said_width ≤ length b → saying_flags b at ≡ true → saying_stored (saying_in b at) ≡ part b at said_width
unfolding saying_stored saying_in saying_flags part
saying-same b at h g = rw (flag_same (get_or b at 0) g) (after b at (at + 1) 0 refl h refl)
