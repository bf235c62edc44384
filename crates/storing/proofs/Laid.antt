-- What the code that lays a session meets on its way: a state written out byte by byte, sizes, and parts that are there or not.
use mathlib.Core.Path.{◌≡◌, refl, sym, ap, ◌∙◌}
use mathlib.Core.Bool.{Bool, true, false}
use mathlib.Core.List.{List, append_assoc}
use Prim.Native.Nat.{ℕ, ◌+◌, ◌*◌, ◌≤◌, ◌<◌}
use native.Mathlib.Omega.{arith}
use native.Mathlib.Decide.{dec_lt}
use lib.ListN.{length, replicate, length-append, length-replicate}
use borrow.Author.Tests.{lt-ltb, le-ltb, eqb-true}
use Rattle.geometry.specs.Bytes.{lay}
use Rattle.geometry.specs.Sizes.{sector, most_open}
use Rattle.sessions.specs.Session.{fresh}
use Rattle.geometry.proofs.Bytes.{length-lay, lay-append}
use Rattle.sessions.specs.declared.BufferedFile.{BufferedFile}
use Rattle.sessions.specs.declared.Holding.{Holding}
use Rattle.sessions.specs.declared.OpenFile.{OpenFile}
use Rattle.sessions.specs.declared.Saying.{Saying}
use Rattle.storing.specs.Numbers.{bytes_of}
use Rattle.storing.specs.Stored.{file_width, held_width, files_at, width, said_width, size_of, has_buffers, place_stored, file_stored, no_hold, hold_stored, held_stored, state_stored, saying_stored, front_stored, lay_part, lay_state, lay_fresh}

-- ---- bytes written out

-- ---- sizes

pub length-file : (f : OpenFile) → length (file_stored f) ≡ file_width
unfolding file_stored place_stored bytes_of
length-file f = refl

pub length-hold : (h : Holding) → length (hold_stored h) ≡ 6
unfolding hold_stored bytes_of
length-hold h = refl

pub length-held : (f : BufferedFile) → length f.buffer ≡ 360 → length (held_stored f) ≡ held_width
unfolding held_stored hold_stored file_stored place_stored bytes_of
length-held f n = rw n

pub length-saying : (s : Saying) → length (saying_stored s) ≡ said_width
unfolding saying_stored
length-saying s = refl

-- ---- a part of that number is there, or not

module _ (n at w : ℕ) (b : List ℕ) (i : ℕ) (x : List ℕ) where
  pub part-there : (p : ℕ) → at + w * i ≡ p → i < n → lay_part n at w b i x ≡ lay b p x
  unfolding lay_part
  part-there p e h = rw (lt-ltb i n h, lay_part) (ap (λ (k : ℕ). lay b k x) e)

  pub part-not : n ≤ i → lay_part n at w b i x ≡ b
  unfolding lay_part
  part-not h = rw (le-ltb i n h, lay_part)

-- ---- a state laid

-- a state is its front and its buffer, if it has one
pub length_front : (f : OpenFile) (h : Holding) → length (front_stored true f h) ≡ 36
unfolding front_stored
length_front f h = length-append (file_stored f) (hold_stored h) ∙ rw (length-file f, length-hold h)

pub length-state : (u : Bool) (f : BufferedFile) → length f.buffer ≡ sector → length (state_stored u f) ≡ width u
unfolding state_stored width
length-state true f l = length-held f l
length-state false f l = length-file f.file

-- the bytes of a state, laid in two parts
front-laid : (f : OpenFile) (h : Holding) (b x y b₁ b₂ : List ℕ) (at : ℕ) → at + 36 ≤ length b → x ≡ file_stored f → y ≡ hold_stored h
    → b₁ ≡ lay b at x → b₂ ≡ lay b₁ (at + 30) y → b₂ ≡ lay b at (front_stored true f h)
unfolding front_stored
front-laid f h b x y b₁ b₂ at r ex ey e₁ e₂ =
    let lx : length (file_stored f) ≡ 30 = length-file f in
    let ly : length (hold_stored h) ≡ 6 = length-hold h in
    e₂
    ∙ ap (λ (r : List ℕ). lay r (at + 30) y) (e₁ ∙ ap (lay b at) ex)
    ∙ ap (lay (lay b at (file_stored f)) (at + 30)) ey
    ∙ ap (λ (m : ℕ). lay (lay b at (file_stored f)) (at + m) (hold_stored h)) (sym lx)
    ∙ sym (lay-append b at (file_stored f) (hold_stored h) (omega arith))

-- and in three
fresh-laid : (f : OpenFile) (b b₁ b₂ : List ℕ) (at : ℕ) → at + held_width ≤ length b → b₁ ≡ lay b at (front_stored true f no_hold)
    → b₂ ≡ lay b₁ (at + 36) (replicate sector 0) → b₂ ≡ lay b at (held_stored (fresh f))
unfolding front_stored held_stored
fresh-laid f b b₁ b₂ at r e₁ e₂ =
    let l : length (front_stored true f no_hold) ≡ 36 = length_front f no_hold in
    let z : length {A = ℕ} (replicate sector 0) ≡ sector = length-replicate {A = ℕ} sector 0 in
    e₂ ∙ ap (λ (x : List ℕ). lay x (at + 36) (replicate sector 0)) e₁
    ∙ ap (λ (m : ℕ). lay (lay b at (front_stored true f no_hold)) (at + m) (replicate sector 0)) (sym l)
    ∙ sym (lay-append b at (front_stored true f no_hold) (replicate sector 0) (omega arith))
    ∙ ap (lay b at) (append_assoc (file_stored f) (hold_stored no_hold) (replicate sector 0))

pub length-laid : (n at w : ℕ) (b : List ℕ) (i : ℕ) (x : List ℕ) → length (lay_part n at w b i x) ≡ length b
length-laid n at w b i x = go (dec_lt i n)
  where
    go : Dec (i < n) → length (lay_part n at w b i x) ≡ length b
    go (yes k) = ap length (part-there n at w b i x (at + w * i) refl k) ∙ length-lay b (at + w * i) x
    go (no k) = ap length (part-not n at w b i x (omega arith))

-- bytes with a part laid are as many, so they have buffers as they had
pub laid-buffers : (n at w : ℕ) (b : List ℕ) (i : ℕ) (x : List ℕ) → has_buffers (lay_part n at w b i x) ≡ has_buffers b
unfolding has_buffers
laid-buffers n at w b i x = rw (length-laid n at w b i x)

-- with buffers, all bytes of the states are there
pub held-long : (b : List ℕ) → has_buffers b ≡ true → files_at + held_width * most_open ≤ length b
unfolding has_buffers size_of width
held-long b h = omega (arith, eqb-true (length b) (size_of true) h)

-- ---- as the program lays a state of number k

module _ (b : List ℕ) (k : ℕ) (f : OpenFile) where
  pub state-past : (h : Holding) → most_open ≤ k → b ≡ lay_state (has_buffers b) b k f h
  state-past h n = sym (part-not most_open files_at (width (has_buffers b)) b k _ n)

  module _ (n : k < most_open) (u : Bool) (e : u ≡ has_buffers b) (at : ℕ) (p : at ≡ files_at + width u * k) (x b₁ : List ℕ) (ex : x ≡ file_stored f) (e₁ : b₁ ≡ lay b at x) where
    pub plain-put : u ≡ false → (h : Holding) → b₁ ≡ lay_state (has_buffers b) b k f h
    unfolding front_stored
    plain-put t h = rw (sym e, t) (e₁ ∙ rw ex (sym (part-there most_open files_at (width false) b k (file_stored f) at (sym (p ∙ ap (λ (v : Bool). files_at + width v * k) t)) n)))

    pub held-put : u ≡ true → (h : Holding) (y b₂ : List ℕ) → y ≡ hold_stored h → b₂ ≡ lay b₁ (at + 30) y → b₂ ≡ lay_state (has_buffers b) b k f h
    held-put t h y b₂ ey e₂ =
        let v : at ≡ files_at + 396 * k = p ∙ ap (λ (v : Bool). files_at + width v * k) t ∙ (unfold width in refl) in
        let l : files_at + held_width * most_open ≤ length b = held-long b (sym e ∙ t) in
        rw (sym e, t)
        (front-laid f h b x y b₁ b₂ at (omega arith) ex ey e₁ e₂
        ∙ sym (part-there most_open files_at (width true) b k (front_stored true f h) at (sym (p ∙ ap (λ (v : Bool). files_at + width v * k) t)) n))

  module _ (b₁ : List ℕ) (e₁ : b₁ ≡ lay_state (has_buffers b) b k f no_hold) (u : Bool) (e : u ≡ has_buffers b₁) where
    same-buffers : has_buffers b₁ ≡ has_buffers b
    same-buffers = ap has_buffers e₁ ∙ laid-buffers most_open files_at (width (has_buffers b)) b k (front_stored (has_buffers b) f no_hold)

    pub fresh-put : u ≡ true → k < most_open → (at : ℕ) → at ≡ files_at + width true * k → (b₂ : List ℕ) → b₂ ≡ lay b₁ (at + 36) (replicate sector 0) → b₂ ≡ lay_fresh (has_buffers b) b k f
    unfolding state_stored
    fresh-put t n at p b₂ e₂ =
        let q : has_buffers b ≡ true = sym same-buffers ∙ sym e ∙ t in
        let l : files_at + held_width * most_open ≤ length b = held-long b q in
        let v : at ≡ files_at + 396 * k = p ∙ (unfold width in refl) in
        let g : b₁ ≡ lay b at (front_stored true f no_hold) = rw q at e₁ ∙ part-there most_open files_at (width true) b k (front_stored true f no_hold) at (sym p) n in
        rw q
        (fresh-laid f b b₁ b₂ at (omega arith) g e₂
        ∙ sym (part-there most_open files_at (width true) b k (held_stored (fresh f)) at (sym p) n))

    pub plain-fresh : u ≡ false → b₁ ≡ lay_fresh (has_buffers b) b k f
    unfolding state_stored front_stored
    plain-fresh t = let q : has_buffers b ≡ false = sym same-buffers ∙ sym e ∙ t in rw q at e₁ ∙ rw q

    pub past-fresh : most_open ≤ k → b₁ ≡ lay_fresh (has_buffers b) b k f
    past-fresh n = e₁ ∙ part-not most_open files_at (width (has_buffers b)) b k _ n ∙ sym (part-not most_open files_at (width (has_buffers b)) b k _ n)
