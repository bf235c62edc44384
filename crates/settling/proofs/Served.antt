-- A request's effects, done by way of one file's buffer among the others': the session that is left stands for the image that the same
-- effects leave straight, and keeps what is kept.
use mathlib.Core.Path.{◌≡◌, refl, sym, ap, ap₂, subst, ◌∙◌, fun_ext}
use mathlib.Core.Bool.{Bool, true, false}
use mathlib.Core.List.{List, map}
use Prim.Native.Nat.{ℕ, ◌+◌, ◌*◌, ◌<◌}
use native.Mathlib.Omega.{arith}
use native.Mathlib.Decide.{ℕ_discrete}
use lib.ListN.{length, set, length-map}
use lib.Seq.{get_or-set_same, get_or-set_other, set-set}
use Rattle.geometry.specs.Bytes.{part}
use Rattle.geometry.specs.Lists.{every}
use Rattle.geometry.specs.Sizes.{sector, entries}
use Rattle.geometry.proofs.Bytes.{lay-nil}
use Rattle.geometry.proofs.Tests.{either, both_ways, and_both, chosen}
use Rattle.directory.specs.Entries.{entry_at}
use Rattle.sessions.specs.Session.{idle, fresh, bare, file_of, holds_one, held_good, legal, buffered_legal}
use Rattle.sessions.proofs.Held.{kind-holds}
use Rattle.sessions.proofs.Legal.{all_held}
use Rattle.steps.specs.Effects.{Effect, sector_at, Bench, plain_all, buffered_all}
use Rattle.steps.specs.Next.{Scene}
use Rattle.steps.specs.Step.{kept}
use Rattle.steps.proofs.Inside.{AllSuit}
use Rattle.settling.proofs.Settle.{Hold, empty, back, all_back, hold_at, held_by, hold_of, Off, settle, back-first}
use Rattle.settling.proofs.Bench.{own, Fits, Clear, Does, all-does, back-plain-all}
use Rattle.steps.proofs.Standing.{map-set, held_at, with_buffer, kept-used, kept-unused}
use Rattle.settling.proofs.Kept.{Kept, InStep, holds, hold_at_lem, hold-used, hold-unused, buffer-length, typed-set}
use Rattle.settling.proofs.Next.{SameShape, shape_at, new-shape, held_next}
use Rattle.settling.proofs.Scene.{held-clear, settle-own, others-clear}
use Rattle.directory.specs.declared.Entry.{Entry}
use Rattle.sessions.specs.declared.BufferedFile.{BufferedFile}
use Rattle.sessions.specs.declared.BufferedSession.{BufferedSession}
use Rattle.sessions.specs.declared.OpenFile.{OpenFile}

-- what is held does not turn on count and flags, nor on the state
held-shape : (a a' : Entry) (b : BufferedFile) → SameShape a a' → held_by a b ≡ held_by a' b
unfolding held_by
held-shape a a' b h =
    ap₂ (λ (t : Bool) (n : ℕ). elim t [ true ↦ record { at = sector * (n + b.held); bytes = b.buffer } | false ↦ empty ]) (kind-holds a a' b h.kind) h.first

held_with : (e : Entry) (f : OpenFile) (b : BufferedFile) → held_by e (with_buffer f b) ≡ held_by e b
unfolding held_by holds_one
held_with e f b = refl

held_one : (e : Entry) (f : OpenFile) (b : BufferedFile) → holds_one e (with_buffer f b) ≡ holds_one e b
unfolding holds_one
held_one e f b = refl

held-there : (e : Entry) (b : BufferedFile) → holds_one e b ≡ true → held_by e b ≡ record { at = sector_at e b.held; bytes = b.buffer }
unfolding held_by
held-there e b h = chosen (holds_one e b) (record { at = sector_at e b.held; bytes = b.buffer }) empty h

-- ---- one file among the others

-- state k is entry i's, with the buffer b; or it is free, and b is a fresh one
pub record Slot (image : List ℕ) (s : BufferedSession) (i k : ℕ) (b : BufferedFile) : Type 0 where
  pub inside : k < length s.files
  pub hold : hold_of s.table (held_at s k) ≡ held_by (entry_at s.table i) b
  pub fits : Fits (entry_at s.table i) (record { image = image; file = b })
  pub clear : (j : ℕ) → ¬ (j ≡ k) → Clear (entry_at s.table i) (hold_at (holds s) j)

module _ (image : List ℕ) (s : BufferedSession) (ok : Kept image s) (i : ℕ) (number : i < entries) (bytes given : List ℕ) where
  abbrev e : Entry
  e = entry_at s.table i

  abbrev c : Scene
  c = record { number = i; entry = e; file = file_of (bare s).files i; bytes = bytes; given = given }

  module _ (k : ℕ) (b : BufferedFile) (z : Slot image s i k b) (xs : List Effect) (suits : AllSuit e xs) (a : Entry) (shape : SameShape a e) (f : OpenFile) (of_entry : f.used ≡ true → f.entry ≡ i) where
    abbrev w : Bench
    w = record { image = image; file = b }

    abbrev v : Bench
    v = buffered_all c xs w

    abbrev next : BufferedSession
    next = record { says = s.says; table = set s.table i a; files = set s.files k (kept f v.file) }

    done : Does e w v (plain_all c xs (own e w))
    done = all-does c number xs suits w z.fits

    hold-shape : (x : BufferedFile) → hold_of next.table x ≡ hold_of s.table x
    unfolding hold_of
    hold-shape x =
        ap (λ (h : Hold). elim x.file.used [ true ↦ h | false ↦ empty ])
        (held-shape (entry_at next.table x.file.entry) (entry_at s.table x.file.entry) x (shape_at s.table i a shape x.file.entry))

    -- what it holds: what the buffer has; nothing where it is closed
    new-used : f.used ≡ true → hold_of next.table (kept f v.file) ≡ held_by e v.file
    new-used u =
        ap (hold_of next.table) (kept-used f v.file u)
        ∙ hold-used next.table (with_buffer f v.file) u
        ∙ held-shape (entry_at next.table f.entry) e (with_buffer f v.file) (new-shape s i k a shape f of_entry v.file u)
        ∙ held_with e f v.file

    new-unused : f.used ≡ false → hold_of next.table (kept f v.file) ≡ empty
    new-unused u = ap (hold_of next.table) (kept-unused f v.file u) ∙ hold-unused next.table (fresh f) u

    new-holds : holds next ≡ set (holds s) k (hold_of next.table (kept f v.file))
    new-holds =
        map-set (hold_of next.table) s.files k (kept f v.file)
        ∙ ap (λ (h : BufferedFile → Hold). set (map h s.files) k (hold_of next.table (kept f v.file))) (fun_ext hold-shape)

    module _ (gone : f.used ≡ false → own e v ≡ v.image) where
      abbrev new : Hold
      new = hold_of next.table (kept f v.file)

      new-own : back v.image new ≡ own e v
      new-own = either f.used (λ (u : f.used ≡ true). ap (back v.image) (new-used u))
          (λ (u : f.used ≡ false). ap (back v.image) (new-unused u) ∙ lay-nil v.image 0 ∙ sym (gone u))

      new-off : (j : ℕ) → ¬ (j ≡ k) → Off new.at (length new.bytes) (hold_at (holds s) j)
      new-off j n = either f.used (λ (u : f.used ≡ true). rw (new-used u) (held-clear e v done.fits (hold_at (holds s) j) (z.clear j n)))
          (λ (u : f.used ≡ false). rw (new-unused u) (omega arith))

      abbrev rest : List Hold
      rest = set (holds s) k empty

      -- the new buffer laid back first, the others behind
      next-own : settle v.image next ≡ all_back rest (own e v)
      unfolding settle
      next-own =
          let m : k < length (holds s) = omega (arith, z.inside, length-map s.files (hold_of s.table)) in
          let h : hold_at (set (holds s) k new) k ≡ new = get_or-set_same (holds s) k new empty m in
          ap (λ (hs : List Hold). all_back hs v.image) new-holds
          ∙ back-first (set (holds s) k new) v.image k (λ j n. rw (h, get_or-set_other (holds s) k j new empty n) (new-off j n))
          ∙ ap₂ all_back (set-set (holds s) k new empty) (ap (back v.image) h ∙ new-own)

      pub settle-next : settle v.image next ≡ plain_all c xs (settle image s)
      settle-next =
          next-own
          ∙ ap (all_back rest) done.same
          ∙ back-plain-all c number rest (others-clear image s ok i k z.clear) xs suits (own e w)
          ∙ ap (plain_all c xs) (sym (settle-own image s ok i k w refl z.hold z.fits z.clear))

      -- ---- what is kept

      new-size : length (kept f v.file).buffer ≡ sector
      new-size = either f.used (λ (u : f.used ≡ true). ap (λ (x : BufferedFile). length x.buffer) (kept-used f v.file u) ∙ done.fits.size)
          (λ (u : f.used ≡ false). ap (λ (x : BufferedFile). length x.buffer) (kept-unused f v.file u))

      -- the new buffer is in step
      new-step : InStep v.image next.table (kept f v.file)
      new-step = either f.used
          (λ (u : f.used ≡ true).
          let q : SameShape (entry_at next.table f.entry) e = new-shape s i k a shape f of_entry v.file u in
          subst (InStep v.image next.table) (sym (kept-used f v.file u))
          (λ y h x. done.fits.unchanged (sym (held_one e f v.file) ∙ sym (kind-holds _ e (with_buffer f v.file) q.kind) ∙ h) x ∙ ap (λ (n : ℕ). part v.image (sector * (n + v.file.held)) sector) (sym q.first)))
          (λ (u : f.used ≡ false). subst (InStep v.image next.table) (sym (kept-unused f v.file u)) (λ y h x. both_ways f.used y u))

      -- and the others still are
      old-step : (j : ℕ) → ¬ (j ≡ k) → InStep v.image next.table (held_at s j)
      old-step j n u h x =
          let o : Entry = entry_at s.table (held_at s j).file.entry in
          let q : SameShape (entry_at next.table (held_at s j).file.entry) o = shape_at s.table i a shape (held_at s j).file.entry in
          let p : holds_one o (held_at s j) ≡ true = sym (kind-holds _ o (held_at s j) q.kind) ∙ h in
          let l : hold_at (holds s) j ≡ record { at = sector_at o (held_at s j).held; bytes = (held_at s j).buffer } = hold_at_lem s j ∙ hold-used s.table (held_at s j) u ∙ held-there o (held_at s j) p in
          let r : Clear e (record { at = sector_at o (held_at s j).held; bytes = (held_at s j).buffer }) = rw l at (z.clear j n) in
          let m : length (held_at s j).buffer ≡ sector = buffer-length s ok.is_typed j in
          ok.in_step j u p x
          ∙ sym (done.others (sector_at o (held_at s j).held) sector (rw m at r))
          ∙ ap (λ (n : ℕ). part v.image (sector * (n + (held_at s j).held)) sector) (sym q.first)

      next-step : (j : ℕ) → InStep v.image next.table (held_at next j)
      next-step j = go (ℕ_discrete j k)
        where
          go : Dec (j ≡ k) → InStep v.image next.table (held_at next j)
          go (yes q) = subst (InStep v.image next.table) (sym (ap (λ (m : ℕ). held_at next m) q ∙ get_or-set_same s.files k (kept f v.file) (fresh idle) z.inside)) new-step
          go (no n) = subst (InStep v.image next.table) (sym (get_or-set_other s.files k j (kept f v.file) (fresh idle) n)) (old-step j n)

      all-good : every (held_good next.table) next.files ≡ true
      all-good = held_next s i k a shape f of_entry v.file done.fits.within (all_held image s ok.is_legal)

      pub kept_next : legal v.image (bare next) ≡ true → Kept v.image next
      unfolding buffered_legal
      kept_next l = record { is_legal = and_both (legal v.image (bare next)) (every (held_good next.table) next.files) l all-good; is_typed = typed-set s ok.is_typed i a k (kept f v.file) shape.name new-size; in_step = next-step }
