-- What is judged of a session in lent bytes is the judgement on the engine's own scene: the held sector is seen where it is held, and the length of the code is
-- right where it counts.
use mathlib.Core.Path.{◌≡◌, refl, sym, ap, ap₂, ◌∙◌}
use mathlib.Core.Bool.{Bool, true, false, ◌&&◌, not}
use mathlib.Core.List.{List, []}
use Prim.Native.Nat.{ℕ, ◌*◌, ◌<◌}
use native.Mathlib.Omega.{arith}
use native.Mathlib.Decide.{dec_lt}
use lib.Dec.{eqb}
use lib.ListN.{length, get_or, get_or-eq_default}
use borrow.Author.Tests.{eq-eqb, not-true}
use Rattle.geometry.specs.Bytes.{lay}
use Rattle.geometry.specs.Lists.{first_with}
use Rattle.geometry.specs.Sizes.{sector}
use Rattle.geometry.proofs.Tests.{either, both_ways, chosen, not_chosen, first_holds}
use Rattle.directory.specs.Entries.{entry_at}
use Rattle.packing.specs.Reading.{overlaid}
use Rattle.requests.specs.Judge.{judge}
use Rattle.sessions.specs.Session.{idle, fresh, bare, file_of, slot_of, open_files, extent, has_buffer, holds_one, extent_with, buffered_legal}
use Rattle.sessions.proofs.Legal.{bare-legal}
use Rattle.steps.specs.Next.{Scene, code_length, facts_of}
use Rattle.steps.specs.Step.{held_of, buffered_scene}
use Rattle.steps.specs.Verdict.{seen_bytes, buffer_next}
use Rattle.steps.proofs.Seen.{nothing-over}
use Rattle.steps.proofs.Standing.{held_at, bare-at, Standing, is_open, is_shut, standing}
use Rattle.straight.specs.Straight.{code_given}
use Rattle.straight.proofs.Judged.{judgement, judged, buffer-judged}
use Rattle.straight.proofs.Goes.{right}
use Rattle.finding.specs.Lent.{in_use, state_at, lent_by, own_state, seen_of}
use Rattle.judging.specs.Judged.{scene_seen, judged_by, buffer_by}
use Rattle.directory.specs.declared.Entry.{Entry}
use Rattle.requests.specs.declared.Request.{Request}
use Rattle.sessions.specs.declared.BufferedFile.{BufferedFile}
use Rattle.sessions.specs.declared.BufferedSession.{BufferedSession}
use Rattle.sessions.specs.declared.OpenFile.{OpenFile}

-- the held sector is seen where it is held, if only an open file holds one
seen-held : (e : Entry) (f : OpenFile) (b : BufferedFile) (image : List ℕ) → length b.buffer ≡ sector
    → (b.holds ≡ true → f.used ≡ true) → seen_bytes e f (extent e image) b.held (lent_by b) ≡ extent_with e b image
unfolding seen_bytes overlaid lent_by extent_with holds_one
seen-held e f b image l h = either b.holds
    (λ (t : b.holds ≡ true).
    let p : lent_by b ≡ b.buffer = chosen b.holds b.buffer [] t in
    let m : overlaid (extent e image) b.held (lent_by b) ≡ lay (extent e image) (sector * b.held) b.buffer =
    ap (overlaid (extent e image) b.held) p ∙ chosen (eqb (length b.buffer) sector) _ (extent e image) (eq-eqb _ _ l) in
    ap₂ (λ (u : Bool) (xs : List ℕ). elim (u && has_buffer e) [ true ↦ xs | false ↦ extent e image ]) (h t ∙ sym t) m)
    (λ (t : b.holds ≡ false).
    let p : lent_by b ≡ [] = not_chosen b.holds b.buffer [] t in
    ap (λ (xs : List ℕ). seen_bytes e f (extent e image) b.held xs) p
    ∙ nothing-over e f (extent e image) b.held
    ∙ ap (λ (u : Bool). elim (u && has_buffer e) [ true ↦ lay (extent e image) (sector * b.held) b.buffer | false ↦ extent e image ]) (sym t))

-- ---- the state of an entry

module _ (s : BufferedSession) (i : ℕ) where
  abbrev k : ℕ
  k = slot_of (bare s).files i

  abbrev f : OpenFile
  f = file_of (bare s).files i

  -- it is in use where the entry is open
  pub in_use_lem : f.used ≡ (held_at s k).file.used
  in_use_lem = go (standing s i)
    where
      unused : (n : ℕ) → n ≡ first_with (λ f. not f.used) (bare s).files → Dec (n < length (bare s).files) → (get_or (bare s).files n idle).used ≡ false
      unused n h (yes l) = rw h (not-true _ (first_holds (λ f. not f.used) (bare s).files idle (rw h at l)))
      unused n h (no l) = ap (λ (f : OpenFile). f.used) (get_or-eq_default (bare s).files idle (omega arith))

      go : Standing s i → f.used ≡ (held_at s k).file.used
      go (is_open n o) = ap (λ (f : OpenFile). f.used) o.file ∙ ap (λ (n : ℕ). (held_at s n).file.used) (sym o.slot)
      go (is_shut z) = ap (λ (f : OpenFile). f.used) z.file ∙ sym (unused k z.slot (dec_lt k (length (bare s).files))) ∙ ap (λ (f : OpenFile). f.used) (bare-at s k)

  pub own_is : own_state s i ≡ held_of s i
  unfolding state_at in_use held_of
  own_is = ap (λ (t : Bool). elim t [ true ↦ held_at s k | false ↦ fresh idle ]) (sym in_use_lem)

  -- only an open file holds a sector
  only-open : (own_state s i).holds ≡ true → f.used ≡ true
  only-open h = go (standing s i)
    where
      go : Standing s i → f.used ≡ true
      go (is_open n o) = ap (λ (f : OpenFile). f.used) o.file ∙ o.used
      go (is_shut z) = both_ways (own_state s i).holds h (ap (λ (b : BufferedFile). b.holds) (own_is ∙ z.buffer))

-- ---- the judgement

module _ (image : List ℕ) (s : BufferedSession) (i : ℕ) (q : Request) (given buffer : List ℕ) (whole : length (own_state s i).buffer ≡ sector) where
  abbrev ok : Bool
  ok = buffered_legal image s

  abbrev files : ℕ
  files = open_files (bare s).files

  abbrev c : Scene
  c = buffered_scene image s i given

  abbrev found : Scene
  found = scene_seen image (seen_of image s i) (lent_by (own_state s i)) i q given

  seen : found ≡ c
  unfolding seen_of buffered_scene
  seen =
      ap (λ (xs : List ℕ). record { number = i; entry = entry_at s.table i; file = file_of (bare s).files i; bytes = xs; given = given })
      (seen-held (entry_at s.table i) (file_of (bare s).files i) (own_state s i) image whole (only-open s i) ∙ ap (λ (b : BufferedFile). extent_with (entry_at s.table i) b image) (own_is s i))

  right-code : ok ≡ true → length (code_given (entry_at s.table i) given) ≡ code_length (entry_at s.table i) given
  unfolding bare
  right-code = right image (bare s) ok (bare-legal image s) i [] given

  pub verdict-told : (judged_by image (seen_of image s i) (lent_by (own_state s i)) i q given (length buffer)).verdict ≡ judgement ok files (length buffer) q c
  unfolding judged_by seen_of buffered_scene
  verdict-told = judged files (length buffer) q ok (length (code_given (entry_at s.table i) given)) found c refl refl (λ h. seen) right-code

  pub buffer-told : buffer_by image (seen_of image s i) (lent_by (own_state s i)) i q given buffer ≡ buffer_next (judge q (facts_of ok files (length buffer) q c)) q c buffer
  unfolding buffer_by seen_of buffered_scene
  buffer-told = buffer-judged files (length buffer) q ok (length (code_given (entry_at s.table i) given)) found c (λ h. seen) right-code buffer
