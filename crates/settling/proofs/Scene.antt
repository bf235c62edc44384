-- A request finds the same in both engines: a file's bytes as it has them, with its buffer, are those of the settled image.
use mathlib.Core.Path.{◌≡◌, refl, sym, ap, ap₂, ◌∙◌}
use mathlib.Core.Bool.{true, false}
use mathlib.Core.List.{List}
use Prim.Native.Nat.{ℕ, ◌+◌, ◌*◌, ◌<◌}
use native.Mathlib.Omega.{arith}
use lib.ListN.{length, get_or, set}
use lib.Dec.{eqb}
use borrow.Author.Tests.{eqb-true}
use Rattle.geometry.specs.Bytes.{part, lay, word}
use Rattle.geometry.specs.Lists.{every}
use Rattle.geometry.specs.Sizes.{sector, sectors_of}
use Rattle.geometry.proofs.Bytes.{part-lay-within}
use Rattle.geometry.proofs.Tests.{either, and_left, and_right, all_get_d, every_any, chosen, not_chosen}
use Rattle.directory.specs.Entries.{entry_at, entry_bytes, free_entry, is_free}
use Rattle.directory.specs.Rules.{free_is_zero, table_good, table_rules}
use Rattle.directory.proofs.Free.{zero-entry}
use Rattle.sessions.specs.Session.{idle, bare, file_of, holds_one, extent, extent_with, legal}
use Rattle.sessions.proofs.Held.{one_holds}
use Rattle.sessions.proofs.Legal.{bare-legal, files-differ, legal-length, good-table}
use Rattle.steps.specs.Effects.{sector_at, Bench}
use Rattle.steps.specs.Step.{held_of, plain_scene, plain_answer, buffered_scene, buffered_answer}
use Rattle.settling.proofs.Settle.{Hold, empty, back, all_back, hold_at, held_by, hold_of, Off, settle, length_back, back-first, back-part, set_holds}
use Rattle.settling.proofs.Bench.{own, Fits, Clear, own_held, own-none}
use Rattle.steps.proofs.Standing.{held_at, bare-at, Opened, Standing, is_open, is_shut, standing, shut-others}
use Rattle.settling.proofs.Kept.{Kept, holds, hold_at_lem, hold-used, used-entry, file-fits, clear}
use Rattle.directory.specs.declared.Entry.{Entry}
use Rattle.requests.specs.declared.Request.{Request}
use Rattle.sessions.specs.declared.BufferedFile.{BufferedFile}
use Rattle.sessions.specs.declared.BufferedSession.{BufferedSession}
use Rattle.sessions.specs.declared.OpenFile.{OpenFile}

pub length-settle : (image : List ℕ) (s : BufferedSession) → length (settle image s) ≡ length image
unfolding settle
length-settle image s = length_back (holds s) image

-- what a file holds lies off what the others hold
pub held-clear : (e : Entry) (w : Bench) → Fits e w → (h : Hold) → Clear e h → Off (held_by e w.file).at (length (held_by e w.file).bytes) h
unfolding held_by
held-clear e w f h x = either (holds_one e w.file)
    (λ (q : holds_one e w.file ≡ true).
    let r : w.file.held < e.sectors = f.within (one_holds e w.file q) in
    let l : length w.file.buffer ≡ sector = f.size in
    rw (q, held_by) (omega (arith, x.0)))
    (λ (q : holds_one e w.file ≡ false). rw (q, held_by) (omega arith))

-- a file's extent with its own buffer laid back
pub extent-own : (e : Entry) (w : Bench) → Fits e w → extent e (own e w) ≡ extent_with e w.file w.image
unfolding extent_with extent
extent-own e w f = either (holds_one e w.file)
    (λ (q : holds_one e w.file ≡ true).
    let r : w.file.held < e.sectors = f.within (one_holds e w.file q) in
    let l : length w.file.buffer ≡ sector = f.size in
    let z : sector_at e w.file.held ≡ sector * e.first + sector * w.file.held = omega arith in
    ap (extent e) (own_held e w q)
    ∙ ap (λ (a : ℕ). extent e (lay w.image a w.file.buffer)) z
    ∙ part-lay-within w.image (sector * e.first) (sector * e.sectors) (sector * w.file.held) w.file.buffer (omega arith)
    ∙ sym (chosen (holds_one e w.file) _ _ q))
    (λ (q : holds_one e w.file ≡ false). ap (extent e) (own-none e w q) ∙ sym (not_chosen (holds_one e w.file) _ _ q))

-- a free entry, 20 zero bytes, has no sectors
free-nothing : (e : Entry) → free_is_zero e ≡ true → is_free e ≡ true → e.sectors ≡ 0
unfolding free_is_zero
free-nothing e z f =
    let h : every (λ b. eqb b 0) (entry_bytes e) ≡ true = rw f at z in
    let k = and_right (eqb e.kind 0) _ (and_right (every (λ b. eqb b 0) e.name) _ (sym (zero-entry e) ∙ h)) in
    eqb-true e.sectors 0 (and_left (eqb e.sectors 0) _ (and_right (eqb e.first 0) _ (and_right (eqb e.length 0) _ k)))

no-extent : (e : Entry) (a b : List ℕ) → e.sectors ≡ 0 → extent e a ≡ extent e b
unfolding extent part
no-extent e a b z =
    let q : sector * e.sectors ≡ 0 = omega arith in
    rw q

module _ (image : List ℕ) (s : BufferedSession) (kept : Kept image s) (i : ℕ) where
  abbrev e : Entry
  e = entry_at s.table i

  -- no other state in use is entry i's
  pub alone : (k : ℕ) → Opened s i k → (j : ℕ) → ¬ (j ≡ k) → (held_at s j).file.used ≡ true → ¬ ((held_at s j).file.entry ≡ i)
  alone k o j d u q =
      files-differ image (bare s) (bare-legal image s kept.is_legal) j k d (used j u) (used k o.used)
      (ap (λ (f : OpenFile). f.entry) (bare-at s j) ∙ q ∙ sym o.entry ∙ ap (λ (f : OpenFile). f.entry) (sym (bare-at s k)))
    where
      used : (j : ℕ) → (held_at s j).file.used ≡ true → (get_or (bare s).files j idle).used ≡ true
      used j u = ap (λ (f : OpenFile). f.used) (bare-at s j) ∙ u

  -- the file's own buffer laid back first, the others behind
  pub settle-own : (k : ℕ) (w : Bench) → w.image ≡ image → hold_of s.table (held_at s k) ≡ held_by e w.file → Fits e w
      → ((j : ℕ) → ¬ (j ≡ k) → Clear e (hold_at (holds s) j)) → settle image s ≡ all_back (set (holds s) k empty) (own e w)
  unfolding settle
  settle-own k w p q f x =
      let h : hold_at (holds s) k ≡ held_by e w.file = hold_at_lem s k ∙ q in
      back-first (holds s) image k (λ j n. rw h (held-clear e w f (hold_at (holds s) j) (x j n)))
      ∙ ap (all_back (set (holds s) k empty)) (ap₂ back (sym p) h)

  -- the others' holds, with nothing in this one's place
  pub others-clear : (k : ℕ) → ((j : ℕ) → ¬ (j ≡ k) → Clear e (hold_at (holds s) j)) → (j : ℕ) → Clear e (hold_at (set (holds s) k empty) j)
  others-clear k x = set_holds (Clear e) (holds s) k empty (omega arith) (omega arith) x

  pub open-used : (k : ℕ) → Opened s i k → is_free e ≡ false
  open-used k o = ap (λ (j : ℕ). is_free (entry_at s.table j)) (sym o.entry) ∙ (used-entry image s kept k o.used).1

  pub open-fits : (k : ℕ) → Opened s i k → Fits e (record { image = image; file = held_at s k })
  open-fits k o = file-fits image s kept k e (ap (entry_at s.table) o.entry) o.used

  pub open-hold : (k : ℕ) → Opened s i k → hold_of s.table (held_at s k) ≡ held_by e (held_at s k)
  open-hold k o = hold-used s.table (held_at s k) o.used ∙ ap (λ (j : ℕ). held_by (entry_at s.table j) (held_at s k)) o.entry

  pub open-clear : (k : ℕ) → Opened s i k → (j : ℕ) → ¬ (j ≡ k) → Clear e (hold_at (holds s) j)
  open-clear k o j n = clear image s kept i (open-used k o) j (alone k o j n)

  pub same_bytes : extent_with e (held_of s i) image ≡ extent e (settle image s)
  unfolding extent_with holds_one extent settle
  same_bytes = go (standing s i)
    where
      go : Standing s i → extent_with e (held_of s i) image ≡ extent e (settle image s)
      go (is_open k o) =
          let w : Bench = record { image = image; file = held_at s k } in
          ap (λ (b : BufferedFile). extent_with e b image) o.buffer
          ∙ sym (extent-own e w (open-fits k o))
          ∙ sym (back-part (set (holds s) k empty) (own e w) (sector * e.first) (sector * e.sectors) (λ j. (others-clear k (open-clear k o) j).0))
          ∙ ap (extent e) (sym (settle-own k w refl (open-hold k o) (open-fits k o) (open-clear k o)))
      go (is_shut h) =
          ap (λ (b : BufferedFile). extent_with e b image) h.buffer
          ∙ either (is_free e)
          (λ (f : is_free e ≡ true). no-extent e image (settle image s) (free-nothing e (every_any free_is_zero s.table i free_entry rule (unfold free_is_zero entry_bytes every word in refl)) f))
          (λ (f : is_free e ≡ false). sym (back-part (holds s) image (sector * e.first) (sector * e.sectors) (λ j. (clear image s kept i f j (shut-others s i h j)).0)))
        where
          rule : every free_is_zero s.table ≡ true
          rule = unfold bare table_good table_rules in all_get_d (table_rules (sectors_of image) s.table) 1 (good-table image (bare s) (bare-legal image s kept.is_legal))

  pub same-scene : (given : List ℕ) → buffered_scene image s i given ≡ plain_scene (settle image s) (bare s) i given
  unfolding buffered_scene plain_scene bare
  same-scene given = ap (λ (bytes : List ℕ). record { number = i; entry = e; file = file_of (bare s).files i; bytes = bytes; given = given }) same_bytes

  -- and so the answers are the same
  pub settled-legal : legal (settle image s) (bare s) ≡ true
  settled-legal = legal-length (settle image s) image (bare s) (length-settle image s) ∙ bare-legal image s kept.is_legal

  pub same_answer : (q : Request) (given : List ℕ) (buffer : ℕ) → buffered_answer image s i q given buffer ≡ plain_answer (settle image s) (bare s) i q given buffer
  unfolding buffered_answer plain_answer
  same_answer q given buffer = rw (kept.is_legal, settled-legal, same-scene given)
