-- A mounted session holds nothing, and one with no file open neither: each stands for its own image.
use mathlib.Core.Path.{◌≡◌, refl, sym, ap, subst, ◌∙◌}
use mathlib.Core.Bool.{true, false}
use mathlib.Core.List.{List}
use Prim.Native.Nat.{ℕ}
use Rattle.geometry.specs.Sizes.{lawful_length}
use Rattle.geometry.proofs.Tests.{either, both_ways}
use Rattle.sessions.specs.Session.{fresh, bare, unheld, holds_one, legal, typed}
use Rattle.sessions.proofs.Unheld.{bare-unheld, unheld-at, unheld-legal}
use Rattle.mounting.specs.Mounting.{plain_mount, buffered_mount}
use Rattle.mounting.proofs.Mounted.{mounted-legal, mounted-typed}
use Rattle.settling.proofs.Settle.{empty, held_by, hold_of, settle, back-empty}
use Rattle.steps.proofs.Standing.{held_at}
use Rattle.settling.proofs.Kept.{Kept, InStep, holds, hold_at_lem, hold-used, hold-unused}
use Rattle.directory.specs.declared.Entry.{Entry}
use Rattle.sessions.specs.declared.BufferedSession.{BufferedSession}
use Rattle.sessions.specs.declared.OpenFile.{OpenFile}
use Rattle.sessions.specs.declared.Session.{Session}

-- nothing open
pub settle-idle : (image : List ℕ) (s : BufferedSession) → ((k : ℕ) → (held_at s k).file.used ≡ false) → settle image s ≡ image
unfolding settle
settle-idle image s u = back-empty (holds s) image (λ k. hold_at_lem s k ∙ hold-unused s.table (held_at s k) (u k))

-- nothing held
fresh-hold : (table : List Entry) (f : OpenFile) → hold_of table (fresh f) ≡ empty
unfolding held_by holds_one
fresh-hold table f = either f.used (λ (u : f.used ≡ true). hold-used table (fresh f) u) (λ (u : f.used ≡ false). hold-unused table (fresh f) u)

pub settle-unheld : (image : List ℕ) (s : Session) → settle image (unheld s) ≡ image
unfolding settle
settle-unheld image s = back-empty (holds (unheld s)) image (λ k. hold_at_lem (unheld s) k ∙ ap (hold_of (unheld s).table) (unheld-at s k) ∙ fresh-hold (unheld s).table _)

pub kept-unheld : (image : List ℕ) (s : Session) → legal image s ≡ true → typed (unheld s) ≡ true → Kept image (unheld s)
unfolding holds_one
kept-unheld image s l t = record {
  is_legal = unheld-legal image s ∙ l;
  is_typed = t;
  in_step = λ k. subst (InStep image (unheld s).table) (sym (unheld-at s k)) (λ u h z. both_ways false h refl);
}

-- ---- a mounting

pub mounted-kept : (image : List ℕ) → lawful_length image ≡ true → Kept image (buffered_mount image).session
unfolding buffered_mount
mounted-kept image l = kept-unheld image (plain_mount image).session (mounted-legal image l) (mounted-typed image)

pub mounted-settles : (image : List ℕ) → settle image (buffered_mount image).session ≡ image
unfolding buffered_mount
mounted-settles image = settle-unheld image (plain_mount image).session

pub mounted-bare : (image : List ℕ) → bare (buffered_mount image).session ≡ (plain_mount image).session
unfolding buffered_mount
mounted-bare image = bare-unheld (plain_mount image).session
