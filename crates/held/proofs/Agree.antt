-- What is done with a lent buffer of 360 bytes is `buffered_all` of the effects, if each of them suits the file: then its sector is there.
use mathlib.Core.Logic.{inl, inr}
use mathlib.Core.Path.{◌≡◌, refl, sym, ap, ◌∙◌}
use mathlib.Core.Bool.{Bool, true, false, ◌&&◌}
use mathlib.Core.List.{List, [], ◌∷◌}
use Prim.Native.Nat.{ℕ, ◌+◌, ◌*◌, ◌≤◌, ◌<◌}
use native.Mathlib.Omega.{arith}
use lib.ListN.{length}
use lib.Dec.{eqb, ltb}
use borrow.Author.Tests.{eq-eqb, lt-ltb, le-leb}
use Rattle.geometry.specs.Sizes.{sector, entries, blocked, compressed}
use Rattle.geometry.proofs.Bytes.{length-lay, length_part}
use Rattle.geometry.proofs.Tests.{either, and_both}
use Rattle.directory.specs.Entries.{is_kind}
use Rattle.directory.specs.Stamp.{stamp_bytes}
use Rattle.packing.specs.Placing.{changes}
use Rattle.steps.specs.Effects.{Effect, hold, change, store, stamp, put_back, store_effect, blocked_effect, effects, sector_at, plain_do, Bench, putting_back, loaded, taking, working, buffered_do, buffered_all}
use Rattle.steps.specs.Next.{Scene}
use Rattle.steps.proofs.Buffer.{back-cases}
use Rattle.steps.proofs.Frame.{Unstamped, choice, all-changes}
use Rattle.steps.proofs.Inside.{Suits, AllSuit}
use Rattle.directory.specs.declared.Entry.{Entry}
use Rattle.sessions.specs.declared.OpenFile.{OpenFile}
use Rattle.blocking.specs.Blocking.{is_there, can_do, held_do, held_way}
use Rattle.blocking.proofs.Cases.{length-put, whole-put, take-held, take-other}
use Rattle.straight.specs.Moving.{scene, Way, moved_by, all_moved_by}
use Rattle.straight.proofs.Moved.{moved-same}
use Rattle.straight.specs.Straight.{writing}
use Rattle.requests.specs.declared.Order.TheVariants.{RewindOffline}
use Rattle.requests.specs.declared.Request.TheVariants.{Position}
use Rattle.held.specs.Held.{held_all, read_with, write_with}
use Rattle.held.proofs.Cases.{write-blocked-by, closes-by}

-- ---- image and buffer keep their lengths

module _ (e : Entry) (w : Bench) where
  length-take : (k : ℕ) → length (taking e k w).image ≡ length w.image
  unfolding loaded
  length-take k = either (w.file.holds && eqb w.file.held k)
      (λ h. ap (λ (v : Bench). length v.image) (sym (take-held e w k h)))
      (λ h. ap (λ (v : Bench). length v.image) (sym (take-other e w k h)) ∙ length-put e w)

  whole_take : (k : ℕ) → sector_at e k + sector ≤ length w.image → length w.file.buffer ≡ sector → length (taking e k w).file.buffer ≡ sector
  unfolding loaded
  whole_take k s l = either (w.file.holds && eqb w.file.held k)
      (λ h. ap (λ (v : Bench). length v.file.buffer) (sym (take-held e w k h)) ∙ l)
      (λ h. ap (λ (v : Bench). length v.file.buffer) (sym (take-other e w k h)) ∙ length_part (putting_back e w).image (sector_at e k) sector (rw (length-put e w) s))

length-do : (c : Scene) (x : Effect) (w : Bench) → length (buffered_do c x w).image ≡ length w.image
unfolding buffered_do working plain_do
length-do c (hold k) w = length-take c.entry w k
length-do c (change x) w = length-take c.entry w x.place.sector
length-do c (store x) w = length-lay _ _ _
length-do c (stamp xs) w = length-lay _ _ _
length-do c put_back w = back-cases (λ (v : Bench). length v.image ≡ length w.image) c w (λ h. length-put c.entry w) (λ h. refl)

-- ---- effects that suit the file

inside : (e : Entry) (k n : ℕ) → k < e.sectors → sector * (e.first + e.sectors) ≤ n → sector_at e k + sector ≤ n
inside e k n h s = omega arith

whole-do : (c : Scene) (x : Effect) (w : Bench) → sector * (c.entry.first + c.entry.sectors) ≤ length w.image → Suits c.entry x
    → length w.file.buffer ≡ sector → length (buffered_do c x w).file.buffer ≡ sector
unfolding buffered_do working
whole-do c (hold k) w s h l = whole_take c.entry w k (inside c.entry k _ h.1 s) l
whole-do c (change x) w s h l = length-lay _ _ _ ∙ whole_take c.entry w x.place.sector (inside c.entry x.place.sector _ h.1 s) l
whole-do c (store x) w s h l = l
whole-do c (stamp xs) w s h l = l
whole-do c put_back w s h l = back-cases (λ (v : Bench). length v.file.buffer ≡ sector) c w (λ b. ap length (whole-put c.entry w) ∙ l) (λ b. l)

there : (e : Entry) (k n : ℕ) → k < e.sectors → sector * (e.first + e.sectors) ≤ n → is_there e k n ≡ true
unfolding is_there
there e k n h s = rw (lt-ltb k e.sectors h, le-leb (sector_at e k + sector) n (inside e k n h s))

can : (c : Scene) (x : Effect) (w : Bench) → c.number < entries → sector * (c.entry.first + c.entry.sectors) ≤ length w.image → length w.file.buffer ≡ sector
    → Suits c.entry x → can_do c x w ≡ true
unfolding can_do
can c (hold k) w i s l h = and_both _ _ (eq-eqb _ _ l) (there c.entry k (length w.image) h.1 s)
can c (change x) w i s l h = and_both _ _ (eq-eqb _ _ l) (there c.entry x.place.sector (length w.image) h.1 s)
can c (store x) w i s l h = refl
can c (stamp xs) w i s l h = lt-ltb c.number entries i
can c put_back w i s l h = eq-eqb _ _ l

pub held_all_lem : (c : Scene) (xs : List Effect) (w : Bench) → c.number < entries → sector * (c.entry.first + c.entry.sectors) ≤ length w.image
    → length w.file.buffer ≡ sector → AllSuit c.entry xs → held_all c xs w ≡ buffered_all c xs w
unfolding held_all buffered_all held_do
held_all_lem c [] w i s l h = refl
held_all_lem c (x ∷ xs) w i s l h =
    let n : length (buffered_do c x w).image ≡ length w.image = length-do c x w in
    ap (λ (t : Bool). held_all c xs (elim t [ true ↦ buffered_do c x w | false ↦ w ])) (can c x w i s l h.0)
    ∙ held_all_lem c xs (buffered_do c x w) i (rw n s) (whole-do c x w s h.0 l) h.1

-- ---- in an engine's own way

module _ (e : Entry) (f : OpenFile) where
  pub reads-unstamped : (goes : Bool) (start : ℕ) → Unstamped (read_with e f goes start)
  unfolding read_with
  reads-unstamped goes start = choice Unstamped (is_kind blocked e) (record {}) (choice Unstamped (is_kind compressed e) (choice Unstamped (goes && ltb f.here.byte sector) (record {}) (record {})) (record {}))

  pub writes-unstamped : (given code : List ℕ) → Unstamped (write_with e f given code)
  unfolding write_with blocked_effect store_effect
  writes-unstamped given code = choice Unstamped (is_kind blocked e) (record {}) (choice Unstamped (is_kind compressed e) (all-changes (changes f.here code)) (record {}))

  module _ (m : Way) (i : ℕ) (w : Bench) where
    pub reads : (goes : Bool) (start : ℕ) → all_moved_by m (scene 0 e) (read_with e f goes start) w ≡ all_moved_by m (scene i e) (read_with e f goes start) w
    reads goes start = moved-same m (scene i e) 0 _ (inr (reads-unstamped goes start)) w

    pub writes : (given code : List ℕ) → all_moved_by m (scene 0 e) (write_with e f given code) w ≡ all_moved_by m (scene i e) (write_with e f given code) w
    writes given code = moved-same m (scene i e) 0 _ (inr (writes-unstamped given code)) w

-- in the way of the buffer
pub held-moved : (c : Scene) (xs : List Effect) (w : Bench) → all_moved_by held_way c xs w ≡ held_all c xs w
unfolding all_moved_by moved_by held_all held_do can_do buffered_do
held-moved c [] w = refl
held-moved c (hold k ∷ xs) w = held-moved c xs _
held-moved c (change x ∷ xs) w = held-moved c xs _
held-moved c (store y ∷ xs) w = held-moved c xs _
held-moved c (stamp ys ∷ xs) w = held-moved c xs _
held-moved c (put_back ∷ xs) w = held-moved c xs _

pub held_same : (c : Scene) (xs : List Effect) (w : Bench) → held_all (scene c.number c.entry) xs w ≡ held_all c xs w
held_same c xs w = sym (held-moved (scene c.number c.entry) xs w) ∙ moved-same held_way c c.number xs (inl refl) w ∙ held-moved c xs w

-- a blocked record is one change of its sector, with zeros up to that sector's end
pub write-blocked : (e : Entry) (f : OpenFile) (given code : List ℕ) (w : Bench) → e.kind ≡ blocked
    → held_do (scene 0 e) (blocked_effect (writing e f given)) w ≡ held_all (scene 0 e) (write_with e f given code) w
unfolding moved_by blocked_effect
write-blocked e f given code w k = write-blocked-by held_way e f given code w k ∙ held-moved (scene 0 e) (write_with e f given code) w

-- a close puts the buffer back and writes count and flags
pub closes : (i : ℕ) (e : Entry) (w : Bench)
    → held_do (scene i e) (stamp (stamp_bytes e.count e.flags)) (held_do (scene 0 e) put_back w) ≡ held_all (scene i e) (effects (Position RewindOffline) (scene i e)) w
unfolding moved_by held_do can_do buffered_do
closes i e w = closes-by held_way i e w ∙ held-moved (scene i e) (effects (Position RewindOffline) (scene i e)) w
