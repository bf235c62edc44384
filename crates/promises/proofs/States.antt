-- The state and the buffer of a file behind a request that is answered 0, 1 or 2: the next ones, where the request is on it, none where it closes it, and
-- else those that it had.
use mathlib.Core.Path.{◌≡◌, refl, sym, ap, ◌∙◌}
use mathlib.Core.Logic.{◌≢◌}
use mathlib.Core.Bool.{true, false}
use mathlib.Core.List.{List}
use Prim.Native.Nat.{ℕ, ◌<◌}
use native.Mathlib.Omega.{arith}
use native.Mathlib.Decide.{ℕ_discrete}
use lib.ListN.{length, get_or, set, length-set, length-map}
use lib.Seq.{get_or-set_same, get_or-set_other}
use Rattle.geometry.proofs.Tests.{both_ways}
use Rattle.directory.specs.Entries.{entry_at, is_free}
use Rattle.sessions.specs.Session.{idle, fresh, bare, is_of, file_of, slot_of, open_files, buffered_legal, typed}
use Rattle.sessions.proofs.Distinct.{Distinct, distinct, only-slot}
use Rattle.sessions.proofs.Files.{is-of}
use Rattle.sessions.proofs.Legal.{bare-legal}
use Rattle.serving.proofs.Keeping.{Of, Answered, goes, goes-used, file-then, file-others}
use Rattle.settling.proofs.Kept.{table-length, files-length}
use Rattle.steps.specs.Next.{Scene}
use Rattle.steps.specs.Step.{held_of, kept, buffered_scene}
use Rattle.steps.specs.Verdict.{file_next}
use Rattle.steps.proofs.Standing.{held_at, bare-at, map-set, Standing, is_open, is_shut, standing, kept-file}
use Rattle.directory.specs.declared.Entry.{Entry}
use Rattle.requests.specs.declared.Answer.{Answer}
use Rattle.requests.specs.declared.Request.{Request}
use Rattle.sessions.specs.declared.BufferedFile.{BufferedFile}
use Rattle.sessions.specs.declared.BufferedSession.{BufferedSession}
use Rattle.sessions.specs.declared.OpenFile.{OpenFile}
use Rattle.sessions.specs.declared.Session.{Session}

module _ (image : List ℕ) (s : BufferedSession) (types : typed s ≡ true) (ok : buffered_legal image s ≡ true) (i : ℕ) (given : List ℕ) (buffer : ℕ)
    (used : is_free (entry_at s.table i) ≡ false) (q : Request) (a : Answer) (t : Answered q (open_files (bare s).files) buffer (buffered_scene image s i given) a)
    (table : List Entry) (b : BufferedFile) where
  abbrev scene : Scene
  scene = buffered_scene image s i given

  abbrev plain : Session
  plain = bare s

  abbrev k : ℕ
  k = slot_of plain.files i

  -- the next state
  abbrev f : OpenFile
  f = file_next a q scene

  -- the session that is left
  abbrev next : BufferedSession
  next = record { says = s.says; table = table; files = set s.files k (kept f b) }

  its : Of plain i scene
  unfolding buffered_scene bare
  its = record { number = refl; entry = refl; file = refl }

  many : length plain.table ≡ 18
  unfolding bare
  many = table-length s types

  four : length plain.files ≡ 4
  unfolding bare
  four = length-map s.files (λ b. b.file) ∙ files-length s types

  in_use : is_free scene.entry ≡ false
  unfolding buffered_scene
  in_use = used

  apart : Distinct plain.files
  apart = distinct image plain (bare-legal image s ok)

  bare-files : (bare next).files ≡ set plain.files k f
  unfolding bare
  bare-files = map-set (λ (x : BufferedFile). x.file) s.files k (kept f b) ∙ ap (set plain.files k) (kept-file f b)

  own-file : file_of (bare next).files i ≡ f
  own-file = ap (λ (fs : List OpenFile). file_of fs i) bare-files ∙ file-then image plain (bare-legal image s ok) many four i scene its in_use buffer q a t

  other-file : (j : ℕ) → j ≢ i → file_of (bare next).files j ≡ file_of plain.files j
  other-file j n = ap (λ (fs : List OpenFile). file_of fs j) bare-files ∙ file-others image plain (bare-legal image s ok) many four i scene its in_use buffer q a t j n

  mine : f.used ≡ true → f.entry ≡ i
  mine = goes-used q i f (goes image plain (bare-legal image s ok) many four i scene its in_use buffer q a t)

  -- a state of another number is as it was
  at_other : (m : ℕ) → m ≢ k → held_at next m ≡ held_at s m
  at_other m n = get_or-set_other s.files k m (kept f b) (fresh idle) n

  at_own : k < length s.files → held_at next k ≡ kept f b
  at_own l = get_or-set_same s.files k (kept f b) (fresh idle) l

  as_many : length next.files ≡ length s.files
  as_many = length-set s.files k (kept f b)

  of-state : (j m : ℕ) → (held_at s m).file.used ≡ true → (held_at s m).file.entry ≡ j → is_of j (get_or plain.files m idle) ≡ true
  of-state j m u e = ap (is_of j) (bare-at s m) ∙ is-of j (held_at s m).file u e

  -- ---- the request's own file

  pub held-open : f.used ≡ true → held_of next i ≡ kept f b
  held-open u = go (standing next i)
    where
      go : Standing next i → held_of next i ≡ kept f b
      go (is_shut z) = both_ways f.used u (ap (λ (g : OpenFile). g.used) (sym own-file ∙ z.file))
      go (is_open m o) = one (ℕ_discrete m k)
        where
          one : Dec (m ≡ k) → held_of next i ≡ kept f b
          one (yes e) = o.buffer ∙ ap (held_at next) e ∙ at_own (omega (arith, o.inside, as_many))
          one (no n) = absurd (n (only-slot plain.files apart i m (of-state i m (rw (at_other m n) at o.used) (rw (at_other m n) at o.entry))))

  pub held-closed : f.used ≡ false → held_of next i ≡ fresh idle
  held-closed u = go (standing next i)
    where
      go : Standing next i → held_of next i ≡ fresh idle
      go (is_shut z) = z.buffer
      go (is_open m o) = both_ways f.used (ap (λ (g : OpenFile). g.used) (sym own-file ∙ o.file) ∙ o.used) u

  -- ---- any other

  pub held-other : (j : ℕ) → j ≢ i → held_of next j ≡ held_of s j
  held-other j n = go (standing next j) (standing s j)
    where
      go : Standing next j → Standing s j → held_of next j ≡ held_of s j
      go (is_shut y) (is_shut z) = y.buffer ∙ sym z.buffer
      go (is_shut y) (is_open m o) = both_ways (held_at s m).file.used o.used (ap (λ (g : OpenFile). g.used) (sym o.file ∙ sym (other-file j n) ∙ y.file))
      go (is_open m o) (is_shut z) = both_ways (held_at next m).file.used o.used (ap (λ (g : OpenFile). g.used) (sym o.file ∙ other-file j n ∙ z.file))
      go (is_open m o) (is_open l p) = one (ℕ_discrete m k)
        where
          one : Dec (m ≡ k) → held_of next j ≡ held_of s j
          one (yes e) =
              let z : (held_at next m).file ≡ f = ap (λ (x : BufferedFile). x.file) (ap (held_at next) e ∙ at_own (omega (arith, o.inside, as_many))) ∙ kept-file f b in
              absurd (n (sym o.entry ∙ ap (λ (g : OpenFile). g.entry) z ∙ mine (ap (λ (g : OpenFile). g.used) (sym z) ∙ o.used)))
          one (no d) =
              let x : m ≡ l = apart m l j (of-state j m (rw (at_other m d) at o.used) (rw (at_other m d) at o.entry)) (of-state j l p.used p.entry) in
              o.buffer ∙ at_other m d ∙ ap (held_at s) x ∙ sym p.buffer
