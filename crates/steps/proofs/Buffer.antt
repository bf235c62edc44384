-- An effect by way of the buffer goes by what the buffer holds, and not by the rest of its file's state, which it leaves as it is; and a putting back
-- leaves all as it is where the file has no buffer.
use mathlib.Core.Path.{◌≡◌, refl, ap, ◌∙◌}
use mathlib.Core.Bool.{Bool, true, false, ◌&&◌}
use mathlib.Core.List.{List, [], ◌∷◌}
use Prim.Native.Nat.{ℕ}
use lib.Dec.{eqb}
use Rattle.geometry.proofs.Tests.{either}
use Rattle.sessions.specs.Session.{has_buffer}
use Rattle.steps.specs.Effects.{Effect, hold, change, store, stamp, put_back, Bench, putting_back, loaded, taking, working, buffered_do, buffered_all}
use Rattle.steps.specs.Next.{Scene}
use Rattle.directory.specs.declared.Entry.{Entry}
use Rattle.sessions.specs.declared.OpenFile.{OpenFile}

-- the same bench, its buffer that of another open-file state
abbrev pub of_file : OpenFile → Bench → Bench
of_file f w = record { image = w.image; file = record { file = f; holds = w.file.holds; held = w.file.held; changed = w.file.changed; buffer = w.file.buffer } }

-- what holds of a putting back, where the file has a buffer, and of the bench as it is, where it has none
pub back-cases : (P : Bench → Type 0) (c : Scene) (w : Bench) → (has_buffer c.entry ≡ true → P (putting_back c.entry w)) → (has_buffer c.entry ≡ false → P w) → P (buffered_do c put_back w)
unfolding buffered_do
back-cases P c w p q = go (has_buffer c.entry) refl
  where
    go : (b : Bool) → has_buffer c.entry ≡ b → P (elim b [ true ↦ putting_back c.entry w | false ↦ w ])
    go true h = p h
    go false h = q h

module _ (f : OpenFile) (e : Entry) (w : Bench) where
  puts : putting_back e (of_file f w) ≡ of_file f (putting_back e w)
  unfolding putting_back
  puts = either (w.file.holds && w.file.changed)
      (λ (h : w.file.holds && w.file.changed ≡ true). rw (h, putting_back))
      (λ (h : w.file.holds && w.file.changed ≡ false). rw (h, putting_back))

  backs : (b : Bool) → elim b [ true ↦ putting_back e (of_file f w) | false ↦ of_file f w ] ≡ of_file f (elim b [ true ↦ putting_back e w | false ↦ w ])
  backs true = puts
  backs false = refl

  takes : (k : ℕ) → taking e k (of_file f w) ≡ of_file f (taking e k w)
  unfolding taking loaded
  takes k = either (w.file.holds && eqb w.file.held k)
      (λ (h : w.file.holds && eqb w.file.held k ≡ true). rw (h, taking))
      (λ (h : w.file.holds && eqb w.file.held k ≡ false). rw (h, taking, puts))

does : (f : OpenFile) (c : Scene) (x : Effect) (w : Bench) → buffered_do c x (of_file f w) ≡ of_file f (buffered_do c x w)
unfolding buffered_do working
does f c (hold k) w = takes f c.entry w k
does f c (change x) w = ap (working x.place.byte x.bytes) (takes f c.entry w x.place.sector)
does f c (store x) w = refl
does f c (stamp xs) w = refl
does f c put_back w = backs f c.entry w (has_buffer c.entry)

pub any-file : (f : OpenFile) (c : Scene) (xs : List Effect) (w : Bench) → buffered_all c xs (of_file f w) ≡ of_file f (buffered_all c xs w)
unfolding buffered_all
any-file f c [] w = refl
any-file f c (x ∷ xs) w = ap (buffered_all c xs) (does f c x w) ∙ any-file f c xs (buffered_do c x w)
