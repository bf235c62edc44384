-- What a request answered 0 does to the image and the file's buffer: a compressed record read lies in another sector than its place exactly if
-- the place goes on; and some requests do nothing to either.
use mathlib.Core.Path.{◌≡◌, refl, sym, ap, ◌∙◌}
use mathlib.Core.Bool.{Bool, true, false, not}
use mathlib.Core.List.{List}
use Prim.Native.Nat.{ℕ, ◌+◌, ◌*◌, ◌≤◌, ◌<◌}
use native.Mathlib.Omega.{arith}
use lib.Dec.{eqb}
use lib.ListN.{length}
use borrow.Author.Tests.{eq-eqb, ne_eqb}
use Rattle.geometry.specs.Sizes.{sector, entries, blocked, compressed}
use Rattle.geometry.specs.declared.Place.{Place}
use Rattle.geometry.proofs.Tests.{either}
use Rattle.directory.specs.Entries.{is_kind}
use Rattle.packing.specs.Reading.{start_of, goes_on}
use Rattle.steps.specs.Effects.{Effect, read_effects, write_effects, store_effect, blocked_effect, effects, Bench, buffered_all}
use Rattle.steps.specs.Next.{Scene}
use Rattle.steps.proofs.Buffer.{of_file, any-file}
use Rattle.steps.proofs.Inside.{AllSuit}
use Rattle.straight.specs.Straight.{Encoded}
use Rattle.straight.specs.Moving.{bench, scene}
use Rattle.blocking.specs.Blocking.{state_with, lent}
use Rattle.held.specs.Held.{held_all, read_with, write_with, effects_with}
use Rattle.held.proofs.Agree.{held_same, held_all_lem}
use Rattle.requests.specs.declared.Order.TheVariants.{WriteMark, RewindOnline, RewindOffline, RecordForward, RecordBack, FileForward, FileBack}
use Rattle.requests.specs.declared.Request.{Request}
use Rattle.requests.specs.declared.Request.TheVariants.{Open, Read, Write, GranuleRead, GranuleWrite, GranuleLook, Position}
use Rattle.directory.specs.declared.Entry.{Entry}
use Rattle.sessions.specs.declared.Holding.{Holding}
use Rattle.sessions.specs.declared.OpenFile.{OpenFile}

goes-elsewhere : (bytes : List ℕ) (p : Place) → not (eqb p.sector (start_of bytes p).sector) ≡ goes_on bytes p
unfolding start_of
goes-elsewhere bytes p = either (goes_on bytes p)
    (λ (g : goes_on bytes p ≡ true). rw (g, start_of) (rw (ne_eqb p.sector (p.sector + 1) (omega arith))))
    (λ (g : goes_on bytes p ≡ false). rw (g, start_of) (rw (eq-eqb p.sector p.sector refl)))

-- only a compressed file's read goes by that sector
others-read : (e : Entry) (f : OpenFile) (g h : Bool) (k n : ℕ) → is_kind compressed e ≡ false → read_with e f g k ≡ read_with e f h n
unfolding read_with
others-read e f g h k n z = either (is_kind blocked e)
    (λ (b : is_kind blocked e ≡ true). rw (b, read_with))
    (λ (b : is_kind blocked e ≡ false). rw (b, z, read_with))

reads_at : (e : Entry) (f : OpenFile) (bytes : List ℕ) (k : ℕ) → (is_kind compressed e ≡ true → k ≡ (start_of bytes f.here).sector)
    → read_with e f (not (eqb f.here.sector k)) k ≡ read_with e f (goes_on bytes f.here) (start_of bytes f.here).sector
reads_at e f bytes k h = either (is_kind compressed e)
    (λ (z : is_kind compressed e ≡ true). rw (h z, goes-elsewhere bytes f.here))
    (λ (z : is_kind compressed e ≡ false). others-read e f _ _ k _ z)

-- the same effects, if that sector and the code are right
effects-with : (q : Request) (c : Scene) (code : List ℕ) (k : ℕ) → (q ≡ Read → is_kind compressed c.entry ≡ true → k ≡ (start_of c.bytes c.file.here).sector)
    → Encoded q c.entry c.given code → effects_with q c.entry c.file c.given code k ≡ effects q c
unfolding effects_with effects
effects-with Open c code k h z = refl
effects-with Read c code k h z = unfold read_with read_effects in reads_at c.entry c.file c.bytes k (h refl)
effects-with Write c code k h z = unfold write_with write_effects blocked_effect store_effect in either (is_kind blocked c.entry)
    (λ (b : is_kind blocked c.entry ≡ true). rw (b, write_with, write_effects))
    (λ (b : is_kind blocked c.entry ≡ false). either (is_kind compressed c.entry)
    (λ (t : is_kind compressed c.entry ≡ true). rw (b, t, z refl t, write_with, write_effects))
    (λ (t : is_kind compressed c.entry ≡ false). rw (b, t, write_with, write_effects)))
effects-with (GranuleRead g) c code k h z = refl
effects-with (GranuleWrite g) c code k h z = unfold store_effect in refl
effects-with (GranuleLook g) c code k h z = refl
effects-with (Position WriteMark) c code k h z = refl
effects-with (Position RewindOnline) c code k h z = refl
effects-with (Position RewindOffline) c code k h z = refl
effects-with (Position RecordForward) c code k h z = refl
effects-with (Position RecordBack) c code k h z = refl
effects-with (Position FileForward) c code k h z = refl
effects-with (Position FileBack) c code k h z = refl

-- what a request goes by: its entry, an extent in the image, effects that suit it, and that sector and the code
abbrev pub Goes : List ℕ → Request → Scene → List ℕ → ℕ → Type 0
Goes image q c code k =
    (c.number < entries) × (sector * (c.entry.first + c.entry.sectors) ≤ length image) × AllSuit c.entry (effects q c)
    × (q ≡ Read → is_kind compressed c.entry ≡ true → k ≡ (start_of c.bytes c.file.here).sector) × Encoded q c.entry c.given code

-- what is done with a lent buffer is what is done with the state whose buffer it is
module _ (c : Scene) (q : Request) (code : List ℕ) (k : ℕ) (image : List ℕ) (h : Holding) (buffer : List ℕ) where
  pub acts : Goes image q c code k → length buffer ≡ sector → {new room : List ℕ} {g : Holding}
      → lent new g room ≡ held_all (scene c.number c.entry) (effects_with q c.entry c.file c.given code k) (lent image h buffer)
      → bench new (state_with c.file g room) ≡ buffered_all c (effects q c) (bench image (state_with c.file h buffer))
  acts p l z =
      let w : Bench = lent image h buffer in
      ap (of_file c.file) (z
      ∙ ap (λ (xs : List Effect). held_all (scene c.number c.entry) xs w) (effects-with q c code k p.3 p.4)
      ∙ held_same c (effects q c) w
      ∙ held_all_lem c (effects q c) w p.0 p.1 l p.2)
      ∙ sym (any-file c.file c (effects q c) w)
