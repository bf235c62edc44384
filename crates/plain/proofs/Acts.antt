-- What a request answered 0 does to the image is what its effects do, case by case: only a write, a granule write and a close do anything, and only a close
-- goes by the entry's number.
use mathlib.Core.Path.{◌≡◌, refl, sym, ap, ◌∙◌}
use mathlib.Core.Bool.{Bool, true, false, not, ◌&&◌}
use mathlib.Core.List.{List, [], ◌∷◌, map}
use Prim.Native.Nat.{ℕ, ◌<◌}
use lib.Dec.{eqb, ltb}
use Rattle.geometry.specs.Sizes.{sector, entries, blocked, compressed}
use Rattle.geometry.proofs.Tests.{either}
use Rattle.directory.specs.Entries.{is_kind}
use Rattle.directory.proofs.Stamped.{stamped-in}
use Rattle.packing.specs.Placing.{changes}
use Rattle.packing.specs.Reading.{goes_on}
use Rattle.steps.specs.Effects.{Effect, hold, change, store, stamp, put_back, read_effects, write_effects, store_effect, blocked_effect, effects, plain_do, plain_all, Bench}
use Rattle.steps.specs.Next.{Scene}
use Rattle.steps.proofs.Frame.{Unstamped, all-changes, write-unstamped}
use Rattle.straight.specs.Straight.{writing, Encoded}
use Rattle.straight.specs.Moving.{scene, straight_way, moved_by, all_moved_by}
use Rattle.straight.proofs.Moved.{stamps}
use Rattle.held.specs.Held.{read_with, write_with, effects_with}
use Rattle.held.proofs.Agree.{reads-unstamped, writes-unstamped}
use Rattle.requests.specs.declared.Order.TheVariants.{WriteMark, RewindOnline, RewindOffline, RecordForward, RecordBack, FileForward, FileBack}
use Rattle.requests.specs.declared.Request.{Request}
use Rattle.requests.specs.declared.Request.TheVariants.{Open, Read, Write, GranuleRead, GranuleWrite, GranuleLook, Position}
use Rattle.directory.specs.declared.Entry.{Entry}
use Rattle.sessions.specs.declared.OpenFile.{OpenFile}
use Rattle.plain.specs.Plain.{written_with, acted_with}

-- what does not stamp goes by the entry alone
same-all : (c : Scene) (f : OpenFile) (given : List ℕ) (xs : List Effect) → Unstamped xs → (image : List ℕ)
    → plain_all (writing c.entry f given) xs image ≡ plain_all c xs image
unfolding plain_all plain_do
same-all c f given [] u image = refl
same-all c f given (hold k ∷ xs) u image = same-all c f given xs u image
same-all c f given (change x ∷ xs) u image = same-all c f given xs u _
same-all c f given (store y ∷ xs) u image = same-all c f given xs u _
same-all c f given (stamp ys ∷ xs) u image = absurd u
same-all c f given (put_back ∷ xs) u image = same-all c f given xs u image

-- ---- as the program goes

-- moved straight, effects that do not stamp are those done in the image
moved-plain : (c : Scene) (xs : List Effect) → Unstamped xs → (w : Bench) → (all_moved_by straight_way c xs w).image ≡ plain_all c xs w.image
unfolding all_moved_by moved_by plain_all plain_do
moved-plain c [] u w = refl
moved-plain c (hold k ∷ xs) u w = moved-plain c xs u _
moved-plain c (change x ∷ xs) u w = moved-plain c xs u _
moved-plain c (store y ∷ xs) u w = moved-plain c xs u _
moved-plain c (stamp ys ∷ xs) u w = absurd u
moved-plain c (put_back ∷ xs) u w = moved-plain c xs u _

module _ (c : Scene) (image : List ℕ) where
  -- a read holds sectors, and in the image that does nothing
  reads_nothing : (b k o : Bool) (p h n : ℕ) → plain_all c (elim b [ true ↦ hold p ∷ [] | false ↦ elim k [ true ↦ elim o [ true ↦ hold h ∷ hold n ∷ [] | false ↦ hold n ∷ [] ] | false ↦ [] ] ]) image ≡ image
  unfolding plain_all plain_do
  reads_nothing true k o p h n = refl
  reads_nothing false true true p h n = refl
  reads_nothing false true false p h n = refl
  reads_nothing false false o p h n = refl

module _ (i : ℕ) (e : Entry) (f : OpenFile) (given code : List ℕ) (k : ℕ) (w : Bench) where
  written : plain_all (scene i e) (write_with e f given code) w.image ≡ written_with e f given code w.image
  unfolding written_with write_with plain_all plain_do blocked_effect store_effect
  written = either (is_kind blocked e)
      (λ (b : is_kind blocked e ≡ true). rw (b, written_with, write_with))
      (λ (b : is_kind blocked e ≡ false). either (is_kind compressed e)
      (λ (t : is_kind compressed e ≡ true). rw (b, t, written_with, write_with) (sym (same-all (scene i e) f given (map change (changes f.here code)) (all-changes (changes f.here code)) w.image)))
      (λ (t : is_kind compressed e ≡ false). rw (b, t, written_with, write_with)))

  read : plain_all (scene i e) (read_with e f (not (eqb f.here.sector k)) k) w.image ≡ w.image
  unfolding read_with
  read = reads_nothing (scene i e) w.image (is_kind blocked e) (is_kind compressed e) (not (eqb f.here.sector k) && ltb f.here.byte sector) _ _ _

  pub acted : (q : Request) → (all_moved_by straight_way (scene i e) (effects_with q e f given code k) w).image ≡ acted_with q i e f given code w.image
  unfolding acted_with effects_with effects all_moved_by moved_by plain_do store_effect
  acted Open = refl
  acted Read = moved-plain (scene i e) _ (reads-unstamped e f (not (eqb f.here.sector k)) k) w ∙ read
  acted Write = moved-plain (scene i e) _ (writes-unstamped e f given code) w ∙ written
  acted (GranuleRead g) = refl
  acted (GranuleWrite g) = refl
  acted (GranuleLook g) = refl
  acted (Position WriteMark) = refl
  acted (Position RewindOnline) = refl
  acted (Position RewindOffline) = ap (λ (w : Bench). w.image) (sym (stamps straight_way i e w))
  acted (Position RecordForward) = refl
  acted (Position RecordBack) = refl
  acted (Position FileForward) = refl
  acted (Position FileBack) = refl

-- ---- a request's effects

module _ (c : Scene) (code image : List ℕ) where
  abbrev w' : Scene
  w' = writing c.entry c.file c.given

  writes : Encoded Write c.entry c.given code → written_with c.entry c.file c.given code image ≡ plain_all w' (write_effects w') image
  unfolding written_with write_effects plain_all
  writes z = either (is_kind blocked c.entry)
      (λ (b : is_kind blocked c.entry ≡ true). rw (b, written_with, write_effects))
      (λ (b : is_kind blocked c.entry ≡ false). either (is_kind compressed c.entry)
      (λ (t : is_kind compressed c.entry ≡ true). rw (b, t, z refl t, written_with, write_effects))
      (λ (t : is_kind compressed c.entry ≡ false). rw (b, t, written_with, write_effects)))

  same-effects : write_effects w' ≡ write_effects c
  unfolding write_effects blocked_effect store_effect
  same-effects = refl

  -- where there is such an entry, and the code is that of the bytes given
  pub acts : (q : Request) → c.number < entries → Encoded q c.entry c.given code
      → acted_with q c.number c.entry c.file c.given code image ≡ plain_all c (effects q c) image
  unfolding acted_with effects plain_all plain_do
  acts Open h z = refl
  acts Read h z = unfold read_effects in sym (reads_nothing c image (is_kind blocked c.entry) (is_kind compressed c.entry) (goes_on c.bytes c.file.here && ltb c.file.here.byte sector) _ _ _)
  acts Write h z = rw (writes z, same-effects) (same-all c c.file c.given (write_effects c) (write-unstamped c) image)
  acts (GranuleRead g) h z = refl
  acts (GranuleWrite g) h z = unfold store_effect in refl
  acts (GranuleLook g) h z = refl
  acts (Position WriteMark) h z = refl
  acts (Position RewindOnline) h z = refl
  acts (Position RewindOffline) h z = stamped-in image c.number c.entry.count c.entry.flags h
  acts (Position RecordForward) h z = refl
  acts (Position RecordBack) h z = refl
  acts (Position FileForward) h z = refl
  acts (Position FileBack) h z = refl
