-- What goes straight to the image in every way comes to what the code does: an entry that is there is stamped, any other left; and a scene's number and entry are all
-- that an effect goes by.
use mathlib.Core.Logic.{◌⊎◌, inl, inr}
use mathlib.Core.Path.{◌≡◌, refl, ap, ◌∙◌}
use mathlib.Core.Bool.{true, false}
use mathlib.Core.List.{List, [], ◌∷◌}
use Prim.Native.Nat.{ℕ}
use lib.Dec.{ltb}
use Rattle.geometry.specs.Sizes.{entries}
use Rattle.geometry.proofs.Tests.{either}
use Rattle.directory.specs.Stamp.{stamp_bytes, stamped}
use Rattle.steps.specs.Effects.{Effect, hold, change, store, stamp, put_back, plain_do, Bench}
use Rattle.steps.specs.Next.{Scene}
use Rattle.steps.proofs.Frame.{Unstamped}
use Rattle.directory.specs.declared.Entry.{Entry}
use Rattle.straight.specs.Moving.{bench, scene, Way, moved_by, all_moved_by}

pub stamps : (m : Way) (i : ℕ) (e : Entry) (w : Bench) → bench (stamped w.image i e.count e.flags) w.file ≡ moved_by m (scene i e) (stamp (stamp_bytes e.count e.flags)) w
unfolding moved_by plain_do stamped
stamps m i e w = either (ltb i entries) (λ (h : ltb i entries ≡ true). rw (h, moved_by, stamped)) (λ (h : ltb i entries ≡ false). rw (h, moved_by, stamped))

-- and its entry alone where nothing stamps
pub moved-same : (m : Way) (c : Scene) (i : ℕ) (xs : List Effect) → (i ≡ c.number) ⊎ Unstamped xs → (w : Bench)
    → all_moved_by m (scene i c.entry) xs w ≡ all_moved_by m c xs w
unfolding all_moved_by moved_by plain_do
moved-same m c i [] u w = refl
moved-same m c i (hold k ∷ xs) u w = moved-same m c i xs u _
moved-same m c i (change x ∷ xs) u w = moved-same m c i xs u _
moved-same m c i (store y ∷ xs) u w = moved-same m c i xs u _
moved-same m c i (stamp ys ∷ xs) (inl p) w =
    ap (λ (n : ℕ). all_moved_by m (scene n c.entry) (stamp ys ∷ xs) w) p ∙ moved-same m c c.number xs (inl refl) _
moved-same m c i (stamp ys ∷ xs) (inr u) w = absurd u
moved-same m c i (put_back ∷ xs) u w = moved-same m c i xs u _
