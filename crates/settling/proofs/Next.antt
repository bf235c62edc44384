-- The session behind a request: one entry with another count and other flags, and one state with the buffer that it then has.
use mathlib.Core.Path.{◌≡◌, refl, ap, subst, ◌∙◌, fun_ext}
use mathlib.Core.Bool.{Bool, true, false, ◌&&◌, ◌||◌, not, and-false}
use mathlib.Core.List.{List, [], ◌∷◌}
use Prim.Native.Nat.{ℕ, zero, suc}
use lib.ListN.{set}
use lib.Dec.{ltb}
use borrow.Author.Tests.{lt-ltb}
use Rattle.geometry.specs.Lists.{every}
use Rattle.geometry.proofs.Tests.{either, every_set}
use Rattle.directory.specs.Entries.{entry_at}
use Rattle.sessions.specs.Session.{fresh, bare, held_good}
use Rattle.steps.specs.Next.{Scene, entry_done, counted}
use Rattle.steps.specs.Step.{kept}
use Rattle.steps.proofs.Standing.{with_buffer, kept-used, kept-unused, kept-file, map-set}
use Rattle.settling.proofs.Bench.{Within}
use Rattle.directory.specs.declared.Entry.{Entry}
use Rattle.requests.specs.declared.Order.TheVariants.{WriteMark, RewindOnline, RewindOffline, RecordForward, RecordBack, FileForward, FileBack}
use Rattle.requests.specs.declared.Request.{Request}
use Rattle.requests.specs.declared.Request.TheVariants.{Open, Read, Write, GranuleRead, GranuleWrite, GranuleLook, Position}
use Rattle.sessions.specs.declared.BufferedFile.{BufferedFile}
use Rattle.sessions.specs.declared.BufferedSession.{BufferedSession}
use Rattle.sessions.specs.declared.OpenFile.{OpenFile}

-- ---- an entry with another count and other flags lies where it lay

pub record SameShape (a b : Entry) : Type 0 where
  pub name : a.name ≡ b.name
  pub kind : a.kind ≡ b.kind
  pub first : a.first ≡ b.first
  pub sectors : a.sectors ≡ b.sectors

pub same_shape : (a : Entry) → SameShape a a
same_shape a = record { name = refl; kind = refl; first = refl; sectors = refl }

pub shape_at : (table : List Entry) (i : ℕ) (a : Entry) → SameShape a (entry_at table i) → (j : ℕ) → SameShape (entry_at (set table i a) j) (entry_at table j)
shape_at [] i a h j = same_shape (entry_at [] j)
shape_at (x ∷ xs) zero a h zero = h
shape_at (x ∷ xs) zero a h (suc j) = same_shape (entry_at xs j)
shape_at (x ∷ xs) (suc i) a h zero = same_shape x
shape_at (x ∷ xs) (suc i) a h (suc j) = shape_at xs i a h j

pub entry-shape : (q : Request) (c : Scene) → SameShape (entry_done q c) c.entry
unfolding entry_done counted
entry-shape Open c = same_shape c.entry
entry-shape Read c = same_shape c.entry
entry-shape Write c = record { name = refl; kind = refl; first = refl; sectors = refl }
entry-shape (GranuleRead g) c = same_shape c.entry
entry-shape (GranuleWrite g) c = same_shape c.entry
entry-shape (GranuleLook g) c = same_shape c.entry
entry-shape (Position WriteMark) c = record { name = refl; kind = refl; first = refl; sectors = refl }
entry-shape (Position RewindOnline) c = same_shape c.entry
entry-shape (Position RewindOffline) c = same_shape c.entry
entry-shape (Position RecordForward) c = same_shape c.entry
entry-shape (Position RecordBack) c = same_shape c.entry
entry-shape (Position FileForward) c = same_shape c.entry
entry-shape (Position FileBack) c = same_shape c.entry

-- a held sector in its file's extent
held-good : (table : List Entry) (b : BufferedFile) (e : Entry) → SameShape (entry_at table b.file.entry) e → Within e b → held_good table b ≡ true
unfolding held_good
held-good table b e h r = either b.holds
    (λ (q : b.holds ≡ true).
    let l : ltb b.held e.sectors ≡ true = lt-ltb b.held e.sectors (r q) in
    rw (h.sectors, l) (anyway (b.file.used && b.holds)))
    (λ (q : b.holds ≡ false). rw (q, and-false b.file.used))
  where
    anyway : (t : Bool) → (not t || true) ≡ true
    anyway true = refl
    anyway false = refl

not-used : (table : List Entry) (b : BufferedFile) → b.file.used ≡ false → held_good table b ≡ true
unfolding held_good
not-used table b u = rw u

-- ---- the session

pub bare-next : (s : BufferedSession) (i k : ℕ) (a : Entry) (f : OpenFile) (b : BufferedFile)
    → bare (record { says = s.says; table = set s.table i a; files = set s.files k (kept f b) }) ≡ record { says = (bare s).says; table = set (bare s).table i a; files = set (bare s).files k f }
unfolding bare
bare-next s i k a f b =
    ap (λ (fs : List OpenFile). record { says = s.says; table = set s.table i a; files = fs }) (map-set (λ x. x.file) s.files k (kept f b) ∙ ap (set (bare s).files k) (kept-file f b))

-- "a held sector lies in its file's extent" as it did
module _ (s : BufferedSession) (i k : ℕ) (a : Entry) (shape : SameShape a (entry_at s.table i)) (f : OpenFile) (of_entry : f.used ≡ true → f.entry ≡ i) (b : BufferedFile) where
  abbrev table' : List Entry
  table' = set s.table i a

  good-shape : (x : BufferedFile) → held_good table' x ≡ held_good s.table x
  unfolding held_good
  good-shape x =
      let h : SameShape (entry_at table' x.file.entry) (entry_at s.table x.file.entry) = shape_at s.table i a shape x.file.entry in
      rw h.sectors

  -- the entry of the new state lies where it lay
  pub new-shape : f.used ≡ true → SameShape (entry_at table' f.entry) (entry_at s.table i)
  new-shape u = subst (λ (j : ℕ). SameShape (entry_at table' f.entry) (entry_at s.table j)) (of_entry u) (shape_at s.table i a shape f.entry)

  pub held_next : Within (entry_at s.table i) b → every (held_good s.table) s.files ≡ true
      → every (held_good table') (set s.files k (kept f b)) ≡ true
  held_next r g = every_set (held_good table') s.files k (kept f b) (ap (λ (p : BufferedFile → Bool). every p s.files) (fun_ext good-shape) ∙ g) new-good
    where
      new-good : held_good table' (kept f b) ≡ true
      new-good = either f.used
          (λ (u : f.used ≡ true). ap (held_good table') (kept-used f b u) ∙ held-good table' (with_buffer f b) (entry_at s.table i) (new-shape u) r)
          (λ (u : f.used ≡ false). ap (held_good table') (kept-unused f b u) ∙ not-used table' (fresh f) u)
