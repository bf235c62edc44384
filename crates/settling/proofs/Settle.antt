-- The image that a buffered session stands for: every held buffer laid back over its sector. Held sectors share no byte, so the order is free,
-- and what is laid apart from them may be laid before or behind.
use mathlib.Core.Path.{◌≡◌, refl, sym, ap, ◌∙◌}
use mathlib.Core.Bool.{true, false}
use mathlib.Core.List.{List, [], ◌∷◌, map}
use Prim.Native.Nat.{ℕ, zero, suc}
use native.Mathlib.Omega.{arith}
use native.Mathlib.Nat.{suc_inj}
use lib.ListN.{length, get_or, set}
use Rattle.geometry.specs.Bytes.{part, lay}
use Rattle.geometry.proofs.Bytes.{Apart, length-lay, lay-nil, lay-lay-apart, part-lay-apart, get_or-lay-out}
use Rattle.directory.specs.Entries.{entry_at}
use Rattle.sessions.specs.Session.{holds_one}
use Rattle.steps.specs.Effects.{sector_at}
use Rattle.directory.specs.declared.Entry.{Entry}
use Rattle.sessions.specs.declared.BufferedFile.{BufferedFile}
use Rattle.sessions.specs.declared.BufferedSession.{BufferedSession}

-- ---- definitions

-- bytes that are held, and where in the image they are to be laid
pub record Hold : Type 0 where
  pub at : ℕ
  pub bytes : List ℕ

-- a hold of nothing
abbrev pub empty : Hold
empty = record { at = 0; bytes = [] }

abbrev pub back : List ℕ → Hold → List ℕ
back image h = lay image h.at h.bytes

-- every hold laid back
unfoldable pub all_back : List Hold → List ℕ → List ℕ
all_back [] image = image
all_back (h ∷ hs) image = all_back hs (back image h)

-- what the file of entry e holds in its buffer
unfoldable pub held_by : Entry → BufferedFile → Hold
held_by e b = elim (holds_one e b) [ true ↦ record { at = sector_at e b.held; bytes = b.buffer } | false ↦ empty ]

-- what an open-file state holds: nothing, if it is not in use
unfoldable pub hold_of : List Entry → BufferedFile → Hold
hold_of table b = elim b.file.used [ true ↦ held_by (entry_at table b.file.entry) b | false ↦ empty ]

-- the image with every used, holding file's buffer laid over its sector
unfoldable pub settle : List ℕ → BufferedSession → List ℕ
settle image s = all_back (map (hold_of s.table) s.files) image

-- ---- laws

abbrev pub hold_at : List Hold → ℕ → Hold
hold_at hs i = get_or hs i empty

-- the hold lies off the n bytes from a on
abbrev pub Off : ℕ → ℕ → Hold → Type 0
Off a n h = Apart a n h.at (length h.bytes)

pub length_back : (hs : List Hold) (image : List ℕ) → length (all_back hs image) ≡ length image
unfolding all_back
length_back [] image = refl
length_back (h ∷ hs) image = length_back hs (back image h) ∙ length-lay image h.at h.bytes

-- bytes that no hold meets may be laid before or behind
pub back-lay : (hs : List Hold) (image : List ℕ) (a : ℕ) (xs : List ℕ) → ((j : ℕ) → Off a (length xs) (hold_at hs j))
    → all_back hs (lay image a xs) ≡ lay (all_back hs image) a xs
unfolding all_back
back-lay [] image a xs o = refl
back-lay (h ∷ hs) image a xs o =
    ap (all_back hs) (lay-lay-apart image a xs h.at h.bytes (o 0)) ∙ back-lay hs (back image h) a xs (λ j. o (suc j))

-- one hold may be laid first
pub back-first : (hs : List Hold) (image : List ℕ) (k : ℕ) → ((j : ℕ) → ¬ (j ≡ k) → Off (hold_at hs k).at (length (hold_at hs k).bytes) (hold_at hs j))
    → all_back hs image ≡ all_back (set hs k empty) (back image (hold_at hs k))
unfolding all_back
back-first [] image k o = sym (lay-nil image 0)
back-first (h ∷ hs) image zero o = ap (all_back hs) (sym (lay-nil (back image h) 0))
back-first (h ∷ hs) image (suc k) o =
    back-first hs (back image h) k (λ j n. o (suc j) (λ q. n (suc_inj q)))
    ∙ ap (all_back (set hs k empty)) (sym (lay-lay-apart image (hold_at hs k).at (hold_at hs k).bytes h.at h.bytes (o 0 (omega arith))))

-- what no hold meets is as it was
pub back-part : (hs : List Hold) (image : List ℕ) (a n : ℕ) → ((j : ℕ) → Off a n (hold_at hs j)) → part (all_back hs image) a n ≡ part image a n
unfolding all_back
back-part [] image a n o = refl
back-part (h ∷ hs) image a n o = back-part hs (back image h) a n (λ j. o (suc j)) ∙ part-lay-apart image h.at h.bytes a n (o 0)

pub back-get_or : (hs : List Hold) (image : List ℕ) (a : ℕ) → ((j : ℕ) → Off a 1 (hold_at hs j)) → get_or (all_back hs image) a 0 ≡ get_or image a 0
unfolding all_back
back-get_or [] image a o = refl
back-get_or (h ∷ hs) image a o = back-get_or hs (back image h) a (λ j. o (suc j)) ∙ get_or-lay-out image h.at h.bytes a 0 (o 0)

-- what holds of every hold but one, and of what takes that one's place
pub set_holds : (P : Hold → Type 0) (hs : List Hold) (k : ℕ) (h : Hold) → P h → P empty → ((j : ℕ) → ¬ (j ≡ k) → P (hold_at hs j)) → (j : ℕ) → P (hold_at (set hs k h) j)
set_holds P [] k h p r q j = r
set_holds P (x ∷ xs) zero h p r q zero = p
set_holds P (x ∷ xs) zero h p r q (suc j) = q (suc j) (omega arith)
set_holds P (x ∷ xs) (suc k) h p r q zero = q 0 (omega arith)
set_holds P (x ∷ xs) (suc k) h p r q (suc j) = set_holds P xs k h p r (λ i n. q (suc i) (omega (arith, n))) j

-- nothing held: the image itself
pub back-empty : (hs : List Hold) (image : List ℕ) → ((j : ℕ) → hold_at hs j ≡ empty) → all_back hs image ≡ image
unfolding all_back
back-empty [] image e = refl
back-empty (h ∷ hs) image e = rw (e 0, lay-nil) (back-empty hs image (λ j. e (suc j)))
