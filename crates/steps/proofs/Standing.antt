-- Entry i's file with its buffer: in the state that is found for it, or in none; and the file's next state, with the buffer that it then has.
use mathlib.Core.Path.{◌≡◌, refl, sym, ap, ◌∙◌}
use mathlib.Core.Bool.{true, false, not}
use mathlib.Core.List.{List, [], ◌∷◌, map}
use Prim.Native.Nat.{ℕ, zero, suc, ◌<◌}
use native.Mathlib.Omega.{arith}
use lib.ListN.{length, get_or, set, length-map, get_or-map}
use Rattle.geometry.specs.Lists.{first_with}
use Rattle.geometry.proofs.Tests.{either, both_ways, chosen, not_chosen}
use Rattle.sessions.specs.Session.{idle, fresh, bare, is_of, file_of, slot_of}
use Rattle.sessions.proofs.Files.{is-of, Finds, opened, closed, finds}
use Rattle.steps.specs.Step.{held_of, kept}
use Rattle.sessions.specs.declared.BufferedFile.{BufferedFile}
use Rattle.sessions.specs.declared.BufferedSession.{BufferedSession}
use Rattle.sessions.specs.declared.OpenFile.{OpenFile}

-- the state of number k with its buffer
abbrev pub held_at : BufferedSession → ℕ → BufferedFile
held_at s k = get_or s.files k (fresh idle)

pub bare-at : (s : BufferedSession) (k : ℕ) → get_or (bare s).files k idle ≡ (held_at s k).file
unfolding bare
bare-at s k = get_or-map (λ f. f.file) s.files k (fresh idle)

pub map-set : {A B : Type 0} (f : A → B) (xs : List A) (k : ℕ) (y : A) → map f (set xs k y) ≡ set (map f xs) k (f y)
map-set f [] k y = refl
map-set f (x ∷ xs) zero y = refl
map-set {B = B} f (x ∷ xs) (suc k) y = ap (λ (zs : List B). f x ∷ zs) (map-set f xs k y)

-- ---- the file of an entry

pub record Opened (s : BufferedSession) (i k : ℕ) : Type 0 where
  pub slot : slot_of (bare s).files i ≡ k
  pub inside : k < length s.files
  pub file : file_of (bare s).files i ≡ (held_at s k).file
  pub buffer : held_of s i ≡ held_at s k
  pub used : (held_at s k).file.used ≡ true
  pub entry : (held_at s k).file.entry ≡ i
  pub before : (j : ℕ) → j < k → is_of i (get_or (bare s).files j idle) ≡ false

pub record Shut (s : BufferedSession) (i : ℕ) : Type 0 where
  pub slot : slot_of (bare s).files i ≡ first_with (λ f. not f.used) (bare s).files
  pub file : file_of (bare s).files i ≡ idle
  pub buffer : held_of s i ≡ fresh idle
  pub none : (j : ℕ) → is_of i (get_or (bare s).files j idle) ≡ false

pub data Standing (s : BufferedSession) (i : ℕ) : Type 0 where
  is_open : (k : ℕ) → Opened s i k → Standing s i
  is_shut : Shut s i → Standing s i

pub standing : (s : BufferedSession) (i : ℕ) → Standing s i
unfolding held_of
standing s i = go (finds (bare s).files i)
  where
    many : length (bare s).files ≡ length s.files
    many = unfold bare in length-map s.files (λ f. f.file)

    go : Finds (bare s).files i → Standing s i
    go (opened h p u e b) =
        let k : ℕ = slot_of (bare s).files i in
        let q : file_of (bare s).files i ≡ (held_at s k).file = p ∙ bare-at s k in
        is_open k (record {
          slot = refl;
          inside = omega (arith, many);
          file = q;
          buffer = chosen (file_of (bare s).files i).used (held_at s k) (fresh idle) u;
          used = ap (λ (f : OpenFile). f.used) (sym q) ∙ u;
          entry = ap (λ (f : OpenFile). f.entry) (sym q) ∙ e;
          before = b;
        })
    go (closed p h b) =
        is_shut (record { slot = h; file = p; buffer = not_chosen (file_of (bare s).files i).used _ (fresh idle) (ap (λ (f : OpenFile). f.used) p); none = b })

-- the state is the same, with its buffer and without
pub held-file : (s : BufferedSession) (i : ℕ) → (held_of s i).file ≡ file_of (bare s).files i
held-file s i = go (standing s i)
  where
    go : Standing s i → (held_of s i).file ≡ file_of (bare s).files i
    go (is_open k o) = ap (λ (b : BufferedFile). b.file) o.buffer ∙ sym o.file
    go (is_shut h) = ap (λ (b : BufferedFile). b.file) h.buffer ∙ sym h.file

-- where it is not open, no state in use is entry i's
pub shut-others : (s : BufferedSession) (i : ℕ) → Shut s i → (j : ℕ) → (held_at s j).file.used ≡ true → ¬ ((held_at s j).file.entry ≡ i)
shut-others s i h j u e = both_ways (is_of i (held_at s j).file) (is-of i (held_at s j).file u e) (ap (is_of i) (sym (bare-at s j)) ∙ h.none j)

-- ---- the file's next state, with the buffer that it then has

abbrev pub with_buffer : OpenFile → BufferedFile → BufferedFile
with_buffer f b = record { file = f; holds = b.holds; held = b.held; changed = b.changed; buffer = b.buffer }

pub kept-used : (f : OpenFile) (b : BufferedFile) → f.used ≡ true → kept f b ≡ with_buffer f b
unfolding kept
kept-used f b u = chosen f.used (with_buffer f b) (fresh f) u

pub kept-unused : (f : OpenFile) (b : BufferedFile) → f.used ≡ false → kept f b ≡ fresh f
unfolding kept
kept-unused f b u = not_chosen f.used (with_buffer f b) (fresh f) u

pub kept-file : (f : OpenFile) (b : BufferedFile) → (kept f b).file ≡ f
kept-file f b = either f.used (λ (u : f.used ≡ true). ap (λ (x : BufferedFile). x.file) (kept-used f b u)) (λ (u : f.used ≡ false). ap (λ (x : BufferedFile). x.file) (kept-unused f b u))
