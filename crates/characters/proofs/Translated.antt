-- Bytes made ASCII where they stand: each is read before it is written over.
use mathlib.Core.Path.{◌≡◌, refl, sym, ap, ◌∙◌}
use mathlib.Core.List.{List, [], ◌++◌, map, append-nil}
use Prim.Native.Nat.{ℕ, ◌+◌, ◌≤◌, ◌<◌, min}
use native.Mathlib.Omega.{arith}
use native.Mathlib.Nat.{zero-add}
use Rattle.std.proofs.lemmas.List.{take_min, get_or-map}
use lib.ListN.{length, take, drop, get_or, length-take, length-map, drop_of_length-le}
use lib.Seq.{take_all, sets, sets-eq}
use Rattle.texts.specs.Texts.{Wrote}
use Rattle.characters.specs.Characters.{ascii_of}

-- the first n bytes made ASCII, as many as there are of the first m
pub translated : (o : List ℕ) (m n : ℕ) → n ≡ min m (length o) → Wrote o 0 (map ascii_of (take m o)) (map ascii_of (take n o) ++ drop n o) n
translated o m n e =
    let l : length (map ascii_of (take m o)) ≡ n = length-map (take m o) ascii_of ∙ length-take m o ∙ sym e in
    let t : take m o ≡ take n o = sym (take_min m o) ∙ ap (λ k. take k o) (sym e) in
    record {
      ends = omega arith;
      puts = sym (sets-eq (map ascii_of (take m o)) o 0 (omega arith) ∙ rw (l, t, zero-add) refl);
    }

-- ---- all of it

module _ (o new : List ℕ) (m r : ℕ) (h : length o ≤ m) (w : Wrote o 0 (map ascii_of (take m o)) new r) where
  pub all_made : new ≡ map ascii_of o
  all_made =
      let l : length (map ascii_of o) ≡ length o = length-map o ascii_of in
      let n : drop (0 + length (map ascii_of o)) o ≡ [] = drop_of_length-le o {i = 0 + length (map ascii_of o)} (omega arith) in
      w.puts ∙ ap (λ (xs : List ℕ). sets o 0 (map ascii_of xs)) (take_all m o h) ∙ sets-eq (map ascii_of o) o 0 (omega arith)
      ∙ ap (map ascii_of o ++◌) n ∙ append-nil (map ascii_of o)

  pub made_at : (k : ℕ) → k < length o → get_or new k 0 ≡ ascii_of (get_or o k 0)
  made_at k l = ap (λ (xs : List ℕ). get_or xs k 0) all_made ∙ get_or-map ascii_of o k 0 0 l
