-- An entry and its 20 bytes: each is read back from the other, name and word by word.
use mathlib.Core.Path.{◌≡◌, sym, ap, ◌∙◌}
use mathlib.Core.List.{List, [], ◌∷◌, ◌++◌, append-nil}
use Prim.Native.Nat.{ℕ, suc, ◌+◌, ◌*◌, ◌/◌, ◌%◌, ◌≤◌, ◌<◌}
use native.Mathlib.Omega.{arith}
use lib.ListN.{length, drop, get_or, take-append-drop, drop_of_length-le}
use lib.Seq.{drop-cons, drop-length, drop-drop, take_at}
use Rattle.geometry.specs.Bytes.{part, padded, word, word_at}
use Rattle.geometry.proofs.Bytes.{length_part, padded-long, word-word_at}
use Rattle.directory.specs.declared.Entry.{Entry}
use Rattle.directory.specs.Entries.{entry_from, entry_bytes}

-- eight bytes, written out
pub eight : (x : List ℕ) → length x ≡ 8
    → x ≡ get_or x 0 0 ∷ get_or x 1 0 ∷ get_or x 2 0 ∷ get_or x 3 0 ∷ get_or x 4 0 ∷ get_or x 5 0 ∷ get_or x 6 0 ∷ get_or x 7 0 ∷ []
eight x n = rest 0 (omega arith) (rest 1 (omega arith) (rest 2 (omega arith) (rest 3 (omega arith) (rest 4 (omega arith) (rest 5 (omega arith) (rest 6 (omega arith) (rest 7 (omega arith) (ap (λ (k : ℕ). drop k x) (sym n) ∙ drop-length x))))))))
  where
    rest : {xs : List ℕ} (k : ℕ) → k < length x → drop (suc k) x ≡ xs → drop k x ≡ get_or x k 0 ∷ xs
    rest {xs} k h e = drop-cons x k 0 h ∙ ap (λ (r : List ℕ). get_or x k 0 ∷ r) e

-- ---- an entry from its bytes

abbrev words : Entry → List ℕ
words e = word e.kind ++ (word e.length ++ (word e.first ++ (word e.sectors ++ (word e.count ++ word e.flags))))

front : (x ys : List ℕ) → length x ≡ 8 → padded 0 8 (part (x ++ ys) 0 8) ≡ x
unfolding part
front x ys n = rw (take_at x ys 8 n) (padded-long 0 8 x (omega arith))

again : (n : ℕ) → 256 * (n / 256) + n % 256 ≡ n
again n = omega arith

pub entry-back : (e : Entry) → length e.name ≡ 8 → entry_from (entry_bytes e) ≡ e
unfolding entry_from entry_bytes word_at word
entry-back e n =
    rw (front e.name (words e) n, ap (λ (x : List ℕ). x ++ words e) (eight e.name n), again e.kind, again e.length, again e.first, again e.sectors, again e.count, again e.flags)

-- ---- bytes from their entry

module _ (b : List ℕ) (n : length b ≡ 20) (bytes : (k : ℕ) → get_or b k 0 < 256) where
  -- a word, and what stands behind it
  next : {r : List ℕ} (at : ℕ) → at + 2 ≤ 20 → r ≡ drop (at + 2) b → word (word_at b at) ++ r ≡ drop at b
  unfolding part
  next at h e =
      rw (e, word-word_at b at (omega arith) (bytes (at + 1)), ← drop-drop 2 at b) (take-append-drop 2 (drop at b))

  last : word (word_at b 18) ≡ drop 18 b
  last = sym (append-nil (word (word_at b 18))) ∙ next 18 (omega arith) (sym (drop_of_length-le b {i = 20} (omega arith)))

  whole : padded 0 8 (part b 0 8) ++ drop 8 b ≡ b
  unfolding part
  whole = rw (padded-long 0 8 (part b 0 8) (omega (arith, length_part b 0 8 (omega arith)))) (take-append-drop 8 b)

  pub bytes_back : entry_bytes (entry_from b) ≡ b
  unfolding entry_from entry_bytes
  bytes_back =
      rw (next 8 (omega arith) (next 10 (omega arith) (next 12 (omega arith) (next 14 (omega arith) (next 16 (omega arith) last))))) whole
