-- Laws of `part`, `lay`, `padded` and words, shown byte by byte: a byte of `lay` is one of what was laid, or the one that was there.
use mathlib.Core.Path.{◌≡◌, refl, sym, ap, ◌∙◌}
use mathlib.Core.List.{List, [], ◌∷◌, ◌++◌, append_assoc, append-nil}
use Prim.Native.Nat.{ℕ, suc, ◌+◌, ◌-◌, ◌*◌, ◌/◌, ◌%◌, ◌≤◌, ◌<◌, min, max}
use native.Mathlib.Nat.{add-zero, add-suc, suc-add}
use native.Mathlib.Omega.{arith}
use native.Mathlib.Decide.{dec_lt, dec_le}
use borrow.Author.Tests.{le-leb, lt-leb}
use lib.ListN.{length, take, drop, get_or, set, replicate, length-append, length-take, length-drop, length-replicate, get_or-replicate, get_or-append}
use lib.Seq.{get_or-take, get_or-drop, get_or-append-add, length-take-le, ext_get_or, take_all, take-add, drop-cons, drop-drop, paste, paste-suc, sets}
use Rattle.geometry.specs.Bytes.{part, lay, word_at, word, padded}

-- ---- ranges of places, and a place among them

-- two ranges share no place: one order that omega reads, whichever lies first
abbrev pub Apart : ℕ → ℕ → ℕ → ℕ → Type 0
Apart a n b m = min (a + n) (b + m) ≤ max a b

-- a place lies before a range, in it or behind it
pub where-is : {P : Type 0} (i at n : ℕ) → (i < at → P) → (at ≤ i → i < at + n → P) → (at + n ≤ i → P) → P
where-is {P} i at n f g h = first (dec_lt i at)
  where
    second : at ≤ i → Dec (i < at + n) → P
    second a (yes b) = g a b
    second a (no b) = h (omega arith)

    first : Dec (i < at) → P
    first (yes a) = f a
    first (no a) = second (omega arith) (dec_lt i (at + n))

-- equal bytes make equal lists
pub same_bytes : (a b : List ℕ) → length a ≡ length b → ((i : ℕ) → i < length a → get_or a i 0 ≡ get_or b i 0) → a ≡ b
same_bytes a b e h = ext_get_or 0 a b e h

-- ---- what `lay` is

pub lay-fits : (img : List ℕ) (at : ℕ) (xs : List ℕ) → at + length xs ≤ length img → lay img at xs ≡ take at img ++ (xs ++ drop (at + length xs) img)
unfolding lay
lay-fits img at xs h = rw (le-leb (at + length xs) (length img) h, lay)

pub lay-short : (img : List ℕ) (at : ℕ) (xs : List ℕ) → length img < at + length xs → lay img at xs ≡ img
unfolding lay
lay-short img at xs h = rw (lt-leb (at + length xs) (length img) h, lay)

-- bytes fit, or nothing is laid
pub fits_or : {P : Type 0} (img : List ℕ) (at : ℕ) (xs : List ℕ) → (at + length xs ≤ length img → P) → (length img < at + length xs → lay img at xs ≡ img → P) → P
fits_or {P} img at xs f g = go (dec_le (at + length xs) (length img))
  where
    go : Dec (at + length xs ≤ length img) → P
    go (yes h) = f h
    go (no h) = g (omega arith) (lay-short img at xs (omega arith))

-- ---- lengths

pub length-part-min : (img : List ℕ) (at n : ℕ) → length (part img at n) ≡ min n (length img - at)
unfolding part
length-part-min img at n = simp (length-take, length-drop)

pub length_part : (img : List ℕ) (at n : ℕ) → at + n ≤ length img → length (part img at n) ≡ n
length_part img at n h = length-part-min img at n ∙ omega arith

pub length-lay : (img : List ℕ) (at : ℕ) (xs : List ℕ) → length (lay img at xs) ≡ length img
length-lay img at xs = fits_or img at xs
    (λ (h : at + length xs ≤ length img). rw (lay-fits img at xs h) (simp (length-append, length-take, length-drop) (omega arith)))
    (λ (h : length img < at + length xs) (e : lay img at xs ≡ img). ap length e)

-- ---- a byte of each

pub get_d_part : (img : List ℕ) (at n i d : ℕ) → i < n → get_or (part img at n) i d ≡ get_or img (at + i) d
unfolding part
get_d_part img at n i d h = rw (get_or-take, get_or-drop)

pub get_or-lay-inside : (img : List ℕ) (at : ℕ) (xs : List ℕ) (i d : ℕ) → at + length xs ≤ length img → i < length xs
    → get_or (lay img at xs) (at + i) d ≡ get_or xs i d
get_or-lay-inside img at xs i d h k =
    let l : length (take at img) ≡ at = length-take-le at img (omega arith) in
    let s : at + i ≡ length (take at img) + i = omega arith in
    rw (lay-fits img at xs h, s) (get_or-append-add (take at img) (xs ++ drop (at + length xs) img) i d ∙ get_or-append xs (drop (at + length xs) img) d i k)

pub get_or-lay-before : (img : List ℕ) (at : ℕ) (xs : List ℕ) (i d : ℕ) → i < at → get_or (lay img at xs) i d ≡ get_or img i d
get_or-lay-before img at xs i d k = fits_or img at xs
    (λ (h : at + length xs ≤ length img).
    let l : length (take at img) ≡ at = length-take-le at img (omega arith) in
    rw (lay-fits img at xs h) (get_or-append (take at img) (xs ++ drop (at + length xs) img) d i (omega arith) ∙ get_or-take at img i d k))
    (λ (h : length img < at + length xs) (e : lay img at xs ≡ img). ap (λ (x : List ℕ). get_or x i d) e)

pub get_or-lay-behind : (img : List ℕ) (at : ℕ) (xs : List ℕ) (i d : ℕ) → at + length xs ≤ i → get_or (lay img at xs) i d ≡ get_or img i d
get_or-lay-behind img at xs i d k = fits_or img at xs
    (λ (h : at + length xs ≤ length img).
    let l : length (take at img) ≡ at = length-take-le at img (omega arith) in
    let j : ℕ = i - (at + length xs) in
    let s : i ≡ length (take at img) + (length xs + j) = omega arith in
    let t : (at + length xs) + j ≡ i = omega arith in
    ap (λ (x : List ℕ). get_or x i d) (lay-fits img at xs h)
    ∙ ap (λ (n : ℕ). get_or (take at img ++ (xs ++ drop (at + length xs) img)) n d) s
    ∙ get_or-append-add (take at img) (xs ++ drop (at + length xs) img) (length xs + j) d
    ∙ get_or-append-add xs (drop (at + length xs) img) j d
    ∙ get_or-drop (at + length xs) img j d
    ∙ ap (λ (n : ℕ). get_or img n d) t)
    (λ (h : length img < at + length xs) (e : lay img at xs ≡ img). ap (λ (x : List ℕ). get_or x i d) e)

pub get_or-lay-in : (img : List ℕ) (at : ℕ) (xs : List ℕ) (i d : ℕ) → at + length xs ≤ length img → at ≤ i → i < at + length xs
    → get_or (lay img at xs) i d ≡ get_or xs (i - at) d
get_or-lay-in img at xs i d h k l =
    let e : i ≡ at + (i - at) = omega arith in
    ap (λ (n : ℕ). get_or (lay img at xs) n d) e ∙ get_or-lay-inside img at xs (i - at) d h (omega arith)

pub get_or-lay-out : (img : List ℕ) (at : ℕ) (xs : List ℕ) (i d : ℕ) → Apart i 1 at (length xs) → get_or (lay img at xs) i d ≡ get_or img i d
get_or-lay-out img at xs i d k =
    where-is i at (length xs) (get_or-lay-before img at xs i d) (λ (a : at ≤ i) (b : i < at + length xs). absurd (omega arith)) (get_or-lay-behind img at xs i d)

-- ---- a part of a part, and a part in two

pub part-all : (xs : List ℕ) (n : ℕ) → length xs ≡ n → part xs 0 n ≡ xs
unfolding part
part-all xs n e = rw (← e) (take_all (length xs) xs (omega arith))

pub part-part : (img : List ℕ) (a n b m : ℕ) → b + m ≤ n → part (part img a n) b m ≡ part img (a + b) m
part-part img a n b m h =
    let l : length (part img a n) ≡ min n (length img - a) = length-part-min img a n in
    let l₁ : length (part (part img a n) b m) ≡ min m (length (part img a n) - b) = length-part-min (part img a n) b m in
    let l₂ : length (part img (a + b) m) ≡ min m (length img - (a + b)) = length-part-min img (a + b) m in
    same_bytes _ _ (omega arith) λ (i : ℕ) (q : i < length (part (part img a n) b m)).
    let e : a + (b + i) ≡ (a + b) + i = omega arith in
    get_d_part (part img a n) b m i 0 (omega arith)
    ∙ get_d_part img a n (b + i) 0 (omega arith)
    ∙ ap (λ (j : ℕ). get_or img j 0) e
    ∙ sym (get_d_part img (a + b) m i 0 (omega arith))

pub part-split : (img : List ℕ) (at n k : ℕ) → k ≤ n → part img at n ≡ part img at k ++ part img (at + k) (n - k)
unfolding part
part-split img at n k h =
    let e : n ≡ k + (n - k) = omega arith in
    ap (λ (m : ℕ). take m (drop at img)) e ∙ take-add k (n - k) (drop at img) ∙ ap (λ (z : List ℕ). take k (drop at img) ++ take (n - k) z) (drop-drop k at img)

-- parts of lists that are of one length and agree there
pub same_parts : (a b : List ℕ) (at n : ℕ) → length a ≡ length b → ((i : ℕ) → i < n → get_or a (at + i) 0 ≡ get_or b (at + i) 0) → part a at n ≡ part b at n
same_parts a b at n e h =
    let l₁ : length (part a at n) ≡ min n (length a - at) = length-part-min a at n in
    let l₂ : length (part b at n) ≡ min n (length b - at) = length-part-min b at n in
    same_bytes _ _ (l₁ ∙ ap (λ (x : ℕ). min n (x - at)) e ∙ sym l₂) λ (i : ℕ) (q : i < length (part a at n)).
    let p : i < n = omega arith in
    get_d_part a at n i 0 p ∙ h i p ∙ sym (get_d_part b at n i 0 p)

-- a part whose place and size were clipped first
pub part-clip : (img : List ℕ) (at n : ℕ) → part img (min at (length img)) (min n (length img - min at (length img))) ≡ part img at n
part-clip img at n =
    let a : ℕ = min at (length img) in
    let m : ℕ = min n (length img - a) in
    let l₁ : length (part img a m) ≡ min m (length img - a) = length-part-min img a m in
    let l₂ : length (part img at n) ≡ min n (length img - at) = length-part-min img at n in
    same_bytes _ _ (omega arith) λ (i : ℕ) (q : i < length (part img a m)).
    let e : a + i ≡ at + i = omega arith in
    get_d_part img a m i 0 (omega arith) ∙ ap (λ (j : ℕ). get_or img j 0) e ∙ sym (get_d_part img at n i 0 (omega arith))

-- ---- a part after a laying

module _ (img : List ℕ) (at : ℕ) (xs : List ℕ) where
  pub part-lay-apart : (a n : ℕ) → Apart a n at (length xs) → part (lay img at xs) a n ≡ part img a n
  part-lay-apart a n k = same_parts (lay img at xs) img a n (length-lay img at xs) λ (i : ℕ) (p : i < n). get_or-lay-out img at xs (a + i) 0 (omega arith)

  pub part-lay-inside : at + length xs ≤ length img → (k n : ℕ) → k + n ≤ length xs → part (lay img at xs) (at + k) n ≡ part xs k n
  part-lay-inside fits k n h =
      let l : length (lay img at xs) ≡ length img = length-lay img at xs in
      let l₁ : length (part (lay img at xs) (at + k) n) ≡ n = length_part _ (at + k) n (omega arith) in
      let l₂ : length (part xs k n) ≡ n = length_part xs k n h in
      same_bytes _ _ (l₁ ∙ sym l₂) λ (i : ℕ) (b : i < length (part (lay img at xs) (at + k) n)).
      let e : (at + k) + i ≡ at + (k + i) = omega arith in
      get_d_part (lay img at xs) (at + k) n i 0 (omega arith)
      ∙ ap (λ (j : ℕ). get_or (lay img at xs) j 0) e
      ∙ get_or-lay-inside img at xs (k + i) 0 fits (omega arith)
      ∙ sym (get_d_part xs k n i 0 (omega arith))

pub part-lay-same : (img : List ℕ) (at : ℕ) (xs : List ℕ) (n : ℕ) → length xs ≡ n → at + n ≤ length img → part (lay img at xs) at n ≡ xs
part-lay-same img at xs n e h =
    let z : at + 0 ≡ at = omega arith in
    ap (λ (a : ℕ). part (lay img at xs) a n) (sym z) ∙ part-lay-inside img at xs (omega arith) 0 n (omega arith) ∙ part-all xs n e

-- bytes laid over as many
pub lay-all : (n : ℕ) (old xs : List ℕ) → length old ≡ n → length xs ≡ n → lay old 0 xs ≡ xs
lay-all n old xs h k = sym (part-all (lay old 0 xs) n (length-lay old 0 xs ∙ h)) ∙ part-lay-same old 0 xs n k (omega arith)

-- ---- laying what is there, or nothing

pub lay-nil : (img : List ℕ) (at : ℕ) → lay img at [] ≡ img
lay-nil img at =
    same_bytes _ _ (length-lay img at []) λ (i : ℕ) (q : i < length (lay img at [])). get_or-lay-out img at [] i 0 (omega arith)

pub lay-part : (img : List ℕ) (at n : ℕ) → lay img at (part img at n) ≡ img
lay-part img at n =
    let m : length (part img at n) ≡ min n (length img - at) = length-part-min img at n in
    let l : length (lay img at (part img at n)) ≡ length img = length-lay img at (part img at n) in
    same_bytes _ _ l λ (i : ℕ) (q : i < length (lay img at (part img at n))).
    where-is i at (length (part img at n))
    (λ (u : i < at). get_or-lay-before img at (part img at n) i 0 u)
    (λ (u : at ≤ i) (v : i < at + length (part img at n)).
    let f : at + (i - at) ≡ i = omega arith in
    get_or-lay-in img at (part img at n) i 0 (omega arith) u v
    ∙ get_d_part img at n (i - at) 0 (omega arith) ∙ ap (λ (j : ℕ). get_or img j 0) f)
    (λ (u : at + length (part img at n) ≤ i). get_or-lay-behind img at (part img at n) i 0 u)

-- ---- two layings

-- the second covers the first
pub lay-lay-over : (img : List ℕ) (at : ℕ) (xs : List ℕ) (b : ℕ) (ys : List ℕ)
    → b + length ys ≤ length img → b ≤ at → at + length xs ≤ b + length ys → lay (lay img at xs) b ys ≡ lay img b ys
lay-lay-over img at xs b ys h c d =
    let l : length (lay img at xs) ≡ length img = length-lay img at xs in
    let l₁ : length (lay (lay img at xs) b ys) ≡ length (lay img at xs) = length-lay _ b ys in
    let l₂ : length (lay img b ys) ≡ length img = length-lay img b ys in
    same_bytes _ _ (l₁ ∙ l ∙ sym l₂) λ (i : ℕ) (q : i < length (lay (lay img at xs) b ys)).
    where-is i b (length ys)
    (λ (u : i < b).
    get_or-lay-before (lay img at xs) b ys i 0 u ∙ get_or-lay-before img at xs i 0 (omega arith) ∙ sym (get_or-lay-before img b ys i 0 u))
    (λ (u : b ≤ i) (v : i < b + length ys).
    get_or-lay-in (lay img at xs) b ys i 0 (omega arith) u v ∙ sym (get_or-lay-in img b ys i 0 h u v))
    (λ (u : b + length ys ≤ i).
    get_or-lay-behind (lay img at xs) b ys i 0 u ∙ get_or-lay-behind img at xs i 0 (omega arith) ∙ sym (get_or-lay-behind img b ys i 0 u))

pub lay-lay-same : (img : List ℕ) (at : ℕ) (xs ys : List ℕ) → length xs ≡ length ys → lay (lay img at xs) at ys ≡ lay img at ys
lay-lay-same img at xs ys e = fits_or img at ys
    (λ (h : at + length ys ≤ length img). lay-lay-over img at xs at ys h (omega arith) (omega arith))
    (λ (h : length img < at + length ys) (f : lay img at ys ≡ img). ap (λ (x : List ℕ). lay x at ys) (lay-short img at xs (omega arith)))

-- the order of two layings apart is free
pub lay-lay-apart : (img : List ℕ) (at : ℕ) (xs : List ℕ) (b : ℕ) (ys : List ℕ) → Apart at (length xs) b (length ys)
    → lay (lay img at xs) b ys ≡ lay (lay img b ys) at xs
lay-lay-apart img at xs b ys a = fits_or img at xs
    (λ (h : at + length xs ≤ length img).
    fits_or img b ys
    (λ (k : b + length ys ≤ length img). both h k)
    (λ (k : length img < b + length ys) (e : lay img b ys ≡ img).
    lay-short (lay img at xs) b ys (rw (length-lay img at xs) k) ∙ ap (λ (x : List ℕ). lay x at xs) (sym e)))
    (λ (h : length img < at + length xs) (e : lay img at xs ≡ img).
    ap (λ (x : List ℕ). lay x b ys) e ∙ sym (lay-short (lay img b ys) at xs (rw (length-lay img b ys) h)))
  where
    both : at + length xs ≤ length img → b + length ys ≤ length img → lay (lay img at xs) b ys ≡ lay (lay img b ys) at xs
    both h k =
        let l : length (lay img at xs) ≡ length img = length-lay img at xs in
        let m : length (lay img b ys) ≡ length img = length-lay img b ys in
        let l₁ : length (lay (lay img at xs) b ys) ≡ length (lay img at xs) = length-lay _ b ys in
        let l₂ : length (lay (lay img b ys) at xs) ≡ length (lay img b ys) = length-lay _ at xs in
        same_bytes _ _ (l₁ ∙ l ∙ sym m ∙ sym l₂) λ (i : ℕ) (q : i < length (lay (lay img at xs) b ys)).
        where-is i b (length ys)
        (λ (u : i < b). outside i (omega arith) h m)
        (λ (u : b ≤ i) (v : i < b + length ys).
        get_or-lay-in (lay img at xs) b ys i 0 (omega arith) u v
        ∙ sym (get_or-lay-in img b ys i 0 k u v)
        ∙ sym (get_or-lay-out (lay img b ys) at xs i 0 (omega arith)))
        (λ (u : b + length ys ≤ i). outside i (omega arith) h m)
      where
        outside : (i : ℕ) → Apart i 1 b (length ys) → at + length xs ≤ length img → length (lay img b ys) ≡ length img
            → get_or (lay (lay img at xs) b ys) i 0 ≡ get_or (lay (lay img b ys) at xs) i 0
        outside i c h m =
            get_or-lay-out (lay img at xs) b ys i 0 c
            ∙ where-is i at (length xs)
            (λ (u : i < at). get_or-lay-before img at xs i 0 u ∙ sym (get_or-lay-out img b ys i 0 c) ∙ sym (get_or-lay-before (lay img b ys) at xs i 0 u))
            (λ (u : at ≤ i) (v : i < at + length xs). get_or-lay-in img at xs i 0 h u v ∙ sym (get_or-lay-in (lay img b ys) at xs i 0 (omega arith) u v))
            (λ (u : at + length xs ≤ i). get_or-lay-behind img at xs i 0 u ∙ sym (get_or-lay-out img b ys i 0 c) ∙ sym (get_or-lay-behind (lay img b ys) at xs i 0 u))

-- a laying inside what was laid: into the buffer and then back, or back and then into the image
pub lay-lay-inside : (img : List ℕ) (at : ℕ) (xs : List ℕ) (k : ℕ) (ys : List ℕ)
    → at + length xs ≤ length img → k + length ys ≤ length xs → lay img at (lay xs k ys) ≡ lay (lay img at xs) (at + k) ys
lay-lay-inside img at xs k ys h c =
    let l : length (lay img at xs) ≡ length img = length-lay img at xs in
    let m : length (lay xs k ys) ≡ length xs = length-lay xs k ys in
    let l₁ : length (lay img at (lay xs k ys)) ≡ length img = length-lay img at _ in
    let l₂ : length (lay (lay img at xs) (at + k) ys) ≡ length (lay img at xs) = length-lay _ (at + k) ys in
    same_bytes _ _ (l₁ ∙ sym l ∙ sym l₂) λ (i : ℕ) (q : i < length (lay img at (lay xs k ys))).
    where-is i at (length xs)
    (λ (u : i < at).
    get_or-lay-before img at (lay xs k ys) i 0 u ∙ sym (get_or-lay-before img at xs i 0 u) ∙ sym (get_or-lay-before (lay img at xs) (at + k) ys i 0 (omega arith)))
    (λ (u : at ≤ i) (v : i < at + length xs).
    get_or-lay-in img at (lay xs k ys) i 0 (omega arith) u (omega arith)
    ∙ where-is (i - at) k (length ys)
    (λ (w : i - at < k).
    get_or-lay-before xs k ys (i - at) 0 w ∙ sym (get_or-lay-in img at xs i 0 h u v) ∙ sym (get_or-lay-before (lay img at xs) (at + k) ys i 0 (omega arith)))
    (λ (w : k ≤ i - at) (x : i - at < k + length ys).
    let e : (i - at) - k ≡ i - (at + k) = omega arith in
    get_or-lay-in xs k ys (i - at) 0 c w x
    ∙ ap (λ (n : ℕ). get_or ys n 0) e
    ∙ sym (get_or-lay-in (lay img at xs) (at + k) ys i 0 (omega arith) (omega arith) (omega arith)))
    (λ (w : k + length ys ≤ i - at).
    get_or-lay-behind xs k ys (i - at) 0 w ∙ sym (get_or-lay-in img at xs i 0 h u v) ∙ sym (get_or-lay-behind (lay img at xs) (at + k) ys i 0 (omega arith))))
    (λ (u : at + length xs ≤ i).
    get_or-lay-behind img at (lay xs k ys) i 0 (omega arith) ∙ sym (get_or-lay-behind img at xs i 0 u) ∙ sym (get_or-lay-behind (lay img at xs) (at + k) ys i 0 (omega arith)))

-- a laying inside a part, seen from the part
pub part-lay-within : (img : List ℕ) (at n k : ℕ) (ys : List ℕ) → k + length ys ≤ n → part (lay img (at + k) ys) at n ≡ lay (part img at n) k ys
part-lay-within img at n k ys c = fits_or img (at + k) ys
    (λ (h : (at + k) + length ys ≤ length img).
    let p : length (part img at n) ≡ min n (length img - at) = length-part-min img at n in
    let m : length (lay (part img at n) k ys) ≡ length (part img at n) = length-lay _ k ys in
    let l : length (lay img (at + k) ys) ≡ length img = length-lay img (at + k) ys in
    let l₁ : length (part (lay img (at + k) ys) at n) ≡ min n (length (lay img (at + k) ys) - at) = length-part-min _ at n in
    same_bytes _ _ (l₁ ∙ ap (λ (x : ℕ). min n (x - at)) l ∙ sym p ∙ sym m) λ (i : ℕ) (q : i < length (part (lay img (at + k) ys) at n)).
    let b : i < n = omega arith in
    get_d_part (lay img (at + k) ys) at n i 0 b
    ∙ where-is i k (length ys)
    (λ (u : i < k). get_or-lay-before img (at + k) ys (at + i) 0 (omega arith) ∙ sym (get_d_part img at n i 0 b) ∙ sym (get_or-lay-before (part img at n) k ys i 0 u))
    (λ (u : k ≤ i) (v : i < k + length ys).
    let e : (at + i) - (at + k) ≡ i - k = omega arith in
    get_or-lay-in img (at + k) ys (at + i) 0 h (omega arith) (omega arith)
    ∙ ap (λ (j : ℕ). get_or ys j 0) e ∙ sym (get_or-lay-in (part img at n) k ys i 0 (omega arith) u v))
    (λ (u : k + length ys ≤ i). get_or-lay-behind img (at + k) ys (at + i) 0 (omega arith) ∙ sym (get_d_part img at n i 0 b) ∙ sym (get_or-lay-behind (part img at n) k ys i 0 u)))
    (λ (h : length img < (at + k) + length ys) (e : lay img (at + k) ys ≡ img).
    ap (λ (x : List ℕ). part x at n) e ∙ small h (dec_le (k + length ys) (length (part img at n))))
  where
    small : length img < (at + k) + length ys → Dec (k + length ys ≤ length (part img at n)) → part img at n ≡ lay (part img at n) k ys
    small h (yes f) =
        let p : length (part img at n) ≡ min n (length img - at) = length-part-min img at n in
        let z : length ys ≡ 0 = omega arith in
        sym (same_bytes _ _ (length-lay (part img at n) k ys) λ (i : ℕ) (q : i < length (lay (part img at n) k ys)). get_or-lay-out (part img at n) k ys i 0 (omega (arith, z)))
    small h (no f) = sym (lay-short (part img at n) k ys (omega arith))

-- ---- a laying in two, a store, and a turn of a loop that lays byte by byte

pub lay-append : (img : List ℕ) (at : ℕ) (xs ys : List ℕ) → at + (length xs + length ys) ≤ length img
    → lay img at (xs ++ ys) ≡ lay (lay img at xs) (at + length xs) ys
lay-append img at xs ys h =
    let n : length (xs ++ ys) ≡ length xs + length ys = length-append xs ys in
    let l₀ : length (lay img at xs) ≡ length img = length-lay img at xs in
    let l₁ : length (lay img at (xs ++ ys)) ≡ length img = length-lay img at (xs ++ ys) in
    let l₂ : length (lay (lay img at xs) (at + length xs) ys) ≡ length (lay img at xs) = length-lay _ (at + length xs) ys in
    same_bytes _ _ (l₁ ∙ sym l₀ ∙ sym l₂) λ (i : ℕ) (q : i < length (lay img at (xs ++ ys))).
    where-is i at (length xs)
    (λ (u : i < at).
    get_or-lay-before img at (xs ++ ys) i 0 u ∙ sym (get_or-lay-before img at xs i 0 u)
    ∙ sym (get_or-lay-before (lay img at xs) (at + length xs) ys i 0 (omega arith)))
    (λ (u : at ≤ i) (v : i < at + length xs).
    get_or-lay-in img at (xs ++ ys) i 0 (omega arith) u (omega arith) ∙ get_or-append xs ys 0 (i - at) (omega arith)
    ∙ sym (get_or-lay-in img at xs i 0 (omega arith) u v) ∙ sym (get_or-lay-before (lay img at xs) (at + length xs) ys i 0 v))
    (λ (u : at + length xs ≤ i).
    where-is i (at + length xs) (length ys)
    (λ (v : i < at + length xs). absurd (omega arith))
    (λ (v : at + length xs ≤ i) (w : i < at + length xs + length ys).
    let e : i - at ≡ length xs + (i - (at + length xs)) = omega arith in
    get_or-lay-in img at (xs ++ ys) i 0 (omega arith) (omega arith) (omega arith)
    ∙ ap (λ (k : ℕ). get_or (xs ++ ys) k 0) e ∙ get_or-append-add xs ys (i - (at + length xs)) 0
    ∙ sym (get_or-lay-in (lay img at xs) (at + length xs) ys i 0 (omega arith) v w))
    (λ (v : at + length xs + length ys ≤ i).
    get_or-lay-behind img at (xs ++ ys) i 0 (omega arith) ∙ sym (get_or-lay-behind img at xs i 0 u)
    ∙ sym (get_or-lay-behind (lay img at xs) (at + length xs) ys i 0 v)))

pub lay-more : (img : List ℕ) (at : ℕ) (xs : List ℕ) (i : ℕ) → at + length xs ≤ length img → i < length xs
    → set (lay img at (take i xs)) (at + i) (get_or xs i 0) ≡ lay img at (take (i + 1) xs)
lay-more img at xs i h k =
    let e : i + 1 ≡ suc i = omega arith in
    rw (← as-paste i (omega arith), e, ← as-paste (suc i) (omega arith)) (paste-suc img at xs i 0 (omega arith) k)
  where
    as-paste : (n : ℕ) → n ≤ length xs → paste img at xs n ≡ lay img at (take n xs)
    as-paste n b =
        let l : length (take n xs) ≡ n = length-take-le n xs b in
        sym (lay-fits img at (take n xs) (omega arith) ∙ rw (l, append_assoc))

-- the first j + n bytes: the first j, and then n
lay-take : (img : List ℕ) (at : ℕ) (xs : List ℕ) (j n : ℕ) → at + length xs ≤ length img → j + n ≤ length xs
    → lay img at (take (j + n) xs) ≡ lay (lay img at (take j xs)) (at + j) (part xs j n)
unfolding part
lay-take img at xs j n h d =
    let l : length (take j xs) ≡ j = length-take-le j xs (omega arith) in
    let m : length (take n (drop j xs)) ≡ n = length_part xs j n d in
    ap (λ (x : List ℕ). lay img at x) (take-add j n xs)
    ∙ lay-append img at (take j xs) (take n (drop j xs)) (omega arith)
    ∙ ap (λ (p : ℕ). lay (lay img at (take j xs)) (at + p) (take n (drop j xs))) l

-- a turn that lays k bytes of xs from byte j on, where the first i are laid: what is laid twice is the same
pub lay-again : (img : List ℕ) (at : ℕ) (xs : List ℕ) (i j k : ℕ) → at + length xs ≤ length img → j ≤ i → i ≤ j + k → j + k ≤ length xs
    → lay (lay img at (take i xs)) (at + j) (part xs j k) ≡ lay img at (take (j + k) xs)
lay-again img at xs i j k h a b c =
    let e : i ≡ j + (i - j) = omega arith in
    let l : length (lay img at (take j xs)) ≡ length img = length-lay img at (take j xs) in
    let l₁ : length (part xs j (i - j)) ≡ i - j = length_part xs j (i - j) (omega arith) in
    let l₂ : length (part xs j k) ≡ k = length_part xs j k c in
    ap (λ (n : ℕ). lay (lay img at (take n xs)) (at + j) (part xs j k)) e
    ∙ ap (λ (x : List ℕ). lay x (at + j) (part xs j k)) (lay-take img at xs j (i - j) h (omega arith))
    ∙ lay-lay-over (lay img at (take j xs)) (at + j) (part xs j (i - j)) (at + j) (part xs j k) (omega arith) (omega arith) (omega arith)
    ∙ sym (lay-take img at xs j k h c)

-- ---- two lists that agree outside a range

pub record Outside (a b : List ℕ) (at n : ℕ) : Type 0 where
  pub size : length a ≡ length b
  pub byte : (i : ℕ) → Apart i 1 at n → get_or a i 0 ≡ get_or b i 0

pub outside-lay : (img : List ℕ) (at : ℕ) (xs : List ℕ) (b n : ℕ) → b ≤ at → at + length xs ≤ b + n → Outside (lay img at xs) img b n
outside-lay img at xs b n c d =
    record { size = length-lay img at xs; byte = λ (i : ℕ) (k : Apart i 1 b n). get_or-lay-out img at xs i 0 (omega arith) }

pub outside-part : (a b : List ℕ) (at n p m : ℕ) → Outside a b at n → Apart p m at n → part a p m ≡ part b p m
outside-part a b at n p m o k = same_parts a b p m o.size λ (i : ℕ) (h : i < m). o.byte (p + i) (omega arith)

pub outside-same : (a : List ℕ) (at n : ℕ) → Outside a a at n
outside-same a at n = record { size = refl; byte = λ i k. refl }

-- ---- padding

pub length-padded : (b n : ℕ) (xs : List ℕ) → length xs ≤ n → length (padded b n xs) ≡ n
unfolding padded
length-padded b n xs h = simp (length-append, length-replicate) (omega arith)

-- where nothing is missing
pub padded-long : (b n : ℕ) (xs : List ℕ) → n ≤ length xs → padded b n xs ≡ xs
unfolding padded
padded-long b n xs h =
    let e : n - length xs ≡ 0 = omega arith in
    ap (λ (k : ℕ). xs ++ replicate k b) e ∙ append-nil xs

pub get_or-padded-in : (b n : ℕ) (xs : List ℕ) (i d : ℕ) → i < length xs → get_or (padded b n xs) i d ≡ get_or xs i d
unfolding padded
get_or-padded-in b n xs i d h = get_or-append xs (replicate (n - length xs) b) d i h

pub get_or-padded-behind : (b n : ℕ) (xs : List ℕ) (i d : ℕ) → length xs ≤ i → i < n → get_or (padded b n xs) i d ≡ b
unfolding padded
get_or-padded-behind b n xs i d h k =
    let e : i ≡ length xs + (i - length xs) = omega arith in
    ap (λ (j : ℕ). get_or (xs ++ replicate (n - length xs) b) j d) e
    ∙ get_or-append-add xs (replicate (n - length xs) b) (i - length xs) d
    ∙ get_or-replicate (n - length xs) (i - length xs) b d (omega arith)

-- padded further than is asked
pub part-padded : (b n m : ℕ) (xs : List ℕ) → length xs ≤ m → m ≤ n → part (padded b n xs) 0 m ≡ padded b m xs
part-padded b n m xs h k =
    let l : length (padded b n xs) ≡ n = length-padded b n xs (omega arith) in
    let l₁ : length (part (padded b n xs) 0 m) ≡ m = length_part (padded b n xs) 0 m (omega arith) in
    let l₂ : length (padded b m xs) ≡ m = length-padded b m xs h in
    same_bytes _ _ (l₁ ∙ sym l₂) λ (i : ℕ) (q : i < length (part (padded b n xs) 0 m)).
    let z : 0 + i ≡ i = omega arith in
    get_d_part (padded b n xs) 0 m i 0 (omega arith) ∙ ap (λ (j : ℕ). get_or (padded b n xs) j 0) z
    ∙ where-is i 0 (length xs)
    (λ (u : i < 0). absurd (omega arith))
    (λ (u : 0 ≤ i) (v : i < 0 + length xs). get_or-padded-in b n xs i 0 (omega arith) ∙ sym (get_or-padded-in b m xs i 0 (omega arith)))
    (λ (u : 0 + length xs ≤ i).
    get_or-padded-behind b n xs i 0 (omega arith) (omega arith) ∙ sym (get_or-padded-behind b m xs i 0 (omega arith) (omega arith)))

-- laid as the bytes, and then what is missing
pub lay-padded : (img : List ℕ) (at b n : ℕ) (xs : List ℕ) → length xs ≤ n → at + n ≤ length img
    → lay img at (padded b n xs) ≡ lay (lay img at xs) (at + length xs) (replicate (n - length xs) b)
unfolding padded
lay-padded img at b n xs h k = lay-append img at xs (replicate (n - length xs) b) (simp length-replicate (omega arith))

-- ---- words

pub length-word : (n : ℕ) → length (word n) ≡ 2
unfolding word
length-word n = refl

-- a word that was laid
pub word_at-lay : (img : List ℕ) (at n : ℕ) → at + 2 ≤ length img → word_at (lay img at (word n)) at ≡ n
unfolding word_at word
word_at-lay img at n h =
    let z : at + 0 ≡ at = omega arith in
    let hi : get_or (lay img at (word n)) at 0 ≡ n / 256 = ap (λ (j : ℕ). get_or (lay img at (word n)) j 0) (sym z) ∙ get_or-lay-inside img at (word n) 0 0 h (omega arith) in
    let lo : get_or (lay img at (word n)) (at + 1) 0 ≡ n % 256 = get_or-lay-inside img at (word n) 1 0 h (omega arith) in
    rw (hi, lo) (omega arith)

-- a word apart from what was laid
pub word_at-apart : (img : List ℕ) (at b : ℕ) (xs : List ℕ) → Apart at 2 b (length xs) → word_at (lay img b xs) at ≡ word_at img at
unfolding word_at
word_at-apart img at b xs h = rw (get_or-lay-out img b xs at 0 (omega arith), get_or-lay-out img b xs (at + 1) 0 (omega arith))

-- a word of a part
pub word_at-part : (img : List ℕ) (at n k : ℕ) → k + 2 ≤ n → word_at (part img at n) k ≡ word_at img (at + k)
unfolding word_at
word_at-part img at n k h =
    let e : at + (k + 1) ≡ (at + k) + 1 = omega arith in
    rw (get_d_part img at n k 0 (omega arith), get_d_part img at n (k + 1) 0 (omega arith), e)

-- a word of bytes is below 65,536
pub word_at-small : (img : List ℕ) (at : ℕ) → get_or img at 0 < 256 → get_or img (at + 1) 0 < 256 → word_at img at < 65536
unfolding word_at
word_at-small img at h l = omega arith

-- the two bytes of the word that stands there are those that stand there
pub word-word_at : (img : List ℕ) (at : ℕ) → at + 2 ≤ length img → get_or img (at + 1) 0 < 256 → word (word_at img at) ≡ part img at 2
unfolding word word_at part
word-word_at img at h l =
    let e : suc at ≡ at + 1 = omega arith in
    let d : drop at img ≡ get_or img at 0 ∷ get_or img (at + 1) 0 ∷ drop (suc (at + 1)) img =
    drop-cons img at 0 (omega arith) ∙ ap (λ (k : ℕ). get_or img at 0 ∷ drop k img) e ∙ ap (λ (r : List ℕ). get_or img at 0 ∷ r) (drop-cons img (at + 1) 0 (omega arith)) in
    let hi : (256 * get_or img at 0 + get_or img (at + 1) 0) / 256 ≡ get_or img at 0 = omega arith in
    let lo : (256 * get_or img at 0 + get_or img (at + 1) 0) % 256 ≡ get_or img (at + 1) 0 = omega arith in
    rw (hi, lo, d)

-- two lists stored one behind the other
pub sets-append : (xs ys l : List ℕ) (i : ℕ) → sets l i (xs ++ ys) ≡ sets (sets l i xs) (i + length xs) ys
sets-append [] ys l i = rw add-zero
sets-append (x ∷ xs) ys l i = sets-append xs ys (set l i x) (suc i) ∙ rw (suc-add, add-suc)
