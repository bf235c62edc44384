-- A typed name and its bytes: the listing shows the name as it was typed, and what is no name as it is typed has bytes that are no name. Letter
-- by letter, and blanks are none.
use mathlib.Core.Path.{◌≡◌, refl, sym, ap, ap₂, ◌∙◌}
use mathlib.Core.Bool.{Bool, true, false, ◌&&◌, ◌||◌, and-true, and-false}
use mathlib.Core.List.{List, [], ◌∷◌, ◌++◌, map}
use Prim.Native.Nat.{ℕ, zero, suc, ◌-◌, ◌≤◌, ◌<◌}
use native.Mathlib.Omega.{arith}
use lib.Dec.{eqb, leb, ltb}
use lib.Seq.{take_all, drop-nil}
use lib.ListN.{length, take, drop, replicate, length-map, length-replicate}
use borrow.Author.Tests.{eq-eqb, ne_eqb, leb-true, leb-false}
use Rattle.geometry.specs.Bytes.{padded, part}
use Rattle.geometry.specs.Lists.{every}
use Rattle.geometry.specs.Sizes.{blank}
use Rattle.geometry.proofs.Bytes.{length-padded, padded-long}
use Rattle.geometry.proofs.Tests.{either, not_chosen, and_left, and_right, every-replicate}
use Rattle.names.specs.Names.{capital, digit, is_name, rest_of_name}
use Rattle.shapes.specs.Made.{is_named}
use Rattle.listing.specs.Listing.{name_text}
use Rattle.typing.specs.Typing.{is_capital, is_letter, rest_typed, is_typed_name, typed_code, name_of}
use Rattle.typing.proofs.Letters.{is-capital, is-letter, is-blank, letter-back, letter-no-blank}

-- ---- as it is listed

shown : (cs : List ℕ) (k : ℕ) → every is_letter cs ≡ true → name_text (map typed_code cs ++ replicate k blank) ≡ cs
unfolding every name_text
shown [] zero h = refl
shown [] (suc k) h = refl
shown (c ∷ cs) k h =
    not_chosen (eqb (typed_code c) blank) [] _ (letter-no-blank c (and_left (is_letter c) _ h)) ∙ ap₂ ◌∷◌ (letter-back c (and_left (is_letter c) _ h)) (shown cs k (and_right (is_letter c) _ h))

-- the listing shows what was typed
pub as-typed : (text : List ℕ) → every is_letter text ≡ true → name_text (name_of text) ≡ text
unfolding name_of padded
as-typed text h = shown text (8 - length (map typed_code text)) h

-- ---- what is a name

blanks-end : (k : ℕ) → rest_of_name (replicate k blank) ≡ true
unfolding rest_of_name capital digit
blanks-end zero = refl
blanks-end (suc k) = every-replicate (λ b. eqb b blank) (suc k) blank refl

blanks-alone : (cs : List ℕ) (k : ℕ) → every (λ b. eqb b blank) (map typed_code cs ++ replicate k blank) ≡ every (λ b. eqb b 32) cs
unfolding every
blanks-alone [] k = every-replicate (λ b. eqb b blank) k blank refl
blanks-alone (c ∷ cs) k = ap₂ ◌&&◌ (is-blank c) (blanks-alone cs k)

rest_of : (cs : List ℕ) (k : ℕ) → rest_of_name (map typed_code cs ++ replicate k blank) ≡ rest_typed cs
unfolding rest_of_name rest_typed
rest_of [] k = blanks-end k
rest_of (c ∷ cs) k = ap₂ ◌||◌ (ap₂ ◌&&◌ (is-letter c) (rest_of cs k)) (blanks-alone (c ∷ cs) k)

-- eight bytes exactly if there are at most eight characters
eight : (text : List ℕ) → eqb (length (name_of text)) 8 ≡ leb (length text) 8
unfolding name_of
eight text =
    let n : length (map typed_code text) ≡ length text = length-map text typed_code in
    either (leb (length text) 8)
    (λ t. let h : length text ≤ 8 = leb-true (length text) 8 t in rw t (eq-eqb _ 8 (length-padded blank 8 (map typed_code text) (omega arith))))
    (λ t. let h : 8 < length text = leb-false (length text) 8 t in
    let e : length (padded blank 8 (map typed_code text)) ≡ length text = ap length (padded-long blank 8 (map typed_code text) (omega arith)) ∙ n in
    rw t (ne_eqb _ 8 (λ (q : length (padded blank 8 (map typed_code text)) ≡ 8). omega arith)))

-- the test of the length may stand last
ends_last : (a b c : Bool) → a && (b && c) ≡ b && (c && a)
ends_last true b c = ap (b &&◌) (sym (and-true c))
ends_last false b c = sym (ap (b &&◌) (and-false c) ∙ and-false b)

short-named : (text : List ℕ) → leb (length text) 8 && is_name (name_of text) ≡ is_typed_name text
unfolding name_of padded is_name is_typed_name capital
short-named [] = refl
short-named (c ∷ cs) = rw (is-capital c, rest_of cs _) (ends_last (ltb (length cs) 8) (is_capital c) (rest_typed cs))

-- what is typed is a name exactly if its bytes are
pub names-alone : (text : List ℕ) → is_named (name_of text) ≡ is_typed_name text
unfolding is_named
names-alone text = ap (◌&& is_name (name_of text)) (eight text) ∙ short-named text

-- ---- as it is put: letters, then the blanks that are left of eight

drop-replicate : (m n v : ℕ) → drop n (replicate m v) ≡ replicate (m - n) v
drop-replicate zero n v = let e : 0 - n ≡ 0 = omega arith in rw e (drop-nil n)
drop-replicate (suc m) zero v = let e : suc m - 0 ≡ suc m = omega arith in rw e
drop-replicate (suc m) (suc n) v = let e : suc m - suc n ≡ m - n = omega arith in rw e (drop-replicate m n v)

pub blanks-behind : (text : List ℕ) → name_of text ≡ map typed_code text ++ part (replicate 8 blank) (length text) 8
unfolding name_of padded part
blanks-behind text =
    let n : length (map typed_code text) ≡ length text = length-map text typed_code in
    let k : length (replicate (8 - length text) blank) ≡ 8 - length text = length-replicate (8 - length text) blank in
    rw n (ap (map typed_code text ++◌) (sym (ap (take 8) (drop-replicate 8 (length text) blank) ∙ take_all 8 _ (omega arith))))
