-- A list by its rule: f 0, f 1, .. f (n - 1), put together from the front as the records of a file are. What its members are, by going up to n.
use mathlib.Core.Path.{◌≡◌, refl, sym, ap, ◌∙◌}
use mathlib.Core.Logic.{◌≢◌}
use mathlib.Core.List.{List, [], ◌∷◌, ◌++◌}
use Prim.Native.Nat.{ℕ, zero, suc, ◌≤◌, ◌<◌}
use native.Mathlib.Omega.{arith}
use native.Mathlib.Nat.{not-suc-le-zero}
use native.Mathlib.Decide.{dec_lt, dec_le, ℕ_discrete}
use lib.ListN.{length, take, get_or, set, length-append, length-set, get_or-append}
use lib.Seq.{take-append-le, take_all, get_or_at, get_or-set_same, get_or-set_other, ext_get_or}

module _ {A : Type 0} where
  unfoldable pub list_of : (ℕ → A) → ℕ → List A
  list_of f zero = []
  list_of f (suc n) = list_of f n ++ (f n ∷ [])

  pub length-list_of : (f : ℕ → A) (n : ℕ) → length (list_of f n) ≡ n
  unfolding list_of
  length-list_of f zero = refl
  length-list_of f (suc n) = length-append (list_of f n) (f n ∷ []) ∙ rw (length-list_of f n) (omega arith)

  -- the first p of them
  pub take-list_of : (f : ℕ → A) (p n : ℕ) → p ≤ n → take p (list_of f n) ≡ list_of f p
  unfolding list_of
  take-list_of f p zero h = let e : p ≡ 0 = omega arith in rw e
  take-list_of f p (suc n) h = go (take-list_of f p n) (dec_le p n)
    where
      go : (p ≤ n → take p (list_of f n) ≡ list_of f p) → Dec (p ≤ n) → take p (list_of f n ++ (f n ∷ [])) ≡ list_of f p
      go ih (yes q) = take-append-le p (list_of f n) (f n ∷ []) (rw (length-list_of f n) q) ∙ ih q
      go ih (no q) =
          let e : p ≡ suc n = omega arith in
          rw e (take_all (suc n) (list_of f n ++ (f n ∷ [])) (omega (arith, length-append (list_of f n) (f n ∷ []), length-list_of f n)))

  -- two rules that agree below n
  pub same-list_of : (f g : ℕ → A) (n : ℕ) → ((k : ℕ) → k < n → f k ≡ g k) → list_of f n ≡ list_of g n
  unfolding list_of
  same-list_of f g zero h = refl
  same-list_of f g (suc n) h = rw (same-list_of f g n (λ (k : ℕ) (b : k < n). h k (omega arith)), h n (omega arith))

  pub get_or-list_of : (f : ℕ → A) (n k : ℕ) (d : A) → k < n → get_or (list_of f n) k d ≡ f k
  unfolding list_of
  get_or-list_of f zero k d h = absurd (not-suc-le-zero h)
  get_or-list_of f (suc n) k d h = go (get_or-list_of f n k d) (dec_lt k n)
    where
      go : (k < n → get_or (list_of f n) k d ≡ f k) → Dec (k < n) → get_or (list_of f n ++ (f n ∷ [])) k d ≡ f k
      go ih (yes q) = get_or-append (list_of f n) (f n ∷ []) d k (omega (arith, length-list_of f n)) ∙ ih q
      go ih (no q) =
          let e : n ≡ k = omega arith in
          get_or_at (list_of f n) (f n) [] d k (length-list_of f n ∙ e) ∙ rw e

  -- one member another
  pub set-list_of : (f g : ℕ → A) (n i : ℕ) → i < n → ((k : ℕ) → k ≢ i → g k ≡ f k) → list_of g n ≡ set (list_of f n) i (g i)
  set-list_of f g n i h s =
      ext_get_or (g i) (list_of g n) (set (list_of f n) i (g i)) (length-list_of g n ∙ sym (length-set (list_of f n) i (g i) ∙ length-list_of f n))
      λ (k : ℕ) (l : k < length (list_of g n)). member k (rw (length-list_of g n) at l) (ℕ_discrete k i)
    where
      member : (k : ℕ) → k < n → Dec (k ≡ i) → get_or (list_of g n) k (g i) ≡ get_or (set (list_of f n) i (g i)) k (g i)
      member k l (yes e) = get_or-list_of g n k (g i) l ∙ (ap g e ∙ sym (ap (λ (j : ℕ). get_or (set (list_of f n) i (g i)) j (g i)) e ∙ get_or-set_same (list_of f n) i (g i) (g i) (rw (length-list_of f n) h)))
      member k l (no e) = get_or-list_of g n k (g i) l ∙ (s k e ∙ sym (get_or-set_other (list_of f n) i k (g i) (g i) e ∙ get_or-list_of f n k (g i) l))
