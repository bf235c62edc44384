-- Records one after another: each is read behind the one before it, so a walk of fewer is a front part of the records, one more goes behind the
-- last place, and what holds of one record's place holds of them all. By induction on the number of records.
use mathlib.Core.Path.{◌≡◌, refl, sym, ap, ◌∙◌}
use mathlib.Core.Bool.{true, false}
use mathlib.Core.List.{List, [], ◌∷◌, ◌++◌}
use Prim.Native.Nat.{ℕ, zero, suc, ◌+◌, ◌≤◌, ◌<◌}
use native.Mathlib.Omega.{arith}
use native.Mathlib.Nat.{not-suc-le-zero}
use lib.ListN.{length, take, get_or}
use Rattle.std.specs.Prelude.{Ok}
use Rattle.std.specs.Result.{is_ok}
use Rattle.geometry.specs.Sizes.{sector}
use Rattle.geometry.specs.Places.{byte_of, origin}
use Rattle.geometry.specs.declared.Place.{Place}
use Rattle.packing.specs.Reading.{Recorded, Got, got, lost, read_behind, Walk, walked, broken, and_then, walk_on, walk, decodes, records_of, behind_from, lost_at, led_to, walked_to}
use Rattle.packing.proofs.One.{Within, Upto, upto-less, Told, told, read-upto}

pub no_walk : (p : Place) (rs : List Recorded) → broken p ≡ walked rs → ⊥
no_walk p rs h = let z : ◌≡◌ {A = ℕ} 0 1 = cc in omega arith

-- where there is no record
abbrev pub nowhere : Recorded
nowhere = record { bytes = []; behind = origin }

-- ---- the place behind some records

pub behind-take : (p : Place) (rs : List Recorded) (k n : ℕ) → k ≤ n → behind_from p (take n rs) k ≡ behind_from p rs k
unfolding behind_from
behind-take p rs zero n h = refl
behind-take p rs (suc k) zero h = absurd (not-suc-le-zero h)
behind-take p [] (suc k) (suc n) h = refl
behind-take p (r ∷ rs) (suc k) (suc n) h = behind-take r.behind rs k n (omega arith)

pub behind-append : (p : Place) (rs ts : List Recorded) (k : ℕ) → k ≤ length rs → behind_from p (rs ++ ts) k ≡ behind_from p rs k
unfolding behind_from
behind-append p rs ts zero h = refl
behind-append p [] ts (suc k) h = absurd (not-suc-le-zero h)
behind-append p (r ∷ rs) ts (suc k) h = behind-append r.behind rs ts k (omega arith)

pub behind-snoc : (p : Place) (rs : List Recorded) (r : Recorded) → behind_from p (rs ++ (r ∷ [])) (suc (length rs)) ≡ r.behind
unfolding behind_from
behind-snoc p [] r = refl
behind-snoc p (s ∷ rs) r = behind-snoc s.behind rs r

pub behind-next : (p : Place) (rs : List Recorded) (k : ℕ) → k < length rs → behind_from p rs (suc k) ≡ (get_or rs k nowhere).behind
unfolding behind_from
behind-next p [] k h = absurd (not-suc-le-zero h)
behind-next p (r ∷ rs) zero h = refl
behind-next p (r ∷ rs) (suc k) h = behind-next r.behind rs k (omega arith)

-- ---- a walk and its records

pub decodes-walked : (w : Walk) → decodes w ≡ true → w ≡ walked (records_of w)
unfolding decodes records_of
decodes-walked (walked rs) h = refl
decodes-walked (broken p) h = let z : ◌≡◌ {A = ℕ} 0 1 = cc in absurd (omega arith)

pub walked-decodes : (w : Walk) (rs : List Recorded) → w ≡ walked rs → (decodes w ≡ true) × (records_of w ≡ rs)
unfolding decodes records_of
walked-decodes w rs h = (ap decodes h, ap records_of h)

module _ (R sectors : ℕ) (bytes : List ℕ) where
  -- the first record of a walk, and the rest
  pub record First (n : ℕ) (p : Place) (rs : List Recorded) : Type 0 where
    pub record₀ : Recorded
    pub rest : List Recorded
    pub reads : read_behind R sectors bytes p ≡ got record₀
    pub on : walk R sectors bytes n record₀.behind ≡ walked rest
    pub are : rs ≡ record₀ ∷ rest

  pub first : (n : ℕ) (p : Place) (rs : List Recorded) → walk R sectors bytes (suc n) p ≡ walked rs → First n p rs
  unfolding walk walk_on and_then
  first n p rs h = go (read_behind R sectors bytes p) refl h
    where
      rest : (r : Recorded) → read_behind R sectors bytes p ≡ got r → (w : Walk) → walk R sectors bytes n r.behind ≡ w → and_then r w ≡ walked rs → First n p rs
      rest r e (walked ts) f h = record { record₀ = r; rest = ts; reads = e; on = f; are = cc }
      rest r e (broken q) f h = absurd (no_walk q rs h)

      go : (g : Got) → read_behind R sectors bytes p ≡ g → walk_on g (walk R sectors bytes n) ≡ walked rs → First n p rs
      go (got r) e h = rest r e (walk R sectors bytes n r.behind) refl h
      go (lost q) e h = absurd (no_walk q rs h)

  -- and back
  pub walk_first : (n : ℕ) (p : Place) (r : Recorded) → read_behind R sectors bytes p ≡ got r → walk R sectors bytes (suc n) p ≡ and_then r (walk R sectors bytes n r.behind)
  unfolding walk walk_on
  walk_first n p r h = rw h

  pub walk_none : (p : Place) (rs : List Recorded) → walk R sectors bytes 0 p ≡ walked rs → rs ≡ []
  unfolding walk
  walk_none p rs h = cc

  -- as many records as were asked for
  pub walk-length : (n : ℕ) (p : Place) (rs : List Recorded) → walk R sectors bytes n p ≡ walked rs → length rs ≡ n
  walk-length zero p rs h = ap length (walk_none p rs h)
  walk-length (suc n) p rs h =
      let f : First n p rs = first n p rs h in
      ap length f.are ∙ ap suc (walk-length n f.record₀.behind f.rest f.on)

  -- fewer: a front part of them
  pub walk-prefix : (n : ℕ) (p : Place) (rs : List Recorded) → walk R sectors bytes n p ≡ walked rs → (k : ℕ) → k ≤ n → walk R sectors bytes k p ≡ walked (take k rs)
  unfolding walk and_then
  walk-prefix n p rs h zero l = refl
  walk-prefix zero p rs h (suc k) l = absurd (not-suc-le-zero l)
  walk-prefix (suc n) p rs h (suc k) l =
      let f : First n p rs = first n p rs h in
      walk_first k p f.record₀ f.reads
      ∙ ap (and_then f.record₀) (walk-prefix n f.record₀.behind f.rest f.on k (omega arith))
      ∙ ap (λ (z : List Recorded). walked (take (suc k) z)) (sym f.are)

  -- each record is the one read behind those before it
  pub walk_at : (n : ℕ) (p : Place) (rs : List Recorded) → walk R sectors bytes n p ≡ walked rs → (k : ℕ) → k < n
      → read_behind R sectors bytes (behind_from p rs k) ≡ got (get_or rs k nowhere)
  unfolding behind_from
  walk_at zero p rs h k l = absurd (not-suc-le-zero l)
  walk_at (suc n) p rs h zero l = let f : First n p rs = first n p rs h in rw f.are f.reads
  walk_at (suc n) p rs h (suc k) l =
      let f : First n p rs = first n p rs h in
      rw f.are (walk_at n f.record₀.behind f.rest f.on k (omega arith))

  -- one more
  pub walk-snoc : (n : ℕ) (p : Place) (rs : List Recorded) (r : Recorded) → walk R sectors bytes n p ≡ walked rs
      → read_behind R sectors bytes (behind_from p rs n) ≡ got r → walk R sectors bytes (suc n) p ≡ walked (rs ++ (r ∷ []))
  unfolding walk and_then behind_from
  walk-snoc zero p rs r h g = walk_first 0 p r g ∙ ap (λ (z : List Recorded). walked (z ++ (r ∷ []))) (sym (walk_none p rs h))
  walk-snoc (suc n) p rs r h g =
      let f : First n p rs = first n p rs h in
      let g' : read_behind R sectors bytes (behind_from f.record₀.behind f.rest n) ≡ got r =
      ap (λ (z : List Recorded). read_behind R sectors bytes (behind_from p z (suc n))) (sym f.are) ∙ g in
      walk_first (suc n) p f.record₀ f.reads
      ∙ ap (and_then f.record₀) (walk-snoc n f.record₀.behind f.rest r f.on g')
      ∙ ap (λ (z : List Recorded). walked (z ++ (r ∷ []))) (sym f.are)

  -- ---- places

  -- they stay in the extent
  pub walk-within : (n : ℕ) (p : Place) (rs : List Recorded) → Within sectors p → walk R sectors bytes n p ≡ walked rs → (k : ℕ) → k ≤ n
      → Within sectors (behind_from p rs k)
  unfolding behind_from
  walk-within n p rs i h zero l = i
  walk-within zero p rs i h (suc k) l = absurd (not-suc-le-zero l)
  walk-within (suc n) p rs i h (suc k) l =
      let f : First n p rs = first n p rs h in
      let t : Told R sectors p f.record₀ = told R sectors bytes p f.record₀ f.reads in
      rw f.are (walk-within n f.record₀.behind f.rest t.inside f.on k (omega arith))

  -- and go on
  pub walk-onward : (n : ℕ) (p : Place) (rs : List Recorded) → p.byte ≤ sector → walk R sectors bytes n p ≡ walked rs → byte_of p + n ≤ byte_of (behind_from p rs n)
  unfolding behind_from
  walk-onward zero p rs i h = omega arith
  walk-onward (suc n) p rs i h =
      let f : First n p rs = first n p rs h in
      let t : Told R sectors p f.record₀ = told R sectors bytes p f.record₀ f.reads in
      let ih = walk-onward n f.record₀.behind f.rest t.inside.1 f.on in
      let l : byte_of p < byte_of f.record₀.behind = t.later i in
      rw f.are (omega arith)

-- ---- the same records where the bytes before the last place are the same

pub walk-upto : (R sectors : ℕ) (a b : List ℕ) (n : ℕ) (p : Place) (rs : List Recorded) → p.byte ≤ sector → walk R sectors a n p ≡ walked rs
    → Upto (byte_of (behind_from p rs n)) a b → walk R sectors b n p ≡ walked rs
unfolding walk behind_from and_then
walk-upto R sectors a b zero p rs i h o = h
walk-upto R sectors a b (suc n) p rs i h o =
    let f : First R sectors a n p rs = first R sectors a n p rs h in
    let q : Place = f.record₀.behind in
    let t : Told R sectors p f.record₀ = told R sectors a p f.record₀ f.reads in
    let o' : Upto (byte_of (behind_from q f.rest n)) a b = rw f.are at o in
    let on : byte_of q + n ≤ byte_of (behind_from q f.rest n) = walk-onward R sectors a n q f.rest t.inside.1 f.on in
    walk_first R sectors b n p f.record₀ (read-upto R sectors a b p f.record₀ i f.reads (upto-less _ _ a b (omega arith) o'))
    ∙ ap (and_then f.record₀) (walk-upto R sectors a b n q f.rest t.inside.1 f.on o')
    ∙ ap walked (sym f.are)

-- ---- where a walk leads to

pub walked_to_lem : (p : Place) (rs : List Recorded) → walked_to p (walked rs) ≡ Ok (behind_from p rs (length rs))
unfolding walked_to behind_from
walked_to_lem p [] = refl
walked_to_lem p (r ∷ rs) = walked_to_lem r.behind rs

module _ (R sectors : ℕ) (bytes : List ℕ) (n : ℕ) (p q : Place) where
  -- over a record, to where the records behind it lead
  pub leads-on : led_to (read_behind R sectors bytes p) ≡ Ok q → walked_to p (walk R sectors bytes (suc n) p) ≡ walked_to q (walk R sectors bytes n q)
  unfolding led_to walked_to walk walk_on and_then
  leads-on h = go (read_behind R sectors bytes p) refl h
    where
      rest : (r : Recorded) (w : Walk) → walked_to p (and_then r w) ≡ walked_to r.behind w
      rest r (walked rs) = refl
      rest r (broken o) = refl

      go : (g : Got) → read_behind R sectors bytes p ≡ g → led_to g ≡ Ok q → walked_to p (walk_on g (walk R sectors bytes n)) ≡ walked_to q (walk R sectors bytes n q)
      go (got r) e h =
          let is : r.behind ≡ q = cc in
          rest r (walk R sectors bytes n r.behind) ∙ ap (λ (z : Place). walked_to z (walk R sectors bytes n z)) is
      go (lost o) e h = let z : ◌≡◌ {A = ℕ} 0 1 = cc in absurd (omega arith)

  -- or to the bad code
  pub leads-off : led_to (read_behind R sectors bytes p) ≡ lost_at q → walked_to p (walk R sectors bytes (suc n) p) ≡ lost_at q
  unfolding led_to walked_to walk walk_on
  leads-off h = go (read_behind R sectors bytes p) refl h
    where
      go : (g : Got) → read_behind R sectors bytes p ≡ g → led_to g ≡ lost_at q → walked_to p (walk_on g (walk R sectors bytes n)) ≡ lost_at q
      go (got r) e h = let z : ◌≡◌ {A = ℕ} 0 1 = cc in absurd (omega arith)
      go (lost o) e h = h

-- whether it decodes shows in where it leads
pub ok-decodes : (p : Place) (w : Walk) → is_ok (walked_to p w) ≡ decodes w
unfolding walked_to decodes
ok-decodes p (walked []) = refl
ok-decodes p (walked (r ∷ rs)) = ok-decodes r.behind (walked rs)
ok-decodes p (broken q) = refl

pub to-decodes : (p : Place) (w : Walk) (q : Place) → walked_to p w ≡ Ok q → (decodes w ≡ true) × (q ≡ behind_from p (records_of w) (length (records_of w)))
unfolding decodes records_of
to-decodes p (walked rs) q h = let is : Ok (behind_from p rs (length rs)) ≡ Ok q = sym (walked_to_lem p rs) ∙ h in (refl, (cc))
to-decodes p (broken o) q h = let z : ◌≡◌ {A = ℕ} 0 1 = unfold walked_to in cc in absurd (omega arith)

pub lost-breaks : (p : Place) (w : Walk) (q : Place) → walked_to p w ≡ lost_at q → decodes w ≡ false
lost-breaks p w q h = sym (ok-decodes p w) ∙ ap is_ok h
