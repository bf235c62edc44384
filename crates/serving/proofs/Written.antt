-- A record or granule of R bytes written where it lies: it reads back padded with zero, and those before it are as they were, since places stand in order;
-- where it is written straight, in bytes of its own, so is every other one.
use mathlib.Core.Path.{◌≡◌, sym, ap, ◌∙◌}
use mathlib.Core.Logic.{◌≢◌}
use mathlib.Core.Bool.{true, false}
use mathlib.Core.List.{List}
use Prim.Native.Nat.{ℕ, ◌+◌, ◌*◌, ◌≤◌, ◌<◌}
use native.Mathlib.Omega.{arith}
use lib.ListN.{length}
use borrow.Author.Tests.{eqb-true, eqb-false}
use Rattle.geometry.specs.Bytes.{part, lay, padded}
use Rattle.geometry.specs.Sizes.{sector, blocked, compressed}
use Rattle.geometry.specs.Places.{capacity, place_of, byte_of}
use Rattle.geometry.proofs.Bytes.{part-lay-inside, part-lay-apart, part-padded, length-padded}
use Rattle.geometry.proofs.Tests.{either}
use Rattle.geometry.proofs.Places.{span_of, span-blocked, span-straight, span-holds, span-inside, earlier-apart, spans_apart}
use Rattle.directory.specs.Entries.{is_kind}
use Rattle.steps.specs.Next.{Scene}
use Rattle.steps.specs.Effects.{store_effect, blocked_effect, write_effects}
use Rattle.steps.proofs.Lawful.{own_do, own_all}

-- ---- what is laid

abbrev pub written : ℕ → ℕ → List ℕ → ℕ → List ℕ → List ℕ
written kind R bytes k given = lay bytes (byte_of (place_of kind R k)) (padded 0 (span_of kind R k) given)

-- the bytes that it takes: a granule's, an unblocked record's
pub own-store : (c : Scene) (k : ℕ) → is_kind blocked c.entry ≡ false → own_do (store_effect c k) c.bytes ≡ written c.entry.kind c.entry.length c.bytes k c.given
unfolding own_do store_effect
own-store c k n =
    rw (span-straight c.entry.kind c.entry.length k (eqb-false c.entry.kind blocked n))

-- a blocked record's sector from its first byte on
own-blocked : (c : Scene) → is_kind blocked c.entry ≡ true
    → own_do (blocked_effect c) c.bytes ≡ written c.entry.kind c.entry.length c.bytes c.file.position c.given
unfolding own_do blocked_effect
own-blocked c e =
    let k : c.entry.kind ≡ blocked = eqb-true c.entry.kind blocked e in
    rw (span-blocked c.entry.kind c.entry.length c.file.position k, k)

-- a record of kind 1 or 2
pub own-write : (c : Scene) → is_kind compressed c.entry ≡ false
    → own_all (write_effects c) c.bytes ≡ written c.entry.kind c.entry.length c.bytes c.file.position c.given
unfolding write_effects own_all
own-write c n = either (is_kind blocked c.entry)
    (λ (e : is_kind blocked c.entry ≡ true). rw (e, write_effects) (own-blocked c e))
    (λ (e : is_kind blocked c.entry ≡ false). rw (e, n, write_effects) (own-store c c.file.position e))

module _ (kind R sectors : ℕ) (pos : 0 < R) (small : kind ≡ blocked → R ≤ sector) (bytes : List ℕ) (size : length bytes ≡ sector * sectors)
    (p : ℕ) (below : p < capacity kind R sectors) (given : List ℕ) (short : length given ≤ R) where
  laid-length : length (padded 0 (span_of kind R p) given) ≡ span_of kind R p
  laid-length = length-padded 0 (span_of kind R p) given (omega (arith, span-holds kind R pos small p))

  -- it reads back
  pub written-here : part (written kind R bytes p given) (byte_of (place_of kind R p)) R ≡ padded 0 R given
  written-here =
      let at : ℕ = byte_of (place_of kind R p) in
      let l : length (padded 0 (span_of kind R p) given) ≡ span_of kind R p = laid-length in
      let z : at + 0 ≡ at = omega arith in
      ap (λ (a : ℕ). part (written kind R bytes p given) a R) (sym z)
      ∙ part-lay-inside bytes at (padded 0 (span_of kind R p) given) (omega (arith, span-inside kind R pos small p sectors below)) 0 R (omega (arith, span-holds kind R pos small p))
      ∙ part-padded 0 (span_of kind R p) R given short (span-holds kind R pos small p)

  -- those before it are as they were
  pub written-before : (k : ℕ) → k < p → part (written kind R bytes p given) (byte_of (place_of kind R k)) R ≡ part bytes (byte_of (place_of kind R k)) R
  written-before k h =
      part-lay-apart bytes (byte_of (place_of kind R p)) (padded 0 (span_of kind R p) given) (byte_of (place_of kind R k)) R
      (rw laid-length (earlier-apart kind R pos small k p h))

  -- written straight: all others are
  pub written-other : ¬ (kind ≡ blocked) → (k : ℕ) → k ≢ p → part (written kind R bytes p given) (byte_of (place_of kind R k)) R ≡ part bytes (byte_of (place_of kind R k)) R
  written-other n k d =
      part-lay-apart bytes (byte_of (place_of kind R p)) (padded 0 (span_of kind R p) given) (byte_of (place_of kind R k)) R
      (rw laid-length (omega (arith, spans_apart kind R pos small k p n d, span-holds kind R pos small k)))
