-- Where granules lie is a matter of R alone; and a write of one lays its padded bytes there, straight in the image of either engine, since a random file has no
-- buffer.
use mathlib.Core.Path.{◌≡◌, refl, sym, ap, ◌∙◌}
use mathlib.Core.Bool.{Bool, true}
use mathlib.Core.List.{List}
use Prim.Native.Nat.{ℕ, ◌+◌, ◌*◌, ◌≤◌, ◌<◌}
use native.Mathlib.Omega.{arith}
use native.Mathlib.Decide.{ℕ_discrete}
use lib.ListN.{length}
use borrow.Author.Tests.{eqb-true}
use Rattle.geometry.specs.Bytes.{lay, padded}
use Rattle.geometry.specs.Places.{sectors_for, per_sector, shares, capacity, place_of, bytes_for, byte_of}
use Rattle.geometry.specs.Sizes.{sector, random}
use Rattle.geometry.proofs.Bytes.{where-is, length-padded, length-lay, get_or-lay-out, part-lay-same}
use Rattle.geometry.proofs.Places.{granules-share, granules-whole, place-whole, bytes-shared, bytes_whole, bytes-hold, granules-apart, granule-before, before-end, granule-inside, granule-outside}
use Rattle.directory.specs.Entries.{entry_at}
use Rattle.requests.specs.Judge.{judge}
use Rattle.requests.proofs.Done.{WritesGranule, done-allows}
use Rattle.sessions.specs.Session.{bare, unheld, open_files, extent, extent_with, legal, buffered_legal}
use Rattle.sessions.proofs.Legal.{bare-legal}
use Rattle.steps.specs.Effects.{sector_at, store_effect, effects, plain_do, plain_all, buffered_do, buffered_all}
use Rattle.steps.specs.Next.{Scene, facts_of}
use Rattle.steps.specs.Step.{plain_scene, plain_answer, plain_after, held_of, buffered_scene, buffered_answer, buffered_after}
use Rattle.steps.proofs.Answered.{plain-answered, plain-is, buffered-answered, buffered-is}
use Rattle.steps.proofs.Granted.{found, is_lawful, room, suits}
use Rattle.steps.proofs.Lawful.{Lawful}
use Rattle.demands.specs.Engine.{Engine, plain_engine, buffered_engine}
use Rattle.promises.specs.Granules.{Has, Layout, Covers, granule_at, GranuleWrites}
use Rattle.geometry.specs.declared.Place.{Place}
use Rattle.directory.specs.declared.Entry.{Entry}
use Rattle.requests.specs.declared.Answer.TheVariants.{Done}
use Rattle.requests.specs.declared.Request.TheVariants.{GranuleWrite}
use Rattle.sessions.specs.declared.Session.{Session}

-- ---- where granules lie

pub granules-laid : (R : ℕ) → 0 < R → Layout R
granules-laid R pos = record {
  apart = λ g h j a b. same g h j a b (ℕ_discrete g h);
  in_sector = λ h g j a. (omega (arith, granule-before R pos h g, before-end R pos), omega (arith, granule-before R pos h g, before-end R pos));
  of_sectors = λ h g. place-whole random R g (granules-whole R h);
  in_extent = granule-inside R pos;
  past_extent = granule-outside R pos;
}
  where
    same : (g h j : ℕ) → Has R g j → Has R h j → Dec (g ≡ h) → g ≡ h
    same g h j a b (yes e) = e
    same g h j a b (no d) = absurd (omega (arith, granules-apart R pos g h d))

-- some of them: "granules of 60 bytes, six to a sector", two of 180, one of 182; and as many of 2 bytes as an image can have
pub examples : (place_of random 60 7 ≡ record { sector = 1; byte = 60 }) × (capacity random 60 2 ≡ 12)
    × (place_of random 180 3 ≡ record { sector = 1; byte = 180 }) × (place_of random 182 3 ≡ record { sector = 3; byte = 0 })
    × (capacity random 362 5 ≡ 2) × (capacity random 2 4095 ≡ 737100)
unfolding sectors_for per_sector shares capacity place_of
examples = (refl, refl, refl, refl, refl, refl)

-- ---- a write, on the session that an engine's own is without buffers; `ok` is legality as the engine asks for it

module _ (image : List ℕ) (s : Session) (ok : Bool) (sound : ok ≡ true → legal image s ≡ true) (i : ℕ) (bytes given : List ℕ) (files buffer g : ℕ)
    (d : judge (GranuleWrite g) (facts_of ok files buffer (GranuleWrite g) (found s i bytes given)) ≡ Done) where
  abbrev c : Scene
  c = found s i bytes given

  abbrev e : Entry
  e = c.entry

  allowed : WritesGranule g (facts_of ok files buffer (GranuleWrite g) c)
  allowed = done-allows (GranuleWrite g) _ d

  kind : e.kind ≡ random
  unfolding facts_of
  kind = eqb-true e.kind random allowed.finds.random

  abbrev p : Place
  p = place_of random e.length g

  -- what is laid
  abbrev xs : List ℕ
  xs = padded 0 (bytes_for e.kind e.length) given

  long : length xs ≡ bytes_for random e.length
  unfolding facts_of
  long =
      let l : Lawful e c.file = is_lawful image s ok sound i bytes given files buffer (GranuleWrite g) d in
      let h : e.length ≤ bytes_for random e.length = bytes-hold random e.length (omega (arith, l.long)) (λ q. absurd (omega arith)) in
      rw kind (length-padded 0 (bytes_for random e.length) given (omega (arith, allowed.short)))

  -- it lies in the extent, and so in the image
  fits : granule_at e g + bytes_for random e.length ≤ length image
  unfolding effects store_effect
  fits =
      let h : byte_of (place_of e.kind e.length g) + length xs ≤ sector * e.sectors = (suits image s ok sound i bytes given files buffer (GranuleWrite g) d).0.1 in
      let k : byte_of (place_of e.kind e.length g) ≡ byte_of p = ap (λ (n : ℕ). byte_of (place_of n e.length g)) kind in
      omega (arith, long, room image s ok sound i bytes given files buffer (GranuleWrite g) d)

  laid : plain_all c (effects (GranuleWrite g) c) image ≡ lay image (granule_at e g) xs
  unfolding effects store_effect plain_all plain_do
  laid =
      let z : sector_at e p.sector + p.byte ≡ granule_at e g = omega arith in
      rw (kind, z)

  session-covers : (n : ℕ) → bytes_for random e.length ≡ n → Covers (granule_at e g) n given image (plain_all c (effects (GranuleWrite g) c) image)
  session-covers n m = rw laid (record {
    own = part-lay-same image (granule_at e g) xs n (long ∙ m) (omega (arith, fits)) ∙ rw (kind, m);
    others = λ j h. get_or-lay-out image (granule_at e g) xs j 0 (where-is j (granule_at e g) n (λ b. omega (arith, long)) (λ a b. absurd (h (a, b))) (λ b. omega (arith, long)));
    size = length-lay image (granule_at e g) xs;
  })

-- ---- in either engine

-- one rule for both: as many bytes as the granule takes
granule-writes : (E : Engine)
    → ((image : List ℕ) (s : E.Session) (i g : ℕ) (given buffer : List ℕ) (e : Entry) → entry_at (E.seen s).table i ≡ e
    → (E.request image s i (GranuleWrite g) given buffer).answer ≡ Done → (n : ℕ) → bytes_for random e.length ≡ n
    → Covers (granule_at e g) n given image (E.request image s i (GranuleWrite g) given buffer).image)
    → GranuleWrites E
granule-writes E covers = record {
  small = λ image s i g given buffer e h d l. covers image s i g given buffer e h d e.length (bytes-shared random e.length (granules-share e.length l));
  large = λ image s i g given buffer e h d l. covers image s i g given buffer e h d (sector * sectors_for e.length) (bytes_whole random e.length (granules-whole e.length l));
}

pub plain-granules : GranuleWrites plain_engine
unfolding unheld plain_answer plain_after plain_scene
plain-granules = granule-writes plain_engine λ image s i g given buffer e h d n m.
    rw (plain-is image s i (GranuleWrite g) given buffer Done d, ← h)
    (session-covers image s (legal image s) (λ k. k) i (extent (entry_at s.table i) image) given (open_files s.files) (length buffer) g
    (sym (plain-answered image s i (GranuleWrite g) given buffer) ∙ d) n (rw h m))

pub buffered-granules : GranuleWrites buffered_engine
unfolding buffered_answer buffered_after buffered_scene bare effects store_effect plain_all buffered_all buffered_do
buffered-granules = granule-writes buffered_engine λ image s i g given buffer e h d n m.
    rw (buffered-is image s i (GranuleWrite g) given buffer Done d, ← h)
    (session-covers image (bare s) (buffered_legal image s) (bare-legal image s) i (extent_with (entry_at s.table i) (held_of s i) image) given (open_files (bare s).files) (length buffer) g
    (sym (buffered-answered image s i (GranuleWrite g) given buffer) ∙ d) n (rw h m))
