-- A request answered 0, 1 or 2 is on a used entry of a legal session, whose file is open but for an opening.
use mathlib.Core.Path.{◌≡◌}
use mathlib.Core.Logic.{◌⊎◌, inl, inr}
use mathlib.Core.Bool.{true, false}
use Prim.Native.Nat.{◌<◌}
use lib.Dec.{eqb}
use Rattle.geometry.specs.Sizes.{free, most_open}
use Rattle.requests.proofs.Done.{Live, Allows, Meets, reads_mark, skips_mark, back_over, back_at_start, file_back_to_start}
use Rattle.requests.specs.declared.Edge.{Edge}
use Rattle.requests.specs.declared.Facts.{Facts}
use Rattle.requests.specs.declared.Order.TheVariants.{WriteMark, RewindOnline, RewindOffline, RecordForward, RecordBack, FileForward, FileBack}
use Rattle.requests.specs.declared.Request.{Request}
use Rattle.requests.specs.declared.Request.TheVariants.{Open, Read, Write, GranuleRead, GranuleWrite, GranuleLook, Position}

-- the file is open, unless it is to be opened
abbrev pub Alive : Request → Facts → Type 0
Alive Open f = Unit {0}
Alive Read f = Live f
Alive Write f = Live f
Alive (GranuleRead g) f = Live f
Alive (GranuleWrite g) f = Live f
Alive (GranuleLook g) f = Live f
Alive (Position o) f = Live f

pub done-live : (q : Request) (f : Facts) → Allows q f → Alive q f
done-live Open f a = tt
done-live Read f a = a.advances.running.live
done-live Write f a = a.marks.running.live
done-live (GranuleRead g) f a = a.finds.live
done-live (GranuleWrite g) f a = a.finds.live
done-live (GranuleLook g) f a = a.live
done-live (Position WriteMark) f a = a.running.live
done-live (Position RewindOnline) f a = a.live
done-live (Position RewindOffline) f a = a
done-live (Position RecordForward) f a = a.running.live
done-live (Position RecordBack) f a = a.running.live
done-live (Position FileForward) f a = a.running.live
done-live (Position FileBack) f a = a.running.live

pub met-live : (f : Facts) (q : Request) (x : Edge) → Meets f q x → Live f
met-live f q x (reads_mark m) = m.running.live
met-live f q x (skips_mark m) = m.running.live
met-live f q x (back_over m) = m.running.live
met-live f q x (back_at_start m) = m.running.live
met-live f q x (file_back_to_start m) = m.running.live

-- the entry is used, and the session legal
pub record Real (f : Facts) : Type 0 where
  pub legal : f.legal ≡ true
  pub used : eqb f.kind free ≡ false

pub live-real : (f : Facts) → Live f → Real f
live-real f l = record { legal = l.legal; used = l.used }

pub done-real : (q : Request) (f : Facts) → Allows q f → Real f
done-real q f a = go q a (done-live q f a)
  where
    go : (q : Request) → Allows q f → Alive q f → Real f
    go Open a l = record { legal = a.legal; used = a.used }
    go Read a l = live-real f l
    go Write a l = live-real f l
    go (GranuleRead g) a l = live-real f l
    go (GranuleWrite g) a l = live-real f l
    go (GranuleLook g) a l = live-real f l
    go (Position o) a l = live-real f l

-- there is a state for the file: it is open, or fewer than four are
pub done-place : (q : Request) (f : Facts) → Allows q f → (f.opened ≡ true) ⊎ (f.files < most_open)
done-place q f a = go q a (done-live q f a)
  where
    go : (q : Request) → Allows q f → Alive q f → (f.opened ≡ true) ⊎ (f.files < most_open)
    go Open a l = inr a.few
    go Read a l = inl l.opened
    go Write a l = inl l.opened
    go (GranuleRead g) a l = inl l.opened
    go (GranuleWrite g) a l = inl l.opened
    go (GranuleLook g) a l = inl l.opened
    go (Position o) a l = inl l.opened
