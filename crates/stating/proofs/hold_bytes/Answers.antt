-- Each field's bytes, one behind another.
use mathlib.Core.Path.{◌≡◌}
use mathlib.Core.List.{List, [], ◌∷◌, ◌++◌}
use Prim.Native.Nat.{ℕ}
use Rattle.storing.specs.Numbers.{bytes_of, flag_of}
use Rattle.storing.specs.Stored.{hold_stored}
use Rattle.sessions.specs.declared.Holding.{Holding}
use Rattle.storing.proofs.Numbers.{flag-byte}
use Rattle.stating.proofs.Numbers.{four-bytes}
use Rattle.stating.proofs.hold_bytes.Goals as goal

joined : (h : Holding) (a c : ℕ) (n : List ℕ) → a ≡ flag_of h.holds → n ≡ bytes_of 4 h.held → c ≡ flag_of h.changed → (a ∷ []) ++ (n ++ (c ∷ [])) ≡ hold_stored h
unfolding hold_stored
joined h a c n ea en ec = rw (ea, en, ec)

pub returns : goal.returns
returns c =
    joined c.args.h _ _ _ (flag-byte c.args.h.holds _ c.from-a.ensures) (four-bytes _ _ c.to_le_bytes-n.ensures) (flag-byte c.args.h.changed _ c.from-c.ensures)
