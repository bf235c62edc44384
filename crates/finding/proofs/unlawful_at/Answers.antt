-- Each entry is the same, and there are 18.
use mathlib.Core.Path.{sym, ◌∙◌}
use native.Mathlib.Omega.{arith}
use Prim.Native.Nat.{◌≤◌}
use lib.ListN.{length, get_or-replicate, get_or-eq_default}
use Rattle.directory.specs.Entries.{free_entry}
use Rattle.storing.specs.Stored.{unlawful_entry, unlawful}
use Rattle.finding.proofs.unlawful_at.Goals as goal

pub returns-then-i-lt-ENTRIES : goal.returns-then-i-lt-ENTRIES
unfolding unlawful
returns-then-i-lt-ENTRIES c = sym (get_or-replicate 18 c.args.i unlawful_entry free_entry (omega arith))

pub returns-else-i-lt-ENTRIES : goal.returns-else-i-lt-ENTRIES
unfolding unlawful
returns-else-i-lt-ENTRIES c =
    let h : length unlawful.table ≤ c.args.i = omega arith in
    c.free_entry.ensures ∙ sym (get_or-eq_default unlawful.table free_entry h)
