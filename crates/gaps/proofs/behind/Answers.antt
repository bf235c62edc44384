-- `gaps::behind` meets its contract: what the tests find is that no sector is shared, or that the entry is free, or else neither.
use mathlib.Core.Path.{sym, ◌∙◌}
use native.Mathlib.Omega.{arith}
use Rattle.directory.specs.Entries.{entry_at}
use Rattle.tables.specs.Table.{rows_of}
use Rattle.gaps.proofs.Sweep.{behind-free, behind-apart, behind-met}
use Rattle.gaps.proofs.behind.Goals as goal

pub returns-then-end-p : goal.returns-then-end-p
returns-then-end-p c =
    let a = c.args in
    let t = rows_of a.t.now in
    let e = c.entry-e.ensures in
    (sym (behind-apart a.n a.p (entry_at t a.i) (rw (← e) (omega arith))), omega arith)

pub returns-then-p-n : goal.returns-then-p-n
returns-then-p-n c =
    let a = c.args in
    let t = rows_of a.t.now in
    let e = c.entry-e.ensures in
    (sym (behind-apart a.n a.p (entry_at t a.i) (rw (← e) (omega arith))), omega arith)

pub returns-then-end-first : goal.returns-then-end-first
returns-then-end-first c =
    let a = c.args in
    let t = rows_of a.t.now in
    let e = c.entry-e.ensures in
    (sym (behind-apart a.n a.p (entry_at t a.i) (rw (← e) (omega arith))), omega arith)

pub returns-then-n-eq0 : goal.returns-then-n-eq0
returns-then-n-eq0 c =
    let a = c.args in
    let t = rows_of a.t.now in
    let e = c.entry-e.ensures in
    (sym (behind-apart a.n a.p (entry_at t a.i) (rw (← e) (omega arith))), omega arith)

pub returns-then-is_free : goal.returns-then-is_free
returns-then-is_free c =
    let a = c.args in
    (sym (behind-free a.n a.p (entry_at (rows_of a.t.now) a.i) (sym c.is_free.ensures ∙ c.if-is_free.true)), omega arith)

pub returns : goal.returns
returns c =
    let a = c.args in
    let t = rows_of a.t.now in
    let e = c.entry-e.ensures in
    let m = behind-met a.n a.p (entry_at t a.i) (sym c.is_free.ensures ∙ c.if-is_free.false) (rw (← e) (omega arith)) in
    (sym (m ∙ rw (← e)), omega arith)
