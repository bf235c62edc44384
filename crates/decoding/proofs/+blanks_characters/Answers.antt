-- `decoding::blanks` and `decoding::characters`, which call each other, meet their contracts: each answers for its run, and the call that it ends with
-- for what follows.
use mathlib.Core.Path.{sym, ◌∙◌}
use native.Mathlib.Omega.{arith}
use Rattle.decoding.proofs.Measured.{stops, few-short, few-over, few-taken, most-none, most-over, most-taken, ends}
use Rattle.decoding.proofs.+blanks_characters.Goals as goal

-- ---- a run of blanks

pub blanks-returns-then-n-eq0 : goal.blanks-returns-then-n-eq0
blanks-returns-then-n-eq0 t c =
    let a = c.args in
    let p = c.requires in
    most-none a.sector.now.now a.room a.at p.1 a.n p.2 (omega arith)

pub blanks-returns-then-room-n : goal.blanks-returns-then-room-n
blanks-returns-then-room-n t c =
    let a = c.args in
    let p = c.requires in
    most-over a.sector.now.now a.room a.at p.1 a.n p.2 (omega arith)

pub blanks-characters-requires : goal.blanks-characters-requires
blanks-characters-requires t c = (omega arith, omega arith)

pub blanks-returns : goal.blanks-returns
blanks-returns t c =
    let a = c.args in
    let p = c.requires in
    let e = c.characters.ensures in
    e ∙ sym (most-taken a.sector.now.now a.room a.at p.1 a.n p.2 (omega arith) (omega arith))

-- ---- runs of characters

pub characters-returns-then-s-at : goal.characters-returns-then-s-at
characters-returns-then-s-at t c = let a = c.args in ends a.sector.now.now a.room a.at (omega arith)

pub characters-returns-then-c-eq0 : goal.characters-returns-then-c-eq0
characters-returns-then-c-eq0 t c =
    let a = c.args in
    stops a.sector.now.now a.room a.at (omega arith) (omega arith)

pub characters-blanks-requires : goal.characters-blanks-requires
characters-blanks-requires t c = (omega arith, (omega arith, omega arith, omega arith))

pub characters-returns-then-room-c : goal.characters-returns-then-room-c
characters-returns-then-room-c t c =
    let a = c.args in
    few-over a.sector.now.now a.room a.at (omega arith) (λ z. omega arith) (omega arith) (omega arith)

pub characters-returns-then-s-at-2 : goal.characters-returns-then-s-at-2
characters-returns-then-s-at-2 t c =
    let a = c.args in
    few-short a.sector.now.now a.room a.at (omega arith) (λ z. omega arith) (omega arith) (omega arith)

pub characters-characters-requires : goal.characters-characters-requires
characters-characters-requires t c = (omega arith, omega arith)

pub characters-returns : goal.characters-returns
characters-returns t c =
    let a = c.args in
    let e = c.characters.ensures in
    e ∙ sym (few-taken a.sector.now.now a.room a.at (omega arith) (λ z. omega arith) (omega arith) (omega arith) (omega arith))
