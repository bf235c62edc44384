-- `held::write` meets its contract: one way for each kind.
use mathlib.Core.Path.{◌≡◌, sym, ap, ◌∙◌}
use Rattle.geometry.specs.Sizes.{blocked, compressed}
use Rattle.directory.specs.declared.Entry.{Entry}
use Rattle.held.proofs.Cases as cases
use borrow.Author.Rules.{rules}
use Rattle.held.proofs.write.Goals as goal

pub returns-in-2 : goal.returns-in-2
returns-in-2 g c =
    let a = c.args in
    let e : Entry = g.M.Mover.entry a.m.now in
    let k : e.kind ≡ blocked = ap (λ (e : Entry). e.kind) (sym c.entry-e.ensures) ∙ c.in-2.is in
    (c.write_blocked.ensures.0 ∙ cases.write-blocked-by g.M.Mover.way e a.f a.given.now a.code.now (g.M.Mover.bench a.m.now) k, c.write_blocked.ensures.1)

pub returns-in-3 : goal.returns-in-3
returns-in-3 g c =
    let a = c.args in
    let e : Entry = g.M.Mover.entry a.m.now in
    let k : e.kind ≡ compressed = ap (λ (e : Entry). e.kind) (sym c.entry-e.ensures) ∙ c.in-3.is in
    (c.write_coded.ensures.0 ∙ cases.write-coded g.M.Mover.way e a.f a.given.now a.code.now (g.M.Mover.bench a.m.now) k, c.write_coded.ensures.1)

pub returns-in_default : goal.returns-in_default
returns-in_default g c =
    let a = c.args in
    let b : ¬ (c.entry-e.result.kind ≡ blocked) = search rules in
    let z : ¬ (c.entry-e.result.kind ≡ compressed) = search rules in (
      c.store.ensures.0
          ∙ cases.write-stored g.M.Mover.way (g.M.Mover.entry a.m.now) a.f a.given.now a.code.now (g.M.Mover.bench a.m.now) (rw c.entry-e.ensures at b) (rw c.entry-e.ensures at z),
      c.store.ensures.1,
    )
