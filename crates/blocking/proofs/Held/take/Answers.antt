-- `Held::take` meets its contract: a held sector stays; else the buffer goes back and the sector comes.
use mathlib.Core.Path.{refl, ap, ◌∙◌}
use lib.ListN.{length}
use Rattle.steps.specs.Effects.{Bench, loaded}
use Rattle.blocking.specs.Blocking.{bench_of}
use Rattle.blocking.proofs.Cases.{length-put, take-held, take-other}
use Rattle.blocking.proofs.Held.take.Goals as goal

pub load-requires : goal.load-requires
load-requires c =
    let s = c.args.self.now in
    let p = c.lay_back-self.ensures in
    let n = ap (λ (w : Bench). length w.image) p ∙ length-put s.entry (bench_of s) in
    (rw n c.requires.0, c.requires.1)

pub returns-then-h-k : goal.returns-then-h-k
returns-then-h-k c = (take-held c.args.self.now.entry (bench_of c.args.self.now) c.args.k c.if-h-k.true, (refl, refl, refl))

pub returns : goal.returns
returns c =
    let s = c.args.self.now in
    let p = c.lay_back-self.ensures in
    let q = c.load.ensures in
    (q.0 ∙ ap (loaded s.entry c.args.k) p ∙ take-other s.entry (bench_of s) c.args.k c.if-h-k.false, q.1)
