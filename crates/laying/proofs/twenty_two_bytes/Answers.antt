-- `laying::twenty_two_bytes` meets its contract: the name byte by byte, then the bytes of each word.
use mathlib.Core.Path.{◌≡◌, sym, ap}
use mathlib.Core.List.{List, ◌∷◌, ◌++◌}
use Prim.Native.Nat.{ℕ}
use lib.ListN.{length, get_or}
use Rattle.geometry.specs.Bytes.{word}
use Rattle.directory.proofs.Back.{eight}
use borrow.Author.Rules.{rules}
use Rattle.laying.proofs.twenty_two_bytes.Goals as goal

joined : (name : List ℕ) (kind size first sectors high low flags : ℕ) (k l f s h w g : List ℕ) → length name ≡ 8
    → k ≡ word kind → l ≡ word size → f ≡ word first → s ≡ word sectors → h ≡ word high → w ≡ word low → g ≡ word flags
    → get_or name 0 0
    ∷ get_or name 1 0
    ∷ get_or name 2 0
    ∷ get_or name 3 0
    ∷ get_or name 4 0
    ∷ get_or name 5 0
    ∷ get_or name 6 0
    ∷ get_or name 7 0
    ∷ (k ++ (l ++ (f ++ (s ++ (h ++ (w ++ g))))))
    ≡ name ++ (word kind ++ (word size ++ (word first ++ (word sectors ++ (word high ++ (word low ++ word flags))))))
joined name kind size first sectors high low flags k l f s h w g n ek el ef es eh ew eg =
    rw (ek, el, ef, es, eh, ew, eg) (sym (ap (λ (x : List ℕ). x ++ (word kind ++ (word size ++ (word first ++ (word sectors ++ (word high ++ (word low ++ word flags))))))) (eight name n)))

pub returns : goal.returns
returns c =
    let a = c.args in
    joined a.name a.kind a.length a.first a.sectors a.high a.low a.flags _ _ _ _ _ _ _ (search rules)
    c.two_bytes-k.ensures c.two_bytes-l.ensures c.two_bytes-f.ensures
    c.two_bytes-s.ensures c.two_bytes-h.ensures c.two_bytes-w.ensures c.two_bytes-g.ensures
