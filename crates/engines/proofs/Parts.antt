-- What the private functions do, over plain variables: a state's buffer is lent from the bytes and put back, and each engine moves bytes in its own way.
use mathlib.Core.Path.{◌≡◌, sym, ap, subst, ◌∙◌}
use mathlib.Core.Bool.{Bool, true, false}
use mathlib.Core.List.{List, ◌++◌}
use Prim.Native.Nat.{ℕ, ◌+◌, ◌-◌, ◌*◌, ◌≤◌, ◌<◌}
use native.Mathlib.Omega.{arith}
use borrow.Rule.Slice.PartMut.{mid_of, put_mid}
use lib.ListN.{length, take, drop}
use lib.Seq.{drop-drop}
use Rattle.geometry.specs.Bytes.{part, lay}
use Rattle.geometry.specs.Sizes.{sector, most_open}
use Rattle.geometry.proofs.Bytes.{length_part, lay-fits}
use Rattle.steps.specs.Effects.{Bench}
use Rattle.storing.specs.Stored.{held_width, files_at, has_buffers}
use Rattle.storing.proofs.Laid.{held-long}
use Rattle.finding.specs.Lent.{buffer_at}
use Rattle.straight.specs.Moving.{scene}
use Rattle.blocking.specs.Blocking.{lent}
use Rattle.held.specs.Held.{held_all, effects_with}
use Rattle.plain.specs.Plain.{acted_with}
use Rattle.advancing.specs.Advancing.{readied}
use Rattle.advancing.proofs.Laid.{length-readied}
use Rattle.engines.specs.Parts.{Acted, Moved}
use Rattle.requests.specs.declared.Request.{Request}
use Rattle.sessions.specs.declared.Holding.{Holding}
use Rattle.finding.specs.declared.Seen.{Seen}

-- ---- a buffer lent from the bytes

-- what is put back in its place is laid there
put-laid : (b : List ℕ) (a m : ℕ) (room : List ℕ) → a + m ≤ length b → length room ≡ m → put_mid a m b room ≡ lay b a room
put-laid b a m room h l =
    ap (λ (r : List ℕ). take a b ++ (room ++ r)) (drop-drop m a b ∙ ap (λ (j : ℕ). drop (a + j) b) (sym l)) ∙ sym (lay-fits b a room (omega arith))

module _ (x : Seen) (i : ℕ) (q : Request) (given code : List ℕ) (k : ℕ) (image b image' : List ℕ) (h : Holding) where
  -- as many bytes as its two ends say
  abbrev m : ℕ
  m = (buffer_at x.slot + sector) - buffer_at x.slot

  abbrev works : List ℕ → Bench
  works c = held_all (scene i x.entry) (effects_with q x.entry x.file given code k) (lent image x.hold c)

  pub acted : x.slot < most_open → has_buffers b ≡ true → (c : List ℕ) → c ≡ readied (has_buffers b) b x.slot x.file.used → (room : List ℕ) → length room ≡ length (mid_of (buffer_at x.slot) m c)
      → lent image' h room ≡ works (mid_of (buffer_at x.slot) m c) → Acted x i q given code k image b image' (put_mid (buffer_at x.slot) m c room) h
  unfolding part
  acted n l c told room s z =
      let e : c ≡ readied true b x.slot x.file.used = told ∙ ap (λ (u : Bool). readied u b x.slot x.file.used) l in
      let p : m ≡ sector = omega arith in
      let y : files_at + held_width * most_open ≤ length c = omega (arith, ap (λ (d : List ℕ). length d) e, length-readied true b x.slot x.file.used, held-long b l) in
      let j : length room ≡ m = s ∙ length_part c (buffer_at x.slot) m (omega arith) in
      let z' : lent image' h room ≡ works (part (readied true b x.slot x.file.used) (buffer_at x.slot) sector) = z ∙ ap works (rw (p, e)) in
      let r : room ≡ (works (part (readied true b x.slot x.file.used) (buffer_at x.slot) sector)).file.buffer = ap (λ (w : Bench). w.file.buffer) z' in (
        ap (lent image' h) (sym r) ∙ z',
        put-laid c (buffer_at x.slot) m room (omega arith) j ∙ ap (λ (d : List ℕ). lay d (buffer_at x.slot) room) e ∙ ap (lay (readied true b x.slot x.file.used) (buffer_at x.slot)) r,
        ap (λ (d : List ℕ). length d) (sym r) ∙ j ∙ p,
      )

  -- by the engine
  module _ (u : Bool) (told : u ≡ has_buffers b) (b' : List ℕ) where
    pub moved-held : u ≡ true → Acted x i q given code k image b image' b' h → Moved (has_buffers b) x i q given code k image b image' b' h
    moved-held t a = subst (λ (v : Bool). Moved v x i q given code k image b image' b' h) (sym t ∙ told) a

    pub moved_plain : u ≡ false → image' ≡ acted_with q i x.entry x.file given code image → b' ≡ b → Moved (has_buffers b) x i q given code k image b image' b' h
    moved_plain t a e = subst (λ (v : Bool). Moved v x i q given code k image b image' b' h) (sym t ∙ told) (a, e)
