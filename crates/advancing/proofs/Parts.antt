-- What the functions do, over plain variables: a state made ready, and the next state laid. Laying changes no length, so the engine stays.
use mathlib.Core.Path.{◌≡◌, sym, ap, ◌∙◌}
use mathlib.Core.Bool.{Bool, true, false, not}
use mathlib.Core.List.{List}
use Prim.Native.Nat.{ℕ}
use borrow.Author.Tests.{not-true, not-false}
use Rattle.geometry.specs.Sizes.{entries}
use Rattle.geometry.proofs.Tests.{chosen, not_chosen}
use Rattle.sessions.specs.Session.{idle}
use Rattle.tables.specs.Tables.{two_words_wide, lay_counts}
use Rattle.storing.specs.Stored.{has_buffers, lay_state, lay_fresh}
use Rattle.advancing.specs.Advancing.{readied, lay_next}
use Rattle.advancing.proofs.Laid.{length-counted}
use Rattle.sessions.specs.declared.Holding.{Holding}
use Rattle.sessions.specs.declared.OpenFile.{OpenFile}
use Rattle.steps.specs.declared.Verdict.{Verdict}

-- ---- a state made ready

module _ (b : List ℕ) (k : ℕ) (used : Bool) where
  pub made-ready : not used ≡ true → (f : OpenFile) → f ≡ idle → (c : List ℕ) → c ≡ lay_fresh (has_buffers b) b k f → c ≡ readied (has_buffers b) b k used
  unfolding readied
  made-ready h f e c p = p ∙ ap (lay_fresh (has_buffers b) b k) e ∙ sym (not_chosen used b (lay_fresh (has_buffers b) b k idle) (not-true used h))

  pub is-ready : not used ≡ false → b ≡ readied (has_buffers b) b k used
  unfolding readied
  is-ready h = sym (chosen used b (lay_fresh (has_buffers b) b k idle) (not-false used h))

-- ---- the next state laid

module _ (b : List ℕ) (i k : ℕ) (v : Verdict) (h : Holding) (c : List ℕ) (c-is : c ≡ lay_counts two_words_wide entries b i v.entry.count v.entry.flags) (d : List ℕ) where
  abbrev counted : List ℕ
  counted = lay_counts two_words_wide entries b i v.entry.count v.entry.flags

  same-engine : has_buffers counted ≡ has_buffers b
  unfolding has_buffers
  same-engine = rw (length-counted b i v.entry.count v.entry.flags)

  pub laid-open : v.file.used ≡ true → d ≡ lay_state (has_buffers c) c k v.file h → d ≡ lay_next (has_buffers b) b i k v h
  unfolding lay_next
  laid-open t e = e ∙ ap (λ (x : List ℕ). lay_state (has_buffers x) x k v.file h) c-is ∙ ap (λ (u : Bool). lay_state u counted k v.file h) same-engine ∙ sym (chosen v.file.used _ _ t)

  pub laid-shut : v.file.used ≡ false → d ≡ lay_fresh (has_buffers c) c k v.file → d ≡ lay_next (has_buffers b) b i k v h
  unfolding lay_next
  laid-shut t e = e ∙ ap (λ (x : List ℕ). lay_fresh (has_buffers x) x k v.file) c-is ∙ ap (λ (u : Bool). lay_fresh u counted k v.file) same-engine ∙ sym (not_chosen v.file.used _ _ t)
