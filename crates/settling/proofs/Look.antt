-- A granule shown by the buffered engine is shown by the plain one: a random file holds nothing, and what other files hold lies elsewhere.
use mathlib.Core.Path.{◌≡◌, refl, sym, ap, ◌∙◌}
use mathlib.Core.Bool.{true, false}
use mathlib.Core.List.{List, []}
use Prim.Native.Nat.{ℕ, ◌+◌, ◌*◌, ◌≤◌, ◌<◌}
use native.Mathlib.Omega.{arith}
use borrow.Author.Tests.{eqb-true}
use Rattle.geometry.specs.Bytes.{part}
use Rattle.geometry.specs.Places.{capacity, place_of, byte_of}
use Rattle.geometry.specs.Sizes.{sector, random}
use Rattle.geometry.proofs.Bytes.{part-part}
use Rattle.geometry.proofs.Places.{record-inside}
use Rattle.geometry.proofs.Tests.{not_chosen}
use Rattle.directory.specs.Entries.{entry_at}
use Rattle.requests.proofs.Done.{Finds, done-allows}
use Rattle.sessions.specs.Session.{bare, open_files, holds_one, extent, extent_with}
use Rattle.sessions.proofs.Held.{no-buffer-none}
use Rattle.steps.specs.Next.{facts_of}
use Rattle.steps.specs.Step.{held_of, buffered_scene, buffered_answer}
use Rattle.steps.specs.Look.{shown, plain_look, plain_look_answer, buffered_look, buffered_look_answer}
use Rattle.steps.proofs.Inside.{no_buffer}
use Rattle.settling.proofs.Settle.{settle}
use Rattle.settling.proofs.Kept.{Kept, entry-lies}
use Rattle.settling.proofs.Scene.{same_bytes, same_answer}
use Rattle.directory.specs.declared.Entry.{Entry}
use Rattle.requests.specs.declared.Answer.{Answer}
use Rattle.requests.specs.declared.Answer.TheVariants.{Done, Met, Refused}
use Rattle.requests.specs.declared.Request.TheVariants.{GranuleLook}
use Rattle.sessions.specs.declared.BufferedSession.{BufferedSession}

module _ (image : List ℕ) (s : BufferedSession) (ok : Kept image s) (i g : ℕ) where
  abbrev e : Entry
  e = entry_at s.table i

  -- the file is open, random and has the granule
  found : buffered_answer image s i (GranuleLook g) [] 0 ≡ Done → Finds g (facts_of true (open_files (bare s).files) 0 (GranuleLook g) (buffered_scene image s i []))
  unfolding buffered_answer
  found d = done-allows (GranuleLook g) (facts_of true (open_files (bare s).files) 0 (GranuleLook g) (buffered_scene image s i [])) (rw ok.is_legal at d)

  nothing-held : buffered_answer image s i (GranuleLook g) [] 0 ≡ Done → holds_one e (held_of s i) ≡ false
  unfolding buffered_scene facts_of
  nothing-held d = no-buffer-none e (held_of s i) (no_buffer e (found d).random)

  granule-inside : buffered_answer image s i (GranuleLook g) [] 0 ≡ Done → byte_of (place_of random e.length g) + e.length ≤ sector * e.sectors
  unfolding buffered_scene facts_of
  granule-inside d =
      let k : e.kind ≡ random = eqb-true e.kind random (found d).random in
      let h : g < capacity e.kind e.length e.sectors = (found d).there in
      record-inside random e.length (omega (arith, (entry-lies image s ok i (found d).live.used).least)) (λ q. absurd (omega arith)) g e.sectors (rw k at h)

  shows : buffered_answer image s i (GranuleLook g) [] 0 ≡ Done → shown Done e g image ≡ shown Done e g (settle image s)
  unfolding shown extent_with extent
  shows d =
      let at : ℕ = byte_of (place_of random e.length g) in
      let same : extent e image ≡ extent e (settle image s) = sym (not_chosen (holds_one e (held_of s i)) _ (extent e image) (nothing-held d)) ∙ same_bytes image s ok i in
      sym (part-part image (sector * e.first) (sector * e.sectors) at e.length (granule-inside d))
      ∙ ap (λ (x : List ℕ). part x at e.length) same
      ∙ part-part (settle image s) (sector * e.first) (sector * e.sectors) at e.length (granule-inside d)

  pub look-agrees : buffered_look image s i g ≡ plain_look (settle image s) (bare s) i g
  unfolding buffered_look plain_look buffered_look_answer plain_look_answer bare shown
  look-agrees = rw (← same_answer image s ok i (GranuleLook g) [] 0) (go (buffered_answer image s i (GranuleLook g) [] 0) refl)
    where
      go : (a : Answer) → buffered_answer image s i (GranuleLook g) [] 0 ≡ a → shown a e g image ≡ shown a e g (settle image s)
      go Done d = shows d
      go (Met x) d = refl
      go (Refused x) d = refl
