-- A look is judged by whether the session is legal, the entry and its state, and these are the same with nothing held: so one look serves both engines.
use mathlib.Core.Path.{◌≡◌, refl, sym, ap, ◌∙◌}
use mathlib.Core.Bool.{Bool, true, false, ◌&&◌, and-true}
use mathlib.Core.Logic.{◌≢◌}
use mathlib.Core.List.{List, []}
use Prim.Native.Nat.{ℕ, ◌+◌, ◌*◌}
use Rattle.geometry.specs.Bytes.{part}
use Rattle.geometry.specs.Lists.{every}
use Rattle.geometry.specs.Places.{place_of, byte_of}
use Rattle.geometry.specs.Sizes.{sector, random}
use Rattle.geometry.proofs.Tests.{either}
use Rattle.directory.specs.Entries.{entry_at}
use Rattle.directory.specs.declared.Entry.{Entry}
use Rattle.requests.specs.Judge.{tests, or_else, first_of, judge}
use Rattle.requests.specs.declared.Answer.{Answer}
use Rattle.requests.specs.declared.Answer.TheVariants.{Done, Met, Refused}
use Rattle.requests.specs.declared.Request.TheVariants.{GranuleLook}
use Rattle.sessions.specs.Session.{bare, open_files, held_good, legal, buffered_legal}
use Rattle.sessions.specs.declared.BufferedSession.{BufferedSession}
use Rattle.steps.specs.Next.{Scene, facts_of}
use Rattle.steps.specs.Step.{plain_scene, plain_answer, buffered_scene, buffered_answer}
use Rattle.steps.specs.Look.{shown, plain_look, plain_look_answer, buffered_look, buffered_look_answer}
use Rattle.storing.specs.Stored.{has_buffers, is_session, table_in, session_in, plain_in, lent_session}
use Rattle.storing.proofs.Illegal.{none-legal, none-legal-bare}
use Rattle.storing.proofs.Read.{session-is}
use Rattle.finding.proofs.Lent.{plain-good}
use Rattle.looking.specs.Looking.{look_in, look_answer_in, place_by, look_place}

-- a session that holds nothing is legal as it is without buffers
pub plain-legal : (image b : List ℕ) → buffered_legal image (session_in false b) ≡ legal image (plain_in b)
unfolding buffered_legal
plain-legal image b = either (is_session false b)
    (λ (t : is_session false b ≡ true). held t ∙ and-true (legal image (plain_in b)))
    (λ (t : is_session false b ≡ false). none-legal false image b t ∙ sym (none-legal-bare false image b t))
  where
    held : is_session false b ≡ true → buffered_legal image (session_in false b) ≡ (legal image (plain_in b) && true)
    held t =
        ap (λ (s : BufferedSession). legal image (plain_in b) && every (held_good s.table) s.files) (session-is false b t)
        ∙ ap (λ (x : Bool). legal image (plain_in b) && x) (plain-good (table_in b) b)

same-look : (l : Bool) (n g : ℕ) (c d : Scene) → c.entry ≡ d.entry → c.file ≡ d.file
    → judge (GranuleLook g) (facts_of l n 0 (GranuleLook g) c) ≡ judge (GranuleLook g) (facts_of l n 0 (GranuleLook g) d)
unfolding facts_of judge tests first_of or_else
same-look l n g c d e f = rw (e, f)

pub plain-look : (image b : List ℕ) (i g : ℕ) → buffered_look_answer image (session_in false b) i g ≡ plain_look_answer image (plain_in b) i g
unfolding buffered_look_answer plain_look_answer buffered_answer plain_answer
plain-look image b i g =
    ap (λ (l : Bool). judge (GranuleLook g) (facts_of l (open_files (plain_in b).files) 0 (GranuleLook g) (buffered_scene image (session_in false b) i []))) (plain-legal image b)
    ∙ same-look (legal image (plain_in b)) (open_files (plain_in b).files) g (buffered_scene image (session_in false b) i []) (plain_scene image (plain_in b) i []) (unfold buffered_scene plain_scene bare in refl) (unfold buffered_scene plain_scene in refl)

-- ---- what is looked at

module _ (image b : List ℕ) (i g : ℕ) where
  pub answered : (a : Answer) → a ≡ buffered_look_answer image (lent_session b) i g → a ≡ look_answer_in image b i g
  unfolding look_answer_in
  answered a h = h ∙ by (has_buffers b)
    where
      by : (u : Bool) → buffered_look_answer image (session_in u b) i g ≡ elim u [ true ↦ buffered_look_answer image (session_in true b) i g | false ↦ plain_look_answer image (plain_in b) i g ]
      by true = refl
      by false = plain-look image b i g

  shown-is : shown (buffered_look_answer image (lent_session b) i g) (entry_at (lent_session b).table i) g image ≡ look_in image b i g
  unfolding look_in
  shown-is = by (has_buffers b)
    where
      by : (u : Bool) → shown (buffered_look_answer image (session_in u b) i g) (entry_at (session_in u b).table i) g image ≡ elim u [ true ↦ buffered_look image (session_in true b) i g | false ↦ plain_look image (plain_in b) i g ]
      by true = unfold buffered_look in refl
      by false = unfold plain_look bare in ap (λ (a : Answer). shown a (entry_at (session_in false b).table i) g image) (plain-look image b i g)

  pub shown_by : shown (look_answer_in image b i g) (entry_at (lent_session b).table i) g image ≡ look_in image b i g
  shown_by = ap (λ (a : Answer). shown a (entry_at (lent_session b).table i) g image) (sym (answered (buffered_look_answer image (lent_session b) i g) refl)) ∙ shown-is

  -- what is shown, and where, by the answer
  module _ (a : Answer) (ea : a ≡ buffered_look_answer image (lent_session b) i g) (e : Entry) (ee : e ≡ entry_at (lent_session b).table i) where
    by_answer_lem : shown a e g image ≡ look_in image b i g
    by_answer_lem = ap (λ (x : Entry). shown a x g image) ee ∙ ap (λ (x : Answer). shown x (entry_at (lent_session b).table i) g image) ea ∙ shown-is

    by_place : (old : ℕ) → place_by a e g old ≡ look_place image b i g old
    unfolding look_place
    by_place old = ap (λ (x : Answer). place_by x e g old) (answered a ea) ∙ ap (λ (x : Entry). place_by (look_answer_in image b i g) x g old) ee

    module _ (done : a ≡ Done) (at : ℕ) (q : at ≡ sector * e.first + byte_of (place_of random e.length g)) where
      pub look-shown : (r : List ℕ) → r ≡ part image at e.length → r ≡ look_in image b i g
      unfolding shown
      look-shown r p = p ∙ ap (λ (k : ℕ). part image k e.length) q ∙ ap (λ (x : Answer). shown x e g image) (sym done) ∙ by_answer_lem

      pub look-placed : (old : ℕ) → at ≡ look_place image b i g old
      unfolding place_by
      look-placed old = q ∙ ap (λ (x : Answer). place_by x e g old) (sym done) ∙ by_place old

    module _ (refused : a ≢ Done) where
      pub look-empty : (r : List ℕ) → r ≡ part image 0 0 → r ≡ look_in image b i g
      unfolding part shown
      look-empty r p = p ∙ none a refused ∙ by_answer_lem
        where
          none : (x : Answer) → x ≢ Done → [] ≡ shown x e g image
          none Done h = absurd (h refl)
          none (Met y) h = refl
          none (Refused y) h = refl

      pub look-stays : (old : ℕ) → old ≡ look_place image b i g old
      unfolding place_by
      look-stays old = none a refused ∙ by_place old
        where
          none : (x : Answer) → x ≢ Done → old ≡ place_by x e g old
          none Done h = absurd (h refl)
          none (Met y) h = refl
          none (Refused y) h = refl
