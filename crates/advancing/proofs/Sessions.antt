-- What the bytes of a session give, with buffers or with none: 18 entries, four states, whole buffers, since each is read at its own width.
use mathlib.Core.Path.{◌≡◌, refl, sym, ap, subst, ◌∙◌}
use mathlib.Core.Bool.{Bool, true, false}
use mathlib.Core.List.{List}
use Prim.Native.Nat.{ℕ, ◌+◌, ◌*◌, ◌≤◌, ◌<◌}
use native.Mathlib.Omega.{arith}
use lib.Dec.{eqb}
use lib.ListN.{length, get_or, length-replicate}
use borrow.Author.Tests.{eq-eqb, eqb-true}
use Rattle.geometry.specs.Lists.{every}
use Rattle.geometry.specs.Sizes.{sector, entries, most_open}
use Rattle.geometry.proofs.Bytes.{length_part}
use Rattle.geometry.proofs.Tests.{either, chosen, not_chosen, every_any, every-from, every-replicate}
use Rattle.sessions.specs.Session.{idle, fresh}
use Rattle.tables.specs.Tables.{two_words_wide}
use Rattle.tables.proofs.Rows.{get_or-row}
use Rattle.tables.proofs.Tables.{length-entries}
use Rattle.storing.specs.Stored.{files_at, width, said_at, said_width, size_of, file_in, held_in, state_in, saying_in, is_session, table_in, states_in, unlawful, session_in}
use Rattle.storing.proofs.Read.{session-size, session-is, session-none}
use Rattle.finding.specs.Lent.{in_use, state_at}
use Rattle.finding.proofs.Lent.{length-states}
use Rattle.sessions.specs.declared.BufferedFile.{BufferedFile}
use Rattle.sessions.specs.declared.BufferedSession.{BufferedSession}
use Rattle.sessions.specs.declared.OpenFile.{OpenFile}

abbrev is_whole : BufferedFile → Bool
is_whole b = eqb (length b.buffer) sector

pub fresh-whole : (f : OpenFile) → length (fresh f).buffer ≡ sector
fresh-whole f = length-replicate {A = ℕ} sector 0

state-whole : (u : Bool) (b : List ℕ) (at : ℕ) → at + width u ≤ length b → length (state_in u b at).buffer ≡ sector
unfolding state_in width
state-whole true b at h = unfold held_in in length_part b (at + 36) sector (omega arith)
state-whole false b at h = fresh-whole (file_in b at)

inside : (u : Bool) (k : ℕ) → k < most_open → files_at + width u * k + width u ≤ files_at + width u * most_open
unfolding width
inside true k h = omega arith
inside false k h = omega arith

module _ (u : Bool) (b : List ℕ) where
  abbrev s : BufferedSession
  s = session_in u b

  -- any bytes
  module _ (P : BufferedSession → Type 0) (is : is_session u b ≡ true → P (record { says = saying_in b (said_at u); table = table_in b; files = states_in u b })) (none : P unlawful) where
    either_way : P s
    either_way = either (is_session u b) (λ t. subst P (sym (session-is u b t)) (is t)) (λ t. subst P (sym (session-none u b t)) none)

  pub table-long : length s.table ≡ entries
  table-long = either_way (λ s. length s.table ≡ entries) (λ t. length-entries two_words_wide entries b) (unfold unlawful in refl)

  pub four : length s.files ≡ most_open
  four = either_way (λ s. length s.files ≡ most_open) (λ t. length-states u b) (unfold unlawful in refl)

  all_whole : every is_whole s.files ≡ true
  all_whole = either_way (λ s. every is_whole s.files ≡ true)
      (λ t. every-from is_whole (states_in u b) (fresh idle) λ (k : ℕ) (h : k < length (states_in u b)).
      let n : length (states_in u b) ≡ most_open = length-states u b in
      let l : length b ≡ said_at u + said_width = (unfold size_of in session-size u b t) in
      eq-eqb _ sector (ap (λ (f : BufferedFile). length f.buffer) (at k (omega arith)) ∙ state-whole u b (files_at + width u * k) (omega (arith, inside u k (omega arith)))))
      (unfold unlawful in every-replicate is_whole most_open (fresh idle) refl)
    where
      at : (k : ℕ) → k < most_open → get_or (states_in u b) k (fresh idle) ≡ state_in u b (files_at + width u * k)
      at k h = unfold states_in in get_or-row (state_in u) (width u) most_open b files_at k (fresh idle) h

  pub own-whole : (k : ℕ) → length (state_at s.files k).buffer ≡ sector
  unfolding state_at in_use
  own-whole k = either (get_or s.files k (fresh idle)).file.used
      (λ t. ap (λ (f : BufferedFile). length f.buffer) (chosen _ (get_or s.files k (fresh idle)) (fresh idle) t) ∙ eqb-true _ sector (every_any is_whole s.files k (fresh idle) all_whole refl))
      (λ t. ap (λ (f : BufferedFile). length f.buffer) (not_chosen _ (get_or s.files k (fresh idle)) (fresh idle) t) ∙ fresh-whole idle)
