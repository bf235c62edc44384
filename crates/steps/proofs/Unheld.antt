-- A plain session is one that holds nothing, and an edit looks at nothing that is held: in both engines it comes to the same.
use mathlib.Core.Path.{◌≡◌}
use mathlib.Core.List.{List}
use Prim.Native.Nat.{ℕ}
use Rattle.sessions.specs.Session.{unheld}
use Rattle.sessions.proofs.Unheld.{bare-unheld, unheld-legal}
use Rattle.steps.specs.Edit.{Edited, edit_by, plain_edit, buffered_edit}
use Rattle.requests.specs.declared.Edit.{Edit}
use Rattle.sessions.specs.declared.BufferedSession.{BufferedSession}
use Rattle.sessions.specs.declared.Session.{Session}

abbrev pub held_none : Edited Session → Edited BufferedSession
held_none r = record { answer = r.answer; told = r.told; image = r.image; session = unheld r.session }

pub plain-as-held : (image : List ℕ) (s : Session) (i : ℕ) (x : Edit) (name : List ℕ) → buffered_edit image (unheld s) i x name ≡ held_none (plain_edit image s i x name)
unfolding edit_by unheld
plain-as-held image s i x name = rw (unheld-legal image s, bare-unheld s)
