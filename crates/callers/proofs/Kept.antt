-- What lent bytes keep of an engine's sessions: what a mounting hands out and what a request leaves fits them, so it is read back.
use mathlib.Core.Path.{◌≡◌, refl, sym, ap, ◌∙◌}
use mathlib.Core.Bool.{Bool, true, false}
use mathlib.Core.List.{List}
use Prim.Native.Nat.{ℕ}
use Rattle.directory.specs.Entries.{table_of}
use Rattle.mounting.specs.Mounting.{mounts, start_with, plain_mount, buffered_mount}
use Rattle.sessions.specs.Session.{unheld, buffered_legal}
use Rattle.storing.specs.Fits.{session_fits, buffered_fits}
use Rattle.storing.specs.Stored.{is_session, session_in, plain_in}
use Rattle.storing.proofs.Illegal.{none-legal}
use Rattle.storing.proofs.Laws.{stored-kept, buffered-told, buffered-back, plain-told, plain_back, plain-kept}
use Rattle.storing.proofs.Read.{plain-holds-nothing}
use Rattle.serving.proofs.Mounted.{mounted-session}
use Rattle.demands.specs.Engine.{are_bytes, sound}
use Rattle.demands.specs.Demand1.{Orderly, Passing}
use Rattle.demands.specs.Demand2.{Faithful, CountsStored}
use Rattle.demands.proofs.Agree.{buffered-faithful, buffered-counts}
use Rattle.demands.proofs.Counts.{plain-counts}
use Rattle.demands.proofs.Plain.{plain-faithful}
use Rattle.demands.proofs.Orderly.{plain-orderly, buffered-orderly}
use Rattle.demands.proofs.Passing.{plain-passing, buffered-passing}
use Rattle.promises.specs.Granules.{GranuleWrites}
use Rattle.promises.specs.Quiet.{Quiet}
use Rattle.promises.proofs.Granules.{plain-granules, buffered-granules}
use Rattle.promises.proofs.Quiet.{plain_quiet, buffered-quiet}
use Rattle.callers.specs.Lent.{engine_of, read_by, stored_by, lent_engine}
use Rattle.editing.proofs.Fits.{plain-edited-fits, edited-fits}
use Rattle.callers.proofs.Held.{bare-fits, fits-sound, step_fits, step-met-fits}
use Rattle.callers.proofs.Next.{plain_fits}
use Rattle.callers.proofs.Read.{read_fits}
use Rattle.callers.proofs.Start.{mount-fits, mount-fits-buffered}
use Rattle.requests.specs.declared.Answer.TheVariants.{Met}
use Rattle.requests.specs.declared.Edge.{Edge}
use Rattle.requests.specs.declared.Edit.{Edit}
use Rattle.requests.specs.declared.Request.{Request}
use Rattle.sessions.specs.declared.BufferedSession.{BufferedSession}
use Rattle.sessions.specs.declared.Session.{Session}

-- ---- what is proved of the engines on sessions as values

pub orderly : (u : Bool) → Orderly (engine_of u)
orderly true = buffered-orderly
orderly false = plain-orderly

pub passing : (u : Bool) → Passing (engine_of u)
passing true = buffered-passing
passing false = plain-passing

pub faithful : (u : Bool) → Faithful (engine_of u)
faithful true = buffered-faithful
faithful false = plain-faithful

pub counts : (u : Bool) → CountsStored (engine_of u)
counts true = buffered-counts
counts false = plain-counts

pub granules : (u : Bool) → GranuleWrites (engine_of u)
granules true = buffered-granules
granules false = plain-granules

pub quiet : (u : Bool) → Quiet (engine_of u)
quiet true = buffered-quiet
quiet false = plain_quiet

-- ---- what is read

seen-is : (u : Bool) (b : List ℕ) → (engine_of u).seen (read_by u b) ≡ session_in u b
seen-is true b = refl
seen-is false b = plain-holds-nothing b

-- every session in lent bytes is as its type says
pub reads : (u : Bool) (image b : List ℕ) → are_bytes image ≡ true → sound image ((engine_of u).seen (read_by u b)) ≡ true
reads u image b bytes = ap (sound image) (seen-is u b) ∙ fits-sound image (session_in u b) bytes (read_fits u b)

-- bytes that are none are one that is not legal
pub refuses : (u : Bool) (image b : List ℕ) → is_session u b ≡ false → buffered_legal image ((engine_of u).seen (read_by u b)) ≡ false
refuses u image b h = ap (buffered_legal image) (seen-is u b) ∙ none-legal u image b h

pub same : (u : Bool) (b : List ℕ) → is_session u b ≡ true → stored_by u (read_by u b) ≡ b
same true b h = stored-kept true b h
same false b h = plain-kept b h

-- ---- what is stored

-- the bytes of a session are one, and it is read back from them
abbrev pub Back : (u : Bool) → (engine_of u).Session → Type 0
Back u s = (is_session u (stored_by u s) ≡ true) × (read_by u (stored_by u s) ≡ s)

with-buffers : (s : BufferedSession) → buffered_fits s ≡ true → Back true s
with-buffers s h = (buffered-told s h, buffered-back s h)

with_none : (s : Session) → session_fits s ≡ true → Back false s
with_none s h = (plain-told s h, plain_back s h)

pub starts : (u : Bool) (image : List ℕ) → Back u ((engine_of u).mount image).session
starts true image = with-buffers (buffered_mount image).session (mount-fits-buffered image)
starts false image = with_none (plain_mount image).session (mount-fits image)

-- the table of the session that is stored is the image's directory
pub stored-table : (u : Bool) (image : List ℕ) → mounts image ≡ true → (session_in u ((lent_engine u).mount image).session).table ≡ table_of image
unfolding unheld start_with
stored-table u image ok =
    ap (λ (s : BufferedSession). s.table) (sym (seen-is u _) ∙ ap (engine_of u).seen (starts u image).1 ∙ mount-seen u)
    ∙ ap (λ (s : Session). s.table) (mounted-session image ok)
  where
    mount-seen : (v : Bool) → (engine_of v).seen ((engine_of v).mount image).session ≡ unheld (plain_mount image).session
    mount-seen true = unfold buffered_mount in refl
    mount-seen false = refl

plain-goes : (image b : List ℕ) (i : ℕ) (q : Request) (given buffer : List ℕ) → Back false ((engine_of false).request image (plain_in b) i q given buffer).session
plain-goes image b i q given buffer = with_none _ (plain_fits image (plain_in b) (bare-fits (session_in false b) (read_fits false b)) i q given buffer)

pub goes : (u : Bool) (image b : List ℕ) (i : ℕ) (q : Request) (given buffer : List ℕ) → are_bytes image ≡ true → are_bytes given ≡ true
    → Back u ((engine_of u).request image (read_by u b) i q given buffer).session
goes true image b i q given buffer x y = with-buffers _ (step_fits image (session_in true b) (read_fits true b) i q given buffer x y)
goes false image b i q given buffer x y = plain-goes image b i q given buffer

-- and what an edit leaves
pub edit-goes : (u : Bool) (image b : List ℕ) (i : ℕ) (x : Edit) (name : List ℕ) → Back u ((engine_of u).edit image (read_by u b) i x name).session
edit-goes true image b i x name = with-buffers _ (edited-fits image i x name (session_in true b) (read_fits true b))
edit-goes false image b i x name = with_none _ (plain-edited-fits image i x name (plain_in b) (bare-fits (session_in false b) (read_fits false b)))

pub meets : (u : Bool) (image b : List ℕ) (i : ℕ) (q : Request) (given buffer : List ℕ) (x : Edge) → ((engine_of u).request image (read_by u b) i q given buffer).answer ≡ Met x
    → Back u ((engine_of u).request image (read_by u b) i q given buffer).session
meets true image b i q given buffer x e = with-buffers _ (step-met-fits image (session_in true b) (read_fits true b) i q given buffer x e)
meets false image b i q given buffer x e = plain-goes image b i q given buffer
