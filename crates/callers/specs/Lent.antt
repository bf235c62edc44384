-- The engines as a caller calls them, with the session in lent bytes: each of the demands' engines over what the contracts of the calls cite. And that
-- the calls are these engines. Definitions only.
use Rattle.std.specs.Prelude.{◌≡◌, Bool, true, false, List, [], ℕ, Some, length}
use Rattle.geometry.specs.Bytes.{part}
use Rattle.requests.specs.Numbers.{number_of}
use Rattle.sessions.specs.Session.{bare, spot_of}
use Rattle.steps.specs.Step.{After}
use Rattle.storing.specs.Stored.{size_of, has_buffers, is_session, session_in, stored, lent_session, plain_in, plain_stored}
use Rattle.judging.specs.Lent.{lent_after}
use Rattle.engines.specs.Engines as Engines
use Rattle.editing.specs.Editing.{lent_edited, edited_in}
use Rattle.looking.specs.Looking.{look_in, look_place}
use Rattle.calling.specs.Mounted.{mount_number, mount_bytes}
use Rattle.asking.specs.Requested.{Left, left, requested}
use Rattle.demands.specs.Engine.{Engine, plain_engine, buffered_engine}
use Rattle.requests.specs.declared.Edit.{Edit}
use Rattle.requests.specs.declared.Edit.TheVariants.{Add, Delete}
use Rattle.requests.specs.declared.Request.{Request}

-- two engines: the one with buffers, and the one with none
abbrev pub engine_of : Bool → Engine
engine_of true = buffered_engine
engine_of false = plain_engine

-- the session that bytes are
abbrev pub read_by : (u : Bool) → List ℕ → (engine_of u).Session
read_by true b = session_in true b
read_by false b = plain_in b

-- and its bytes
abbrev pub stored_by : (u : Bool) → (engine_of u).Session → List ℕ
stored_by true s = stored true s
stored_by false s = plain_stored s

-- an engine whose session is the lent bytes: a request or an edit is done on the session that the bytes are, and leaves the bytes of the next one. A mounting
-- writes the session that it hands out, one that is refused too
abbrev pub lent_engine : Bool → Engine
lent_engine u = record {
  Session = List ℕ;
  seen = λ b. (engine_of u).seen (read_by u b);
  mount = λ image. record { answer = ((engine_of u).mount image).answer; session = stored_by u ((engine_of u).mount image).session };
  request = λ image b i q given buffer. lent_after (is_session u b) (stored_by u) b ((engine_of u).request image (read_by u b) i q given buffer);
  edit = λ image b i x name. lent_edited (is_session u b) (stored_by u) b ((engine_of u).edit image (read_by u b) i x name);
  position = λ b. (engine_of u).position (read_by u b);
  look = λ image b. (engine_of u).look image (read_by u b);
}

-- with no buffer
abbrev pub lent_plain : Engine
lent_plain = lent_engine false

-- with a blocking buffer for each open file, in the session's bytes
abbrev pub lent_buffered : Engine
lent_buffered = lent_engine true

-- ---- the calls

-- what C is told of what a request comes to
abbrev pub left_of : After (List ℕ) → Left
left_of r = left (number_of r.answer) r.image r.session r.buffer

-- a request in Rattle is that of the engine that the number of the bytes says, on all bytes; and so are the calls from C, with a number for the answer
pub record Called : Type 0 where
  pub in_rattle : (image b : List ℕ) (i : ℕ) (q : Request) (given buffer : List ℕ)
      → Engines.requested image b i q given buffer ≡ (lent_engine (has_buffers b)).request image b i q given buffer
  pub requests : (image b : List ℕ) (i : ℕ) (q : Request) (given buffer : List ℕ)
      → requested image b i (Some q) given buffer ≡ left_of ((lent_engine (has_buffers b)).request image b i q given buffer)
  -- and an edit
  pub edits : (image b : List ℕ) (i : ℕ) (x : Edit) (name : List ℕ) → edited_in image b i x name ≡ (lent_engine (has_buffers b)).edit image b i x name
  -- ADD looks at no entry's number that it is given, and DELETE at no name: C gives 0, and none
  pub adds : (image b : List ℕ) (i kind size sectors : ℕ) (name : List ℕ) → edited_in image b 0 (Add kind size sectors) name ≡ edited_in image b i (Add kind size sectors) name
  pub deletes : (image b : List ℕ) (i : ℕ) (name : List ℕ) → edited_in image b i Delete [] ≡ edited_in image b i Delete name
  pub positions : (b : List ℕ) (i : ℕ) → spot_of (bare (lent_session b)) i ≡ (lent_engine (has_buffers b)).position b i
  -- what is shown, and that C is told its place and size
  pub shows : (image b : List ℕ) (i g : ℕ) → look_in image b i g ≡ (lent_engine (has_buffers b)).look image b i g
  pub places : (image b : List ℕ) (i g old : ℕ) → part image (look_place image b i g old) (length (look_in image b i g)) ≡ look_in image b i g
  -- a mounting on as many bytes as a session takes, whatever it answers
  pub number : (u : Bool) (image b : List ℕ) → length b ≡ size_of u → mount_number image b ≡ number_of ((lent_engine u).mount image).answer
  pub session : (u : Bool) (image b : List ℕ) → length b ≡ size_of u → mount_bytes image b ≡ ((lent_engine u).mount image).session
