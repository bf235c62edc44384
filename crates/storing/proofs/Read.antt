-- What is asked of bytes before they are read as a session, and what that gives.
use mathlib.Core.Path.{◌≡◌, refl, sym, ap, ◌∙◌}
use mathlib.Core.Logic.{◌≢◌}
use mathlib.Core.Bool.{Bool, true, false, ◌&&◌, and-true, and-false, and_assoc}
use mathlib.Core.List.{List, [], ◌∷◌, map}
use Prim.Native.Nat.{ℕ, zero, suc, ◌+◌, ◌*◌, ◌<◌, ◌≤◌}
use native.Mathlib.Omega.{arith}
use lib.ListN.{length, get_or, take}
use lib.Seq.{take_all}
use Rattle.std.proofs.Common.{add-one}
use Rattle.tables.proofs.Rows.{length-row, get_or-row}
use lib.Dec.{eqb}
use borrow.Author.Tests.{lt-ltb, eq-eqb, ne_eqb, eqb-true}
use Rattle.geometry.specs.Bytes.{is_byte}
use Rattle.geometry.specs.Lists.{all, every}
use Rattle.geometry.specs.Sizes.{most_open}
use Rattle.geometry.proofs.Tests.{and_left, and_right, every-from}
use Rattle.tables.specs.Rows.{row_in}
use Rattle.sessions.specs.Session.{fresh, bare, unheld}
use Rattle.sessions.specs.declared.BufferedFile.{BufferedFile}
use Rattle.sessions.specs.declared.BufferedSession.{BufferedSession}
use Rattle.sessions.specs.declared.OpenFile.{OpenFile}
use Rattle.storing.specs.Stored.{file_width, held_width, files_at, width, said_at, size_of, has_buffers, file_in, held_in, state_in, state_flags, saying_in, saying_flags, is_session, table_in, states_in, unlawful, session_in}

-- ---- sizes

pub size-plain : size_of false ≡ 517
unfolding size_of width
size-plain = refl

pub size-buffered : size_of true ≡ 1981
unfolding size_of width
size-buffered = refl

pub width-least : (u : Bool) → file_width ≤ width u
unfolding width
width-least true = omega arith
width-least false = omega arith

pub width-most : (u : Bool) → width u ≤ held_width
unfolding width
width-most true = omega arith
width-most false = omega arith

-- bytes of which each is known to be one
pub bytes : (b : List ℕ) → ((k : ℕ) → get_or b k 0 < 256) → every is_byte b ≡ true
bytes b h = every-from is_byte b 0 λ (k : ℕ) (q : k < length b). lt-ltb (get_or b k 0) 256 (h k)

-- ---- what is asked of bytes

-- of each state, whether its truth values are 0 or 1
abbrev pub flags_in : Bool → List ℕ → List Bool
flags_in u b = row_in (state_flags u) (width u) most_open b files_at

all-more : (bs : List Bool) (k : ℕ) → k < length bs → (all (take k bs) && get_or bs k true) ≡ all (take (suc k) bs)
unfolding all
all-more [] k h = absurd (omega arith)
all-more (x ∷ bs) zero h = sym (and-true x)
all-more (x ∷ bs) (suc k) h = and_assoc x (all (take k bs)) (get_or bs k true) ∙ ap (λ (y : Bool). x && y) (all-more bs k (omega arith))

module _ (u : Bool) (b : List ℕ) where
  flags-length : length (flags_in u b) ≡ most_open
  flags-length = length-row (state_flags u) (width u) most_open b files_at

  -- one more state
  pub flags-more : (k : ℕ) → k < most_open → (f : Bool) → f ≡ state_flags u b (files_at + width u * k) → (all (take k (flags_in u b)) && f) ≡ all (take (k + 1) (flags_in u b))
  flags-more k h f e =
      ap (λ (g : Bool). all (take k (flags_in u b)) && g) (e ∙ sym (get_or-row (state_flags u) (width u) most_open b files_at k true h))
      ∙ all-more (flags_in u b) k (omega (arith, flags-length))
      ∙ ap (λ (j : ℕ). all (take j (flags_in u b))) (sym (add-one k))

  -- those of all four, and each of what it says of itself
  pub asked : every is_byte b ≡ true → length b ≡ size_of u → (k : ℕ) → most_open ≤ k → is_session u b ≡ (all (take k (flags_in u b)) && saying_flags b (said_at u))
  unfolding is_session
  asked h l k m = rw (h, eq-eqb (length b) (size_of u) l, take_all k (flags_in u b) (omega (arith, flags-length))) refl

  pub other-size : length b ≢ size_of u → is_session u b ≡ false
  unfolding is_session
  other-size l = rw (ne_eqb (length b) (size_of u) l) (and-false (every is_byte b))

  pub session-bytes : is_session u b ≡ true → every is_byte b ≡ true
  unfolding is_session
  session-bytes h = and_left (every is_byte b) _ h

  pub session-size : is_session u b ≡ true → length b ≡ size_of u
  unfolding is_session
  session-size h = eqb-true (length b) (size_of u) (and_left (eqb (length b) (size_of u)) _ (and_right (every is_byte b) _ h))

  pub session-flags : is_session u b ≡ true → all (row_in (state_flags u) (width u) most_open b files_at) ≡ true
  unfolding is_session
  session-flags h = and_left (all (row_in (state_flags u) (width u) most_open b files_at)) _ (and_right (eqb (length b) (size_of u)) _ (and_right (every is_byte b) _ h))

  pub session-said : is_session u b ≡ true → saying_flags b (said_at u) ≡ true
  unfolding is_session
  session-said h = and_right (all (row_in (state_flags u) (width u) most_open b files_at)) _ (and_right (eqb (length b) (size_of u)) _ (and_right (every is_byte b) _ h))

  -- the session that bytes are
  pub session-is : is_session u b ≡ true → session_in u b ≡ record { says = saying_in b (said_at u); table = table_in b; files = states_in u b }
  unfolding session_in
  session-is h = rw (h, session_in)

  pub session-none : is_session u b ≡ false → session_in u b ≡ unlawful
  unfolding session_in
  session-none h = rw (h, session_in)

-- their number says whether they have buffers
pub told-by-size : (u : Bool) (b : List ℕ) → length b ≡ size_of u → has_buffers b ≡ u
unfolding has_buffers
told-by-size true b l = eq-eqb (length b) (size_of true) l
told-by-size false b l = ne_eqb (length b) (size_of true) λ (h : length b ≡ size_of true). omega (arith, sym l ∙ h, size-plain, size-buffered)

-- ---- states without their buffers

pub bare-state : (u : Bool) (b : List ℕ) (at : ℕ) → (state_in u b at).file ≡ file_in b at
unfolding state_in
bare-state true b at = unfold held_in in refl
bare-state false b at = refl

bare-row : (u : Bool) (w n : ℕ) (b : List ℕ) (at : ℕ) → map (λ f. f.file) (row_in (state_in u) w n b at) ≡ row_in file_in w n b at
unfolding row_in
bare-row u w zero b at = refl
bare-row u w (suc n) b at = rw (bare-state u b at) (ap (λ (fs : List OpenFile). file_in b at ∷ fs) (bare-row u w n b (at + w)))

pub bare-states : (u : Bool) (b : List ℕ) → map (λ f. f.file) (states_in u b) ≡ row_in file_in (width u) most_open b files_at
unfolding states_in
bare-states u b = bare-row u (width u) most_open b files_at

-- with no buffers, nothing is held
unheld-row : (w n : ℕ) (b : List ℕ) (at : ℕ) → map fresh (map (λ f. f.file) (row_in (state_in false) w n b at)) ≡ row_in (state_in false) w n b at
unfolding row_in state_in
unheld-row w zero b at = refl
unheld-row w (suc n) b at = ap (λ (fs : List BufferedFile). fresh (file_in b at) ∷ fs) (unheld-row w n b (at + w))

unheld-unlawful : unheld (bare unlawful) ≡ unlawful
unfolding unheld bare unlawful
unheld-unlawful = refl

pub plain-holds-nothing : (b : List ℕ) → unheld (bare (session_in false b)) ≡ session_in false b
unfolding session_in
plain-holds-nothing b = go (is_session false b)
  where
    go : (t : Bool) → (let s : BufferedSession = elim t [ true ↦ record { says = saying_in b (said_at false); table = table_in b; files = states_in false b } | false ↦ unlawful ] in unheld (bare s) ≡ s)
    go true = unfold unheld bare states_in in ap (λ (fs : List BufferedFile). record { says = saying_in b (said_at false); table = table_in b; files = fs }) (unheld-row (width false) most_open b files_at)
    go false = unheld-unlawful
