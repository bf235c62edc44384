-- What a run of the calls prints, and the image that it leaves: each call is lent what the one before it left. That this is the pass listing, and the same
-- image. Definitions only.
use Rattle.std.specs.Prelude.{◌≡◌, Bool, true, List, [], ◌++◌, ℕ, zero, suc, ◌≤◌, ◌<◌, min, length, take, get_or}
use Rattle.std.proofs.lemmas.List.Edits.{sets}
use Rattle.geometry.specs.Sizes.{most_records}
use Rattle.requests.specs.Numbers.{number_of}
use Rattle.steps.specs.Step.{After}
use Rattle.storing.specs.Stored.{size_of}
use Rattle.showing.specs.Lines.{printed, printed_first}
use Rattle.showing.specs.Showing.{Begun, begun, read_into, room_after}
use Rattle.demands.specs.Engine.{are_bytes}
use Rattle.passes.specs.Pass.{pass_listing}

-- the text that a call put into a room, as far as there was room
unfoldable pub text_in : List ℕ → List ℕ → List ℕ
text_in room xs = take (min (length xs) (length room)) (sets room 0 xs)

-- a listing goes on where the number is 0; at any other it ends, with what there is
unfoldable pub goes_on : ℕ → List ℕ → List ℕ → List ℕ
goes_on zero end rest = rest
goes_on (suc n) end rest = end

-- what at most k calls for the next line print
unfoldable pub lines_by : ℕ → List ℕ → List ℕ → ℕ → ℕ → List ℕ → List ℕ
lines_by zero image b i R out = []
lines_by (suc k) image b i R out =
    let w : After (List ℕ) = read_into image b i R out in
    let xs : List ℕ = printed (number_of w.answer) w.buffer in
    text_in (room_after image b i R out) xs ++ goes_on (number_of w.answer) [] (lines_by k w.image w.session i R (sets (room_after image b i R out) 0 xs))

-- and the image that they leave
unfoldable pub image_by : ℕ → List ℕ → List ℕ → ℕ → ℕ → List ℕ → List ℕ
image_by zero image b i R out = image
image_by (suc k) image b i R out =
    let w : After (List ℕ) = read_into image b i R out in
    let xs : List ℕ = printed (number_of w.answer) w.buffer in
    goes_on (number_of w.answer) w.image (image_by k w.image w.session i R (sets (room_after image b i R out) 0 xs))

-- what a whole run prints: the call that begins it, and at most k calls for the next line
unfoldable pub printed_by : ℕ → List ℕ → List ℕ → List ℕ → List ℕ → List ℕ
printed_by k image b typed out =
    let s : Begun = begun image b typed in
    let xs : List ℕ = printed_first s.number in
    text_in out xs ++ goes_on s.number [] (lines_by k s.image s.session (get_or s.told 0 0) (get_or s.told 1 0) (sets out 0 xs))

-- and the image that it leaves
unfoldable pub left_by : ℕ → List ℕ → List ℕ → List ℕ → List ℕ → List ℕ
left_by k image b typed out =
    let s : Begun = begun image b typed in
    goes_on s.number s.image (image_by k s.image s.session (get_or s.told 0 0) (get_or s.told 1 0) (sets out 0 (printed_first s.number)))

-- the longest record and the line's end
abbrev pub longest_line : ℕ
longest_line = 3601

-- on as many bytes as a session takes, with buffers or without, with room for the longest line, and with more calls than a file has records, a run prints the
-- listing, whatever the image and the name
pub record PassListing : Type 0 where
  pub prints : (u : Bool) (image b typed out : List ℕ) (k : ℕ) → length b ≡ size_of u → are_bytes image ≡ true → longest_line ≤ length out → most_records < k
      → printed_by k image b typed out ≡ pass_listing image typed
  -- and it leaves the image as it was, whatever the room and the number of calls
  pub stays : (u : Bool) (image b typed out : List ℕ) (k : ℕ) → length b ≡ size_of u → are_bytes image ≡ true → left_by k image b typed out ≡ image
