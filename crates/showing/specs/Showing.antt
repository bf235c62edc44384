-- Document 02, item 4: "it opens a file by name, reads kinds 1 to 3 from the start". What the two calls ask of the file layer, and what they leave; the listing is
-- a run of them. Definitions only.
use Rattle.std.specs.Prelude.{◌≡◌, true, false, List, [], ◌∷◌, ◌++◌, ℕ, zero, suc, Result, Ok, Err, eqb, ltb, length, take, drop, get_or}
use Rattle.geometry.specs.Sizes.{random}
use Rattle.requests.specs.Numbers.{number_of}
use Rattle.requests.specs.declared.Answer.{Answer}
use Rattle.requests.specs.declared.Answer.TheVariants.{Refused}
use Rattle.requests.specs.declared.Refusal.{Refusal}
use Rattle.requests.specs.declared.Request.TheVariants.{Open, Read}
use Rattle.steps.specs.Step.{After}
use Rattle.engines.specs.Engines.{requested}
use Rattle.texts.specs.Texts.{Wrote}
use Rattle.listing.specs.Listing.{is_short}
use Rattle.typing.specs.Typing.{name_of}
use Rattle.telling.specs.Told.{found, field_in}
use Rattle.calling.specs.Mounted.{mount_number, mount_bytes}
use Rattle.showing.specs.Lines.{printed}
use Rattle.showing.specs.declared.Opened.{Opened}

-- ---- a file is opened by its name

-- the number; the entry and R, told where that is 0; and what is left in the image and the session's bytes
pub record Begun : Type 0 where
  pub number : ℕ
  pub told : List ℕ
  pub image : List ℕ
  pub session : List ℕ

-- a number that stops the listing tells nothing
abbrev pub stopped : ℕ → List ℕ → List ℕ → Begun
stopped n image b = record { number = n; told = []; image = image; session = b }

-- numbers that are told with the number 0 alone
unfoldable pub tells : ℕ → List ℕ → List ℕ
tells zero numbers = numbers
tells (suc n) numbers = []

-- entry i with its R, by what the opening comes to
abbrev pub opened_as : ℕ → ℕ → After (List ℕ) → Begun
opened_as i R w = record { number = number_of w.answer; told = tells (number_of w.answer) (i ∷ R ∷ []); image = w.image; session = w.session }

-- "a random file only `ANSWER 7`"
unfoldable pub opening : List ℕ → List ℕ → ℕ → Begun
opening image b i = elim (eqb (field_in b i 1) random) [
  | true ↦ stopped 7 image b
  | false ↦ opened_as i (field_in b i 2) (requested image b i Open [] [])
]

-- "an unknown name only `ANSWER 8`"
unfoldable pub sought : List ℕ → List ℕ → ℕ × List ℕ → Begun
sought image b (zero, told) = opening image b (get_or told 0 0)
sought image b (suc n, told) = stopped (suc n) image b

-- an image that does not mount
unfoldable pub begun_on : List ℕ → List ℕ → List ℕ → ℕ → Begun
begun_on image b typed zero = sought image b (found b (name_of typed))
begun_on image b typed (suc n) = stopped (suc n) image b

-- "an image that lists as bad prints only `ANSWER 11`": one that is too long is not even mounted
unfoldable pub begun : List ℕ → List ℕ → List ℕ → Begun
begun image b typed = elim (is_short image) [ true ↦ begun_on image (mount_bytes image b) typed (mount_number image b) | false ↦ stopped 11 image b ]

-- what a call leaves by that: a number; image and session; the entry and R, where they are told
abbrev pub Leaves : Begun → ℕ → List ℕ → List ℕ → ℕ → ℕ → ℕ → ℕ → Type 0
Leaves s n image b old_entry entry old_length size =
    (n ≡ s.number) × (image ≡ s.image) × (b ≡ s.session) × (entry ≡ get_or s.told 0 old_entry) × (size ≡ get_or s.told 1 old_length)

-- a search as it goes on: an entry found is opened, and a refusal stops the listing
abbrev pub led_to : Result ℕ Refusal → List ℕ → List ℕ → Begun
led_to (Ok i) image b = opening image b i
led_to (Err x) image b = stopped (number_of (Refused x)) image b

-- a beginning as it is handed out: a file opened, or the answer that stops it
abbrev pub begun_as : Result Opened Answer → List ℕ → List ℕ → Begun
begun_as (Ok file) image b = record { number = 0; told = file.entry ∷ file.length ∷ []; image = image; session = b }
begun_as (Err a) image b = stopped (number_of a) image b

-- ---- its next record

-- the room for a record: all of it where a byte is left behind it for the line's end, and else none
unfoldable pub room_for : ℕ → List ℕ → ℕ
room_for R out = elim (ltb R (length out)) [ true ↦ R | false ↦ 0 ]

-- the read, into the front of the bytes that are lent for the line
unfoldable pub read_into : List ℕ → List ℕ → ℕ → ℕ → List ℕ → After (List ℕ)
read_into image b i R out = requested image b i Read [] (take (room_for R out) out)

-- those bytes behind it
unfoldable pub room_after : List ℕ → List ℕ → ℕ → ℕ → List ℕ → List ℕ
room_after image b i R out = (read_into image b i R out).buffer ++ drop (room_for R out) out

-- what a call leaves by that: a number; image and session; and of what is printed so many bytes in the room
abbrev pub Prints : After (List ℕ) → List ℕ → ℕ → ℕ → List ℕ → List ℕ → List ℕ → Type 0
Prints w room n size image b out = (n ≡ number_of w.answer) × (image ≡ w.image) × (b ≡ w.session) × Wrote room 0 (printed n w.buffer) out size
