-- "session not legal for this image": the first test of every request asks for legality, so an illegal session gets 12 and nothing changes.
-- Below, a legal session and one broken in each of the ways that "A session is legal exactly if" names, computed.
use mathlib.Core.Path.{◌≡◌, refl, ◌∙◌}
use mathlib.Core.Bool.{Bool, true, false}
use mathlib.Core.List.{List, [], ◌∷◌, ◌++◌}
use Prim.Native.Nat.{ℕ}
use lib.ListN.{replicate, set}
use Rattle.geometry.specs.Bytes.{part, padded, word_at, word}
use Rattle.geometry.specs.Lists.{all, every, pairwise, how_many, same}
use Rattle.geometry.specs.Places.{origin, sectors_for, per_sector, shares, capacity}
use Rattle.geometry.specs.Sizes.{sectors_of, lawful_length}
use Rattle.names.specs.Names.{capital, digit, rest_of_name, is_name}
use Rattle.directory.specs.Entries.{entry_from, entry_bytes, entries_from, table_of, free_entry, entry_at, is_marked}
use Rattle.directory.specs.Rules.{kind_known, free_is_zero, name_good, names_differ, extent_inside, extents_apart, flags_known, longest, length_good, count_good, random_bare, table_rules, table_good}
use Rattle.requests.proofs.First.{not-legal}
use Rattle.sessions.specs.Session.{idle, fresh, bare, is_of, open_files, of_used_entry, of_other, position_good, beyond_good, place_good, places_good, held_good, saying_good, session_rules, legal, buffered_legal}
use Rattle.steps.specs.Next.{facts_of}
use Rattle.steps.specs.Step.{After, buffered_answer}
use Rattle.demands.specs.Engine.{Engine}
use Rattle.demands.specs.Demand1.{Orderly, Proper}
use Rattle.geometry.specs.declared.Place.{Place}
use Rattle.directory.specs.declared.Entry.{Entry}
use Rattle.requests.specs.declared.Answer.TheVariants.{Refused}
use Rattle.requests.specs.declared.Refusal.TheVariants.{NotLegal}
use Rattle.requests.specs.declared.Request.{Request}
use Rattle.sessions.specs.declared.BufferedFile.{BufferedFile}
use Rattle.sessions.specs.declared.BufferedSession.{BufferedSession}
use Rattle.sessions.specs.declared.OpenFile.{OpenFile}

-- ---- 12, and nothing changed

module _ (E : Engine) (orderly : Orderly E) (image : List ℕ) (s : E.Session) (i : ℕ) (q : Request) (given buffer : List ℕ) (e : buffered_legal image (E.seen s) ≡ false) where
  abbrev r : After E.Session
  r = E.request image s i q given buffer

  p : Proper E image s i q given buffer r
  p = orderly.every-request image s i q given buffer

  pub answers-12 : r.answer ≡ Refused NotLegal
  unfolding buffered_answer facts_of
  answers-12 = p.ordered ∙ not-legal q _ e

  pub nothing-changed : (r.image ≡ image) × (r.session ≡ s) × (r.buffer ≡ buffer)
  nothing-changed = p.refused NotLegal answers-12

-- ---- examples

-- legality, with what it computes by
is_legal : List ℕ → BufferedSession → Bool
unfolding part padded word_at word all every pairwise how_many same sectors_for per_sector shares capacity sectors_of lawful_length entry_from entry_bytes entries_from table_of is_marked kind_known free_is_zero capital digit rest_of_name is_name name_good names_differ extent_inside extents_apart flags_known longest length_good count_good random_bare table_rules table_good bare is_of open_files of_used_entry of_other position_good beyond_good place_good places_good held_good saying_good session_rules legal buffered_legal
is_legal image s = buffered_legal image s

-- four sectors: entry 0 a blocked file of R 180, one record, marked; entry 1 a compressed file with no record; entry 2 a random file; one sector each
four : List ℕ
four =
    (193 ∷ 64 ∷ 64 ∷ 64 ∷ 64 ∷ 64 ∷ 64 ∷ 64 ∷ 0 ∷ 2 ∷ 0 ∷ 180 ∷ 0 ∷ 1 ∷ 0 ∷ 1 ∷ 0 ∷ 1 ∷ 0 ∷ 1
    ∷ 194 ∷ 64 ∷ 64 ∷ 64 ∷ 64 ∷ 64 ∷ 64 ∷ 64 ∷ 0 ∷ 3 ∷ 0 ∷ 80 ∷ 0 ∷ 2 ∷ 0 ∷ 1 ∷ 0 ∷ 0 ∷ 0 ∷ 0
    ∷ 195 ∷ 64 ∷ 64 ∷ 64 ∷ 64 ∷ 64 ∷ 64 ∷ 64 ∷ 0 ∷ 4 ∷ 0 ∷ 80 ∷ 0 ∷ 3 ∷ 0 ∷ 1 ∷ [])
    ++ replicate 1384 0

abbrev at : ℕ → ℕ → Bool → Place → Place → OpenFile
at i p b h e = record { used = true; entry = i; position = p; beyond = b; here = h; end = e }

abbrev place : ℕ → ℕ → Place
place s b = record { sector = s; byte = b }

abbrev holding_it : ℕ → OpenFile → BufferedFile
holding_it k f = record { file = f; holds = true; held = k; changed = false; buffer = replicate 360 0 }

abbrev having : List Entry → BufferedFile → BufferedFile → BufferedSession
having t a b = record { says = record { refused = false }; table = t; files = a ∷ b ∷ fresh idle ∷ fresh idle ∷ [] }

-- nothing open, and it says that it is from a refused mounting
abbrev saying : List Entry → BufferedSession
saying t = record { says = record { refused = true }; table = t; files = replicate 4 (fresh idle) }

-- entry 0 beyond its mark
abbrev first : BufferedFile
first = fresh (at 0 1 true origin origin)

examples : is_legal four (having (table_of four) first (holding_it 0 (at 1 0 false (place 0 360) origin)))
    ∷ is_legal four (having (table_of four) first (record { file = idle; holds = true; held = 9; changed = true; buffer = [] }))  -- a state not in use is not looked at
    ∷ is_legal four (having (table_of four) first (holding_it 0 (at 2 0 false origin origin)))  -- a random file has no buffer, but the sector lies in its extent
    ∷ is_legal four (saying (replicate 18 free_entry))  -- from a refused mounting: no used entry, whatever the image's directory has
    ∷ is_legal four (saying (table_of four))  -- it says so with a used entry
    ∷ is_legal (replicate 1439 0) (having (table_of four) first (fresh idle))  -- the image's length
    ∷ is_legal four (having (set (table_of four) 3 (entry_at (table_of four) 0)) first (fresh idle))  -- a table with one name twice
    ∷ is_legal four (having (table_of four) first (fresh (at 3 0 false origin origin)))  -- a free entry open
    ∷ is_legal four (having (table_of four) first (fresh (at 18 0 false origin origin)))  -- no such entry open
    ∷ is_legal four (having (table_of four) first (fresh (at 0 0 false origin origin)))  -- one entry twice
    ∷ is_legal four (having (table_of four) (fresh (at 0 2 false origin origin)) (fresh idle))  -- p over the count
    ∷ is_legal four (having (table_of four) (fresh (at 0 0 true origin origin)) (fresh idle))  -- beyond before the end
    ∷ is_legal four (having (table_of four) first (fresh (at 1 0 true origin origin)))  -- beyond, not marked
    ∷ is_legal four (having (table_of four) first (fresh (at 1 0 false (place 1 0) origin)))  -- current place past the extent
    ∷ is_legal four (having (table_of four) first (fresh (at 1 0 false origin (place 0 361))))  -- end place at byte 361
    ∷ is_legal four (having (table_of four) first (holding_it 1 (at 1 0 false origin origin)))  -- a held sector past the extent
    ∷ is_legal four (having (table_of four) first (holding_it 1 (at 2 0 false origin origin)))  -- also of a random file
    ∷ []
    ≡ true ∷ true ∷ true ∷ true ∷ replicate 13 false
unfolding is_legal four
examples = refl
