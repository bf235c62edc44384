-- Document 01's impostors, each refuted by one run on one small image, which is computed: most by ten requests against demand 2, where what the tape says
-- is computed once and each says something else of one of them; one by reading back; and one that shows a caller nothing false by what it stores. And two
-- of document 02's edits: one found by what a new file has, one by a fresh mounting.
use mathlib.Core.Path.{◌≡◌, refl, sym, ap, ◌∙◌}
use mathlib.Core.Bool.{Bool, true, false}
use mathlib.Core.List.{List, [], ◌∷◌, ◌++◌, map}
use Prim.Native.Nat.{ℕ}
use native.Mathlib.Omega.{arith}
use lib.ListN.{length, take, replicate, get_or, set}
use Rattle.geometry.specs.Bytes.{part, lay, word_at, word, padded}
use Rattle.geometry.specs.Lists.{all, every, pairwise, first_with, how_many}
use Rattle.geometry.specs.Places.{origin, per_sector, shares, capacity, place_of}
use Rattle.geometry.specs.Sizes.{sectors_of, lawful_length}
use Rattle.names.specs.Names.{capital, digit, rest_of_name, is_name}
use Rattle.directory.specs.Entries.{entry_from, entry_bytes, entries_from, table_of, entry_at, is_marked, is_protected}
use Rattle.directory.specs.Rules.{kind_known, free_is_zero, name_good, names_differ, extent_inside, extents_apart, flags_known, longest, length_good, count_good, random_bare, table_rules, table_good}
use Rattle.directory.specs.Stamp.{stamp_bytes}
use Rattle.gaps.specs.Gaps.{stands_free, lowest_gap}
use Rattle.shapes.specs.Made.{is_named, shape_good, file_made}
use Rattle.requests.specs.Judge.{is_full, tests, edit_tests, whether, or_else, first_of, judge, judge_edit}
use Rattle.sessions.specs.Session.{unheld, is_of, file_of, slot_of, open_files, spot_of, extent, of_used_entry, of_other, position_good, beyond_good, places_good, saying_good, session_rules, legal}
use Rattle.mounting.specs.Mounting.{count_decodes, mounts, start_with, plain_mount}
use Rattle.steps.specs.Effects.{read_effects, blocked_effect, write_effects, effects, plain_do, plain_all}
use Rattle.steps.specs.Look.{plain_look}
use Rattle.steps.specs.Next.{fixed_at, record_here, is_lost, bytes_got, decoding, bad_in, facts_of, file_done, counted, entry_done, into_buffer}
use Rattle.steps.specs.Edit.{told_of, Edited, plain_edit}
use Rattle.steps.specs.Step.{After, plain_scene, plain_answer, plain_after, plain_step}
use Rattle.tapes.specs.Tape.{Tape, fixed_record, fixed_records, records_in, tape_of, tape_facts, pad_byte, new_record, tape_done, tape_next, tape_record}
use Rattle.tapes.specs.Model.{Model, tape, model_at, nothing_open, Report, shape_of, model_of, models_of, is_open_model, model_facts, model_next, model_record, model_into, open_models, model_answer, model_step, if_done, model_report}
use Rattle.tapes.specs.Edits.{is_nothing, of_shape, model_named, model_has, model_taken, model_free, model_gap, model_edit_facts, edit_answer, model_number, model_made, models_edited, edit_step, edit_report}
use Rattle.tapes.specs.Runs.{Asking, of_file, of_directory, step_in, report_in, model_reports, model_run}
use Rattle.demands.specs.Engine.{Engine, answered, step_of, report_of, edited, edit_of, edit_report_of, next, report_for, reports, run, heard, mounted, models_then, gives_bytes, in_bytes}
use Rattle.demands.specs.Demand2.{Faithful, ReadsBack, count_of, CountsStored}
use Rattle.demands.specs.Demand3.{Agree}
use Rattle.demands.specs.Demand1.{adding, deleting}
use Rattle.requests.specs.declared.Answer.TheVariants.{Done, Refused}
use Rattle.requests.specs.declared.Edit.{Edit}
use Rattle.requests.specs.declared.Order.TheVariants.{RewindOnline, RewindOffline}
use Rattle.requests.specs.declared.Refusal.TheVariants.{NotThere}
use Rattle.requests.specs.declared.Request.{Request}
use Rattle.requests.specs.declared.Request.TheVariants.{Open, Read, Write, Position}
use Rattle.sessions.specs.declared.Session.{Session}

-- ---- what the runs are computed by: to unfold one of these five is to unfold all that its line names

directory : Unit {0}
unfolding part lay word_at word padded all every pairwise first_with how_many per_sector shares capacity place_of sectors_of lawful_length entry_from entry_bytes entries_from table_of is_marked is_protected kind_known free_is_zero capital digit rest_of_name is_name name_good names_differ extent_inside extents_apart flags_known longest length_good count_good random_bare table_rules table_good count_decodes mounts
directory = tt

judging : Unit {0}
unfolding is_full tests whether or_else first_of judge
judging = tt

tapes : Unit {0}
unfolding extent fixed_record fixed_records records_in tape_of tape_facts pad_byte new_record tape_done tape_next tape_record shape_of model_of models_of is_open_model model_facts model_next model_record model_into open_models model_answer model_step if_done model_report report_in step_in model_reports model_run heard models_then
tapes = tt

plainly : Unit {0}
unfolding extent is_of file_of slot_of open_files of_used_entry of_other position_good beyond_good places_good saying_good session_rules legal start_with plain_mount read_effects blocked_effect write_effects effects plain_do plain_all stamp_bytes fixed_at record_here is_lost bytes_got decoding bad_in facts_of file_done counted entry_done into_buffer plain_scene plain_answer plain_after plain_step
plainly = tt

editing : Unit {0}
unfolding is_named shape_good file_made stands_free lowest_gap edit_tests judge_edit is_nothing of_shape model_named model_has model_taken model_free model_gap model_edit_facts edit_answer model_number model_made models_edited edit_step edit_report
editing = tt

-- ---- the image and the run

-- two sectors, one blocked file A of R 180 with one record, 180 times 5; 180 times 9 stands behind it
small : List ℕ
small =
    (193 ∷ 64 ∷ 64 ∷ 64 ∷ 64 ∷ 64 ∷ 64 ∷ 64 ∷ 0 ∷ 2 ∷ 0 ∷ 180 ∷ 0 ∷ 1 ∷ 0 ∷ 1 ∷ 0 ∷ 1 ∷ [])
    ++ (replicate 342 0 ++ (replicate 180 5 ++ replicate 180 9))

small-mounts : mounts small ≡ true
unfolding directory small
small-mounts = refl

abbrev ask : Request → List ℕ → ℕ → Asking
ask q given n = of_file (record { entry = 0; request = q; given = given; buffer = replicate n 0 })

-- open, read, write over the record, read that back, close, open, and read until the end
ten : List Asking
ten =
    ask Open [] 0 ∷ ask Read [] 180 ∷ ask (Position RewindOnline) [] 0 ∷ ask Write (1 ∷ 2 ∷ []) 0 ∷ ask (Position RewindOnline) [] 0
    ∷ ask Read [] 180 ∷ ask (Position RewindOffline) [] 0 ∷ ask Open [] 0 ∷ ask Read [] 180 ∷ ask Read [] 180 ∷ []

in_bytes_lem : in_bytes small ten ≡ true
unfolding in_bytes gives_bytes directory small ten
in_bytes_lem = refl

-- the file opened, and its tape
opening : List Asking
opening = ask Open [] 0 ∷ []

opened : Tape
opened = record {
  shape = record { name = 193 ∷ replicate 7 64; kind = 2; record_length = 180; first = 1; sectors = 1; protected = false };
  is_open = true;
  records = record { bytes = replicate 180 5; behind = origin } ∷ [];
  position = 0;
  marked = false;
  beyond = false;
}

open-bytes : in_bytes small opening ≡ true
unfolding in_bytes gives_bytes directory small opening
open-bytes = refl

is-opened : (E : Engine) → model_at (models_then E small opening) 0 ≡ tape opened
unfolding directory judging tapes small opening opened
is-opened E = refl

-- the numbers of some reports, and the first byte of each buffer
numbers : List Report → List ℕ
numbers rs = map (λ (r : Report). r.number) rs

bytes : List Report → List ℕ
bytes rs = map (λ (r : Report). get_or r.buffer 0 0) rs

tape-numbers : (E : Engine) → numbers (model_reports (models_of small) (heard E (mounted E small) ten)) ≡ 0 ∷ 0 ∷ 0 ∷ 0 ∷ 0 ∷ 0 ∷ 0 ∷ 0 ∷ 0 ∷ 7 ∷ []
unfolding directory judging tapes small ten numbers
tape-numbers E = refl

tape-bytes : (E : Engine) → bytes (model_reports (models_of small) (heard E (mounted E small) ten)) ≡ 0 ∷ 5 ∷ 0 ∷ 0 ∷ 0 ∷ 1 ∷ 0 ∷ 0 ∷ 1 ∷ 0 ∷ []
unfolding directory judging tapes small ten bytes
tape-bytes E = refl

-- what demand 2 says of an engine's k-th report
module _ (E : Engine) (faithful : Faithful E) where
  abbrev rs : List Report
  rs = reports E (mounted E small) ten

  number_is : (k : ℕ) → get_or (numbers rs) k 0 ≡ get_or (0 ∷ 0 ∷ 0 ∷ 0 ∷ 0 ∷ 0 ∷ 0 ∷ 0 ∷ 0 ∷ 7 ∷ []) k 0
  number_is k = ap (λ (ns : List ℕ). get_or ns k 0) (ap numbers (faithful.serves small small-mounts ten in_bytes_lem) ∙ tape-numbers E)

  byte-is : (k : ℕ) → get_or (bytes rs) k 0 ≡ get_or (0 ∷ 5 ∷ 0 ∷ 0 ∷ 0 ∷ 1 ∷ 0 ∷ 0 ∷ 1 ∷ 0 ∷ []) k 0
  byte-is k = ap (λ (ns : List ℕ). get_or ns k 0) (ap bytes (faithful.serves small small-mounts ten in_bytes_lem) ∙ tape-bytes E)

-- ---- the impostors

-- an engine that does something else than the plain one with each request
abbrev instead : (List ℕ → Session → ℕ → Request → List ℕ → List ℕ → After Session) → Engine
instead f = record { Session = Session; seen = unheld; mount = plain_mount; request = f; edit = plain_edit; position = spot_of; look = plain_look }

-- "one refusing every request"
abbrev pub refuser : Engine
refuser = instead (λ image s i q given buffer. record { answer = Refused NotThere; image = image; session = s; buffer = buffer })

pub refuser-fails : Faithful refuser → ⊥
unfolding reports report_for next report_of answered step_of ten numbers
refuser-fails f = let z : ◌≡◌ {A = ℕ} 8 0 = number_is refuser f 0 in omega arith

-- "one answering 0 with a fixed record"
abbrev pub parrot : Engine
parrot = instead (λ image s i q given buffer. record { answer = Done; image = image; session = (plain_step image s i q given buffer).session; buffer = replicate (length buffer) 7 })

pub parrot-fails : Faithful parrot → ⊥
unfolding reports report_for next report_of answered step_of ten bytes
parrot-fails f = let z : ◌≡◌ {A = ℕ} 7 5 = byte-is parrot f 1 in omega arith

-- "one moving no bytes at all (reading back stops it)": its answers and positions are true
abbrev pub idler : Engine
idler = instead (λ image s i q given buffer.
    let r : After Session = plain_step image s i q given buffer in
    record { answer = r.answer; image = image; session = r.session; buffer = buffer })

-- a record is written at the start, and read again: the buffer is as it was
pub idler-fails : ReadsBack idler → ⊥
unfolding run next answered step_of mounted opening opened small directory judging plainly
idler-fails f =
    let z : ◌≡◌ {A = ℕ} 0 1 =
    ap (λ (b : List ℕ). get_or b 0 0) (f.back small small-mounts opening 0 opened open-bytes (is-opened idler) (1 ∷ 2 ∷ []) (replicate 180 0) refl (omega arith) refl).1 in
    omega arith

-- "one that serves the first request truly and only says 0 afterwards": a plain session, and whether a request was served
pub record Tired : Type 0 where
  pub session : Session
  pub served : Bool

abbrev pub tiredly : Bool → List ℕ → Session → ℕ → Request → List ℕ → List ℕ → After Tired
tiredly true image s i q given buffer = record { answer = Done; image = image; session = record { session = s; served = true }; buffer = buffer }
tiredly false image s i q given buffer =
    let r : After Session = plain_step image s i q given buffer in
    record { answer = r.answer; image = r.image; session = record { session = r.session; served = true }; buffer = r.buffer }

abbrev pub quitter : Engine
quitter = record {
  Session = Tired;
  seen = λ s. unheld s.session;
  mount = λ image. record { answer = (plain_mount image).answer; session = record { session = (plain_mount image).session; served = false } };
  request = λ image s i q given buffer. tiredly s.served image s.session i q given buffer;
  edit = λ image s i x name.
      let r : Edited Session = plain_edit image s.session i x name in
      record { answer = r.answer; told = r.told; image = r.image; session = record { session = r.session; served = true } };
  position = λ s. spot_of s.session;
  look = λ image s i g. plain_look image s.session i g;
}

pub quitter-fails : Faithful quitter → ⊥
unfolding reports report_for next report_of answered step_of mounted ten bytes
quitter-fails f = let z : ◌≡◌ {A = ℕ} 0 5 = byte-is quitter f 1 in omega arith

-- "one that stores a made-up record count (demand 2 stops it at the next opening, by the tape's own length)": 2 at every request
abbrev pub teller : Engine
teller = instead (λ image s i q given buffer.
    let r : After Session = plain_step image s i q given buffer in
    record {
      answer = r.answer;
      image = r.image;
      session = record { says = r.session.says; table = set r.session.table i (counted (entry_at r.session.table i) 2 0); files = r.session.files };
      buffer = r.buffer;
    })

pub teller-fails : Faithful teller → ⊥
unfolding reports report_for next report_of answered step_of mounted ten numbers small directory judging plainly
teller-fails f = let z : ◌≡◌ {A = ℕ} 0 7 = number_is teller f 9 in omega arith

-- one that is true in all that a caller sees, and stamps another count in the image: 2 at every request, in bytes 16 and 17 of entry 0
abbrev pub forger : Engine
forger = instead (λ image s i q given buffer.
    let r : After Session = plain_step image s i q given buffer in
    record { answer = r.answer; image = lay r.image 16 (0 ∷ 2 ∷ []); session = r.session; buffer = r.buffer })

-- the run does not tell it from the tape
forger-numbers : numbers (reports forger (mounted forger small) ten) ≡ 0 ∷ 0 ∷ 0 ∷ 0 ∷ 0 ∷ 0 ∷ 0 ∷ 0 ∷ 0 ∷ 7 ∷ []
unfolding reports report_for next report_of answered step_of mounted ten numbers small directory judging plainly
forger-numbers = refl

forger-bytes : bytes (reports forger (mounted forger small) ten) ≡ 0 ∷ 5 ∷ 0 ∷ 0 ∷ 0 ∷ 1 ∷ 0 ∷ 0 ∷ 1 ∷ 0 ∷ []
unfolding reports report_for next report_of answered step_of mounted ten bytes small directory judging plainly
forger-bytes = refl

-- what a closing stores does
pub forger-fails : CountsStored forger → ⊥
unfolding run next answered step_of mounted opening opened count_of small directory judging plainly
forger-fails f = let z : ◌≡◌ {A = ℕ} 2 1 = (f.stored small small-mounts opening 0 open-bytes (tape opened) (is-opened forger) refl).0 in omega arith

-- and so does a fresh mounting, even of two that forge alike
pub forgers-fail : Agree forger forger → ⊥
unfolding run next answered step_of mounted in_bytes gives_bytes ten nothing_open count_of small directory judging tapes plainly
forgers-fail f =
    let z : ◌≡◌ {A = ℕ} 2 1 = ap (λ (ms : List Model). count_of (model_at ms 0)) ((f.agreeing small small-mounts (take 7 ten) refl).when_idle refl).2 in
    omega arith

-- ---- ADD and DELETE

-- an engine that does something else than the plain one with each edit
abbrev editing_by : (List ℕ → Session → ℕ → Edit → List ℕ → Edited Session) → Engine
editing_by f = record { Session = Session; seen = unheld; mount = plain_mount; request = plain_step; edit = f; position = spot_of; look = plain_look }

-- file A goes, and a file B of the same shape comes; it is opened, and read: it has no record
renewed : List Asking
renewed = of_directory (deleting 0) ∷ of_directory (adding 2 180 1 (194 ∷ replicate 7 64)) ∷ ask Open [] 0 ∷ ask Read [] 180 ∷ []

-- one that answers 0 to every edit, tells 0 to an ADD and changes nothing
abbrev pub keeper : Engine
keeper = editing_by (λ image s i x name. record { answer = Done; told = told_of x 0; image = image; session = s })

keeper-numbers : numbers (reports keeper (mounted keeper small) renewed) ≡ 0 ∷ 0 ∷ 0 ∷ 0 ∷ []
unfolding reports report_for next report_of answered step_of edit_report_of edited edit_of mounted renewed numbers small directory judging plainly
keeper-numbers = refl

renewed-numbers : numbers (model_reports (models_of small) (heard keeper (mounted keeper small) renewed)) ≡ 0 ∷ 0 ∷ 0 ∷ 7 ∷ []
unfolding next step_of answered edit_of edited mounted renewed numbers small directory judging tapes editing plainly
renewed-numbers = refl

renewed-bytes : in_bytes small renewed ≡ true
unfolding in_bytes gives_bytes directory small renewed
renewed-bytes = refl

-- the reading finds the old record
pub keeper-fails : Faithful keeper → ⊥
keeper-fails f =
    let z : ◌≡◌ {A = ℕ} 0 7 = ap (λ (ns : List ℕ). get_or ns 3 0) (sym keeper-numbers ∙ ap numbers (f.serves small small-mounts renewed renewed-bytes) ∙ renewed-numbers) in
    omega arith

-- one that lays the new entry in the table, and not in the image
abbrev pub mislayer : Engine
mislayer = editing_by (λ image s i x name.
    let r : Edited Session = plain_edit image s i x name in
    record { answer = r.answer; told = r.told; image = image; session = r.session })

-- a fresh mounting shows file A again, even where two mislay alike
pub mislayers-fail : Agree mislayer mislayer → ⊥
unfolding run next edited edit_of mounted in_bytes gives_bytes renewed nothing_open count_of small directory judging tapes editing
mislayers-fail f =
    let z : ◌≡◌ {A = ℕ} 1 0 = ap (λ (ms : List Model). count_of (model_at ms 0)) ((f.agreeing small small-mounts (take 2 renewed) refl).when_idle refl).2 in
    omega arith
