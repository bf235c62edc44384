-- Document 01, "Answer numbers", and those of document 02's item 1. Definitions only.
use Rattle.std.specs.Prelude.{ℕ}
use Rattle.requests.specs.declared.Edge.TheVariants.{EndOfFile, BeginningOfTape}
use Rattle.requests.specs.declared.Refusal.TheVariants.{NoRoom, Protected, OddCount, BadSize, WrongSequence, NotThere, AlreadyOpen, FifthFile, BadImage, NotLegal, BadName, NameInUse, NoEntry, NoGap, BadShape}
use Rattle.requests.specs.declared.Answer.{Answer}
use Rattle.requests.specs.declared.Answer.TheVariants.{Done, Met, Refused}

-- the table of answer numbers, 0 to 12
abbrev pub number_of : Answer → ℕ
number_of Done = 0
number_of (Met EndOfFile) = 1
number_of (Met BeginningOfTape) = 2
number_of (Refused NoRoom) = 3
number_of (Refused Protected) = 4
number_of (Refused OddCount) = 5
number_of (Refused BadSize) = 6
number_of (Refused WrongSequence) = 7
number_of (Refused NotThere) = 8
number_of (Refused AlreadyOpen) = 9
number_of (Refused FifthFile) = 10
number_of (Refused BadImage) = 11
number_of (Refused NotLegal) = 12
-- ADD's: "13 bad name, 17 bad kind, length or sector count 0, 14 name in use, 15 no free entry, 16 no gap"
number_of (Refused BadName) = 13
number_of (Refused NameInUse) = 14
number_of (Refused NoEntry) = 15
number_of (Refused NoGap) = 16
number_of (Refused BadShape) = 17
