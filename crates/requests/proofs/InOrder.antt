-- The tests of every request and of both edits stand in the order of the documents' line: by computation, for each.
use mathlib.Core.Path.{◌≡◌, refl}
use mathlib.Core.Bool.{true}
use Rattle.requests.specs.Judge.{tests, edit_tests, place_in_line, in_order}
use Rattle.requests.specs.declared.Edit.{Edit}
use Rattle.requests.specs.declared.Edit.TheVariants.{Add, Delete}
use Rattle.requests.specs.declared.Order.TheVariants.{WriteMark, RewindOnline, RewindOffline, RecordForward, RecordBack, FileForward, FileBack}
use Rattle.requests.specs.declared.Request.{Request}
use Rattle.requests.specs.declared.Request.TheVariants.{Open, Read, Write, GranuleRead, GranuleWrite, GranuleLook, Position}

pub tests-in-order : (q : Request) → in_order (tests q) ≡ true
unfolding in_order place_in_line tests
tests-in-order Open = refl
tests-in-order Read = refl
tests-in-order Write = refl
tests-in-order (GranuleRead g) = refl
tests-in-order (GranuleWrite g) = refl
tests-in-order (GranuleLook g) = refl
tests-in-order (Position WriteMark) = refl
tests-in-order (Position RewindOnline) = refl
tests-in-order (Position RewindOffline) = refl
tests-in-order (Position RecordForward) = refl
tests-in-order (Position RecordBack) = refl
tests-in-order (Position FileForward) = refl
tests-in-order (Position FileBack) = refl

pub edits-in-order : (x : Edit) → in_order (edit_tests x) ≡ true
unfolding in_order place_in_line edit_tests
edits-in-order (Add kind length sectors) = refl
edits-in-order Delete = refl
