-- One way for each test, in their order, and one past them.
use mathlib.Core.Path.{refl}
use Prim.Native.Nat.{ℕ}
use native.Mathlib.Omega.{arith}
use Rattle.editing.proofs.Lent.{legal-told}
use Rattle.editing.proofs.Adding.{few, from-refused, unnamed, misshapen, in_use_lem, none_free, no_room, eight, added}
use Rattle.editing.proofs.add.Goals as goal

pub says_refused-requires : goal.says_refused-requires
says_refused-requires c =
    let a = c.args in
    legal-told a.image.now a.session.now c.requires

pub shape_of-session-then-says_refused : goal.shape_of-session-then-says_refused
shape_of-session-then-says_refused c = refl

pub returns-then-says_refused : goal.returns-then-says_refused
returns-then-says_refused c =
    let a = c.args in
    λ i before. from-refused a.image.now a.session.now c.requires a.kind a.length a.sectors a.name.now i before _ c.says_refused.ensures c.if-says_refused.true

pub shape_of-session-then-not-is_named : goal.shape_of-session-then-not-is_named
shape_of-session-then-not-is_named c = refl

pub returns-then-not-is_named : goal.returns-then-not-is_named
returns-then-not-is_named c =
    let a = c.args in
    λ i before. unnamed a.image.now a.session.now c.requires a.kind a.length a.sectors a.name.now i before _ c.says_refused.ensures c.if-says_refused.false _ c.is_named.ensures c.if-not-is_named.true

pub shape_of-session-then-not-shape_good : goal.shape_of-session-then-not-shape_good
shape_of-session-then-not-shape_good c = refl

pub returns-then-not-shape_good : goal.returns-then-not-shape_good
returns-then-not-shape_good c =
    let a = c.args in
    λ i before. misshapen a.image.now a.session.now c.requires a.kind a.length a.sectors a.name.now i before _ c.says_refused.ensures c.if-says_refused.false _ c.is_named.ensures c.if-not-is_named.false _ c.shape_good.ensures c.if-not-shape_good.true

pub shape_of-session-then-is_taken : goal.shape_of-session-then-is_taken
shape_of-session-then-is_taken c = refl

pub returns-then-is_taken : goal.returns-then-is_taken
returns-then-is_taken c =
    let a = c.args in
    λ i before. in_use_lem a.image.now a.session.now c.requires a.kind a.length a.sectors a.name.now i before _ c.says_refused.ensures c.if-says_refused.false _ c.is_named.ensures c.if-not-is_named.false _ c.shape_good.ensures c.if-not-shape_good.false _ c.is_taken.ensures c.if-is_taken.true

pub returns-in_default : goal.returns-in_default
returns-in_default c =
    let a = c.args in
    λ i before. none_free a.image.now a.session.now c.requires a.kind a.length a.sectors a.name.now i before _ c.says_refused.ensures c.if-says_refused.false _ c.is_named.ensures c.if-not-is_named.false _ c.shape_good.ensures c.if-not-shape_good.false _ c.is_taken.ensures c.if-is_taken.false c.in_default.ensures

pub overflow_cast-all : goal.overflow_cast-all
overflow_cast-all c =
    let a = c.args in
    omega (arith, few a.image.now a.session.now c.requires, c.sectors_of-all.ensures)

pub shape_of-image-then-all-first : goal.shape_of-image-then-all-first
shape_of-image-then-all-first c = refl

pub shape_of-session-then-all-first : goal.shape_of-session-then-all-first
shape_of-session-then-all-first c = refl

pub returns-then-all-first : goal.returns-then-all-first
returns-then-all-first c =
    let a = c.args in
    λ i before. no_room a.image.now a.session.now c.requires a.kind a.length a.sectors a.name.now i before _ c.says_refused.ensures c.if-says_refused.false _ c.is_named.ensures c.if-not-is_named.false _ c.shape_good.ensures c.if-not-shape_good.false _ c.is_taken.ensures c.if-is_taken.false _ c.in-Some.ensures _ c.sectors_of-all.ensures _ c.lowest_gap-first.ensures (omega (arith, c.if-all-first.true))

pub put_file-requires : goal.put_file-requires
put_file-requires c =
    let a = c.args in
    let i : ℕ = 0 in
    let before : ℕ = 0 in
    (eight a.image.now a.session.now c.requires a.kind a.length a.sectors a.name.now i before _ c.says_refused.ensures c.if-says_refused.false _ c.is_named.ensures c.if-not-is_named.false _ c.shape_good.ensures c.if-not-shape_good.false _ c.is_taken.ensures c.if-is_taken.false _ c.in-Some.ensures _ c.sectors_of-all.ensures _ c.lowest_gap-first.ensures, omega (arith, few a.image.now a.session.now c.requires, c.if-all-first.false, c.sectors_of-all.ensures))

pub returns : goal.returns
returns c =
    let a = c.args in
    λ i before. added a.image.now a.session.now c.requires a.kind a.length a.sectors a.name.now i before _ c.says_refused.ensures c.if-says_refused.false _ c.is_named.ensures c.if-not-is_named.false _ c.shape_good.ensures c.if-not-shape_good.false _ c.is_taken.ensures c.if-is_taken.false _ c.in-Some.ensures _ c.sectors_of-all.ensures _ c.lowest_gap-first.ensures (omega (arith, c.if-all-first.false)) c.put_file.ensures.2 _ _ c.put_file.ensures.0 c.put_file.ensures.1
