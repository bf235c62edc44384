-- What is done of the states keeps both rules.
use mathlib.Core.Path.{◌≡◌, refl, sym, ◌∙◌}
use native.Mathlib.Omega.{arith}
use lib.ListN.{length, take, get_or}
use Rattle.geometry.proofs.Front.{front-none, front-on, front-one, front-some, front-whole}
use Rattle.sessions.specs.Session.{idle, bare, of_other}
use Rattle.sessions.specs.Grouped.{file_good}
use Rattle.sessions.proofs.Grouped.{files-grouped, file-unused, others-unused}
use Rattle.finding.proofs.Lent.{one-file-told, others-told}
use Rattle.finding.proofs.States.{length-bare, its-file, its-used}
use Rattle.finding.proofs.LentSession.files_good.Goals as goal
use Rattle.finding.proofs.LentSession.files_good.Goals.{then-is_used+else-not-file_good+else-not-none_before, else-is_used}

pub loop-k-init : goal.loop-k-init
loop-k-init c =
    let s = c.args.self.now in
    front-none (file_good s.table) of_other (bare s).files

pub returns-then-not-file_good : goal.returns-then-not-file_good
returns-then-not-file_good c =
    let s = c.args.self.now in
    let k = c.loop-k.k in
    let fs = (bare s).files in
    let n : length (bare s).files ≡ length s.files = length-bare s in
    let used = its-used s k _ c.state-s.ensures _ c.is_used.ensures ∙ c.if-is_used.true in
    let bad = one-file-told s.table _ _ (its-file s k _ c.state-s.ensures ∙ sym c.file-f.ensures) _ _ c.entry-e.ensures c.file_good.ensures used ∙ c.if-not-file_good.true in
    sym (files-grouped s.table fs (omega (arith, c.states-k-end.ensures)) ∙ front-one (file_good s.table) of_other fs k idle (omega (arith, c.states-k-end.ensures)) bad)

pub returns-then-not-none_before : goal.returns-then-not-none_before
returns-then-not-none_before c =
    let s = c.args.self.now in
    let k = c.loop-k.k in
    let fs = (bare s).files in
    let n : length (bare s).files ≡ length s.files = length-bare s in
    let used = its-used s k _ c.state-s.ensures _ c.is_used.ensures ∙ c.if-is_used.true in
    let bad = others-told _ _ (its-file s k _ c.state-s.ensures ∙ sym c.file-f.ensures) (take k fs) _ c.none_before.ensures used ∙ c.if-not-none_before.true in
    sym (files-grouped s.table fs (omega (arith, c.states-k-end.ensures)) ∙ front-some (file_good s.table) of_other fs k idle (omega (arith, c.states-k-end.ensures)) bad)

pub loop-k-preserved : goal.loop-k-preserved
loop-k-preserved c =
    let s = c.args.self.now in
    let k = c.loop-k.k in
    let fs = (bare s).files in
    let n : length (bare s).files ≡ length s.files = length-bare s in
    let at = its-file s k _ c.state-s.ensures in
    let used = its-used s k _ c.state-s.ensures _ c.is_used.ensures in
    let on = front-on (file_good s.table) of_other fs k idle (omega (arith, c.states-k-end.ensures)) k refl c.loop-k.invariant in
    elim c.if-is_used.branch [
      | then-is_used+else-not-file_good+else-not-none_before w ↦ on (one-file-told s.table _ _ (at ∙ sym w.file-f.ensures) _ _ w.entry-e.ensures w.file_good.ensures (used ∙ w.if-is_used.true) ∙ w.if-not-file_good.false) (others-told _ _ (at ∙ sym w.file-f.ensures) (take k fs) _ w.none_before.ensures (used ∙ w.if-is_used.true) ∙ w.if-not-none_before.false)
      | else-is_used w ↦ on (file-unused s.table (get_or fs k idle) (used ∙ w.if-is_used.false)) (others-unused (get_or fs k idle) (used ∙ w.if-is_used.false) (take k fs))
    ]

pub returns : goal.returns
returns c =
    let s = c.args.self.now in
    let fs = (bare s).files in
    let n : length (bare s).files ≡ length s.files = length-bare s in
    sym (files-grouped s.table fs (omega (arith, c.states-k-end.ensures)) ∙ front-whole (file_good s.table) of_other fs c.loop-k.k (omega (arith, c.states-k-end.ensures)) c.loop-k.invariant)
