use Rattle.std.proofs.Common.{◌≡◌}
use Rattle.sp_picture.specs.declared.marks.StepMark.{StepMark}
use Rattle.sp_picture.proofs.Lasts.{last_here, last_before, last_of_all}
use Rattle.sp_picture.proofs.ties.last_step.Goals.{then-mark-actor, else-mark-actor}
use Rattle.sp_picture.proofs.ties.last_step.Goals as goal

pub loop-place-preserved : goal.loop-place-preserved
loop-place-preserved g c =
    let IsSuch : StepMark g.row.P → Type 0 = λ mark. mark.actor ≡ c.args.actor in
    elim c.if-mark-actor.branch [
      | then-mark-actor w ↦ rw w.last-is (last_here IsSuch c.args.marks.now c.loop-place.place c.index-marks-place.result c.loop-place-test.true c.index-marks-place.is w.if-mark-actor.true)
      | else-mark-actor w ↦ rw w.last-is (last_before IsSuch c.args.marks.now c.loop-place.place c.index-marks-place.result c.loop-place.last c.loop-place-test.true c.index-marks-place.is w.if-mark-actor.false c.loop-place.invariant)
    ]

pub returns : goal.returns
returns g c = last_of_all (λ mark. mark.actor ≡ c.args.actor) c.args.marks.now c.loop-place.place c.loop-place.last c.loop-place-test.false c.loop-place.invariant
