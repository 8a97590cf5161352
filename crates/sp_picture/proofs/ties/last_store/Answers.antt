use Rattle.std.proofs.lemmas.Bool.{iff_false}
use Rattle.sp_picture.specs.Marks.{IsStoreTo}
use Rattle.sp_picture.proofs.Lasts.{last_here, last_before, last_of_all}
use Rattle.sp_picture.proofs.ties.last_store.Goals.{then-is_store_to, else-is_store_to}
use Rattle.sp_picture.proofs.ties.last_store.Goals as goal

pub loop-place-preserved : goal.loop-place-preserved
loop-place-preserved g c =
    elim c.if-is_store_to.branch [
      | then-is_store_to w ↦ rw w.last-is (last_here (IsStoreTo c.args.vertex) c.args.marks.now c.loop-place.place c.index-marks-place.result c.loop-place-test.true c.index-marks-place.is (c.is_store_to.ensures.0 w.if-is_store_to.true))
      | else-is_store_to w ↦ rw w.last-is (last_before (IsStoreTo c.args.vertex) c.args.marks.now c.loop-place.place c.index-marks-place.result c.loop-place.last c.loop-place-test.true c.index-marks-place.is (λ h. iff_false c.is_store_to.ensures w.if-is_store_to.false h) c.loop-place.invariant)
    ]

pub returns : goal.returns
returns g c = last_of_all (IsStoreTo c.args.vertex) c.args.marks.now c.loop-place.place c.loop-place.last c.loop-place-test.false c.loop-place.invariant
