use Rattle.std.proofs.Common.{◌≡◌, ◌≤◌, ◌+◌, List, length, sym, subst}
use Rattle.sp_answer.specs.declared.pair.PairAnswer.{PairAnswer}
use Rattle.sp_answer.specs.Run.{AreAnswersFor}
use Rattle.sp_lists.specs.Limits.{reach}
use Rattle.sp_lists.proofs.Rows.{as_many, whole_row}
use Rattle.sp_lists.proofs.matrix.row_at.Goals as goal

pub put_row-requires : goal.put_row-requires
put_row-requires c =
    let gr = c.args.prepared.graph.now in
    let A : List PairAnswer → Type 0 = AreAnswersFor gr c.args.row.source (reach gr.n) c.args.targets.now in
    let answers : A c.as_slice.result.now = subst A (sym c.as_slice.ensures.value) c.in-Ok.ensures in
    let count : length c.as_slice.result.now ≡ length c.args.targets.now = as_many (reach gr.n) gr c.args.row.source c.args.targets.now c.as_slice.result.now answers in
    subst (λ n. c.args.row.low + n ≤ length c.args.dist.now) (sym count) c.requires.room

pub returns-in-Ok : goal.returns-in-Ok
returns-in-Ok c =
    let gr = c.args.prepared.graph.now in
    let A : List PairAnswer → Type 0 = AreAnswersFor gr c.args.row.source (reach gr.n) c.args.targets.now in
    let answers : A c.as_slice.result.now = subst A (sym c.as_slice.ensures.value) c.in-Ok.ensures in
    whole_row (reach gr.n) gr c.args.row.source c.args.row.low c.args.targets.now c.as_slice.result.now c.args.dist.now c.put_row.new.dist answers c.put_row.ensures.row c.put_row.ensures.others
