use Rattle.std.proofs.Common.{arith, sym}
use Rattle.sp_text.proofs.LineForms.{found_usual, next_form}
use Rattle.sp_text.proofs.FieldRuns.{no_remark}
use Rattle.sp_text.proofs.reading.usual_item.Goals as goal

pub loop-place-preserved : goal.loop-place-preserved
loop-place-preserved c =
    next_form c.args.format.now.items.now c.loop-place.place _ c.drop_cr-text.result.now (omega arith) (c.begins_otherwise-in-loop-place.ensures c.if-not-begins_otherwise.false) c.loop-place.invariant

pub returns-then-begins_otherwise : goal.returns-then-begins_otherwise
returns-then-begins_otherwise c =
    let text = c.drop_cr-text.result.now in
    found_usual c.args.format.now c.args.line.now text c.in-Some.rest.now c.loop-place.place _ c.args.ranges.now c.args.problem.now c.in_ok-values.values (c.requires.items c.loop-place.place _ (omega arith))
    c.drop_cr-text.ensures (sym (no_remark text (c.starts_otherwise.ensures c.if-starts_otherwise.true))) (c.begins_otherwise.ensures c.if-begins_otherwise.true)
    c.loop-place.invariant (omega arith) c.in-Some.ensures.letter c.in_ok-values.ensures
