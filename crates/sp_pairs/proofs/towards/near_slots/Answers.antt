use Rattle.std.proofs.Common.{◌∙◌, arith}
use Rattle.sp_pairs.specs.Slots.{pair_at}
use Rattle.sp_pairs.proofs.TurnedPairs.{closed_for, closed_more}
use Rattle.sp_pairs.proofs.towards.near_slots.Goals as goal

pub near_answer-requires : goal.near_answer-requires
near_answer-requires g c = (omega arith, (c.loop-source.invariant.0, c.requires.pairs c.loop-source.source-index (0, 0) c.loop-source-test.true))

pub loop-source-preserved : goal.loop-source-preserved
loop-source-preserved g c =
    let graph = c.args.graph.now in
    let answers = g.A.TargetAnswer.is_answer in
    let l = c.loop-source in
    let pair = pair_at c.args.pairs.now l.source-index in
    let is = rw c.in-Some.is at c.in_ok-answer.ensures.answer in (
      c.near_answer.ensures.graph ∙ l.invariant.0,
      rw c.in_ok-push.ensures.items (closed_more answers graph c.args.pairs.now l.source-index l.slots.items _ c.loop-source-test.true l.invariant.1 (closed_for answers graph pair.0 pair.1 c.in-Some.answer is)),
    )
