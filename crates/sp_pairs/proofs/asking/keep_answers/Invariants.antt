use Rattle.std.proofs.Common.{◌≡◌, ◌<◌, length, drop}
use Rattle.sp_answer.specs.Run.{AreAnswersBy}
use Rattle.sp_pairs.specs.Slots.{AreHeld, StayClosed, IsClosedAt}
use Rattle.std.specs.Vec.Iter.{into_iter_items, into_iter_len}
use Rattle.sp_pairs.proofs.asking.keep_answers.Given as goal

abbrev pub invariant-loop-answer : goal.invariant-loop-answer
invariant-loop-answer g l =
    (l.at < length l.pairs)
    × AreHeld g.A.TargetAnswer.is_answer l.graph l.pairs l.slots.items
    × StayClosed l.fn.slots.items l.slots.items
    × (l.k ≡ 0 → l.at ≡ l.place)
    × (0 < l.k → IsClosedAt l.place l.slots.items)
    × AreAnswersBy (g.A.TargetAnswer.is_answer l.graph l.source) (drop l.k l.targets) (into_iter_items l.answer-iterator)
    × (into_iter_len l.answer-iterator ≡ length (into_iter_items l.answer-iterator))
