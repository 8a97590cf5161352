use Rattle.std.proofs.Common.{◌≡◌, ◌<◌, ◌∷◌, length, get_or, refl, sym, ap, ◌∙◌, arith}
use Rattle.std.specs.Vec.Iter.{into_iter_items}
use Rattle.sp_pairs.specs.Slots.{pair_at}
use Rattle.sp_pairs.proofs.SlotSteps.{stay_both, first_more, closed_next, next_answer, none_left}
use Rattle.sp_pairs.proofs.asking.keep_answers.Goals as goal

pub returns-in_default-clause-first : goal.returns-in_default-clause-first
returns-in_default-clause-first g c =
    let (at, held, stay, same, before, answers, size) = c.loop-answer.invariant in
    let k = c.loop-answer.k in
    let pairs = c.args.pairs.now in
    let targets = c.args.targets.now in
    let old = c.args.slots.now.items in
    let mid = c.loop-answer.slots.items in
    let new = c.keep_answer.new.slots.items in
    let low : c.args.place < length mid = omega (arith, c.requires.here, held.size) in
    let there = closed_next pairs (pair_at pairs c.args.place).0 (get_or targets k 0) k c.loop-answer.at c.args.place mid new low c.keep_answer.ensures.stay c.keep_answer.ensures.closed (λ e. (same e, refl, rw e (sym c.requires.targets.first))) before in
    first_more c.args.place old new c.requires.first (stay_both old mid new stay c.keep_answer.ensures.stay) there

pub loop-answer-preserved : goal.loop-answer-preserved
loop-answer-preserved g c =
    let (at, held, stay, same, before, answers, size) = c.loop-answer.invariant in
    let k = c.loop-answer.k in
    let pairs = c.args.pairs.now in
    let targets = c.args.targets.now in
    let old = c.args.slots.now.items in
    let mid = c.loop-answer.slots.items in
    let new = c.keep_answer.new.slots.items in
    let low : c.args.place < length mid = omega (arith, c.requires.here, held.size) in
    let there = closed_next pairs (pair_at pairs c.args.place).0 (get_or targets k 0) k c.loop-answer.at c.args.place mid new low c.keep_answer.ensures.stay c.keep_answer.ensures.closed (λ e. (same e, refl, rw e (sym c.requires.targets.first))) before in
    let steps : into_iter_items c.loop-answer.answer-iterator ≡ c.in-Some.answer ∷ into_iter_items c.next.new.self = c.in-Some.ensures.steps.0 in
    let gone = c.in-Some.ensures.steps.1 in
    let more = next_answer (g.A.TargetAnswer.is_answer c.args.graph.now (pair_at pairs c.args.place).0) targets k (into_iter_items c.loop-answer.answer-iterator) c.in-Some.answer (into_iter_items c.next.new.self) steps answers in (
      c.in-Some-next.ensures.within,
      c.keep_answer.ensures.held,
      stay_both old mid new stay c.keep_answer.ensures.stay,
      λ none. absurd (omega (arith, none)),
      λ some. there,
      more.2,
      omega (arith, size, gone, ap length steps),
    )

pub returns-clause-first : goal.returns-clause-first
returns-clause-first g c =
    let (at, held, stay, same, before, answers, size) = c.loop-answer.invariant in
    let k = c.loop-answer.k in
    let left = into_iter_items c.loop-answer.answer-iterator in
    let all = none_left (g.A.TargetAnswer.is_answer c.args.graph.now (pair_at c.args.pairs.now c.args.place).0) c.args.targets.now k left (sym size ∙ c.in-None.ensures.steps.0) answers in
    let some : 0 < k = omega (arith, all, c.requires.targets.some) in
    first_more c.args.place c.args.slots.now.items c.loop-answer.slots.items c.requires.first stay (before some)
