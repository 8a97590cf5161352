use Rattle.std.proofs.Common.{◌≡◌, ◌++◌, Err, length, map, take, subst, sym, arith}
use Rattle.std.proofs.lemmas.Bool.Decides.{nat_tests}
use Rattle.std.proofs.lemmas.List.Elements.{All-same, All-take}
use Rattle.std.proofs.lemmas.Result.{err_from_is_err_and}
use Rattle.sp_jobs.specs.Told.{AreWritten}
use Rattle.sp_jobs.proofs.ToldInOrder.{two_parts, all_behind, none_left, none_between, between_few, between_refused, between_step, step_fits, between_last, last_fits, last_refused}
use Rattle.sp_jobs.proofs.answering.answer_side_by_side.Goals as goal

pub loop-rest-init : goal.loop-rest-init
loop-rest-init g c = rw (c.nothing-summary.ensures, c.new-waiting.ensures.items) (none_between g.Q.Question.told (g.Q.Question.answers c.args.question.now) c.args.asked.now.sources.now g.W.Write c.args.out.now)

pub answer_group-requires-clause-sources : goal.answer_group-requires-clause-sources
answer_group-requires-clause-sources g c κs lives =
    let can_ask = g.Q.Question.can_ask c.args.question.now in
    let b = c.loop-rest.invariant in
    let rest = c.loop-rest.rest.now in
    let all = all_behind can_ask c.args.asked.now.sources.now (b.front ++ b.back) rest b.parts c.requires.sources in
    All-same can_ask c.split_at.result.0.now (take c.group_size-size.result rest) c.split_at.ensures.front (All-take can_ask c.group_size-size.result rest all)

pub answer_group-requires-clause-waiting : goal.answer_group-requires-clause-waiting
answer_group-requires-clause-waiting g c κs lives =
    between_few c.loop-rest.rest.now c.loop-rest.invariant c.requires.short

pub returns-in_err-more : goal.returns-in_err-more
returns-in_err-more g c =
    let p = err_from_is_err_and c.from_residual.result c.from_residual.ensures.1 in
    let cut = sym (two_parts c.loop-rest.rest.now c.split_at.result.0.now c.split_at.result.1.now _ c.split_at.ensures.front c.split_at.ensures.back) in
    rw (p.1, p.2) (between_refused c.answer_group.new.out c.loop-rest.rest.now c.split_at.result.0.now c.split_at.result.1.now _ c.loop-rest.invariant cut c.in_err-more.ensures)

pub sum-summary-requires : goal.sum-summary-requires
sum-summary-requires g c =
    let cut = sym (two_parts c.loop-rest.rest.now c.split_at.result.0.now c.split_at.result.1.now _ c.split_at.ensures.front c.split_at.ensures.back) in
    step_fits c.answer_group.new.out c.loop-rest.rest.now c.split_at.result.0.now c.split_at.result.1.now c.in_ok-more.field-0 c.loop-rest.invariant cut c.in_ok-more.ensures c.requires.short

pub loop-rest-preserved : goal.loop-rest-preserved
loop-rest-preserved g c =
    let cut = sym (two_parts c.loop-rest.rest.now c.split_at.result.0.now c.split_at.result.1.now _ c.split_at.ensures.front c.split_at.ensures.back) in
    rw c.sum-summary.ensures (between_step c.answer_group.new.out c.loop-rest.rest.now c.split_at.result.0.now c.split_at.result.1.now c.in_ok-more.field-0 c.loop-rest.invariant cut c.in_ok-more.ensures)

pub returns-in_err-last : goal.returns-in_err-last
returns-in_err-last g c =
    let p = err_from_is_err_and c.from_residual-in_err-last.result c.from_residual-in_err-last.ensures.1 in
    let none : length c.loop-rest.rest.now ≡ 0 = grind (arith, nat_tests, c.loop-rest-test.false, c.is_empty.ensures) in
    let h = subst (λ l. AreWritten g.W.Write (map g.Q.Question.told l) c.loop-rest.out (Err c.in_err-last.field-0.0) c.write_group.new.out) c.deref.ensures.value c.in_err-last.ensures in
    rw (p.1, p.2) (last_refused c.write_group.new.out _ (rw (none_left c.loop-rest.rest.now none) at c.loop-rest.invariant) h)

pub sum-requires : goal.sum-requires
sum-requires g c =
    let none : length c.loop-rest.rest.now ≡ 0 = grind (arith, nat_tests, c.loop-rest-test.false, c.is_empty.ensures) in
    let h = rw c.deref.ensures.value at c.in_ok-last.ensures in
    last_fits c.write_group.new.out c.in_ok-last.last (rw (none_left c.loop-rest.rest.now none) at c.loop-rest.invariant) h c.requires.short

pub returns : goal.returns
returns g c =
    let none : length c.loop-rest.rest.now ≡ 0 = grind (arith, nat_tests, c.loop-rest-test.false, c.is_empty.ensures) in
    let h = rw c.deref.ensures.value at c.in_ok-last.ensures in
    rw c.sum.ensures (between_last c.write_group.new.out c.in_ok-last.last (rw (none_left c.loop-rest.rest.now none) at c.loop-rest.invariant) h)
