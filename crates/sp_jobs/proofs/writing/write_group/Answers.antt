use Rattle.std.proofs.Common.{[], ◌∷◌, ◌+◌, map, take, drop}
use Rattle.std.proofs.lemmas.Result.{err_from_is_err_and}
use Rattle.sp_jobs.proofs.ToldInOrder.{group_parts, group_fits, written_refused}
use Rattle.sp_jobs.proofs.writing.write_group.Goals as goal

pub returns-in_err-one : goal.returns-in_err-one
returns-in_err-one g c =
    let p = err_from_is_err_and c.from_residual.result c.from_residual.ensures.1 in
    let told = g.Q.Question.told in
    let group = c.args.group.now in
    let i = c.loop-found.found-index in
    let found = c.found-item.result in
    rw (p.1, p.2) (written_refused g.W.Write (map told group) (map told (take i group)) (told found ∷ []) (map told (drop (i + 1) group))
    c.args.out.now c.loop-found.out c.write_by.new.out c.loop-found.summary _ (group_parts told group i found c.loop-found-test.true c.found-item.is) c.loop-found.invariant c.in_err-one.ensures)

pub sum-summary-requires : goal.sum-summary-requires
sum-summary-requires g c =
    group_fits g.Q.Question.told (g.Q.Question.answers c.args.question.now) g.W.Write c.args.group.now c.loop-found.found-index c.found-item.result
    c.args.out.now c.loop-found.out c.write_by.new.out c.loop-found.summary c.in_ok-one.one c.requires c.loop-found-test.true c.found-item.is c.loop-found.invariant c.in_ok-one.ensures
