use Rattle.std.proofs.Common.{◌∷◌, ◌+◌, [], sym, take, drop, get_or, take-append-drop, arith}
use Rattle.std.proofs.lemmas.List.{take_more, length-take}
use Rattle.std.proofs.lemmas.Result.{err_from_is_err_and}
use Rattle.sp_jobs.proofs.ToldInOrder.{done_both, done_fit, refused_later}
use Rattle.sp_jobs.proofs.answering.answer_alone.Goals as goal

pub returns-in_err-one : goal.returns-in_err-one
returns-in_err-one g c =
    let p = err_from_is_err_and c.from_residual.result c.from_residual.ensures.1 in
    let sources = c.args.asked.now.sources.now in
    let i = c.loop-source.source-index in
    let more = take_more sources i 0 c.loop-source-test.true in
    rw (p.1, p.2) (refused_later (g.Q.Question.answers c.args.question.now) sources (take i sources) (get_or sources i 0 ∷ []) (drop (i + 1) sources) g.W.Write
    c.args.out.now c.loop-source.out c.answer_together.new.out c.loop-source.summary _ (rw (← more) (sym (take-append-drop (i + 1) sources))) c.loop-source.invariant c.in_err-one.ensures)

pub sum-summary-requires : goal.sum-summary-requires
sum-summary-requires g c =
    done_fit c.loop-source.invariant c.in_ok-one.ensures (omega (arith, c.requires.short, length-take c.loop-source.source-index c.args.asked.now.sources.now))

pub loop-source-preserved : goal.loop-source-preserved
loop-source-preserved g c =
    rw (take_more c.args.asked.now.sources.now c.loop-source.source-index 0 c.loop-source-test.true, c.sum-summary.ensures) (done_both c.loop-source.invariant c.in_ok-one.ensures)
