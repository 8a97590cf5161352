use Rattle.std.proofs.Common.{[], ◌∷◌}
use Rattle.sp_jobs.proofs.ToldInOrder.{all_written}
use Rattle.sp_jobs.proofs.answering.answer_together.Goals as goal

pub returns-in-Ok : goal.returns-in-Ok
returns-in-Ok g c =
    all_written (g.Q.Question.answers c.args.question.now) g.W.Write (c.args.source ∷ []) (g.Q.Question.told c.in-Ok.found ∷ []) c.args.out.now c.write_by.new.out c.write_by.result (c.in-Ok.ensures, tt) c.write_by.ensures
