use Rattle.std.proofs.Common.{None, refl, rules}
use Rattle.sp_answer.specs.Answer.{IsRefusal}
use Rattle.sp_answer.specs.declared.answer.RunError.TheVariants.{TooFar}
use Rattle.sp_jobs.specs.Batch.{TreeOf, FarFrom, IsTreeAnswer}
use Rattle.sp_jobs.proofs.trees.find_tree.Goals as goal

pub returns-in-Ok : goal.returns-in-Ok
returns-in-Ok g c =
    let tree = c.in-Ok.tree in
    let is : IsTreeAnswer g.row.P None c.args.graph.now c.args.source (TreeOf tree) = search rules in
    record { answer = TreeOf tree; is = is; tells = refl }

pub returns-in-Err-TooFar : goal.returns-in-Err-TooFar
returns-in-Err-TooFar g c =
    let vertex = c.in-Err-TooFar.vertex in
    let refused : IsRefusal g.row.P c.args.graph.now c.args.source (TooFar vertex) = search rules in
    record { answer = FarFrom c.args.source vertex; is = (refl, refused.1); tells = refl }
