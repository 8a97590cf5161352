use Rattle.std.proofs.lemmas.Result.{err_from_is_err_and}
use Rattle.sp_dimacs.specs.Graph.{graph_of}
use Rattle.sp_network.specs.Network.{directed}
use Rattle.sp_jobs.specs.ForestAnswer.{forest_answer_of}
use Rattle.sp_jobs.proofs.SameNearest.{forest_of_same, refused_early}
use Rattle.sp_jobs.proofs.nearest.answer_nearest.Goals as goal

pub returns-in_err-graph-clause-forest : goal.returns-in_err-graph-clause-forest
returns-in_err-graph-clause-forest g c =
    let p = err_from_is_err_and c.from_residual.result c.from_residual.ensures.1 in
    rw (p.1, p.2) (refused_early g.row.P c.args.asked.limit (directed c.args.settings.now.direction (graph_of c.args.file)) c.args.asked.sources.now g.W.Write (rw c.n.ensures at c.in_default.ensures.none) c.args.out.now)

pub returns-in_err-found-clause-forest : goal.returns-in_err-found-clause-forest
returns-in_err-found-clause-forest g c =
    let p = err_from_is_err_and c.from_residual-in_err-found.result c.from_residual-in_err-found.ensures.1 in
    rw (p.1, p.2) (refused_early g.row.P c.args.asked.limit (directed c.args.settings.now.direction (graph_of c.args.file)) c.args.asked.sources.now g.W.Write (rw c.n.ensures at c.in_default.ensures.none) c.args.out.now)

pub returns-clause-forest : goal.returns-clause-forest
returns-clause-forest g c =
    forest_of_same g.row.P c.args.asked.limit (directed c.args.settings.now.direction (graph_of c.args.file)) c.args.asked.sources.now g.W.Write (rw c.n.ensures at c.in_default.ensures.none) c.in_ok-graph.graph (forest_answer_of c.in_ok-found.found) c.args.out.now c.write_answer.new.out c.write_answer.result
    c.in_ok-graph.ensures.arcs (rw c.job-job.ensures.graph at c.in_ok-found.ensures) c.write_answer.ensures
