use Rattle.std.proofs.Common.{subst}
use Rattle.std.proofs.lemmas.Result.{err_from_is_err_and}
use Rattle.sp_paths.specs.Paths.{Graph}
use Rattle.sp_dimacs.specs.Graph.{graph_of}
use Rattle.sp_network.specs.Network.{directed}
use Rattle.sp_network.proofs.DirectedArcs.{are_arcs}
use Rattle.sp_jobs.specs.Told.{AreAllAnswered}
use Rattle.sp_jobs.specs.Trees.{IsTreeTold}
use Rattle.sp_jobs.proofs.SameBatch.{AreSources, batch_of_same, refused_early}
use Rattle.sp_jobs.proofs.batch.answer_batch.Goals as goal

pub returns-in_err-graph-clause-batch : goal.returns-in_err-graph-clause-batch
returns-in_err-graph-clause-batch g c =
    let p = err_from_is_err_and c.from_residual.result c.from_residual.ensures.1 in
    let graph = directed c.args.settings.now.direction (graph_of c.args.file) in
    let network = c.requires.network in
    let ok : AreSources g.row.P c.args.limit graph c.args.sources.now = record { layout = c.requires.layout; most = network.most; arcs = are_arcs c.args.settings.now.direction c.args.file.n c.args.file.arcs.items network.arcs; numbered = c.requires.sources; limit_within = c.requires.limit; within = rw c.n.ensures at c.in_default.ensures.none } in
    rw (p.1, p.2) (refused_early g.row.P c.args.limit graph c.args.sources.now g.W.Write ok c.args.out.now)

pub returns-clause-batch : goal.returns-clause-batch
returns-clause-batch g c =
    let network = c.requires.network in
    let A : Graph → Type 0 = λ searched. AreAllAnswered (λ s told. IsTreeTold g.row.P c.args.limit searched s told) c.args.sources.now g.W.Write c.args.out.now c.answer_sources.result c.answer_sources.new.out in
    batch_of_same g.row.P c.args.limit (directed c.args.settings.now.direction (graph_of c.args.file)) c.args.sources.now g.W.Write
    (record { layout = c.requires.layout; most = network.most; arcs = are_arcs c.args.settings.now.direction c.args.file.n c.args.file.arcs.items network.arcs; numbered = c.requires.sources; limit_within = c.requires.limit; within = rw c.n.ensures at c.in_default.ensures.none })
    c.in_ok-graph.graph c.args.out.now c.answer_sources.new.out c.answer_sources.result c.in_ok-graph.ensures.arcs (subst A c.job.ensures.graph (rw c.of-asked.ensures.sources at c.answer_sources.ensures))
