use Rattle.std.proofs.Common.{subst}
use Rattle.std.proofs.lemmas.Result.{err_from_is_err_and}
use Rattle.sp_paths.specs.Paths.{Graph}
use Rattle.sp_dimacs.specs.Graph.{graph_of}
use Rattle.sp_network.specs.Network.{directed}
use Rattle.sp_network.proofs.DirectedArcs.{are_arcs}
use Rattle.sp_jobs.specs.Told.{AreAllAnswered}
use Rattle.sp_jobs.specs.Row.{IsRowTold}
use Rattle.sp_jobs.proofs.SameMatrix.{AreLists, matrix_of_same, refused_early}
use Rattle.sp_jobs.proofs.matrix.answer_matrix.Goals as goal

pub returns-in_err-graph-clause-matrix : goal.returns-in_err-graph-clause-matrix
returns-in_err-graph-clause-matrix g c =
    let p = err_from_is_err_and c.from_residual.result c.from_residual.ensures.1 in
    let graph = directed c.args.settings.now.direction (graph_of c.args.file) in
    let sources = c.args.sources.now in
    let targets = c.args.targets.now in
    let ok : AreLists graph sources targets = record { arcs = are_arcs c.args.settings.now.direction c.args.file.n c.args.file.arcs.items c.requires.network.arcs; numbered_sources = c.requires.sources; numbered_targets = c.requires.targets; within = record { each_source = rw c.n-vertices.ensures at c.in_default.ensures.none; each_target = rw c.n-vertices.ensures at c.in_default-first_above.ensures.none } } in
    rw (p.1, p.2) (refused_early g.row.P graph sources targets g.W.Write ok c.args.out.now)

pub returns-clause-matrix : goal.returns-clause-matrix
returns-clause-matrix g c =
    let graph = directed c.args.settings.now.direction (graph_of c.args.file) in
    let sources = c.args.sources.now in
    let targets = c.args.targets.now in
    let ok : AreLists graph sources targets = record { arcs = are_arcs c.args.settings.now.direction c.args.file.n c.args.file.arcs.items c.requires.network.arcs; numbered_sources = c.requires.sources; numbered_targets = c.requires.targets; within = record { each_source = rw c.n-vertices.ensures at c.in_default.ensures.none; each_target = rw c.n-vertices.ensures at c.in_default-first_above.ensures.none } } in
    let A : Graph → Type 0 = λ searched. AreAllAnswered (λ s told. IsRowTold g.row.P searched targets s told) sources g.W.Write c.args.out.now c.answer_sources.result c.answer_sources.new.out in
    matrix_of_same g.row.P graph sources targets g.W.Write ok c.in_ok-graph.graph c.args.out.now c.answer_sources.new.out c.answer_sources.result
    c.in_ok-graph.ensures.arcs (subst A c.job.ensures.graph (rw c.of-asked.ensures.sources at c.answer_sources.ensures))
