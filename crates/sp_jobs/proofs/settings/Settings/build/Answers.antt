use Rattle.std.proofs.Common.{subst}
use Rattle.sp_paths.specs.Bags.{AreSame}
use Rattle.sp_dimacs.specs.Graph.{graph_of}
use Rattle.sp_jobs.proofs.Files.{same_graph}
use Rattle.sp_jobs.proofs.settings.Settings.build.Goals as goal

pub returns-clause-arcs : goal.returns-clause-arcs
returns-clause-arcs g c =
    let graph = c.in_ok-graph.graph in
    subst (λ h. AreSame graph h) c.in_ok-made.ensures.directed (same_graph (graph_of c.in_ok-made.made) graph c.in_ok-graph.ensures.n c.in_ok-graph.ensures.arcs)
