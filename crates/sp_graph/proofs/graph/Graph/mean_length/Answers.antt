use Rattle.std.proofs.Common.{◌≡◌, ◌≤◌, length, ap, ◌∙◌, arith}
use Rattle.sp_graph.specs.Mean.{mean_length}
use Rattle.sp_graph.proofs.Means.{mean_positive}
use Rattle.sp_graph.proofs.graph.Graph.mean_length.Goals as goal

pub returns-clause-mean : goal.returns-clause-mean
returns-clause-mean c =
    let graph = c.self.inside in
    let count : length graph.arcs.items ≡ c.len.result = omega (arith, c.len.ensures, graph.arcs.ok.0) in
    c.mean.ensures graph.arcs.items count c.self.invariant.few c.self.invariant.lengths ∙ ap (λ g. mean_length g.arcs) c.self.view_is

pub returns-clause-some : goal.returns-clause-some
returns-clause-some c =
    let graph = c.self.inside in
    let count : length graph.arcs.items ≡ c.len.result = omega (arith, c.len.ensures, graph.arcs.ok.0) in
    let is : c.mean.result ≡ mean_length graph.arcs.items = c.mean.ensures graph.arcs.items count c.self.invariant.few c.self.invariant.lengths in
    let positive : 1 ≤ mean_length graph.arcs.items = mean_positive graph.n graph.arcs.items c.self.invariant.graph in
    omega (arith, is, positive)
