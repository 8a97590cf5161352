use Rattle.std.proofs.Common.{◌^◌, ◌<◌, length, rules, arith}
use Rattle.std.proofs.lemmas.List.Sorted.{All-permutation, length_permutation}
use Rattle.sp_paths.specs.Paths.{IsArc}
use Rattle.sp_graph.proofs.graph.Graph.from_arcs.Goals as goal

pub invariant_of-result : goal.invariant_of-result
invariant_of-result c =
    let old = c.args.arcs.items in
    let new = c.in_ok-all.all.arcs.items in
    let few : length old < 2 ^ 32 = search rules in
    record {
      some = c.requires.some;
      few = omega (arith, few, length_permutation old new c.in_ok-all.ensures.same);
      graph = All-permutation (IsArc c.args.n) old new c.in_ok-all.ensures.same c.requires.arcs;
      order = c.in_ok-all.ensures.order;
      index = c.in_ok-all.ensures.index;
      lengths = c.in_ok-all.ensures.lengths;
      places = search rules;
    }
