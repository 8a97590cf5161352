use Rattle.std.proofs.Common.{◌≡◌, refl, ◌∙◌, arith}
use Rattle.sp_graph.specs.Order.{in_order}
use Rattle.sp_graph.specs.Split.{laid_out, CutsRows}
use Rattle.sp_graph.proofs.Cuts.{laid_none, laid_next, cuts_none, cut_next, split_all, kept_order}
use Rattle.sp_graph.proofs.rows.Rows.split.Goals as goal

pub loop-index-init : goal.loop-index-init
loop-index-init c = (laid_none c.args.graph.now.arcs c.args.delta c.in_ok-arcs.arcs.items c.in_ok-arcs.ensures.items, cuts_none c.args.graph.now.arcs c.args.delta c.in_ok-cuts.cuts.items c.in_ok-cuts.ensures.items)

pub loop-index-preserved : goal.loop-index-preserved
loop-index-preserved c =
    let arcs = c.args.graph.now.arcs in
    let pushed = cut_next arcs c.args.delta c.loop-index.index c.row.result.now c.loop-index.arcs.items c.loop-index.cuts.items c.in_ok-cut.cut c.row.ensures.row c.loop-index.invariant.0 c.in_ok-cut.ensures.light c.in_ok-cut.ensures.heavy c.loop-index.invariant.1 in
    (laid_next arcs c.args.delta c.loop-index.index c.row.result.now c.loop-index.arcs.items c.push_row.new.arcs.items c.row.ensures.row c.loop-index.invariant.0 c.in_ok-cut.ensures.row, rw c.in_ok-push.ensures.items pushed)

pub invariant_of-result : goal.invariant_of-result
invariant_of-result c =
    let g = c.args.graph.now in
    let kept = c.loop-index.arcs.items in
    let last : c.loop-index.index ≡ g.n = omega (arith, c.n-n.ensures.n, c.loop-index-test.false, c.loop-index.auto.index-end) in
    let laid : kept ≡ laid_out g.arcs c.args.delta g.n = rw last at c.loop-index.invariant.0 in
    let cuts : CutsRows g.arcs c.args.delta g.n c.loop-index.cuts.items = rw last at c.loop-index.invariant.1 in
    let order : in_order kept ≡ g.arcs = kept_order g c.args.delta kept c.n-n.ensures.graph c.arcs.ensures.order laid in
    let split = split_all g.arcs c.args.delta g.n kept c.loop-index.cuts.items (record { light = c.len-end.result; heavy = c.len-end.result }) cuts laid (c.len-end.ensures ∙ c.loop-index.arcs.ok.0) in
    record {
      some = rw c.n-n.ensures.n c.n-n.ensures.some;
      graph = rw (order, c.n-n.ensures.n) c.n-n.ensures.graph;
      split = rw (order, c.n-n.ensures.n, c.in_ok-push-2.ensures.items) split;
    }

pub returns-clause-graph : goal.returns-clause-graph
returns-clause-graph c =
    let g = c.args.graph.now in
    let kept = c.loop-index.arcs.items in
    let last : c.loop-index.index ≡ g.n = omega (arith, c.n-n.ensures.n, c.loop-index-test.false, c.loop-index.auto.index-end) in
    let laid : kept ≡ laid_out g.arcs c.args.delta g.n = rw last at c.loop-index.invariant.0 in
    let order : in_order kept ≡ g.arcs = kept_order g c.args.delta kept c.n-n.ensures.graph c.arcs.ensures.order laid in
    rw (c.n-n.ensures.n, order) refl
