use Rattle.std.proofs.lemmas.Result.{err_from_is_err_and}
use Rattle.sp_dimacs.specs.Graph.{graph_of}
use Rattle.sp_network.specs.Network.{directed}
use Rattle.sp_pairs.proofs.SamePairs.{pairs_done, refused_early}
use Rattle.sp_pairs.proofs.pairs.answer_pairs.Goals as goal

pub returns-in_err-slots-clause-done : goal.returns-in_err-slots-clause-done
returns-in_err-slots-clause-done g c =
    let p = err_from_is_err_and c.from_residual.result c.from_residual.ensures.1 in
    rw (p.1, p.2) (refused_early g.A.PairLine.kind g.row.P (directed c.args.settings.now.direction (graph_of c.args.file)) c.args.list.now.pairs.items g.W.Write c.args.out.now (rw (c.deref.ensures.value, c.n.ensures) at c.in_default.ensures.none))

pub returns-clause-done : goal.returns-clause-done
returns-clause-done g c =
    let graph = directed c.args.settings.now.direction (graph_of c.args.file) in
    let within = rw (c.deref.ensures.value, c.n.ensures) at c.in_default.ensures.none in
    let held = rw c.deref-2.ensures.value at c.in_ok-slots.ensures.held in
    let written = rw (c.deref-3.ensures.value, c.deref-4.ensures.value) at c.write_pairs.ensures in
    pairs_done g.A.PairLine.kind g.A.PairLine.told g.A.TargetAnswer.is_answer g.row.P graph (g.met.A.PairLine.tells graph) c.args.list.now.pairs.items g.W.Write c.args.out.now c.write_pairs.new.out c.in_ok-slots.slots.items c.write_pairs.result
    within held c.in_ok-slots.ensures.closed written
