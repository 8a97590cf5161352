use Rattle.std.proofs.Common.{sym, subst}
use Rattle.std.proofs.lemmas.Result.{IfOk-weaker}
use Rattle.sp_paths.specs.Paths.{Graph}
use Rattle.sp_paths.specs.Bags.{AreSame}
use Rattle.sp_dimacs.specs.Graph.{graph_of}
use Rattle.sp_network.specs.Network.{directed}
use Rattle.sp_pairs.specs.Slots.{AreHeld}
use Rattle.sp_pairs.proofs.TurnedPairs.{held_same}
use Rattle.sp_pairs.proofs.towards.find_slots.Goals as goal

pub returns-clause-held : goal.returns-clause-held
returns-clause-held g c =
    let way = c.args.settings.now.direction in
    let pairs = c.args.pairs.now in
    let graph = c.job-job.result.graph.now in
    let kept = directed way (graph_of c.in_ok-file.file) in
    let whole = directed way (graph_of c.args.file) in
    let S : Graph → Type 0 = λ searched. AreSame searched kept in
    let same = subst S (sym c.job-job.ensures.graph) c.in_ok-graph.ensures.arcs in
    let answers = g.A.TargetAnswer.is_answer in
    let law = g.met.A.PairLine.same in
    IfOk-weaker c.find_answers.result (λ slots. AreHeld answers graph pairs slots.items) (λ slots. AreHeld answers whole pairs slots.items)
    (λ slots are. held_same answers kept whole (λ s t a. law kept whole s t a c.in_ok-file.ensures.same) pairs slots.items (held_same answers graph kept (λ s t a. law graph kept s t a same) pairs slots.items are)) c.find_answers.ensures.held
