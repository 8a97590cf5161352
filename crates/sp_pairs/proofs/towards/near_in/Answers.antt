use Rattle.std.proofs.Common.{rules}
use Rattle.std.specs.List.{AllZip}
use Rattle.sp_dimacs.specs.Graph.{graph_of}
use Rattle.sp_network.specs.Network.{directed, most_of}
use Rattle.sp_network.specs.declared.directions.Direction.TheVariants.{Towards}
use Rattle.sp_pairs.specs.Slots.{IsClosed, AreHeld}
use Rattle.sp_pairs.specs.Near.{IsClosedFor}
use Rattle.std.specs.Prelude.{All}
use Rattle.sp_pairs.proofs.TurnedPairs.{network_kept, turned_same, turned_network, all_closed, all_held, if_unwrapped}
use Rattle.sp_pairs.proofs.towards.near_in.Goals as goal

pub returns-clause-network : goal.returns-clause-network
returns-clause-network g c =
    network_kept c.args.file c.of_lines.result (search rules) (search rules) g.row.P (most_of c.args.settings.now.direction) c.requires.network

pub returns-clause-same : goal.returns-clause-same
returns-clause-same g c = rw c.in-Towards.is (turned_same c.args.file c.of_lines.result (search rules) (search rules))

pub returns-clause-held : goal.returns-clause-held
returns-clause-held g c =
    let pairs = c.args.pairs.now in
    let graph = c.in_ok-graph.graph in
    let turned = directed Towards (graph_of c.args.file) in
    rw (c.in-Towards.is, c.unwrap_or-slots.ensures) (if_unwrapped (λ slots. AllZip (IsClosedFor g.A.TargetAnswer.is_answer graph) pairs slots.items) (λ slots. AreHeld g.A.TargetAnswer.is_answer turned pairs slots.items) c.near_slots.result
    (λ slots are. all_held g.A.TargetAnswer.is_answer graph turned (turned_network c.args.file graph c.in_ok-graph.ensures.n c.in_ok-graph.ensures.arcs) pairs slots.items are) c.near_slots.ensures)

pub returns-clause-closed : goal.returns-clause-closed
returns-clause-closed g c =
    let pairs = c.args.pairs.now in
    let graph = c.in_ok-graph.graph in
    rw c.unwrap_or-slots.ensures (if_unwrapped (λ slots. AllZip (IsClosedFor g.A.TargetAnswer.is_answer graph) pairs slots.items) (λ slots. All IsClosed slots.items) c.near_slots.result
    (λ slots are. all_closed g.A.TargetAnswer.is_answer graph pairs slots.items are) c.near_slots.ensures)
