-- What a direction keeps of a network.
use Rattle.std.proofs.Common.{◌≡◌, ℕ, ◌≤◌, List, Result, Ok, Err, IfOk, length, ap, arith}
use Rattle.std.specs.Prelude.{All}
use Rattle.std.proofs.lemmas.List.{length-map}
use Rattle.sp_paths.specs.declared.arc.Arc.{Arc}
use Rattle.sp_paths.specs.Paths.{Graph, IsArc}
use Rattle.sp_network.specs.Turned.{turned, turned_arc}
use Rattle.sp_network.proofs.TurnedArcs.{turned_are_arcs, with_turned_length, with_turned_are_arcs}
use Rattle.sp_dimacs.specs.declared.formats.TheConstants.{MOST_ARCS}
use Rattle.sp_dimacs.specs.declared.graphs.GrFile.{GrFile}
use Rattle.sp_dimacs.specs.Graph.{IsNetwork, IsNetworkUpTo, graph_of}
use Rattle.sp_network.specs.declared.directions.Direction.{Direction}
use Rattle.sp_network.specs.declared.directions.Direction.TheVariants.{AsGiven, Towards, BothWays}
use Rattle.sp_network.specs.Network.{directed, directed_arcs, most_of}

pub as_long : (arcs : List Arc) → length (turned arcs) ≡ length arcs
as_long arcs = length-map arcs turned_arc

few : (way : Direction) (arcs : List Arc) → length arcs ≤ most_of way → length (directed_arcs way arcs) ≤ MOST_ARCS
few AsGiven arcs within = within
few Towards arcs within = rw as_long within
few BothWays arcs within = rw with_turned_length (omega (arith, within))

-- Arcs of a graph are some in each direction.
pub are_arcs : (way : Direction) (n : ℕ) (arcs : List Arc) → All (IsArc n) arcs → All (IsArc n) (directed_arcs way arcs)
are_arcs AsGiven n arcs are = are
are_arcs Towards n arcs are = turned_are_arcs n arcs are
are_arcs BothWays n arcs are = with_turned_are_arcs n arcs are

-- A network whose arcs lead in a direction is one, where its text announces no more than it may.
pub directed_network : (way : Direction) (P : ℕ) (file made : GrFile) → made.n ≡ file.n → made.arcs.items ≡ directed_arcs way file.arcs.items → IsNetworkUpTo P (most_of way) file → IsNetwork P made
directed_network way P file made n arcs within = record {
  least = rw n within.least;
  most = rw n within.most;
  short = rw arcs (few way file.arcs.items within.short);
  arcs = rw (n, arcs) (are_arcs way file.n file.arcs.items within.arcs);
}

-- The same of what leads the arcs of a network, if it ends well.
pub led : {E : Type 0} (way : Direction) (P : ℕ) (file : GrFile) (result : Result GrFile E) → IfOk result (λ made. graph_of made ≡ directed way (graph_of file)) → IsNetworkUpTo P (most_of way) file → IfOk result (IsNetwork P)
led way P file (Ok made) is within = directed_network way P file made (ap (λ (g : Graph). g.n) is) (ap (λ (g : Graph). g.arcs) is) within
led way P file (Err e) is within = tt
