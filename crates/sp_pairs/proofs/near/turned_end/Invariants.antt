use Rattle.std.proofs.Common.{◌≡◌, ◌-◌, vec_len}
use Rattle.std.specs.Prelude.{reverse}
use Rattle.sp_paths.specs.Paths.{Graph, IsVertex, IsLeast}
use Rattle.sp_paths.specs.Routes.{GoesOn}
use Rattle.sp_network.specs.Turned.{IsTurned}
use Rattle.sp_pairs.proofs.near.turned_end.Given as goal

abbrev pub invariant-loop-first : goal.invariant-loop-first
invariant-loop-first g l = record {
  room : l.room ≡ l.graph;
  here : IsVertex l.graph.n l.first;
  least : IsLeast l.graph l.first l.source l.rest;
  on : (h : Graph) → IsTurned l.graph h → GoesOn h l.source l.first (reverse l.later.items) l.target;
}

abbrev pub decreases-loop-first : goal.decreases-loop-first
decreases-loop-first g l = l.most - vec_len l.later
