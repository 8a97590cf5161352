use Rattle.std.proofs.Common.{refl}
use Rattle.std.proofs.lemmas.List.Sorted.{IsPermutation-refl}
use Rattle.sp_network.specs.Turned.{turned}
use Rattle.sp_network.proofs.TurnedArcs.{with_turned_same}
use Rattle.sp_network.proofs.laws.directions_are_those_of_graphs.Goals as goal

pub returns-clause-given : goal.returns-clause-given
returns-clause-given c = λ g. refl

pub returns-clause-towards : goal.returns-clause-towards
returns-clause-towards c = λ g. record { n = refl; arcs = IsPermutation-refl (turned g.arcs) }

pub returns-clause-both : goal.returns-clause-both
returns-clause-both c = λ g. record { n = refl; arcs = with_turned_same g.arcs }
