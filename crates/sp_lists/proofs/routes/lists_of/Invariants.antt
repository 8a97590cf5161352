use Rattle.std.proofs.Common.{◌≡◌, take}
use Rattle.std.specs.Prelude.{map, flat_map}
use Rattle.sp_lists.specs.Routes.{distance_in, route_in, ends_after}
use Rattle.sp_lists.proofs.routes.lists_of.Given as goal

abbrev pub invariant-loop-answer : goal.invariant-loop-answer
invariant-loop-answer l = record {
  dist : l.lists.dist.items ≡ map distance_in (take l.answer-index l.answers);
  ends : l.lists.ends.items ≡ ends_after 0 (take l.answer-index l.answers);
  vertices : l.lists.vertices.items ≡ flat_map route_in (take l.answer-index l.answers);
}
