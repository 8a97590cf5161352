use Rattle.std.proofs.Common.{◌+◌, ◌*◌}
use Rattle.sp_network.proofs.arcs.+fn-turn_parts-join_mut+arg3+turn_parts.Given as goal

abbrev pub decreases-join_mut+arg3 : goal.decreases-join_mut+arg3
decreases-join_mut+arg3 g l = 2 * l.fewer + 2

abbrev pub decreases-turn_parts : goal.decreases-turn_parts
decreases-turn_parts g l = 2 * l.threads + 1
