use Rattle.std.proofs.Common.{◌+◌, ◌*◌}
use Rattle.sp_judge.proofs.scan.+fn-scan_arcs-join+arg3+scan_arcs.Given as goal

abbrev pub decreases-join+arg3 : goal.decreases-join+arg3
decreases-join+arg3 g l = 2 * l.fewer + 2

abbrev pub decreases-scan_arcs : goal.decreases-scan_arcs
decreases-scan_arcs g l = 2 * l.threads + 1
