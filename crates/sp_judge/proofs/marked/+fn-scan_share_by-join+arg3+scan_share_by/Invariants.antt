use Rattle.std.proofs.Common.{◌+◌, ◌*◌}
use Rattle.sp_judge.proofs.marked.+fn-scan_share_by-join+arg3+scan_share_by.Given as goal

abbrev pub decreases-join+arg3 : goal.decreases-join+arg3
decreases-join+arg3 g l = 2 * l.rest.threads + 2

abbrev pub decreases-scan_share_by : goal.decreases-scan_share_by
decreases-scan_share_by g l = 2 * l.share.threads + 1
