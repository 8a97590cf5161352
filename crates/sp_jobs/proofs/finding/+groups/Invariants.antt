use Rattle.std.proofs.Common.{◌+◌, ◌*◌, length}
use Rattle.sp_jobs.proofs.finding.+groups.Given as goal

abbrev pub decreases-find_group : goal.decreases-find_group
decreases-find_group g l = 2 * length l.sources.now

abbrev pub decreases-back : goal.decreases-back
decreases-back g l = 2 * length l.right.now + 1

abbrev pub decreases-front : goal.decreases-front
decreases-front g l = 2 * length l.left.now + 1
