use Rattle.std.proofs.Common.{◌+◌, ◌*◌, vec_len}
use Rattle.sp_rounds.proofs.workers.stealing.+workers.Given as goal

abbrev pub decreases-theirs : goal.decreases-theirs
decreases-theirs g l = 2 * vec_len l.owners + 1

abbrev pub decreases-run_workers : goal.decreases-run_workers
decreases-run_workers g l = 2 * vec_len l.deques.owners
