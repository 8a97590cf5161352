use Rattle.std.proofs.Common.{◌+◌, ◌*◌, vec_len}
use Rattle.sp_team.proofs.team.+workers.Given as goal

abbrev pub decreases-theirs : goal.decreases-theirs
decreases-theirs g l = 2 * vec_len l.second.owners + 1

abbrev pub decreases-mine : goal.decreases-mine
decreases-mine g l = 2 * vec_len l.first.owners + 1

abbrev pub decreases-run_workers : goal.decreases-run_workers
decreases-run_workers g l = 2 * vec_len l.squad.owners
