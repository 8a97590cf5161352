use Rattle.std.proofs.Common.{◌+◌, ◌-◌, ◌*◌}
use Rattle.sp_replay.proofs.actors.threads.+actors.Given as goal

abbrev pub decreases-mine : goal.decreases-mine
decreases-mine g l = 2 * (l.middle - l.before) + 1

abbrev pub decreases-theirs : goal.decreases-theirs
decreases-theirs g l = 2 * (l.last - l.middle) + 1

abbrev pub decreases-offer_rows : goal.decreases-offer_rows
decreases-offer_rows g l = 2 * (l.last - l.before)
