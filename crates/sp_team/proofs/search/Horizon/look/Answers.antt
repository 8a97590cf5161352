use Rattle.sp_team.proofs.Later.{later_along}
use Rattle.sp_team.proofs.search.Horizon.look.Goals as goal

pub returns-in_default-read_dist : goal.returns-in_default-read_dist
returns-in_default-read_dist g c = later_along _ _ _ _ c.loop.invariant c.read_dist.ensures.later

pub loop-preserved : goal.loop-preserved
loop-preserved g c = later_along _ _ _ _ c.loop.invariant c.read_dist.ensures.later
