use Rattle.sp_team.proofs.Later.{later_along}
use Rattle.sp_team.proofs.relax.warm_heads.Goals as goal

pub loop-request-preserved : goal.loop-request-preserved
loop-request-preserved g c = later_along _ _ _ _ c.loop-request.invariant c.read_dist.ensures.later
