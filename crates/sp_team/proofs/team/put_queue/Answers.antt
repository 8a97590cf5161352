use Rattle.sp_team.proofs.Later.{later_along}
use Rattle.sp_team.proofs.team.put_queue.Goals as goal

pub returns-in_err-put : goal.returns-in_err-put
returns-in_err-put g c = later_along _ _ _ _ c.loop-vertex.invariant c.read_dist.ensures.later

pub loop-vertex-preserved : goal.loop-vertex-preserved
loop-vertex-preserved g c = later_along _ _ _ _ c.loop-vertex.invariant c.read_dist.ensures.later
