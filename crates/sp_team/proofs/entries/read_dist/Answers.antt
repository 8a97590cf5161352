use Rattle.sp_team.proofs.Later.{later_call}
use Rattle.sp_team.proofs.entries.read_dist.Goals as goal

pub returns-clause-later : goal.returns-clause-later
returns-clause-later g c = later_call _ _ _ _ c.read.ensures.caller.0 c.read.ensures.call c.read.ensures.known
