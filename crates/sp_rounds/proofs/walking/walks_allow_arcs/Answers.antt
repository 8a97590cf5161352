use Rattle.sp_rounds.proofs.WalkLaw.{walks_allow}
use Rattle.sp_rounds.proofs.walking.walks_allow_arcs.Goals as goal

pub returns : goal.returns
returns c = walks_allow
