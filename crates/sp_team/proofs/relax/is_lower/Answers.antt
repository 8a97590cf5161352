use Rattle.std.proofs.Common.{◌∙◌, sym}
use Rattle.sp_offer.specs.Story.{known_table}
use Rattle.sp_team.proofs.Later.{later_call}
use Rattle.sp_team.proofs.Marks.{found_meets}
use Rattle.sp_team.proofs.relax.is_lower.Goals as goal

pub returns-clause-later : goal.returns-clause-later
returns-clause-later g c = later_call _ _ _ _ c.read.ensures.caller.0 c.read.ensures.call c.read.ensures.known

pub returns-clause-met : goal.returns-clause-met
returns-clause-met g c = λ above. found_meets (known_table c.read.new.caller.story) c.args.request _ c.read.ensures.known.here (sym c.is_below.ensures.test ∙ above)
