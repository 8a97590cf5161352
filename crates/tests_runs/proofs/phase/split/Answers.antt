use Rattle.std.proofs.Common.{◌∙◌, ap, sym, arith}
use Rattle.sp_offer.specs.Story.{Knowledge}
use Rattle.tests_runs.proofs.phase.split.Goals as goal

pub split-requires : goal.split-requires
split-requires c = (omega arith, c.requires ∙ sym c.table.ensures.table)

pub returns-clause-first : goal.returns-clause-first
returns-clause-first c = ap (λ (k : Knowledge). k.table) c.in-Ok.ensures.first ∙ c.requires

pub returns-clause-second : goal.returns-clause-second
returns-clause-second c = c.in-Ok.ensures.second.0 ∙ c.requires
