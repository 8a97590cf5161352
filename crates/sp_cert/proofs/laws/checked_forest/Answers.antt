use Rattle.sp_cert.proofs.Exact.{part_rules_are_exact, forest_rules_are_exact}
use Rattle.sp_cert.proofs.laws.checked_forest.Goals as goal

pub returns-clause-part : goal.returns-clause-part
returns-clause-part c = part_rules_are_exact

pub returns-clause-forest : goal.returns-clause-forest
returns-clause-forest c = forest_rules_are_exact
