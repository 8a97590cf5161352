use Rattle.sp_cert.proofs.Exact.{rules_are_exact}
use Rattle.sp_cert.proofs.laws.checked_table.Goals as goal

pub returns : goal.returns
returns c = rules_are_exact
