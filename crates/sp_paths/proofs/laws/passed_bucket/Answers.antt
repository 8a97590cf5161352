use Rattle.sp_paths.proofs.Settle.{passed_is_settled, passed_is_pair}
use Rattle.sp_paths.proofs.laws.passed_bucket.Goals as goal

pub returns-clause-settled : goal.returns-clause-settled
returns-clause-settled c = passed_is_settled

pub returns-clause-pair : goal.returns-clause-pair
returns-clause-pair c = passed_is_pair
