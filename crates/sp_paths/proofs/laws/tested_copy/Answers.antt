use Rattle.sp_paths.proofs.Sweep.{tested_is_settled, tested_is_pair, settled_is_least, shorter_is_later}
use Rattle.sp_paths.proofs.laws.tested_copy.Goals as goal

pub returns-clause-settled : goal.returns-clause-settled
returns-clause-settled c = tested_is_settled

pub returns-clause-pair : goal.returns-clause-pair
returns-clause-pair c = tested_is_pair

pub returns-clause-least : goal.returns-clause-least
returns-clause-least c = settled_is_least

pub returns-clause-later : goal.returns-clause-later
returns-clause-later c = shorter_is_later
