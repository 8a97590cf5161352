use Rattle.std.proofs.Common.{length}
use Rattle.sp_text.proofs.matching.+are_numbers.Given as goal

abbrev pub decreases-are_numbers : goal.decreases-are_numbers
decreases-are_numbers l = length l.fields.now
