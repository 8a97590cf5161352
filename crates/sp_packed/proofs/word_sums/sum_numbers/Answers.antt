use Rattle.std.proofs.Common.{refl}
use Rattle.sp_packed.specs.Words.{sum_words}
use Rattle.sp_packed.proofs.word_sums.sum_numbers.Goals as goal

pub returns-clause-words : goal.returns-clause-words
unfolding sum_words
returns-clause-words c = refl
