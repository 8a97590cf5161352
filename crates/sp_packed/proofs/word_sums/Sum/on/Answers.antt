use Rattle.std.proofs.Common.{refl, sym, ap, ◌∙◌}
use Rattle.std.proofs.lemmas.List.{take_all}
use Rattle.sp_packed.specs.Words.{sum_on}
use Rattle.sp_packed.proofs.Spelling.{sum_on-more}
use Rattle.sp_packed.proofs.word_sums.Sum.on.Goals as goal

pub loop-number-init : goal.loop-number-init
unfolding sum_on
loop-number-init c = refl

pub loop-number-preserved : goal.loop-number-preserved
loop-number-preserved c = sum_on-more c.args.self _ c.args.numbers.now c.loop-number.number-index c.loop-number-test.true c.loop-number.invariant

pub returns : goal.returns
returns c = sym (c.loop-number.invariant) ∙ ap (sum_on c.args.self) (take_all c.loop-number.number-index c.args.numbers.now c.loop-number-test.false)
