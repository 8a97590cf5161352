use Rattle.std.proofs.Common.{◌≡◌, arith}
use Rattle.std.proofs.lemmas.Bool.Decides.{nat_tests}
use Rattle.sp_pairs.specs.Slots.{pair_at}
use Rattle.sp_pairs.proofs.SlotSteps.{kept}
use Rattle.sp_pairs.proofs.asking.keep_answer.Goals as goal

pub returns-then-target-pair-clause-held : goal.returns-then-target-pair-clause-held
returns-then-target-pair-clause-held g c =
    let pairs = c.args.pairs.now in
    let pair = c.args.pair in
    let source : (pair_at pairs c.args.place).0 ≡ pair.0 = grind (arith, nat_tests, c.if-source-pair.true) in
    let target : (pair_at pairs c.args.place).1 ≡ pair.1 = c.if-target-pair.true in
    kept g.A.TargetAnswer.is_answer c.args.graph.now pairs pair.0 pair.1 c.args.slots.now.items c.args.place c.args.answer c.requires.held source target c.requires.answer
