use Rattle.sp_serial.proofs.Touching.{touched_sorted}
use Rattle.sp_serial.proofs.tracked_words.sort.Goals as goal

pub returns-clause-tracked : goal.returns-clause-tracked
returns-clause-tracked g c =
    touched_sorted c.args.tracked.now.reached.items c.sort_unstable.new.self.items c.args.tracked.now.words.items c.sort_unstable.ensures.permutation c.requires
