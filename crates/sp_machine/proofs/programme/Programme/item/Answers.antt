use Rattle.sp_machine.proofs.Plans.{within_words}
use Rattle.sp_machine.proofs.programme.Programme.item.Goals as goal

pub returns-clause-within : goal.returns-clause-within
returns-clause-within g c = rw (← c.self.view_is) (within_words _ c.self.invariant.1 c.args.actor c.args.k c.find_item.result (rw c.deref.ensures.value at c.find_item.ensures.item))
