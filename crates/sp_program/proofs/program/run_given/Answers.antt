use Rattle.std.proofs.Common.{refl, ap, ◌∙◌}
use Rattle.clap.specs.Walk.{texts}
use Rattle.sp_program.proofs.Leaving.{carried_as, memory_is_carried}
use Rattle.sp_program.proofs.program.run_given.Goals as goal

pub returns-in_default-clause-obeyed : goal.returns-in_default-clause-obeyed
returns-in_default-clause-obeyed g c = memory_is_carried refl c.tell_memory.ensures.status c.tell_memory.ensures.told

pub returns-then-not-take_stack-clause-obeyed : goal.returns-then-not-take_stack-clause-obeyed
returns-then-not-take_stack-clause-obeyed g c = memory_is_carried refl c.tell_memory-then-not-take_stack.ensures.status c.tell_memory-then-not-take_stack.ensures.told

pub returns-clause-obeyed : goal.returns-clause-obeyed
returns-clause-obeyed g c = carried_as (ap texts c.deref.ensures.value ∙ c.in-Ok.ensures) c.run_words.ensures.obeyed
