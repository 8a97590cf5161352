use Rattle.std.proofs.Common.{take}
use Rattle.sp_machine.specs.Closing.{HasJust}
use Rattle.sp_machine.proofs.closing.set_of.Given as goal

abbrev pub invariant-loop-relaxation : goal.invariant-loop-relaxation
invariant-loop-relaxation l = HasJust l.set (take l.relaxation-index l.relaxed)
