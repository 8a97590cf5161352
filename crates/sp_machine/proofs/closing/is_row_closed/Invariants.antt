use Rattle.std.proofs.Common.{List, take}
use Rattle.std.specs.Prelude.{All}
use Rattle.sp_machine.specs.declared.effect.Relaxation.{Relaxation}
use Rattle.sp_machine.specs.Run.{IsItemClosed}
use Rattle.sp_machine.specs.Closing.{HasJust}
use Rattle.sp_machine.proofs.closing.is_row_closed.Given as goal

abbrev pub invariant-loop-item : goal.invariant-loop-item
invariant-loop-item g l = (relaxed : List Relaxation) → HasJust l.done relaxed → All (IsItemClosed l.words relaxed) (take l.item-index l.row)
