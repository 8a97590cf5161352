use Rattle.std.proofs.Common.{List, take}
use Rattle.std.specs.Prelude.{All}
use Rattle.sp_machine.specs.declared.effect.Relaxation.{Relaxation}
use Rattle.sp_machine.specs.Run.{IsItemClosed}
use Rattle.sp_machine.specs.Closing.{HasJust}
use Rattle.sp_machine.proofs.closing.is_closed.Given as goal

abbrev pub invariant-loop-row : goal.invariant-loop-row
invariant-loop-row g l = (relaxed : List Relaxation) → HasJust l.done relaxed → All (λ row. All (IsItemClosed l.words relaxed) row.items) (take l.row-index l.rows)
