use Rattle.std.proofs.Common.{ℕ, ◌≤◌, List, length}
use Rattle.sp_text.specs.Plain.{HasProblem}
use Rattle.sp_parts.proofs.TextParts.{IsRead}
use Rattle.sp_parts.proofs.parts.read_part.Given as goal

abbrev pub invariant-loop-rest : goal.invariant-loop-rest
invariant-loop-rest g l = (length l.rest ≤ length l.text) × ((ps : List ℕ) → HasProblem l.reader ps → IsRead g.K.Keep.format g.K.Keep.ranges g.K.Keep.Kept ps l.text l.from l.rest l.keep l.lines)

abbrev pub decreases-loop-rest : goal.decreases-loop-rest
decreases-loop-rest g l = length l.rest
