use Rattle.std.proofs.Common.{◌≡◌, length}
use Rattle.sp_parts.specs.Held.{AreHeld}
use Rattle.sp_parts.specs.Stands.{Stands}
use Rattle.sp_parts.proofs.leading.take_rest.Given as goal

abbrev pub invariant-loop-has_taken : goal.invariant-loop-has_taken
invariant-loop-has_taken g l =
    ((begun : g.row.R.Denot) → Stands g.R.Read g.O.Origin.text g.O.Origin.problem begun l.fn.device l.fn.progress.reader l.fn.progress.came.bytes l.fn.progress.taken.bytes → Stands g.R.Read g.O.Origin.text g.O.Origin.problem begun l.fn.device l.progress.reader l.progress.came.bytes l.progress.taken.bytes)
    × AreHeld g.O.Origin.text l.progress.taken.bytes l.progress.flying.items l.progress.came.bytes

abbrev pub decreases-loop-has_taken : goal.decreases-loop-has_taken
decreases-loop-has_taken g l = length l.progress.flying.items
