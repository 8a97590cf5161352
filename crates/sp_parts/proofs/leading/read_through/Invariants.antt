use Rattle.sp_parts.specs.Held.{AreHeld}
use Rattle.sp_parts.specs.Stands.{Goes}
use Rattle.sp_parts.proofs.leading.read_through.Given as goal

abbrev pub invariant-loop : goal.invariant-loop
invariant-loop g l =
    Goes g.R.Read g.O.Origin.text g.O.Origin.problem l.fn.device l.fn.progress.reader l.fn.progress.came.bytes l.fn.progress.taken.bytes l.device l.progress.reader l.progress.came.bytes l.progress.taken.bytes l.progress.received
    × AreHeld g.O.Origin.text l.progress.taken.bytes l.progress.flying.items l.progress.came.bytes
