use Rattle.std.proofs.Common.{◌≡◌}
use Rattle.sp_run.specs.RunFromAny.{KnowsOwn}
use Rattle.sp_run.proofs.run.RunFromAny.turns.Given as goal

abbrev pub invariant-loop : goal.invariant-loop
invariant-loop g l = (l.caller.table ≡ l.table.id) × KnowsOwn l.self.sources l.caller
