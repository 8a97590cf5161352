use Rattle.std.proofs.Common.{◌≡◌}
use Rattle.sp_disk.proofs.place.Destination.begin.Given as goal

-- Nothing was made, and nothing found has changed.
abbrev pub invariant-loop : goal.invariant-loop
invariant-loop g l =
    let system = g.S.System in
    record {
      made : system.made l.system ≡ system.made l.fn.system;
      found : system.found l.system ≡ system.found l.fn.system;
    }
