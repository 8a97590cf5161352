-- A log as the definition of a run sees it.
use Rattle.std.specs.Prelude.{ℕ}
use Rattle.sp_machine.specs.Run as runs
use Rattle.sp_machine.specs.declared.log.Log.{Log}

-- This is what contracts see of a log.
abbrev pub log_of : {P : ℕ} → Log P → runs.Log P
log_of log = record { steps = log.steps; begun = log.begun.items; calls = log.calls.items; relaxed = log.relaxed.items; wins = log.wins; losses = log.losses }
