use Rattle.std.proofs.Common.{◌≡◌, drop, length, vec_len}
use Rattle.sp_machine.specs.Run.{run_from, run_of}
use Rattle.sp_machine.specs.LogView.{log_of}
use Rattle.sp_machine.proofs.running.replay.Given as goal

abbrev pub invariant-loop-actor : goal.invariant-loop-actor
invariant-loop-actor g l = record {
  actors : length l.machine.actors ≡ l.programme.actors;
  begun : vec_len l.log.begun ≡ l.programme.actors;
  steps : l.log.steps ≡ l.actor-index;
  rest : run_from (record { machine = l.machine; log = log_of l.log }) (drop l.actor-index l.schedule) ≡ run_of l.programme l.schedule;
}
