use Rattle.std.proofs.Common.{map, take}
use Rattle.sp_jobs.specs.Told.{IsWritten}
use Rattle.sp_jobs.proofs.writing.write_group.Given as goal

abbrev pub invariant-loop-found : goal.invariant-loop-found
invariant-loop-found g l = IsWritten g.W.Write (map g.Q.Question.told (take l.found-index l.group)) l.fn.out l.summary l.out
