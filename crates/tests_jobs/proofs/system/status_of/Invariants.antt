use Rattle.std.proofs.Common.{◌≡◌, drop}
use Rattle.tests_jobs.specs.InMemory.{id_from}
use Rattle.tests_jobs.proofs.system.status_of.Given as goal

-- The first file with this path is among those that are left.
abbrev pub invariant-loop-index : goal.invariant-loop-index
invariant-loop-index l = id_from l.index (drop l.index l.stored) l.path ≡ id_from 0 l.stored l.path
