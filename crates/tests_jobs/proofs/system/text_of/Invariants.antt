use Rattle.std.proofs.Common.{◌≡◌, drop}
use Rattle.tests_jobs.specs.Memory.{text_in}
use Rattle.tests_jobs.proofs.system.text_of.Given as goal

-- The text of the path stands in the files that are left.
abbrev pub invariant-loop-file : goal.invariant-loop-file
invariant-loop-file l = text_in (drop l.file-index l.stored) l.path ≡ text_in l.stored l.path
