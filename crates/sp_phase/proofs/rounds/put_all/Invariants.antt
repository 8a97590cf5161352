use Rattle.std.proofs.Common.{◌≡◌, ◌++◌, take}
use Rattle.std.specs.List.Sorted.{IsPermutation}
use Rattle.sp_phase.proofs.rounds.put_all.Given as goal

abbrev pub invariant-loop-entry : goal.invariant-loop-entry
invariant-loop-entry l = (l.buckets.delta ≡ l.fn.buckets.delta) × IsPermutation (l.fn.buckets.entries ++ take l.entry-index l.entries) l.buckets.entries
