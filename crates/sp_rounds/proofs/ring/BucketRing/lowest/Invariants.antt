use Rattle.std.proofs.Common.{◌+◌, ◌≤◌, All}
use Rattle.sp_rounds.specs.Content.{bucket_of}
use Rattle.sp_rounds.proofs.ring.BucketRing.lowest.Given as goal

abbrev pub invariant-loop-offset : goal.invariant-loop-offset
invariant-loop-offset l = All (λ entry. l.self.first + l.offset ≤ bucket_of l.self.delta entry) l.self.entries
