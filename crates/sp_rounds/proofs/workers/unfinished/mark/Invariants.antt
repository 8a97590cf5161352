use Rattle.std.proofs.Common.{length}
use Rattle.sp_rounds.specs.Work.{numbers_of}
use Rattle.sp_rounds.proofs.Marks.{Marking}
use Rattle.sp_rounds.proofs.workers.unfinished.mark.Given as goal

abbrev pub invariant-loop-first : goal.invariant-loop-first
invariant-loop-first l = Marking (length l.fn.marks.items) (numbers_of l.fn.receipts) (numbers_of l.rest) l.marks.items

abbrev pub decreases-loop-first : goal.decreases-loop-first
decreases-loop-first l = length l.rest
