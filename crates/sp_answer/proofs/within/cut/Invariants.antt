use Rattle.std.proofs.Common.{◌≡◌, ◌++◌, take, drop}
use Rattle.std.specs.Prelude.{map}
use Rattle.sp_answer.specs.Within.{up_to}
use Rattle.sp_answer.proofs.within.cut.Given as goal

abbrev pub invariant-loop-place : goal.invariant-loop-place
invariant-loop-place g l = l.words.items ≡ map (up_to l.limit) (take l.place l.initial.words.items) ++ drop l.place l.initial.words.items
