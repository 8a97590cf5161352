use Rattle.std.proofs.Common.{◌≡◌, ◌++◌, drop, map}
use Rattle.std.specs.Prelude.{All}
use Rattle.sp_picture.specs.Ties.{IsTie, lost_from}
use Rattle.sp_picture.proofs.ties.ties_of.Given as goal

abbrev pub invariant-loop-place : goal.invariant-loop-place
invariant-loop-place g l = record {
  lost : map (λ tie. tie.lost) l.ties.items ++ lost_from l.place (drop l.place l.marks) ≡ lost_from 0 l.marks;
  each : All (IsTie l.marks) l.ties.items;
}
