use Rattle.std.proofs.Common.{◌≡◌, ◌-◌, ◌^◌, false}
use Rattle.std.specs.Prelude.{vec_len}
use Rattle.sp_device.specs.Failing.{Never}
use Rattle.sp_tools.proofs.Judging.{HaveVerdicts}
use Rattle.sp_tools.proofs.check_all.judge_blocks.Given as goal

abbrev pub invariant-loop-tree : goal.invariant-loop-tree
invariant-loop-tree g l = record {
  verdicts : HaveVerdicts g.D.Read l.fn.limit l.fn.graph (g.D.Read.left l.fn.trees) l.blocks l.trees l.all.items;
  lasting : g.D.Read.failing l.trees ≡ g.D.Read.failing l.fn.trees;
  sound : g.D.Read.has_failed l.fn.trees ≡ false → g.D.Read.failing l.fn.trees ≡ Never → g.D.Read.has_failed l.trees ≡ false;
}

abbrev pub decreases-loop-tree : goal.decreases-loop-tree
decreases-loop-tree g l = 2 ^ 64 - vec_len l.all
