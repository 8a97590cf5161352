use Rattle.std.proofs.Common.{arith}
use Rattle.sp_word.specs.Word.{max_dist}
use Rattle.sp_team.proofs.Rows.{tails_placed}
use Rattle.sp_team.proofs.relax.ask_placed.Goals as goal

pub ask_four-requires : goal.ask_four-requires
ask_four-requires g c = (
  omega arith,
  (
    c.requires.layout,
    (
      c.count.ensures.few,
      (
        c.requires.dist,
        tails_placed g.row.P (max_dist g.row.P) c.args.dist c.args.tail c.args.few _ _ _ _ c.arc.ensures c.arc-2.ensures c.arc-3.ensures c.arc-4.ensures c.requires.some c.requires.tails,
      ),
    ),
  ),
)
