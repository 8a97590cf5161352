use Rattle.std.proofs.Common.{◌≡◌, length}
use Rattle.sp_files.proofs.SentRows.{IsSentBut}
use Rattle.sp_files.proofs.pages.send_rows.Given as goal

abbrev pub invariant-loop-rest : goal.invariant-loop-rest
invariant-loop-rest g l = record {
  page : length l.page ≡ length l.fn.page;
  sent : IsSentBut g.W.Write (g.R.RowSource.text l.fn.rows) (g.R.RowSource.text l.rest) l.fn.out l.fn.printer l.out l.printer;
}

abbrev pub decreases-loop-rest : goal.decreases-loop-rest
decreases-loop-rest g l = g.R.RowSource.size l.rest
