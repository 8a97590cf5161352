use Rattle.sp_files.proofs.SentRows.{both_sent}
use Rattle.sp_files.proofs.PageRounds.{page_behind}
use Rattle.sp_files.proofs.trees.word_sharing.send_made.Goals as goal

pub loop-page-preserved : goal.loop-page-preserved
loop-page-preserved g c = both_sent g.W.Write _ _ _ _ _ _ _ _ _ c.loop-page.invariant (rw c.text.ensures at c.print_text.ensures) (page_behind c.loop-page.page-index c.args.pages.now c.page-item.result c.loop-page-test.true c.page-item.is)
