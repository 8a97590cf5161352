use Rattle.std.proofs.Common.{arith}
use Rattle.sp_files.proofs.PageRounds.{one_more_empty}
use Rattle.sp_files.proofs.trees.word_sharing.new_pages.Goals as goal

pub loop-preserved : goal.loop-preserved
loop-preserved c = record {
  size = omega (arith, c.in_ok-push.ensures.len, c.loop.invariant.size);
  empty = one_more_empty c.loop.pages.items c.push.new.self.items c.in_ok-new.field-0 c.loop.invariant.empty c.in_ok-new.ensures c.in_ok-push.ensures.items;
}
