use Rattle.std.proofs.Common.{Err}
use Rattle.std.proofs.lemmas.Result.{err_from_is_err_and}
use Rattle.sp_files.specs.Stream.{stream}
use Rattle.sp_files.proofs.GivenTrees.{block_read, read_never}
use Rattle.sp_files.proofs.trees.blocks.TreeBlocks.read_block.Goals as goal

pub returns-clause-read : goal.returns-clause-read
returns-clause-read g c = λ short.
    block_read g.R.Read (stream c.args.self.now.piece c.args.reader.now) (stream c.feed_block.new.piece c.feed_block.new.reader) (tt {0}) c.feed_block.new.tree c.finish.new.self c.finish.result (c.in_ok-feed_block.ensures.fed short c.new-tree.ensures) c.finish.ensures.finished

pub returns-clause-never : goal.returns-clause-never
returns-clause-never g c = λ short going never.
    read_never g.row.P g.R.Read (stream c.args.self.now.piece c.args.reader.now) c.finish.result (stream c.feed_block.new.piece c.feed_block.new.reader)
    (c.in_ok-feed_block.ensures.going never going) (returns-clause-read g c short)

pub returns-in_err-feed_block-clause-never : goal.returns-in_err-feed_block-clause-never
returns-in_err-feed_block-clause-never g c = λ short going never.
    let p = err_from_is_err_and c.from_residual.result c.from_residual.ensures.1 in
    let told = c.in_err-feed_block.ensures.fed short c.new-tree.ensures in
    rw (p.1, p.2) (read_never g.row.P g.R.Read (stream c.args.self.now.piece c.args.reader.now) (Err c.in_err-feed_block.field-0.0) (stream c.feed_block.new.piece c.feed_block.new.reader)
    (c.in_err-feed_block.ensures.going never going) told)
