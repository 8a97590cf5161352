use Rattle.std.proofs.Common.{◌+◌, ◌*◌, length}
use Rattle.sp_files.proofs.trees.page_making.+fn-make_pages-join_mut+arg3+make_pages.Given as goal

abbrev pub decreases-join_mut+arg3 : goal.decreases-join_mut+arg3
decreases-join_mut+arg3 g l = 2 * length l.right.now + 2

abbrev pub decreases-make_pages : goal.decreases-make_pages
decreases-make_pages g l = 2 * length l.pages.now + 1
