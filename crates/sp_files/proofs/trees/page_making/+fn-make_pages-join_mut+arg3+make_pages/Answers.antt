use Rattle.std.proofs.Common.{◌≡◌, ◌+◌, rules}
use Rattle.std.specs.List.{concat}
use Rattle.sp_files.specs.TreeText.{words_text}
use Rattle.sp_files.proofs.SentRows.{words_parted}
use Rattle.sp_files.proofs.PageRounds.{both_made}
use Rattle.sp_files.proofs.trees.page_making.+fn-make_pages-join_mut+arg3+make_pages.Goals as goal

pub returns-clause-text : goal.returns-clause-text
returns-clause-text g t c =
    let first = c.args.first in
    let share = c.first_share-share.result in
    let group = c.split_at.result.0.now in
    let later = c.split_at.result.1.now in
    let own : concat c.left-1.given.0 ≡ words_text first group = search rules in
    let others : concat c.right-1.given.0 ≡ words_text (first + share) later = search rules in
    both_made c.left-1.given.0 c.right-1.given.0 _ _ _ own others (words_parted first share c.args.words.now group later c.first_share-share.ensures.within c.split_at.ensures.front c.split_at.ensures.back)
