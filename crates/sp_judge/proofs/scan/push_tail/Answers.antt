use Rattle.sp_word.specs.Word.{max_dist}
use Rattle.sp_paths.specs.Paths.{word_at}
use Rattle.sp_judge.proofs.OpenTails.{takes_open, takes_relaxed}
use Rattle.sp_judge.proofs.scan.push_tail.Goals as goal

pub returns-in_ok-push-in-Open : goal.returns-in_ok-push-in-Open
returns-in_ok-push-in-Open g c = takes_open (max_dist g.row.P) (word_at c.args.words.now) c.args.arc c.args.tails.now.items c.push.new.self.items c.in_ok-push-in-Open.ensures.items c.in-Open.ensures

pub returns-in-Whole : goal.returns-in-Whole
returns-in-Whole g c = takes_relaxed (max_dist g.row.P) (word_at c.args.words.now) c.args.arc c.args.tails.now.items c.in-Whole.ensures.0

pub returns-in-LeavesOut : goal.returns-in-LeavesOut
returns-in-LeavesOut g c = takes_relaxed (max_dist g.row.P) (word_at c.args.words.now) c.args.arc c.args.tails.now.items c.in-LeavesOut.ensures.0
