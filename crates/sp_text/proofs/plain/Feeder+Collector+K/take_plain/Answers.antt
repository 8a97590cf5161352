use Rattle.sp_text.proofs.PlainText.{front_comment, front_plain}
use Rattle.sp_text.proofs.plain.Feeder+Collector+K.take_plain.Goals as goal

pub returns-in-Comment-clause-taken : goal.returns-in-Comment-clause-taken
returns-in-Comment-clause-taken g c =
    front_comment g.K.Keep.format g.K.Keep.ranges g.K.Keep.Kept c.args.text.now c.in-Some.more.now c.args.self.now.taker.problem c.args.keep.now (rw c.in-Comment.is at c.in-Some.ensures)

pub returns-in_ok-keep-in-Item-clause-taken : goal.returns-in_ok-keep-in-Item-clause-taken
returns-in_ok-keep-in-Item-clause-taken g c =
    front_plain g.K.Keep.format g.K.Keep.ranges g.K.Keep.Kept c.args.text.now c.in-Some.more.now c.in-Item.values c.args.self.now.taker.problem c.args.keep.now c.keep.new.self (rw c.in-Item.is at c.in-Some.ensures) c.in_ok-keep-in-Item.ensures
