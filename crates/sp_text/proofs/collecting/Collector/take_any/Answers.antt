use Rattle.std.proofs.Common.{inl}
use Rattle.sp_text.specs.Text.{problem_of, items_of, judge}
use Rattle.sp_text.specs.Formats.{format_of}
use Rattle.sp_text.specs.Collecting.{IsAfter}
use Rattle.sp_text.proofs.KeptLine.{comment_taken, bad_taken, problem_taken, item_taken, takes_from, found_at, are_seen}
use Rattle.sp_text.proofs.collecting.Collector.take_any.Goals as goal

pub returns-in-Comment : goal.returns-in-Comment
returns-in-Comment g c = λ before h.
    let is = rw c.format.ensures.format at c.in-Comment.ensures in
    comment_taken g.K.Keep.format g.K.Keep.ranges g.K.Keep.Kept before c.args.line.now c.args.self.now.keep c.args.self.now.problem c.args.self.now.counts is h

pub returns-in-Bad : goal.returns-in-Bad
returns-in-Bad g c = λ before h.
    let is = rw c.format.ensures.format at c.in-Bad.ensures in
    inl (bad_taken g.K.Keep.format g.K.Keep.ranges before c.args.line.now is)

pub returns-in-Problem : goal.returns-in-Problem
returns-in-Problem g c = λ before h.
    let found = rw c.in-Problem.is at (found_at g.K.Keep.format (format_of c.format.result) g.K.Keep.ranges c.ranges-2.result c.unwrap_or-problem.result.now c.args.line.now c.read_line.result c.format.ensures.format c.ranges-2.ensures c.read_line.ensures) in
    takes_from (judge g.K.Keep.format g.K.Keep.ranges) (λ c' lines. IsAfter g.K.Keep.format g.K.Keep.Kept lines c'.keep c'.problem c'.counts) before c.args.line.now c.take_problem.result c.take_problem.new.self
    (problem_taken g.K.Keep.format g.K.Keep.ranges g.K.Keep.Kept before c.args.line.now found.0 c.take_problem.result c.take_problem.new.self.keep c.take_problem.new.self.problem c.take_problem.new.self.counts
    found.1 (c.take_problem.ensures (problem_of g.K.Keep.format before) (items_of g.K.Keep.format before) found.0 h found.2))

pub returns-in-Item : goal.returns-in-Item
returns-in-Item g c = λ before h.
    let found = rw c.in-Item.is at (found_at g.K.Keep.format (format_of c.format.result) g.K.Keep.ranges c.ranges-2.result c.unwrap_or-problem.result.now c.args.line.now c.read_line.result c.format.ensures.format c.ranges-2.ensures c.read_line.ensures) in
    let are = are_seen g.K.Keep.ranges c.args.self.now.problem c.as_ref.result _ c.unwrap_or-problem.result found.0 c.in-Item.numbers c.as_ref.ensures.value c.unwrap_or-problem.ensures found.6 in
    takes_from (judge g.K.Keep.format g.K.Keep.ranges) (λ c' lines. IsAfter g.K.Keep.format g.K.Keep.Kept lines c'.keep c'.problem c'.counts) before c.args.line.now c.take_item.result c.take_item.new.self
    (item_taken g.K.Keep.format g.K.Keep.ranges g.K.Keep.Kept before c.args.line.now found.0 c.take_item.result c.take_item.new.self.keep c.take_item.new.self.problem c.take_item.new.self.counts
    found.1 (c.take_item.ensures (problem_of g.K.Keep.format before) (items_of g.K.Keep.format before) found.0 h found.2 found.3 found.4 (rw h.problem_is at are)))
