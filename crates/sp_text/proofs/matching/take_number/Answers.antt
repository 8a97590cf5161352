use Rattle.std.proofs.Common.{[]}
use Rattle.sp_text.specs.Lines.{fields_from}
use Rattle.sp_text.proofs.Forms.{out_here}
use Rattle.sp_text.proofs.matching.take_number.Goals as goal

pub returns-then-are_numbers : goal.returns-then-are_numbers
returns-then-are_numbers c =
    out_here c.args.ranges.now c.args.problem.now c.args.field.now c.args.more.now c.in-Some.ensures.0 (fields_from [] c.in-Some.rest.now) (fields_from [] c.args.text.now) c.greatest-most.result c.in-Some.numeral
    c.in-Some.ensures.1 c.greatest-most.ensures c.in-Some.ensures.2 c.in-Out.is c.if-are_numbers.ensures
