use Rattle.std.proofs.Common.{sym, ◌∙◌, arith}
use Rattle.sp_serial.proofs.PartRows.{gained_again, gained_row, pair_is}
use Rattle.sp_serial.proofs.part.push_word.Goals as goal

pub returns-then-last-vertex : goal.returns-then-last-vertex
returns-then-last-vertex g c =
    gained_again g.row.P c.args.tree.now c.args.vertex c.args.word c.n.ensures.table c.requires.vertex.0 (sym c.last-last.ensures ∙ c.if-last-vertex.true) c.requires.before

pub returns : goal.returns
returns g c =
    let pair = c.in-Some-Some in
    let is = pair_is c.args.word pair.dist pair.pred pair.ensures.dist pair.ensures'.pred in
    gained_row g.row.P c.args.tree.now c.push_row.new.self c.args.vertex pair.dist pair.pred c.args.word c.n.ensures.table (omega (arith, c.last-last.ensures, c.if-last-vertex.false, c.if-last-vertex-2.false)) is c.in_ok-push_row.ensures.tree
