use Rattle.sp_answer.proofs.ForestRows.{row_added}
use Rattle.sp_answer.proofs.forest.Forest.push_row.Goals as goal

pub invariant_of-self-2 : goal.invariant_of-self-2
invariant_of-self-2 g c =
    let asked = rw (← c.self.view_is) at c.requires in
    row_added g.row.P c.self.inside.n c.self.inside.rows.items c.push.new.self.items c.args.vertex c.args.dist c.args.pred c.args.root c.pack.result c.self.invariant asked.above asked.most asked.dist asked.pred asked.root c.pack.ensures c.in_ok-push.ensures.items

pub returns-clause-table : goal.returns-clause-table
returns-clause-table g c =
    let asked = rw (← c.self.view_is) at c.requires in
    row_added g.row.P c.self.inside.n c.self.inside.rows.items c.push.new.self.items c.args.vertex c.args.dist c.args.pred c.args.root c.pack.result c.self.invariant asked.above asked.most asked.dist asked.pred asked.root c.pack.ensures c.in_ok-push.ensures.items
