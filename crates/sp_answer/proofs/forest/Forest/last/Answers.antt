use Rattle.sp_answer.proofs.ForestRows.{last_is}
use Rattle.sp_answer.proofs.forest.Forest.last.Goals as goal

pub returns-in-Some : goal.returns-in-Some
returns-in-Some g c =
    let rows = rw c.deref.ensures.value at c.in-Some.ensures.item in
    rw (← c.self.view_is) (last_is 0 c.self.inside.rows.items c.in-Some.row.now rows.3.0 rows.1)
