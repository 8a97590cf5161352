use Rattle.sp_replay.proofs.RowSteps.{first_rows}
use Rattle.sp_replay.proofs.rows.ActorItems.give.Goals as goal

pub returns-clause-given : goal.returns-clause-given
returns-clause-given g c = rw (c.truncate.ensures.items, c.replace-rows.ensures.value) (first_rows (λ row. row.items) c.args.actors c.self.inside.rows.items c.args.self.now c.self.view_is)
