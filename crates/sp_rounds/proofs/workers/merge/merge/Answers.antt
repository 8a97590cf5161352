use Rattle.sp_rounds.proofs.Both.{merged_ok}
use Rattle.sp_rounds.proofs.workers.merge.merge.Goals as goal

pub returns-in-Ok-Ok : goal.returns-in-Ok-Ok
returns-in-Ok-Ok g c =
    merged_ok _ _ _ _ _ _ c.in-Ok-Ok.is-0 c.in-Ok-Ok.is-1 c.merge_done.ensures.joined c.merge_done.ensures.started c.merge_done.ensures.refused
