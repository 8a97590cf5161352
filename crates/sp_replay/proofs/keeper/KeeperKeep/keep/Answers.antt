use Rattle.std.proofs.Common.{refl}
use Rattle.sp_replay.proofs.KeepSteps.{start_kept, item_kept, on_ok}
use Rattle.sp_replay.proofs.keeper.KeeperKeep.keep.Goals as goal

pub returns-in-0 : goal.returns-in-0
returns-in-0 g c = λ before line h kind numbers. on_ok c.name.result c.name.ensures.named (λ named.
    rw (c.name.ensures.rows, c.name.ensures.steps) (start_kept before line _ _ _ _ _ _ c.args.values.now c.args.place c.get.result h kind numbers c.in-0.is c.get.ensures named.0
    (rw (named.1, c.get.ensures, c.word_at.ensures) refl)))

pub returns-in-1 : goal.returns-in-1
returns-in-1 g c = λ before line h kind numbers. on_ok c.push.result c.push.ensures (λ pushed.
    item_kept before line _ _ _ _ _ c.args.values.now c.args.place c.get-in-1.result _ h kind numbers (rw c.in-1.is refl) (rw c.in-1.is refl) c.get-in-1.ensures
    (rw (c.in-1.is, c.offer_at.ensures) refl) pushed)
