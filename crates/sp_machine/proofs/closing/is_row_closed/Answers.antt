use Rattle.std.proofs.Common.{refl}
use Rattle.sp_machine.specs.Run.{IsItemClosed}
use Rattle.sp_machine.proofs.Everywhere.{more_all, whole_all}
use Rattle.sp_machine.proofs.closing.is_row_closed.Goals as goal

pub loop-item-preserved : goal.loop-item-preserved
loop-item-preserved g c = λ relaxed just.
    more_all (IsItemClosed c.args.words.now relaxed) c.args.row.now c.loop-item.item-index c.item-item.result
    (c.loop-item.invariant relaxed just) ((c.is_item_closed.ensures relaxed just).0 c.if-not-is_item_closed.false) c.item-item.is c.loop-item-test.true

pub returns : goal.returns
returns g c = λ relaxed just.
    let all = whole_all (IsItemClosed c.args.words.now relaxed) c.args.row.now c.loop-item.item-index (c.loop-item.invariant relaxed just) c.loop-item-test.false in
    (λ _. all, λ _. refl)
