use Rattle.std.proofs.Common.{refl, subst, Vec, Global}
use Rattle.std.specs.Prelude.{All}
use Rattle.sp_machine.specs.declared.item.Item.{Item}
use Rattle.sp_machine.specs.Run.{IsItemClosed}
use Rattle.sp_machine.proofs.Everywhere.{more_all, whole_all}
use Rattle.sp_machine.proofs.closing.is_closed.Goals as goal

pub loop-row-preserved : goal.loop-row-preserved
loop-row-preserved g c = λ relaxed just.
    more_all (λ (row : Vec (Item g.row.P) Global). All (IsItemClosed c.args.words.now relaxed) row.items) c.args.rows.now c.loop-row.row-index c.row-item.result
    (c.loop-row.invariant relaxed just)
    (subst (All (IsItemClosed c.args.words.now relaxed)) c.deref.ensures.value ((c.is_row_closed.ensures relaxed just).0 c.if-not-is_row_closed.false)) c.row-item.is c.loop-row-test.true

pub returns : goal.returns
returns g c = λ relaxed just.
    let all = whole_all (λ (row : Vec (Item g.row.P) Global). All (IsItemClosed c.args.words.now relaxed) row.items) c.args.rows.now c.loop-row.row-index (c.loop-row.invariant relaxed just) c.loop-row-test.false in
    (λ _. all, λ _. refl)
