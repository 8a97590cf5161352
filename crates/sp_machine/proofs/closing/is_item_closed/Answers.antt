use Rattle.std.proofs.Common.{sym, IsTrue, ◌↔◌, subst}
use Rattle.sp_machine.specs.declared.item.Item.{Item}
use Rattle.sp_machine.specs.Run.{IsItemClosed}
use Rattle.sp_machine.proofs.Finishes.{reached_closed}
use Rattle.sp_machine.proofs.closing.is_item_closed.Goals as goal

pub returns : goal.returns
returns g c = λ relaxed just.
    let at_arc = reached_closed g.row.P c.args.done.now c.args.words.now relaxed c.in-Relax.tail c.in-Relax.head c.in-Relax.len c.in-Some.dist c.contains.result just (sym c.in-Some.ensures) c.contains.ensures in
    subst (λ (item : Item g.row.P). IsTrue c.contains.result ↔ IsItemClosed c.args.words.now relaxed item) (sym c.in-Relax.is) at_arc
