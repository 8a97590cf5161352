use Rattle.std.proofs.Common.{sym, subst, lit<, length}
use Rattle.sp_machine.specs.Programme.{IsNumber}
use Rattle.sp_machine.specs.Step.{Machine}
use Rattle.sp_machine.specs.MachineView.{state_of}
use Rattle.sp_machine.proofs.ActorSteps.{is_at, ready_there}
use Rattle.sp_machine.proofs.machine.Machine.next_vertex.Goals as goal

pub place_of-requires : goal.place_of-requires
place_of-requires g c =
    let number : IsNumber (length (state_of c.self.inside).actors) c.args.actor = subst (λ (m : Machine g.row.P). IsNumber (length m.actors) c.args.actor) (sym c.self.view_is) c.requires in
    let there = is_at c.self.inside.programme.now (state_of c.self.inside) c.args.actor c.index-state.result.now c.item-item.result _ number c.index-state.ensures c.item-item.ensures.item c.item-item.ensures.within c.as_ref-item.ensures.value in
    (lit< tt, (lit< tt, ready_there _ _ _ _ _ c.self.invariant there))
