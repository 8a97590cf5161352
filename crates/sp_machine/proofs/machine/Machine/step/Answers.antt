use Rattle.std.proofs.Common.{sym, ap, ◌∙◌, subst, lit<, length}
use Rattle.sp_word.specs.Word.{max_dist}
use Rattle.sp_machine.specs.Programme.{IsNumber}
use Rattle.sp_machine.specs.Step.{turn, words_after, Machine}
use Rattle.sp_machine.specs.MachineView.{state_of}
use Rattle.sp_machine.proofs.ActorSteps.{is_at, ready_there, pair_there, goes_on}
use Rattle.sp_machine.proofs.machine.Machine.step.Goals as goal

pub place_of-place-requires : goal.place_of-place-requires
place_of-place-requires g c =
    let number : IsNumber (length (state_of c.self.inside).actors) c.args.actor = subst (λ (m : Machine g.row.P). IsNumber (length m.actors) c.args.actor) (sym c.self.view_is) c.requires in
    let there = is_at c.self.inside.programme.now (state_of c.self.inside) c.args.actor c.index.result.now c.item-item.result _ number c.index.ensures c.item-item.ensures.item c.item-item.ensures.within c.as_ref-item.ensures.value in
    (lit< tt, (lit< tt, ready_there _ _ _ _ _ c.self.invariant there))

pub effect_of-last-requires : goal.effect_of-last-requires
effect_of-last-requires g c =
    let number : IsNumber (length (state_of c.self.inside).actors) c.args.actor = subst (λ (m : Machine g.row.P). IsNumber (length m.actors) c.args.actor) (sym c.self.view_is) c.requires in
    let there = is_at c.self.inside.programme.now (state_of c.self.inside) c.args.actor c.index.result.now c.item-item.result _ number c.index.ensures c.item-item.ensures.item c.item-item.ensures.within c.as_ref-item.ensures.value in
    let turned = c.turn_of-turn.ensures ∙ ap (λ place. turn (max_dist g.row.P) place c.index.result.now.held c.word_found-found.result) c.place_of-place.ensures in
    (lit< tt, (lit< tt, (lit< tt, (lit< tt, (c.self.invariant.layout, (ready_there _ _ _ _ _ c.self.invariant there, pair_there _ _ _ _ _ _ _ there turned))))))

pub invariant_of-self : goal.invariant_of-self
invariant_of-self g c =
    let number : IsNumber (length (state_of c.self.inside).actors) c.args.actor = subst (λ (m : Machine g.row.P). IsNumber (length m.actors) c.args.actor) (sym c.self.view_is) c.requires in
    let there = is_at c.self.inside.programme.now (state_of c.self.inside) c.args.actor c.index.result.now c.item-item.result _ number c.index.ensures c.item-item.ensures.item c.item-item.ensures.within c.as_ref-item.ensures.value in
    let turned = c.turn_of-turn.ensures ∙ ap (λ place. turn (max_dist g.row.P) place c.index.result.now.held c.word_found-found.result) c.place_of-place.ensures in
    goes_on c.self.inside.programme.now (state_of c.self.inside) c.args.actor c.index.result.now _ c.word_found-found.result c.turn_of-turn.result c.store_win.new.words.items c.after.result _ c.self.invariant number there turned (c.store_win.ensures ∙ ap (λ place. words_after c.self.inside.words.items place c.turn_of-turn.result) c.place_of-place.ensures) c.after.ensures
