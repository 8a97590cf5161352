use Rattle.std.proofs.Common.{List, subst}
use Rattle.std.specs.Prelude.{All, IsTrue, ◌↔◌}
use Rattle.sp_word.specs.Word.{Word}
use Rattle.sp_machine.specs.Closing.{HasJust}
use Rattle.sp_machine.specs.LogView.{log_of}
use Rattle.sp_machine.specs.Run.{IsItemClosed}
use Rattle.sp_machine.proofs.Reports.{whole_run, reported, linear, tree, few_losses}
use Rattle.sp_machine.proofs.running.replay.Goals as goal

pub returns-clause-report : goal.returns-clause-report
returns-clause-report g c =
    let ran = whole_run (record { machine = c.loop-actor.machine; log = log_of c.loop-actor.log }) c.args.programme.now c.args.schedule.now c.loop-actor.actor-index c.loop-actor.invariant.rest c.loop-actor-test.false in
    reported c.args.programme.now c.args.schedule.now c.loop-actor.machine c.loop-actor.log c.into_words.result c.rows.result.now c.is_closed-closed.result ran c.into_words.ensures c.rows.ensures.rows
    (subst (λ (words : List Word). IsTrue c.is_closed-closed.result ↔ All (λ row. All (IsItemClosed words c.loop-actor.log.relaxed.items) row.items) c.rows.result.now) c.words.ensures
    (c.is_closed-closed.ensures c.loop-actor.log.relaxed.items (subst (λ relaxed. HasJust c.in_ok-done.done relaxed) c.deref.ensures.value c.in_ok-done.ensures)))

pub returns-clause-linear : goal.returns-clause-linear
returns-clause-linear g c =
    let ran = whole_run (record { machine = c.loop-actor.machine; log = log_of c.loop-actor.log }) c.args.programme.now c.args.schedule.now c.loop-actor.actor-index c.loop-actor.invariant.rest c.loop-actor-test.false in
    linear c.args.programme.now c.args.schedule.now c.loop-actor.machine c.loop-actor.log c.into_words.result.items c.rows.ensures.programme c.requires ran c.into_words.ensures

pub returns-clause-tree : goal.returns-clause-tree
returns-clause-tree g c = tree c.args.programme.now c.args.schedule.now _ c.rows.ensures.programme c.requires (returns-clause-report g c)

pub returns-clause-losses : goal.returns-clause-losses
returns-clause-losses g c =
    let ran = whole_run (record { machine = c.loop-actor.machine; log = log_of c.loop-actor.log }) c.args.programme.now c.args.schedule.now c.loop-actor.actor-index c.loop-actor.invariant.rest c.loop-actor-test.false in
    few_losses c.args.programme.now c.args.schedule.now c.loop-actor.machine c.loop-actor.log c.rows.ensures.programme c.requires ran
