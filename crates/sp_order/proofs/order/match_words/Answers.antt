use Rattle.clap.specs.Walk.{texts}
use Rattle.sp_order.proofs.Reading.{by_clap, by_command, by_matches, ordered}
use Rattle.sp_order.proofs.order.match_words.Goals as goal

pub returns-in-Ok-Some : goal.returns-in-Ok-Some
returns-in-Ok-Some g c =
    ordered g.C.Commands (texts c.args.words.now) c.told_of_all.result c.in_ok-program.program c.in-Ok.matches c.in-Ok-Some.order c.told_of_all.ensures c.in_ok-program.ensures
    c.in-Ok.ensures.ok.2 (rw c.in-Ok-Some.field-0-is at c.in-Ok-Some.ensures.read)

pub returns-in-Ok-None : goal.returns-in-Ok-None
returns-in-Ok-None g c =
    by_matches g.C.Commands (texts c.args.words.now) c.told_of_all.result c.in_ok-program.program c.in-Ok.matches _ c.told_of_all.ensures c.in_ok-program.ensures
    c.in-Ok.ensures.ok.2 (rw c.in-Ok-None.field-0-is at c.in-Ok-None.ensures.read)

pub returns-in-Ok : goal.returns-in-Ok
returns-in-Ok g c =
    by_command g.C.Commands (texts c.args.words.now) c.told_of_all.result c.in_ok-program.program c.in-Ok.matches c.in-Err-order_of.error c.told_of_all.ensures c.in_ok-program.ensures
    c.in-Ok.ensures.ok.2 c.in-Err-order_of.ensures.refused

pub returns : goal.returns
returns g c =
    by_clap g.C.Commands (texts c.args.words.now) c.told_of_all.result c.in_ok-program.program c.try_get_matches_from_mut.result c.in-Err.error c.told_of_all.ensures c.in_ok-program.ensures
    c.in-Err.is c.try_get_matches_from_mut.ensures.passes c.try_get_matches_from_mut.ensures.kinds
