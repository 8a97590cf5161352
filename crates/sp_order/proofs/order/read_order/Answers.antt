use Rattle.clap.specs.Walk.{texts}
use Rattle.sp_order.proofs.Reading.{answer_is}
use Rattle.sp_order.proofs.order.read_order.Goals as goal

pub returns-in-Err : goal.returns-in-Err
returns-in-Err g c =
    answer_is g.C.Commands g.T.From.from_gives (texts c.args.words.now) c.in-Err.error c.answer_to.result c.answer_to.ensures.memory c.answer_to.ensures.text c.answer_to.ensures.usage c.in-Err.ensures
