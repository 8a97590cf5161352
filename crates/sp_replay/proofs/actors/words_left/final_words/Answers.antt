use Rattle.std.proofs.Common.{rules}
use Rattle.sp_offer.specs.Order.{lawful}
use Rattle.sp_offer.specs.Ending.{IsEnd}
use Rattle.sp_replay.specs.Least.{IsOffered}
use Rattle.sp_replay.proofs.LeastWords.{least_words, left_by_run}
use Rattle.sp_replay.proofs.Making.{all_known}
use Rattle.sp_replay.proofs.actors.words_left.final_words.Goals as goal

pub returns-clause-words : goal.returns-clause-words
returns-clause-words g c =
    let end : IsEnd (lawful g.row.P (IsOffered c.args.programme.now)) c.offer_rows-caller.result c.in_ok-words.words.items = search rules in
    least_words c.args.programme.now c.in_ok-words.words.items c.offer_rows-caller.result (search rules) end (all_known c.args.programme.now c.offer_rows-caller.result.story (search rules))

pub returns-clause-run : goal.returns-clause-run
returns-clause-run g c =
    let end : IsEnd (lawful g.row.P (IsOffered c.args.programme.now)) c.offer_rows-caller.result c.in_ok-words.words.items = search rules in
    left_by_run c.args.programme.now c.in_ok-words.words.items c.offer_rows-caller.result end
