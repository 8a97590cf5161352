use Rattle.sp_order.proofs.Answering.{answered, unwritten}
use Rattle.sp_order.proofs.run.run_line.Goals as goal

pub returns-clause-obeyed : goal.returns-clause-obeyed
returns-clause-obeyed g c = answered _ _ _ _ _ g.E.Write _ _ _ _ _ c.obey-answer.ensures.obeyed c.obey-answer.ensures.unread c.tell_end.ensures.told c.code.ensures.exact

pub returns-clause-unwritten : goal.returns-clause-unwritten
returns-clause-unwritten g c = unwritten g.E.Write _ _ _ _ _ _ _ c.obey-answer.ensures.done c.obey-answer.ensures.untouched c.tell_end.ensures.told c.code.ensures.exact
