use Rattle.std.proofs.Common.{inl}
use Rattle.sp_order.proofs.run.obey.Goals as goal

pub returns-in-Ok-clause-obeyed : goal.returns-in-Ok-clause-obeyed
returns-in-Ok-clause-obeyed g c = inl (c.in_ok-order.order, c.in_ok-order.ensures, c.in-Ok.ensures.carried)

pub returns-clause-obeyed : goal.returns-clause-obeyed
returns-clause-obeyed g c = rw c.new.ensures.fault (inl (c.in_ok-order.order, c.in_ok-order.ensures, c.in-Err.ensures.carried))
