use Rattle.std.proofs.Common.{◌≡◌}
use Rattle.tests_tables.proofs.offer.contention.offer_all.Given as goal

abbrev pub invariant-loop-j : goal.invariant-loop-j
invariant-loop-j g l = l.me.table ≡ l.fn.me.table
