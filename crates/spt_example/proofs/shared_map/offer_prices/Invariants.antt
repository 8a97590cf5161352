use Rattle.std.proofs.Common.{◌≡◌}
use Rattle.spt_example.proofs.shared_map.offer_prices.Given as goal

abbrev pub invariant-loop-place : goal.invariant-loop-place
invariant-loop-place l = l.me.table ≡ l.fn.me.table
