use Rattle.std.proofs.Common.{rules, arith}
use Rattle.std.proofs.lemmas.Bool.Decides.{nat_tests}
use Rattle.sp_pairs.proofs.NearPairs.{by_rest}
use Rattle.sp_pairs.proofs.near.is_first_arc.Goals as goal

pub returns-then-rest-dist-clause-first : goal.returns-then-rest-dist-clause-first
returns-then-rest-dist-clause-first g c = by_rest c.args.room.now c.args.arc.now c.args.to c.args.dist c.in-Some.rest _ (search rules) (λ is. grind (arith, nat_tests, is, c.if-rest-dist.true)) (λ sum. grind (arith, nat_tests, sum, c.if-rest-dist.true))

pub returns-else-rest-dist-clause-first : goal.returns-else-rest-dist-clause-first
returns-else-rest-dist-clause-first g c = by_rest c.args.room.now c.args.arc.now c.args.to c.args.dist c.in-Some.rest _ (search rules) (λ is. grind (arith, nat_tests, is, c.if-rest-dist.false)) (λ sum. grind (arith, nat_tests, sum, c.if-rest-dist.false))
