use Rattle.std.proofs.Common.{rules}
use Rattle.sp_word.specs.Word.{max_dist}
use Rattle.sp_pairs.proofs.NearPairs.{first_found}
use Rattle.sp_pairs.proofs.near.distance.Goals as goal

pub returns-in-Some-Found-clause-least : goal.returns-in-Some-Found-clause-least
returns-in-Some-Found-clause-least g c = (first_found c.args.room.now c.args.from c.args.to (max_dist g.row.P) c.in-Some.answers.items c.in-Some-Found.field-0-0 c.in-Some-Found.dist (search rules) (search rules)).0

pub returns-in-Some-Found-clause-most : goal.returns-in-Some-Found-clause-most
returns-in-Some-Found-clause-most g c = (first_found c.args.room.now c.args.from c.args.to (max_dist g.row.P) c.in-Some.answers.items c.in-Some-Found.field-0-0 c.in-Some-Found.dist (search rules) (search rules)).1
