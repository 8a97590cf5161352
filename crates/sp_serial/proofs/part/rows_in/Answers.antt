use Rattle.std.proofs.Common.{get_or}
use Rattle.std.proofs.lemmas.Bool.{OnTrue_at}
use Rattle.sp_answer.specs.Table.{TreeTable}
use Rattle.sp_serial.specs.Part.{IsPartOf, HasPart}
use Rattle.sp_serial.proofs.PartRows.{found_as, part_of}
use Rattle.sp_serial.proofs.part.rows_in.Goals as goal

pub returns-clause-rows : goal.returns-clause-rows
returns-clause-rows g c =
    let graph = c.args.graph.now in
    let sources = c.args.sources.now in
    let limit = c.args.limit in
    let told = OnTrue_at c.if-not-branch.false ((c.in_ok-reach.ensures {u = tt}).told) in
    let part : (t : TreeTable) → IsPartOf (get_or sources 0 0) limit c.sort.new.tracked.words.items t → HasPart graph sources limit t = λ t is. part_of g.row.P graph c.n.ensures.graph sources limit c.reach.new.tracked.words.items told t (rw c.sort.ensures.words at is) in
    found_as (IsPartOf (get_or sources 0 0) limit c.sort.new.tracked.words.items) (HasPart graph sources limit) part c.tree_of.result c.tree_of.ensures
