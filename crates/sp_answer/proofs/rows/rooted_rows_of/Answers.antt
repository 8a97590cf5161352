use Rattle.std.proofs.Common.{◌++◌, refl, ap, ◌∙◌, ◌+◌}
use Rattle.sp_answer.specs.ForestTable.{Row, row_of, rows_from}
use Rattle.sp_answer.specs.Rooted.{root_at}
use Rattle.sp_answer.proofs.VertexRows.{row_taken}
use Rattle.sp_answer.proofs.rows.rooted_rows_of.Goals as goal

pub loop-place-preserved : goal.loop-place-preserved
loop-place-preserved g c =
    let root = root_at c.args.roots.now in
    let i = c.loop-place.place in
    let x = c.index-words-place.result in
    let rows = c.loop-place.rows.items in
    let pushed = c.in_ok-push_rooted.ensures.rows ∙ ap (λ r. rows ++ row_of (i + 1) r x) c.root_of.ensures in
    row_taken Row (λ v w. row_of v (root v) w) (rows_from root) (λ v. refl) (λ v w words. refl) g.row.P c.args.words.now i x rows c.push_rooted.new.rows.items c.loop-place-test.true c.index-words-place.is c.loop-place.invariant pushed c.in_ok-push_rooted.ensures.range
