use Rattle.std.proofs.Common.{ℕ, ◌<◌, ◌≤◌, List, length, get_or, subst}
use Rattle.std.proofs.lemmas.Bool.{OnTrue_at}
use Rattle.sp_word.specs.Word.{Word}
use Rattle.sp_answer.specs.Table.{table_of}
use Rattle.sp_paths.specs.Roots.{IsRoot}
use Rattle.sp_serial.proofs.RootedRows.{rooted_all, rooted_more}
use Rattle.sp_serial.proofs.rooted.forest_of.Goals as goal

pub loop-place-preserved : goal.loop-place-preserved
loop-place-preserved g c =
    let tree = c.args.tree.now in
    let i = c.loop-place.place in
    let root = get_or c.args.roots.now i 0 in
    let row = c.row_at-row.result in
    let low = subst (λ (rows : List (ℕ × Word)). i < length rows) c.rows-place-end.ensures.rows c.loop-place-test.true in
    let pushed = c.in_ok-push_rooted.ensures {u = tt} in
    let chain = subst (λ (x : ℕ × Word). IsRoot (table_of tree) x.0 root) (c.row_at-row.ensures row) (c.requires.known.known i row low (OnTrue_at c.if-not-branch.false pushed.root)) in
    rooted_more tree i c.loop-place.forest c.push_rooted.new.forest row root low (c.row_at-row.ensures row) c.loop-place.invariant (OnTrue_at c.if-not-branch.false pushed.row) chain

pub returns : goal.returns
returns g c =
    let i = c.loop-place.place in
    let all = subst (λ (rows : List (ℕ × Word)). length rows ≤ i) c.rows-place-end.ensures.rows c.loop-place-test.false in
    rooted_all c.args.tree.now i c.loop-place.forest all c.loop-place.invariant
