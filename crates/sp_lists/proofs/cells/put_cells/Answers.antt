use Rattle.std.proofs.Common.{◌≡◌, ◌≤◌, ◌-◌, ◌<◌, ◌∙◌, ◌∷◌, ℕ, List, length, drop, sym, ap, subst, arith}
use Rattle.std.proofs.Math.Seq.{drop-length}
use Rattle.sp_word.specs.Word.{Word, Unreached, max_dist}
use Rattle.sp_paths.specs.Paths.{IsVertex}
use Rattle.sp_answer.specs.Table.{word_in}
use Rattle.sp_lists.specs.Blocks.{slices, AreCells, KeepsFrom}
use Rattle.sp_lists.proofs.RowCells.{rows_behind, tree_vertex_read, tree_row, cell_put, rest_put}
use Rattle.sp_lists.proofs.cells.put_cells.Goals as goal

pub rows-init : goal.rows-init
rows-init g c =
    let tree = c.args.tree.now in
    let is = c.rows-rows.ensures.rows in
    let new = slices c.put_unreached.new.dist c.put_unreached.new.pred in
    let none = ap (λ (xs : List (ℕ × Word)). drop (length xs) tree.rows) is ∙ drop-length tree.rows in
    let U : ℕ → Type 0 = λ n. AreCells 0 n (λ v. Unreached) new in
    let W : List (ℕ × Word) → Type 0 = λ xs. AreCells 0 tree.n (word_in xs) new in
    let L : List (ℕ × Word) → Type 0 = λ xs. length xs ≤ length tree.rows in
    let all : length tree.rows ≤ length tree.rows = omega arith in
    record {
      within = subst L (sym is) all;
      cells = subst W (sym none) (subst U c.n.ensures.n c.put_unreached.ensures.cells);
      others = subst (λ n. KeepsFrom n (slices c.args.dist.now c.args.pred.now) new) c.n.ensures.n c.put_unreached.ensures.others;
    }

pub overflow_sub-place : goal.overflow_sub-place
overflow_sub-place g c =
    (tree_vertex_read (max_dist g.row.P) c.args.tree.now.n c.rows.left c.rows-rows.result.now c.args.tree.now.rows c.index-rows-left.result c.index-rows-left.is c.rows-rows.ensures.rows c.rows-rows.ensures.table.rows c.rows.invariant.within c.rows-test.true).0

pub bounds-dist-place : goal.bounds-dist-place
bounds-dist-place g c =
    let v = tree_vertex_read (max_dist g.row.P) c.args.tree.now.n c.rows.left c.rows-rows.result.now c.args.tree.now.rows c.index-rows-left.result c.index-rows-left.is c.rows-rows.ensures.rows c.rows-rows.ensures.table.rows c.rows.invariant.within c.rows-test.true in
    omega (arith, v.0, v.1)

pub bounds-pred-place : goal.bounds-pred-place
bounds-pred-place g c =
    let v = tree_vertex_read (max_dist g.row.P) c.args.tree.now.n c.rows.left c.rows-rows.result.now c.args.tree.now.rows c.index-rows-left.result c.index-rows-left.is c.rows-rows.ensures.rows c.rows-rows.ensures.table.rows c.rows.invariant.within c.rows-test.true in
    omega (arith, v.0, v.1)

pub rows-preserved : goal.rows-preserved
rows-preserved g c =
    let loop = c.rows in
    let tree = c.args.tree.now in
    let row : ℕ × Word = c.index-rows-left.result in
    let cell = c.cell_of-cell.result in
    let is = c.rows-rows.ensures.rows in
    let v : IsVertex tree.n row.0 = tree_vertex_read (max_dist g.row.P) tree.n loop.left c.rows-rows.result.now tree.rows c.index-rows-left.result c.index-rows-left.is is c.rows-rows.ensures.table.rows loop.invariant.within c.rows-test.true in
    let behind : drop (loop.left - 1) tree.rows ≡ row ∷ drop loop.left tree.rows = rows_behind loop.left c.rows-rows.result.now tree.rows c.index-rows-left.result c.index-rows-left.is is loop.invariant.within c.rows-test.true in
    let dists : tree.n ≤ length loop.dist = omega arith in
    let preds : tree.n ≤ length loop.pred = omega arith in
    let most : row.0 - 1 < tree.n = omega (arith, v.0, v.1) in
    record {
      within = omega arith;
      cells = cell_put tree.n row.0 cell.dist cell.pred row.1 (word_in (drop loop.left tree.rows)) (word_in (drop (loop.left - 1) tree.rows)) loop.dist loop.pred
          (tree_row row.0 row.1 (drop (loop.left - 1) tree.rows) (drop loop.left tree.rows) behind) v dists preds c.cell_of-cell.ensures loop.invariant.cells;
      others = rest_put tree.n (row.0 - 1) cell.dist cell.pred (slices c.args.dist.now c.args.pred.now) loop.dist loop.pred most loop.invariant.others;
    }
