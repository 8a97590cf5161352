use Rattle.std.proofs.Common.{◌≡◌, ◌≤◌, ◌-◌, ◌<◌, ◌∙◌, ◌∷◌, ℕ, List, length, drop, sym, ap, subst, arith}
use Rattle.std.proofs.Math.Seq.{drop-length}
use Rattle.sp_word.specs.Word.{Unreached, max_dist}
use Rattle.sp_paths.specs.Paths.{IsVertex}
use Rattle.sp_answer.specs.ForestTable.{ForestTable, Row, table_of}
use Rattle.sp_lists.specs.Matrix.{KeepsListFrom}
use Rattle.sp_lists.specs.Blocks.{slices, AreCells, KeepsFrom}
use Rattle.sp_lists.specs.ForestQuestion.{lists, AreNoRoots, ArePutRoots}
use Rattle.sp_lists.proofs.RowCells.{rows_behind, forest_vertex_read, forest_row, cell_put, root_put, lists_put, no_roots_put}
use Rattle.sp_lists.proofs.forest.put_forest.Goals as goal

pub rows-init : goal.rows-init
rows-init g c =
    let forest = c.args.forest.now in
    let is = c.rows-rows.ensures.rows in
    let dist : List ℕ = c.put_unreached.new.dist in
    let pred : List ℕ = c.put_unreached.new.pred in
    let root : List ℕ = c.put_no_roots.new.root in
    let none = ap (λ (xs : List Row). drop (length xs) forest.rows) is ∙ drop-length forest.rows in
    let U : ℕ → Type 0 = λ n. AreCells 0 n (λ v. Unreached) (slices dist pred) in
    let O : ℕ → Type 0 = λ n. KeepsFrom n (slices c.args.dist.now c.args.pred.now) (slices dist pred) in
    let N : ℕ → Type 0 = λ n. AreNoRoots n root in
    let K : ℕ → Type 0 = λ n. KeepsListFrom n c.args.root.now root in
    let table = λ (xs : List Row). let t : ForestTable = record { n = forest.n; rows = xs } in t in
    let W : List Row → Type 0 = λ xs. AreCells 0 forest.n (table_of (table xs)) (slices dist pred) in
    let R : List Row → Type 0 = λ xs. ArePutRoots forest.n (table xs) root in
    let L : List Row → Type 0 = λ xs. length xs ≤ length forest.rows in
    let all : length forest.rows ≤ length forest.rows = omega arith in
    record {
      within = subst L (sym is) all;
      cells = subst W (sym none) (subst U c.n-n.ensures.n c.put_unreached.ensures.cells);
      roots = subst R (sym none) (no_roots_put forest.n root (subst N c.n-n.ensures.n c.put_no_roots.ensures.cells));
      others = λ k h.
          let same = subst O c.n-n.ensures.n c.put_unreached.ensures.others k h in
          (same.0, same.1, subst K c.n-n.ensures.n c.put_no_roots.ensures.others k h);
    }

pub overflow_sub-place : goal.overflow_sub-place
overflow_sub-place g c =
    (forest_vertex_read (max_dist g.row.P) c.args.forest.now.n c.rows.left c.rows-rows.result.now c.args.forest.now.rows c.index-rows-left.result c.index-rows-left.is c.rows-rows.ensures.rows c.rows-rows.ensures.table.rows c.rows.invariant.within c.rows-test.true).0

pub bounds-dist-place : goal.bounds-dist-place
bounds-dist-place g c =
    let v = forest_vertex_read (max_dist g.row.P) c.args.forest.now.n c.rows.left c.rows-rows.result.now c.args.forest.now.rows c.index-rows-left.result c.index-rows-left.is c.rows-rows.ensures.rows c.rows-rows.ensures.table.rows c.rows.invariant.within c.rows-test.true in
    omega (arith, v.0, v.1)

pub bounds-pred-place : goal.bounds-pred-place
bounds-pred-place g c =
    let v = forest_vertex_read (max_dist g.row.P) c.args.forest.now.n c.rows.left c.rows-rows.result.now c.args.forest.now.rows c.index-rows-left.result c.index-rows-left.is c.rows-rows.ensures.rows c.rows-rows.ensures.table.rows c.rows.invariant.within c.rows-test.true in
    omega (arith, v.0, v.1)

pub bounds-root-place : goal.bounds-root-place
bounds-root-place g c =
    let v = forest_vertex_read (max_dist g.row.P) c.args.forest.now.n c.rows.left c.rows-rows.result.now c.args.forest.now.rows c.index-rows-left.result c.index-rows-left.is c.rows-rows.ensures.rows c.rows-rows.ensures.table.rows c.rows.invariant.within c.rows-test.true in
    omega (arith, v.0, v.1)

pub rows-preserved : goal.rows-preserved
rows-preserved g c =
    let loop = c.rows in
    let forest = c.args.forest.now in
    let row : Row = c.index-rows-left.result in
    let cell = c.cell_of-cell.result in
    let is = c.rows-rows.ensures.rows in
    let v : IsVertex forest.n row.0 = forest_vertex_read (max_dist g.row.P) forest.n loop.left c.rows-rows.result.now forest.rows c.index-rows-left.result c.index-rows-left.is is c.rows-rows.ensures.table.rows loop.invariant.within c.rows-test.true in
    let behind : drop (loop.left - 1) forest.rows ≡ row ∷ drop loop.left forest.rows = rows_behind loop.left c.rows-rows.result.now forest.rows c.index-rows-left.result c.index-rows-left.is is loop.invariant.within c.rows-test.true in
    let old : ForestTable = record { n = forest.n; rows = drop loop.left forest.rows } in
    let new : ForestTable = record { n = forest.n; rows = drop (loop.left - 1) forest.rows } in
    let dists : forest.n ≤ length loop.dist = omega arith in
    let preds : forest.n ≤ length loop.pred = omega arith in
    let roots : forest.n ≤ length loop.root = omega arith in
    let most : row.0 - 1 < forest.n = omega (arith, v.0, v.1) in
    record {
      within = omega arith;
      cells = cell_put forest.n row.0 cell.dist cell.pred row.1 (table_of old) (table_of new) loop.dist loop.pred
          (forest_row forest.n row.0 row.2 row.1 (drop (loop.left - 1) forest.rows) (drop loop.left forest.rows) behind) v dists preds c.cell_of-cell.ensures loop.invariant.cells;
      roots = root_put forest.n row.0 row.2 c.root_cell.result row.1 (drop (loop.left - 1) forest.rows) (drop loop.left forest.rows) loop.root behind v roots c.root_cell.ensures loop.invariant.roots;
      others = lists_put forest.n (row.0 - 1) cell.dist cell.pred c.root_cell.result (lists c.args.dist.now c.args.pred.now c.args.root.now) loop.dist loop.pred loop.root most loop.invariant.others;
    }
