-- The rows of a forest, one by one.
use Rattle.std.specs.Prelude.{◌≡◌, Some}
use Rattle.sp_paths.specs.Paths.{IsVertex}
use Rattle.sp_answer.specs.Table.{HasPredWithin}
use Rattle.sp_answer.specs.ForestTable.{Row, ForestTable, row_in}

-- The row is that of its vertex, a vertex of the forest. Its predecessor is one too, unless it is 0.
pub record IsOwnRow (f : ForestTable) (row : Row) : Type 0 where
  pub own : row_in f.rows row.0 ≡ Some row
  pub vertex : IsVertex f.n row.0
  pub pred : HasPredWithin f.n row.1
