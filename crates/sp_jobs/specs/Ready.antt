-- What runs ask of a graph.
use Rattle.std.specs.Prelude.{◌≡◌, ◌≤◌, ℕ, true}
use Rattle.sp_word.specs.Word.{is_layout, max_pred}
use Rattle.sp_paths.specs.Paths.{Graph}

-- The layout and the graph are within the limits of a run.
pub record IsReady (P : ℕ) (g : Graph) : Type 0 where
  pub layout : is_layout P ≡ true
  pub n : g.n ≤ max_pred P
