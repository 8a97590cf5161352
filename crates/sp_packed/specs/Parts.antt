-- The parts of a packed text: where rows end, and the arcs row by row.
use Rattle.std.specs.Prelude.{◌≡◌, ℕ, ◌<◌, ◌≤◌, ◌^◌, List, ◌++◌, length}
use Rattle.sp_paths.specs.declared.arc.Arc.{Arc}
use Rattle.sp_packed.specs.Packed.{content, with_sum}
use Rattle.sp_packed.specs.Ends.{AreEnds}
use Rattle.sp_packed.specs.Rows.{AreRows}

-- These are the parts of a graph within the limits.
pub record AreParts (top most n : ℕ) (ends : List ℕ) (arcs : List Arc) : Type 0 where
  pub some : 1 ≤ n
  pub n_fits : n < 2 ^ 32
  pub n_within : n ≤ top
  pub few : length arcs < 2 ^ 32
  pub within : length arcs ≤ most
  pub ends_are : AreEnds n (length arcs) ends
  pub rows : AreRows n ends arcs

-- The words of such a graph begin with these.
pub record BegunGraph (top most : ℕ) (numbers : List ℕ) : Type 0 where
  pub n : ℕ
  pub ends : List ℕ
  pub arcs : List Arc
  pub parts : AreParts top most n ends arcs
  pub more : List ℕ
  pub is : with_sum (content n ends arcs) ≡ numbers ++ more
