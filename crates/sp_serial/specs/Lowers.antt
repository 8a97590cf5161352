-- Words of a graph's vertices, before and after its arcs have lowered them.
use Rattle.std.specs.Prelude.{◌≡◌, ℕ, ◌≤◌, List, length, true, All, Contains}
use Rattle.sp_word.specs.Word.{Word, is_layout, max_dist, max_pred}
use Rattle.sp_paths.specs.declared.arc.Arc.{Arc}
use Rattle.sp_paths.specs.Paths.{Graph}
use Rattle.sp_judge.specs.Lowering.{IsLowered}

-- Each vertex has a word, in a layout with room for all of them, and what a table maintains beside the words holds.
pub record CanLower (P : ℕ) (g : Graph) (words : List Word) (Kept : Type 0) : Type 0 where
  pub layout : is_layout P ≡ true
  pub room : g.n ≤ max_pred P
  pub size : length words ≡ g.n
  pub kept : Kept

-- Arcs of the graph turned the words before into those after, and what the table maintains still holds.
pub record HasLowered (P : ℕ) (g : Graph) (before after : List Word) (Kept : Type 0) : Type 0 where
  pub size : length after ≡ g.n
  pub lowered : IsLowered (max_dist P) g.arcs before after
  pub kept : Kept

-- These are arcs of the graph.
abbrev pub AreArcs : Graph → List Arc → Type 0
AreArcs g arcs = All (Contains g.arcs) arcs
