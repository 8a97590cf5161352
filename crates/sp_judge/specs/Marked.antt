-- What is shown if marks say that the arcs of vertices were relaxed.
use Rattle.std.specs.Prelude.{◌≡◌, ℕ, ◌+◌, ◌<◌, ◌≤◌, Bool, true, false, List, All, Contains, Vec, slice_index_or}
use Rattle.std.specs.declared.alloc.Global.{Global}
use Rattle.sp_word.specs.History.{Table}
use Rattle.sp_paths.specs.declared.arc.Arc.{Arc}
use Rattle.sp_paths.specs.Paths.{Graph}
use Rattle.sp_paths.specs.Rows.{row_of}
use Rattle.sp_graph.specs.declared.marks.Mark.{Mark}
use Rattle.sp_graph.specs.Marks.{IsTrueMark}
use Rattle.sp_judge.specs.declared.scan.Scan.{Scan}
use Rattle.sp_judge.specs.declared.scan.Scan.TheVariants.{Whole}
use Rattle.sp_judge.specs.Shown.{Shows}

-- Each mark of these lists is true.
abbrev pub AreTrueMarks : (max : ℕ) → Graph → Table → List (Vec Mark Global) → Type 0
AreTrueMarks max g words marks = All (λ list. All (IsTrueMark max g words) list.items) marks

-- If a flag is set, every arc of its vertex is relaxed, and none leads out. The first flag belongs to the vertex after
-- low.
abbrev pub AreTrueFlags : (max : ℕ) → Graph → Table → (low : ℕ) → List Bool → Type 0
AreTrueFlags max g words low flags = (k : ℕ) → slice_index_or flags k false ≡ true → Shows max words (row_of g.arcs (low + k + 1)) Whole

-- If the marks are true and the flags were true before, the flags are true after these marks have set theirs.
abbrev pub TakesMarks : (max : ℕ) → Table → (low : ℕ) → List Mark → (before after : List Bool) → Type 0
TakesMarks max words low marks before after = (g : Graph) → All (IsTrueMark max g words) marks → AreTrueFlags max g words low before → AreTrueFlags max g words low after

-- The arcs of a graph whose tails are above low, up to high, show this: a list of just these arcs does.
pub record ShowsBetween (max : ℕ) (g : Graph) (words : Table) (low high : ℕ) (scan : Scan) : Type 0 where
  pub some : List Arc
  pub only : (a : Arc) → Contains some a → Contains g.arcs a × (low < a.tail) × (a.tail ≤ high)
  pub each : (a : Arc) → Contains g.arcs a → low < a.tail → a.tail ≤ high → Contains some a
  pub shows : Shows max words some scan
