-- What a call tells C of one target.
use Rattle.std.specs.Prelude.{◌≡◌, ◌⊎◌, ℕ, List, [], ◌∷◌, Result, Ok, Err}
use Rattle.std.specs.declared.option.Option.{Option}
use Rattle.std.specs.declared.option.Option.TheVariants.{None, Some}
use Rattle.sp_paths.specs.Paths.{Graph}
use Rattle.sp_lists.specs.declared.outcomes.Outcome.{Outcome}
use Rattle.sp_lists.specs.declared.outcomes.Outcome.TheVariants.{NoGraph}
use Rattle.sp_lists.specs.declared.cells.Cell.{Cell}
use Rattle.sp_lists.specs.Limits.{reach}
use Rattle.sp_lists.specs.Target.{HasCell, HasNoCell}
use Rattle.spt_c.specs.declared.arcs.SptArc.{SptArc}
use Rattle.spt_c.specs.declared.found.SptFound.{SptFound}
use Rattle.spt_c.specs.Arcs.{graph_of}
use Rattle.spt_c.specs.Asked.{AskedTrees, asked, IsGood, IsRefused}
use Rattle.spt_c.specs.Outcome.{answer_of}

-- These are the numbers of the header. If there is no cell, they are what a call for a tree tells.
abbrev pub found_of : Result Cell Outcome → SptFound
found_of (Ok cell) = record { status = 0; pred = cell.pred; dist = cell.dist; index = 0 }
found_of (Err told) = record { status = (answer_of told).status; pred = (answer_of told).vertex; dist = 0; index = (answer_of told).index }

-- Nothing is written, so no slice is too short.
abbrev pub unlimited : ℕ
unlimited = 18446744073709551615

-- Something is wrong with the call; or nothing is, and this is found.
abbrev pub IsFoundBy : AskedTrees → Graph → (s t : ℕ) → Result Cell Outcome → Type 0
IsFoundBy q g s t (Ok cell) = IsGood q unlimited × HasCell (reach q.n) g s t cell.dist cell.pred
IsFoundBy q g s t (Err told) = IsRefused q unlimited told ⊎ (IsGood q unlimited × HasNoCell (reach q.n) g s t told)

-- The source and the target are tested in the same way as two sources.
abbrev pub IsFound : (n : ℕ) → List SptArc → (s t delta : ℕ) → Result Cell Outcome → Type 0
IsFound n arcs s t delta found = IsFoundBy (asked arcs n (s ∷ t ∷ []) delta) (graph_of n arcs) s t found

-- This says the same of the graph that is kept, if there is one; no arcs are passed.
abbrev pub IsFoundOfKept : Option Graph → (s t delta : ℕ) → Result Cell Outcome → Type 0
IsFoundOfKept None s t delta found = found ≡ Err NoGraph
IsFoundOfKept (Some g) s t delta found = IsFoundBy (asked [] g.n (s ∷ t ∷ []) delta) g s t found
