-- What a call asks of a graph that is kept: the part of a tree within a distance, whole or listed, the forest of several sources,
-- a matrix.
use Rattle.std.specs.Prelude.{◌≡◌, ◌==◌, if◌then◌else◌, ℕ, List}
use Rattle.std.specs.declared.option.Option.{Option}
use Rattle.std.specs.declared.option.Option.TheVariants.{None, Some}
use Rattle.sp_paths.specs.Paths.{Graph}
use Rattle.sp_lists.specs.declared.outcomes.BatchOutcome.{BatchOutcome}
use Rattle.sp_lists.specs.declared.outcomes.ListingOutcome.{ListingOutcome}
use Rattle.sp_lists.specs.declared.outcomes.Outcome.{Outcome}
use Rattle.sp_lists.specs.declared.outcomes.Outcome.TheVariants.{NoGraph}
use Rattle.sp_lists.specs.Blocks.{Slices}
use Rattle.sp_lists.specs.PartQuestion.{IsPartOf}
use Rattle.sp_lists.specs.Listed.{ListingSlices, IsListOf}
use Rattle.sp_lists.specs.ForestQuestion.{ForestSlices, IsForestOf}
use Rattle.sp_lists.specs.Matrix.{IsNoRow, IsMatrixOf}
use Rattle.spt_c.specs.declared.answers.SptPart.{SptPart}
use Rattle.spt_c.specs.Outcome.{answer_of}

-- The greatest number of 64 bits stands for no limit.
abbrev pub limit_of : (limit : ℕ) → Option ℕ
limit_of limit = if limit == 18446744073709551615 then None else Some limit

-- The part of a tree of the graph that is kept, if there is one.
abbrev pub IsPartOfKept : Option Graph → (s limit delta : ℕ) → (old new : Slices) → Outcome → Type 0
IsPartOfKept None s limit delta old new told = (told ≡ NoGraph) × (new ≡ old)
IsPartOfKept (Some g) s limit delta old new told = IsPartOf g s limit delta old new told

-- These are the numbers of the header.
abbrev pub part_of : ListingOutcome → SptPart
part_of l = record { status = (answer_of l.told).status; count = l.count }

-- The same part, listed.
abbrev pub IsListOfKept : Option Graph → (s limit delta : ℕ) → (old new : ListingSlices) → ListingOutcome → Type 0
IsListOfKept None s limit delta old new l = (l.told ≡ NoGraph) × (l.count ≡ 0) × (new ≡ old)
IsListOfKept (Some g) s limit delta old new l = IsListOf g s limit delta old new l

-- A forest of that graph.
abbrev pub IsForestOfKept : Option Graph → (sources : List ℕ) → (limit : Option ℕ) → (delta : ℕ) → (old new : ForestSlices) → Outcome → Type 0
IsForestOfKept None sources limit delta old new told = (told ≡ NoGraph) × (new ≡ old)
IsForestOfKept (Some g) sources limit delta old new told = IsForestOf g sources limit delta old new told

-- A matrix of that graph.
abbrev pub IsMatrixOfKept : Option Graph → (sources targets : List ℕ) → (delta : ℕ) → (old new : List ℕ) → BatchOutcome → Type 0
IsMatrixOfKept None sources targets delta old new b = IsNoRow (λ told. told ≡ NoGraph) old new b
IsMatrixOfKept (Some g) sources targets delta old new b = IsMatrixOf g sources targets delta old new b
