-- The part of a tree within a distance, in the two slices of a caller.
use Rattle.std.specs.Prelude.{◌≡◌, ◌⊎◌, ℕ, [], ◌∷◌}
use Rattle.std.specs.declared.option.Option.TheVariants.{Some}
use Rattle.sp_word.specs.History.{Table}
use Rattle.sp_paths.specs.Paths.{Graph, EndsInTree}
use Rattle.sp_lists.specs.declared.outcomes.Outcome.{Outcome}
use Rattle.sp_lists.specs.declared.outcomes.Outcome.TheVariants.{Done, Memory}
use Rattle.sp_lists.specs.Query.{Query, IsGoodQuery, IsRefusedQuery}
use Rattle.sp_lists.specs.Blocks.{Slices, places, AreCells, KeepsFrom}

-- The slices hold the part of the tree from s within the limit: each vertex whose least length is at most the limit has its
-- distance and its predecessor in the tree, and every other vertex is unreached.
pub record HasPart (g : Graph) (s limit : ℕ) (there : Slices) : Type 0 where
  pub words : Table
  pub part : EndsInTree g s limit words
  pub cells : AreCells 0 g.n words there

-- The part is written, and nothing else; or there was no memory, and nothing is written.
abbrev pub IsPartIn : Graph → (s limit : ℕ) → (old new : Slices) → Outcome → Type 0
IsPartIn g s limit old new Done = HasPart g s limit new × KeepsFrom g.n old new
IsPartIn g s limit old new Memory = new ≡ old
IsPartIn g s limit old new told = ⊥

-- A call for a part writes a row of n places.
abbrev pub part_query : (n s limit delta : ℕ) → Query
part_query n s limit delta = record { sources = s ∷ []; targets = []; delta = delta; limit = Some limit; rows = 1; columns = n }

-- Something is wrong with the call, and nothing is written; or nothing is wrong, and this is the answer.
abbrev pub IsPartOf : Graph → (s limit delta : ℕ) → (old new : Slices) → Outcome → Type 0
IsPartOf g s limit delta old new told = (IsRefusedQuery g.n (part_query g.n s limit delta) (places old) told × (new ≡ old)) ⊎ (IsGoodQuery g.n (part_query g.n s limit delta) (places old) × IsPartIn g s limit old new told)
