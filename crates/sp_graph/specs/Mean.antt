-- The mean length of arcs.
use Rattle.std.specs.Prelude.{ℕ, ◌/◌, List, [], ◌∷◌, length, sum_by}
use Rattle.sp_paths.specs.declared.arc.Arc.{Arc}

-- This is the sum of the lengths of the arcs.
abbrev pub total_length : List Arc → ℕ
total_length arcs = sum_by (λ a. a.len) arcs

-- This is the sum of the lengths divided by their number, rounded down; it is 1 if there is no arc.
abbrev pub mean_length : List Arc → ℕ
mean_length [] = 1
mean_length (a ∷ rest) = total_length (a ∷ rest) / length (a ∷ rest)
