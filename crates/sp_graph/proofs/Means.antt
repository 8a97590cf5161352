-- The mean of lengths that are all positive is positive.
use Rattle.std.proofs.Common.{ℕ, suc, ◌≤◌, List, [], ◌∷◌, length, arith}
use Rattle.std.specs.Prelude.{All}
use Rattle.std.proofs.lemmas.Nat.{le-div}
use Rattle.std.proofs.lemmas.List.Sums.{sum_by-cons}
use Rattle.sp_paths.specs.declared.arc.Arc.{Arc}
use Rattle.sp_paths.specs.Paths.{IsArc}
use Rattle.sp_graph.specs.Mean.{total_length, mean_length}

-- positive lengths sum up to their number at least
total_positive : (n : ℕ) (arcs : List Arc) → All (IsArc n) arcs → length arcs ≤ total_length arcs
total_positive n [] each = omega arith
total_positive n (a ∷ rest) each =
    let is : IsArc n a = each 0 a (omega arith) in
    omega (arith, is.2, sum_by-cons (λ (b : Arc). b.len) a rest, total_positive n rest (λ k d lt. each (suc k) d (omega arith)))

pub mean_positive : (n : ℕ) (arcs : List Arc) → All (IsArc n) arcs → 1 ≤ mean_length arcs
mean_positive n [] each = omega arith
mean_positive n (a ∷ rest) each = le-div 1 (total_length (a ∷ rest)) (length (a ∷ rest)) (omega arith) (omega (arith, total_positive n (a ∷ rest) each))
