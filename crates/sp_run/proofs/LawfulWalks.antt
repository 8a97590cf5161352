-- What the law of walks allows.
use Rattle.std.proofs.Common.{ℕ, inl, inr}
use Rattle.sp_word.specs.Word.{Pair}
use Rattle.sp_paths.specs.Paths.{Graph, HasWalk, IsLawful}
use Rattle.sp_paths.proofs.Walks.{walk_none, walk_from_by}

-- a lawful pair is of a walk
pub lawful_walk : (g : Graph) (s v d p : ℕ) → IsLawful g s v (Pair d p) → HasWalk g s v d
lawful_walk g s v d p (inl own) = rw (own.0, own.1) (walk_none g s)
lawful_walk g s v d p (inr by) = walk_from_by g s v d p by
