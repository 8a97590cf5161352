-- What a job answers.
use Rattle.std.specs.Prelude.{◌≡◌, ℕ, Bool, true, false, List, length}
use Rattle.sp_jobs.specs.declared.answers.Summary.{Summary}
use Rattle.sp_jobs.specs.declared.answers.BatchError.{BatchError}
use Rattle.sp_jobs.specs.declared.answers.BatchError.TheVariants.{Gr, Ss, Targets, Pairs, NoSuchVertex, Memory, Write}

-- how many there were, how many of them with a vertex that is too far, and how many bytes were written
pub record IsCount (count far : ℕ) (text : List ℕ) (summary : Summary) : Type 0 where
  pub sources : summary.sources ≡ count
  pub too_far : summary.too_far ≡ far
  pub bytes : summary.bytes ≡ length text

-- The files were refused, before anything was to be written.
abbrev pub is_early : BatchError → Bool
is_early (Gr e) = true
is_early (Ss e) = true
is_early (Targets e) = true
is_early (Pairs e) = true
is_early (NoSuchVertex s role) = true
is_early Memory = false
is_early Write = false
