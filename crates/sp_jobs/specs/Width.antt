-- The width of a bucket that a run is given.
use Rattle.std.specs.Prelude.{ℕ, min, List}
use Rattle.sp_word.specs.Word.{max_dist}
use Rattle.sp_paths.specs.declared.arc.Arc.{Arc}
use Rattle.sp_graph.specs.Mean.{mean_length}
use Rattle.sp_jobs.specs.declared.settings.BucketWidth.{BucketWidth}
use Rattle.sp_jobs.specs.declared.settings.BucketWidth.TheVariants.{Of, MeanLength}

-- the width that was chosen, or the mean length of the arcs, no more than the greatest distance of a word
abbrev pub width_among : {P : ℕ} → List Arc → BucketWidth P → ℕ
width_among arcs (Of delta) = delta
width_among {P} arcs MeanLength = min (mean_length arcs) (max_dist P)
