use Rattle.sp_paths.proofs.Core.{closed_shows_within}
use Rattle.sp_paths.proofs.forest_laws.closed_table.Goals as goal

pub returns : goal.returns
returns c = closed_shows_within
