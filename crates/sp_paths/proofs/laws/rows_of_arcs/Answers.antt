use Rattle.sp_paths.proofs.RowSteps.{rows_hold_arcs, light_rows_relaxed, heavy_rows_relaxed}
use Rattle.sp_paths.proofs.laws.rows_of_arcs.Goals as goal

pub returns-clause-rows : goal.returns-clause-rows
returns-clause-rows c = rows_hold_arcs

pub returns-clause-light : goal.returns-clause-light
returns-clause-light c = light_rows_relaxed

pub returns-clause-heavy : goal.returns-clause-heavy
returns-clause-heavy c = heavy_rows_relaxed
