use Rattle.std.proofs.Common.{refl}
use Rattle.sp_jobs.proofs.settings.Settings.read_graph.Goals as goal

pub returns-in-Ok-clause-exact : goal.returns-in-Ok-clause-exact
returns-in-Ok-clause-exact g c = λ text is. (c.in-Ok.file, (c.in-Ok.ensures.exact text is).1, refl)

pub returns-in-Ok-clause-found : goal.returns-in-Ok-clause-found
returns-in-Ok-clause-found g c = (c.in-Ok.ensures.found.0, (c.in-Ok.file, c.in-Ok.ensures.found.1, refl))
