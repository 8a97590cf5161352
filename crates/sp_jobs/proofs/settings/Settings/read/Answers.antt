use Rattle.sp_dimacs.specs.Graph.{graph_of}
use Rattle.sp_network.specs.Network.{directed}
use Rattle.sp_jobs.proofs.settings.Settings.read.Goals as goal

pub returns-in-Err-clause-exact : goal.returns-in-Err-clause-exact
returns-in-Err-clause-exact g c = λ gr_text ss_text gr_is ss_is. ((directed c.args.self.now.direction (graph_of c.in_ok-file.file), c.in_ok-file.ensures.exact gr_text gr_is), c.in-Err.ensures.exact ss_text ss_is)

pub returns-in-Ok-clause-exact : goal.returns-in-Ok-clause-exact
returns-in-Ok-clause-exact g c = λ gr_text ss_text gr_is ss_is. record { spells_graph = c.in_ok-file.ensures.exact gr_text gr_is; are_asked = c.in-Ok.ensures.exact ss_text ss_is }
