use Rattle.sp_network.specs.Network.{most_of}
use Rattle.sp_network.proofs.FailedFirst.{read_failed}
use Rattle.sp_network.proofs.file_formats.read_network.Goals as goal

pub returns-in-Err-clause-exact : goal.returns-in-Err-clause-exact
returns-in-Err-clause-exact g c = read_failed g.row.P (most_of c.args.direction) _ _ _ c.in-Err.ensures.kept c.in-Err.ensures.failed
