use Rattle.sp_lists.proofs.Layouts.{fits}
use Rattle.sp_lists.proofs.prepared.fitting.Goals as goal

pub returns : goal.returns
returns g c =
    let it = fits g.row.P c.args.graph.now.n c.requires.bits c.requires.n in
    record { layout = it.layout; n = it.names; reach = it.far }
