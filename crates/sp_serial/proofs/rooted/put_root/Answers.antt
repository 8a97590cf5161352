use Rattle.sp_serial.proofs.RootedRows.{known_set}
use Rattle.sp_serial.proofs.rooted.put_root.Goals as goal

pub returns-then-place-roots : goal.returns-then-place-roots
returns-then-place-roots g c = known_set c.args.tree.now c.args.roots.now c.args.place c.root_of.result c.if-place-roots.true c.requires c.root_of.ensures
