use Rattle.sp_packed.proofs.TextLaws.{none_behind}
use Rattle.sp_packed.proofs.laws.no_text_begins_another.Goals as goal

pub returns : goal.returns
returns c = λ g h more pg ph e. none_behind g h pg ph more e
