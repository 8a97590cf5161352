use Rattle.sp_cli.proofs.Simple.{simple}
use Rattle.sp_cli.proofs.laws.every_program_is_simple.Goals as goal

pub returns : goal.returns
returns c = simple
