use Rattle.std.proofs.Common.{◌≡◌, codes, refl, rules}
use Rattle.clap.specs.Words.{rule_of}
use Rattle.sp_command.specs.Rules.{file_rule}
use Rattle.sp_command.proofs.Building.{adds_arg}
use Rattle.sp_tools.proofs.offers.OffersCommandCommand.add_arguments.Goals as goal

pub returns : goal.returns
returns c =
    let file : rule_of c.file.result ≡ file_rule (codes "FILE") = search rules in
    adds_arg _ _ _ c.arg.result file refl c.arg.ensures
