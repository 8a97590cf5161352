use Rattle.std.proofs.Common.{◌≡◌, codes, refl, rules}
use Rattle.clap.specs.Words.{rule_of}
use Rattle.sp_command.specs.Rules.{file_rule}
use Rattle.sp_command.proofs.Building.{arg_adds, then_rules}
use Rattle.sp_cli.proofs.pairs.PairsCommandCommand.add_arguments.Goals as goal

pub returns : goal.returns
returns c =
    let named : rule_of c.file.result ≡ file_rule (codes "PAIRS") = search rules in
    let graph = arg_adds _ _ _ _ c.graph_file.ensures refl c.in_ok-arg.ensures in
    let pairs = arg_adds _ _ _ _ named refl c.in_ok-arg-2.ensures in
    let routes = arg_adds _ _ _ _ c.flag.ensures refl c.in_ok-command.ensures in
    let last = c.add_to.result in
    then_rules _ _ _ _ last graph (then_rules _ _ _ _ last pairs (then_rules _ _ _ _ last routes c.add_to.ensures))
