use Rattle.std.proofs.Common.{◌≡◌, codes, refl, rules}
use Rattle.clap.specs.Words.{rule_of}
use Rattle.sp_command.specs.Rules.{flag_rule}
use Rattle.sp_command.proofs.Building.{arg_adds, adds_arg, then_rules}
use Rattle.sp_tools.proofs.pack.PackCommandCommand.add_arguments.Goals as goal

pub returns : goal.returns
returns c =
    let progress : rule_of c.flag.result ≡ flag_rule (codes "progress") = search rules in
    let last = c.arg-3.result in
    let workers = then_rules _ _ _ _ last (arg_adds _ _ _ _ c.workers_option.ensures refl c.in_ok-arg.ensures) (adds_arg _ _ _ last progress refl c.arg-3.ensures) in
    then_rules _ _ _ _ last (arg_adds _ _ _ _ c.graph_file.ensures refl c.in_ok-command.ensures) (then_rules _ _ _ _ last c.in_ok-add_directions.ensures workers)
