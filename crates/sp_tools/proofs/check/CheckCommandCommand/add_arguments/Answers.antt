use Rattle.std.proofs.Common.{◌≡◌, codes, refl, rules}
use Rattle.clap.specs.Words.{rule_of}
use Rattle.sp_command.specs.Rules.{file_rule, flag_rule}
use Rattle.sp_command.proofs.Building.{arg_adds, adds_arg, then_rules}
use Rattle.sp_tools.proofs.check.CheckCommandCommand.add_arguments.Goals as goal

pub returns : goal.returns
returns c =
    let tree : rule_of c.file.result ≡ file_rule (codes "TREE") = search rules in
    let all : rule_of c.flag.result ≡ flag_rule (codes "all") = search rules in
    let last = c.arg-4.result in
    let within = adds_arg _ _ _ last c.option.ensures refl c.arg-4.ensures in
    let from_all = then_rules _ _ _ _ last (arg_adds _ _ _ _ all refl c.in_ok-arg-2.ensures) within in
    let from_tree = then_rules _ _ _ _ last (arg_adds _ _ _ _ tree refl c.in_ok-command.ensures) (then_rules _ _ _ _ last c.in_ok-add_directions.ensures from_all) in
    then_rules _ _ _ _ last (arg_adds _ _ _ _ c.graph_file.ensures refl c.in_ok-arg.ensures) from_tree
