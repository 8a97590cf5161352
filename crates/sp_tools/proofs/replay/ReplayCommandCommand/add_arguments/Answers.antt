use Rattle.std.proofs.Common.{◌≡◌, codes, refl, rules}
use Rattle.clap.specs.Words.{rule_of}
use Rattle.sp_command.specs.Rules.{file_rule, flag_rule}
use Rattle.sp_command.proofs.Building.{arg_adds, adds_arg, then_rules}
use Rattle.sp_tools.proofs.replay.ReplayCommandCommand.add_arguments.Goals as goal

pub returns : goal.returns
returns c =
    let file : rule_of c.file.result ≡ file_rule (codes "FILE") = search rules in
    let svg : rule_of c.flag.result ≡ flag_rule (codes "svg") = search rules in
    let last = c.arg-2.result in
    then_rules _ _ _ _ last (arg_adds _ _ _ _ file refl c.in_ok-arg.ensures) (adds_arg _ _ _ last svg refl c.arg-2.ensures)
