use Rattle.std.proofs.Common.{rules, refl, ◌≡◌, []}
use Rattle.clap.specs.Words.{rule_of}
use Rattle.sp_command.specs.Rules.{IsBuilt}
use Rattle.sp_command.proofs.Building.{new_built, with_arg, then_command, layout_simple}
use Rattle.sp_command.proofs.command.AnyCommands.add_to.Goals as goal

pub returns : goal.returns
returns g c =
    let bare : IsBuilt g.C.Command.spelled [] c.new.result = new_built _ _ (rw c.word-name.ensures at c.new.ensures.app) c.new.ensures.local in
    let built = c.in_ok-add_arguments.ensures g.C.Command.spelled [] bare in
    let own : IsBuilt g.C.Command.spelled g.C.Command.rules c.after_long_help.result = search rules in
    let laid_out = with_arg _ _ _ _ (rule_of c.option.result) _ own refl (layout_simple _ c.option.ensures) c.in_ok-arg.ensures in
    let whole = with_arg _ _ _ _ _ _ laid_out c.option-2.ensures refl c.in_ok-command.ensures in
    then_command _ g.C.Command.spelled g.C.Command.rules _ _ c.subcommand.result c.option.ensures whole c.subcommand.ensures
