use Rattle.sp_cli.proofs.Opening.{opened_file, opened_part, opened_given}
use Rattle.sp_cli.proofs.context.CommandContext.open_list.Goals as goal

pub returns-in_ok-open-in-File-clause-opened : goal.returns-in_ok-open-in-File-clause-opened
returns-in_ok-open-in-File-clause-opened g c =
    opened_file _ (g.F.Inputs.files c.args.self.now.files.now) c.args.list.now c.in-File.path c.in_ok-open-in-File.field-0 c.in-File.is c.in_ok-open-in-File.ensures.opened.gives c.in_ok-open-in-File.ensures.opened.failing

pub returns-in_ok-open-in-Part-clause-opened : goal.returns-in_ok-open-in-Part-clause-opened
returns-in_ok-open-in-Part-clause-opened g c =
    opened_part _ (g.F.Inputs.files c.args.self.now.files.now) c.args.list.now c.in-Part.path c.in-Part.places c.in_ok-open-in-Part.field-0 c.in-Part.is c.in_ok-open-in-Part.ensures.opened.gives c.in_ok-open-in-Part.ensures.opened.failing

pub returns-in-Given-clause-opened : goal.returns-in-Given-clause-opened
returns-in-Given-clause-opened g c =
    opened_given _ (g.F.Inputs.files c.args.self.now.files.now) c.args.list.now c.in-Given.given _ c.in-Given.is c.deref.ensures.value c.in-Given.given.numbered
