use Rattle.sp_cli.proofs.tree.TreeCommandGraphAnswer.TheImpl.Goals as goal

pub answer-asks : goal.answer-asks
answer-asks g c = record { run = (c.requires.run.0, record { shared = c.requires.run.1.shared }); limit = c.requires.limit }
