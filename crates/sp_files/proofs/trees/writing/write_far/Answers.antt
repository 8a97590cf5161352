use Rattle.std.proofs.Common.{refl, ◌∙◌}
use Rattle.sp_files.specs.TreeText.{far_text}
use Rattle.sp_files.proofs.WholeTexts.{counted_alone}
use Rattle.sp_files.proofs.trees.writing.write_far.Goals as goal

pub returns-clause-passed : goal.returns-clause-passed
returns-clause-passed g c = counted_alone g.W.Write (far_text c.args.source c.args.vertex) c.args.out.now c.finish.new.out _ c.finish.result (record { waits = c.push_far.ensures ∙ rw c.new-printer.ensures.block refl; none = c.new-printer.ensures.count; going = c.new-printer.ensures.going }) c.finish.ensures.passed
