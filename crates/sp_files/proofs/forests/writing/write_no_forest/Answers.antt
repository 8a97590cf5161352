use Rattle.std.proofs.Common.{refl, ◌∙◌}
use Rattle.sp_files.specs.ForestText.{no_forest_text}
use Rattle.sp_files.proofs.WholeTexts.{counted_alone}
use Rattle.sp_files.proofs.forests.writing.write_no_forest.Goals as goal

pub returns-clause-passed : goal.returns-clause-passed
returns-clause-passed g c = counted_alone g.W.Write (no_forest_text c.args.vertex) c.args.out.now c.finish.new.out _ c.finish.result (record { waits = c.push_far.ensures ∙ rw c.new-printer.ensures.block refl; none = c.new-printer.ensures.count; going = c.new-printer.ensures.going }) c.finish.ensures.passed
