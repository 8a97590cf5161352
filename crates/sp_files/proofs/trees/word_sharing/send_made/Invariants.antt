use Rattle.std.proofs.Common.{take}
use Rattle.std.specs.List.{concat}
use Rattle.sp_device.specs.Printing.{Sends}
use Rattle.sp_files.proofs.trees.word_sharing.send_made.Given as goal

abbrev pub invariant-loop-page : goal.invariant-loop-page
invariant-loop-page g l = Sends g.W.Write (concat (take l.page-index l.pages)) l.fn.out l.fn.printer l.out l.printer
