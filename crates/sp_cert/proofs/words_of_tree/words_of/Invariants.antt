use Rattle.std.proofs.Common.{take}
use Rattle.sp_cert.proofs.TreeSteps.{IsCopied}
use Rattle.sp_cert.proofs.words_of_tree.words_of.Given as goal

abbrev pub invariant-loop-row : goal.invariant-loop-row
invariant-loop-row g l = IsCopied l.tree.n (take l.row-index l.row-items) l.words.items
