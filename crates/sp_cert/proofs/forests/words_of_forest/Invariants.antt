use Rattle.std.proofs.Common.{take}
use Rattle.sp_cert.proofs.ForestRows.{IsCopied}
use Rattle.sp_cert.proofs.forests.words_of_forest.Given as goal

abbrev pub invariant-loop-row : goal.invariant-loop-row
invariant-loop-row g l = IsCopied l.forest.n (take l.row-index l.row-items) l.words.items
