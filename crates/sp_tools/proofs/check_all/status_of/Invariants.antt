use Rattle.std.proofs.Common.{◌≡◌, drop}
use Rattle.sp_tools.specs.Verdicts.{end_of}
use Rattle.sp_tools.proofs.check_all.status_of.Given as goal

abbrev pub invariant-loop-judged : goal.invariant-loop-judged
invariant-loop-judged l = end_of l.all ≡ end_of (drop l.judged-index l.all)
