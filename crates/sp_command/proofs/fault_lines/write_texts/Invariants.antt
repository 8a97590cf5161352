use Rattle.std.proofs.Common.{take}
use Rattle.std.specs.Io.KnownBytes.{Appends}
use Rattle.sp_command.specs.Lines.{joined}
use Rattle.sp_command.proofs.fault_lines.write_texts.Given as goal

abbrev pub invariant-loop-text : goal.invariant-loop-text
invariant-loop-text g l = Appends (g.W.Write.written l.initial.out) (g.W.Write.written l.out) (joined (take l.text-index l.texts))
