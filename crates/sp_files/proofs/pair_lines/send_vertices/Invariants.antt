use Rattle.std.proofs.Common.{take}
use Rattle.sp_device.specs.Printing.{Sends}
use Rattle.sp_files.specs.PairText.{numbers_text}
use Rattle.sp_files.proofs.pair_lines.send_vertices.Given as goal

abbrev pub invariant-loop-vertex : goal.invariant-loop-vertex
invariant-loop-vertex g l = Sends g.W.Write (numbers_text (take l.vertex-index l.vertices)) l.fn.out l.fn.printer l.out l.printer
