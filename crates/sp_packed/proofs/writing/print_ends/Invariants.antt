use Rattle.std.proofs.Common.{◌≡◌, ◌+◌, map}
use Rattle.std.specs.List.{range_with_len}
use Rattle.sp_device.specs.Printing.{Sends}
use Rattle.sp_graph.specs.Keys.{tail_of, keys_to}
use Rattle.sp_packed.specs.Words.{words, sum_on}
use Rattle.sp_packed.proofs.writing.print_ends.Given as goal

abbrev pub invariant-loop-v : goal.invariant-loop-v
invariant-loop-v g l =
    Sends g.W.Write (words (map (λ k. keys_to tail_of l.graph.arcs k) (range_with_len 0 (l.v + 1)))) l.fn.out l.fn.printer l.out l.printer
    × (l.all ≡ sum_on l.fn.sum (map (λ k. keys_to tail_of l.graph.arcs k) (range_with_len 0 (l.v + 1))))
    × (l.end ≡ keys_to tail_of l.graph.arcs l.v)
