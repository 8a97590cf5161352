-- The greatest length of arcs, and the sum of their lengths.
use Rattle.std.specs.Prelude.{◌≡◌, ◌+◌, ◌%◌, ◌^◌, List, max}
use Rattle.sp_paths.specs.declared.arc.Arc.{Arc}
use Rattle.sp_graph.specs.Longest.{IsLongest}
use Rattle.sp_graph.specs.Mean.{total_length}
use Rattle.sp_graph.specs.declared.lengths.Lengths.{Lengths}

-- These are the greatest length of the arcs, and the sum of their lengths modulo 2^64.
pub record AreLengths (arcs : List Arc) (lengths : Lengths) : Type 0 where
  pub longest : IsLongest arcs lengths.longest
  pub total : lengths.total ≡ total_length arcs % 2 ^ 64

-- These are the lengths of the arcs and one more.
abbrev pub with_arc : Lengths → Arc → Lengths
with_arc l a = record { longest = max l.longest a.len; total = (l.total + a.len) % 2 ^ 64 }

-- These are the lengths of two lists together.
abbrev pub of_both : Lengths → Lengths → Lengths
of_both l m = record { longest = max l.longest m.longest; total = (l.total + m.total) % 2 ^ 64 }
