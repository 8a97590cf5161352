-- The packed text of a graph, as it is read.
use Rattle.std.specs.Prelude.{ℕ, Bool, List, Option, Result, Ok, Err}
use Rattle.sp_paths.specs.Paths.{Graph}
use Rattle.sp_packed.specs.declared.faults.PackedFault.{PackedFault}
use Rattle.sp_packed.specs.declared.reading.PackedFile.{PackedFile}
use Rattle.sp_packed.specs.Faults.{PackedRead}

-- This is the graph of a file.
abbrev pub file_graph : PackedFile → Graph
file_graph file = record { n = file.n; arcs = file.arcs.items }

-- This is the result for the whole text of a device, with the graph as a file.
abbrev pub PackedFileRead : (top most : ℕ) (text : List ℕ) (left : Option (List ℕ)) (has_failed : Bool) → Result PackedFile PackedFault → Type 0
PackedFileRead top most text left has_failed (Ok file) = PackedRead top most text left has_failed (Ok (file_graph file))
PackedFileRead top most text left has_failed (Err e) = PackedRead top most text left has_failed (Err e)
