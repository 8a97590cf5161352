-- What contracts see of a network, and what it knows.
use Rattle.std.specs.Prelude.{IfSome}
use Rattle.sp_dimacs.specs.declared.graphs.GrFile.{GrFile}
use Rattle.sp_graph.specs.RowEnds.{AreRowEnds}
use Rattle.sp_packed.specs.declared.reading.PackedFile.{PackedFile}
use Rattle.sp_network.specs.declared.network.Network.TheInside.{Inside}

-- This is the file that contracts see of a network.
abbrev pub file_of : Inside → GrFile
file_of network = network.file

-- If it knows rows, they are those of its arcs.
abbrev pub KnowsRows : Inside → Type 0
KnowsRows network = IfSome network.rows (AreRowEnds network.file.n network.file.arcs.items)

-- These are the vertices and the arcs spelled by words.
abbrev pub spelled_by : PackedFile → GrFile
spelled_by file = record { n = file.n; arcs = file.arcs }
