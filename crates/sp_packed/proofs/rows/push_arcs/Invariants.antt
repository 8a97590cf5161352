use Rattle.std.proofs.Common.{◌≡◌, ◌*◌, ◌++◌, List, take, length}
use Rattle.sp_paths.specs.declared.arc.Arc.{Arc}
use Rattle.sp_packed.specs.Packed.{arcs_words}
use Rattle.sp_packed.specs.Rows.{AreRows, IsNextRow}
use Rattle.sp_packed.proofs.rows.push_arcs.Given as goal

abbrev pub invariant-loop-i : goal.invariant-loop-i
invariant-loop-i l =
    IsNextRow l.n l.ends (length l.arcs.items) l.row × AreRows l.n l.ends l.arcs.items
    × ((added : List Arc) × (l.arcs.items ≡ l.fn.arcs.items ++ added) × (arcs_words added ≡ take (2 * l.i) l.numbers) × (length added ≡ l.i))
