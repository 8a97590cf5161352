use Rattle.std.proofs.Common.{◌≡◌, ◌*◌, ◌+◌, ◌≤◌, ◌++◌, List, take, length, get_or}
use Rattle.std.specs.Prelude.{vec_len, vec_capacity}
use Rattle.sp_paths.specs.declared.arc.Arc.{Arc}
use Rattle.sp_packed.specs.Packed.{arcs_words}
use Rattle.sp_packed.specs.Rows.{AreRows, IsNextRow, IsLastKey}
use Rattle.sp_packed.proofs.rows.push_right.Given as goal

abbrev pub invariant-loop-i : goal.invariant-loop-i
invariant-loop-i l =
    IsNextRow l.n l.ends (length l.arcs.items) l.row × AreRows l.n l.ends l.arcs.items
    × ((added : List Arc) × (l.arcs.items ≡ l.fn.arcs.items ++ added) × (arcs_words added ≡ take (2 * l.i) l.numbers) × (length added ≡ l.i))
    × (l.end ≡ get_or l.ends l.row 0) × IsLastKey l.arcs.items l.last × (vec_len l.arcs + l.count ≤ vec_capacity l.arcs + l.i)
