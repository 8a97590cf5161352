-- The files of a job: what their texts spell, and the graph of one.
use Rattle.std.proofs.Common.{◌≡◌, ℕ, Bool, List, Option, Ok, refl}
use Rattle.sp_text.specs.Text.{items_of}
use Rattle.sp_text.specs.Lines.{lines}
use Rattle.sp_dimacs.specs.declared.sources.SsFile.{SsFile}
use Rattle.sp_dimacs.specs.declared.pairs.PairsFile.{PairsFile}
use Rattle.sp_dimacs.specs.Formats.{ss, pairs}
use Rattle.sp_dimacs.specs.Sources.{SpellsSources, SourcesRead}
use Rattle.sp_dimacs.specs.Pairs.{SpellsPairs, PairsRead}
use Rattle.std.specs.Prelude.{IsPermutation}
use Rattle.std.proofs.lemmas.List.Sorted.{Contains-permutation, IsPermutation-sym}
use Rattle.sp_paths.specs.declared.arc.Arc.{Arc}
use Rattle.sp_paths.specs.Paths.{Graph}
use Rattle.sp_paths.specs.Bags.{AreSame}

-- What was read to its end is spelled.
pub sources_spelled : (P : ℕ) (text : List ℕ) (left : Option (List ℕ)) (has_failed : Bool) (list : SsFile) → SourcesRead P text left has_failed (Ok list) → SpellsSources P text list
sources_spelled P text left has_failed list (_, clean, (ps, found, is)) = (ps, items_of ss (lines text), record { faultless = clean; problem_line = found; item_lines = refl }, is)

pub pairs_spelled : (P : ℕ) (text : List ℕ) (left : Option (List ℕ)) (has_failed : Bool) (list : PairsFile) → PairsRead P text left has_failed (Ok list) → SpellsPairs P text list
pairs_spelled P text left has_failed list (_, clean, (ps, found, is)) = (ps, items_of pairs (lines text), record { faultless = clean; problem_line = found; item_lines = refl }, is)

-- The same arcs in another order.
pub same_graph : (g graph : Graph) → graph.n ≡ g.n → IsPermutation g.arcs graph.arcs → AreSame graph g
same_graph g graph n arcs = record {
  n = n;
  there = λ (a : Arc) is. Contains-permutation graph.arcs g.arcs a (IsPermutation-sym g.arcs graph.arcs arcs) is;
  back = λ (a : Arc) is. Contains-permutation g.arcs graph.arcs a arcs is;
}

pub itself : (g : Graph) → AreSame g g
itself g = record { n = refl; there = λ a is. is; back = λ a is. is }
