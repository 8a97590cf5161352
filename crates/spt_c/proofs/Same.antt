-- The same arcs in another order: the same answers.
use Rattle.std.proofs.Common.{◌≡◌, ◌*◌, ℕ, List, Some, None, subst}
use Rattle.std.specs.Prelude.{IsPermutation}
use Rattle.std.proofs.lemmas.List.Sorted.{Contains-permutation, IsPermutation-sym}
use Rattle.sp_paths.specs.declared.arc.Arc.{Arc}
use Rattle.sp_paths.specs.Paths.{Graph}
use Rattle.sp_paths.specs.Bags.{AreSame}
use Rattle.sp_paths.proofs.SameArcs.{same_arcs_same_answers}
use Rattle.sp_lists.specs.declared.outcomes.Outcome.{Outcome}
use Rattle.sp_lists.specs.declared.outcomes.Outcome.TheVariants.{TooFar}
use Rattle.sp_lists.specs.declared.outcomes.BatchOutcome.{BatchOutcome}
use Rattle.sp_lists.specs.Blocks.{Slices, AreCells, HasTreeAt, KeepsFrom, EndsBy, AreSolved}

pub same_graph : (n : ℕ) (arcs : List Arc) (graph : Graph) → graph.n ≡ n → IsPermutation arcs graph.arcs → AreSame graph (record { n = n; arcs = arcs })
same_graph n arcs graph e is = record {
  n = e;
  there = λ (a : Arc) in_graph. Contains-permutation graph.arcs arcs a (IsPermutation-sym arcs graph.arcs is) in_graph;
  back = λ (a : Arc) in_arcs. Contains-permutation arcs graph.arcs a is in_arcs;
}

same_tree : (max : ℕ) (g h : Graph) (s i : ℕ) (there : Slices) → AreSame g h → HasTreeAt max g s (i * g.n) there → HasTreeAt max h s (i * h.n) there
same_tree max g h s i there same is =
    let all = same_arcs_same_answers g h same in record {
      words = is.words;
      tree = all.tree s is.words is.tree;
      far = all.far s max None is.far;
      cells = subst (λ n. AreCells (i * n) n is.words there) same.n is.cells;
    }

same_ends : (max : ℕ) (g h : Graph) (sources : List ℕ) (done : ℕ) (told : Outcome) → AreSame g h → EndsBy max g sources done told → EndsBy max h sources done told
same_ends max g h sources done (TooFar v) same is = (is.0, is.1, (same_arcs_same_answers g h same).far is.0 max (Some v) is.2)
same_ends max g h sources done told same is = is

-- What is told of the rows of a graph is told of the arcs that were passed.
pub same_solved : (max : ℕ) (g h : Graph) (sources : List ℕ) (old new : Slices) (b : BatchOutcome) → AreSame g h → AreSolved max g sources old new b → AreSolved max h sources old new b
same_solved max g h sources old new b same is = (
  record {
    trees = λ i s below there. same_tree max g h s i new same (is.0.trees i s below there);
    rest = subst (λ n. KeepsFrom (b.done * n) old new) same.n is.0.rest;
  },
  same_ends max g h sources b.done b.told same is.1,
)
