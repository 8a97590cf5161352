use Rattle.std.proofs.Common.{◌≡◌, List, ◌∙◌, subst, sym}
use Rattle.std.specs.Prelude.{All, map, IsPermutation}
use Rattle.std.proofs.lemmas.List.{length-map}
use Rattle.std.proofs.lemmas.List.Elements.{All-map}
use Rattle.std.proofs.lemmas.List.Sorted.{length_permutation}
use Rattle.sp_paths.specs.declared.arc.Arc.{Arc}
use Rattle.sp_paths.specs.Paths.{IsArc}
use Rattle.spt_c.specs.Arcs.{arc_of}
use Rattle.spt_c.proofs.Same.{same_graph}
use Rattle.spt_c.proofs.arcs.graph_of.Goals as goal

pub from_arcs-requires-clause-arcs : goal.from_arcs-requires-clause-arcs
from_arcs-requires-clause-arcs c =
    let own : c.in_ok-own.own.items ≡ map arc_of c.args.arcs.now = c.in_ok-own.ensures in
    let A : List Arc → Type 0 = λ xs. All (IsArc c.args.n) xs in
    subst A (sym own) (All-map (IsArc c.args.n) arc_of c.args.arcs.now c.requires.arcs)

pub returns : goal.returns
returns c =
    let own : c.in_ok-own.own.items ≡ map arc_of c.args.arcs.now = c.in_ok-own.ensures in
    let arcs = map arc_of c.args.arcs.now in
    let graph = c.in_ok-from_arcs.field-0 in
    let I : List Arc → Type 0 = λ xs. IsPermutation xs graph.arcs in
    let is : IsPermutation arcs graph.arcs = subst I own c.in_ok-from_arcs.ensures.arcs in
    record {
      same = same_graph c.args.n arcs graph c.in_ok-from_arcs.ensures.n is;
      count = length_permutation arcs graph.arcs is ∙ length-map c.args.arcs.now arc_of;
    }
