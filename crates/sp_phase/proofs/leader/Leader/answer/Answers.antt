use Rattle.std.proofs.Common.{◌≡◌, List, length, Some, None, ap, ◌∙◌, subst, arith}
use Rattle.sp_word.specs.Word.{Word}
use Rattle.sp_paths.specs.Paths.{word_at}
use Rattle.sp_graph.specs.LeftOut.{network, IsLeastLeftOut}
use Rattle.sp_phase.specs.Lead.{Lead}
use Rattle.sp_phase.proofs.CopiedWords.{told_far, left_of_graph}
use Rattle.sp_phase.proofs.leader.Leader.answer.Goals as goal

pub returns-in-Some-clause-refused : goal.returns-in-Some-clause-refused
returns-in-Some-clause-refused g c =
    let l = c.args.self in
    let slice : c.as_slice.result.now ≡ l.words = c.as_slice.ensures.value ∙ ap (λ (x : Lead). x.words) c.self.view_is in
    let arcs = c.arcs.ensures.arcs ∙ ap (λ (x : Lead). x.stage.graph.arcs) c.self.view_is in
    let L : List Word → Type 0 = λ ws. IsLeastLeftOut (network (length ws) c.arcs.result.now) (word_at ws) (Some c.in-Some.vertex) in
    told_far g.row.P l.stage l.caller l.marks.each l.words c.in-Some.vertex c.swept_copy.ensures.is_far c.requires
    (left_of_graph l.stage.graph (length l.words) c.arcs.result.now (word_at l.words) (Some c.in-Some.vertex) c.requires.0.size arcs (subst L slice c.in-Some.ensures))

pub tree-requires : goal.tree-requires
tree-requires g c =
    let l = c.args.self in
    let slice : c.as_slice.result.now ≡ l.words = c.as_slice.ensures.value ∙ ap (λ (x : Lead). x.words) c.self.view_is in
    let arcs = c.arcs.ensures.arcs ∙ ap (λ (x : Lead). x.stage.graph.arcs) c.self.view_is in
    let L : List Word → Type 0 = λ ws. IsLeastLeftOut (network (length ws) c.arcs.result.now) (word_at ws) None in
    (omega arith, (omega arith, (c.requires, left_of_graph l.stage.graph (length l.words) c.arcs.result.now (word_at l.words) None c.requires.0.size arcs (subst L slice c.in-None.ensures))))
