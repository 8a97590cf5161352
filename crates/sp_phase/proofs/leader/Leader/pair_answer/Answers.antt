use Rattle.std.proofs.Common.{◌≡◌, refl, List, length, Some, None, sym, subst, ap, ◌∙◌}
use Rattle.sp_word.specs.Word.{Word, Unreached}
use Rattle.sp_paths.specs.Paths.{word_at}
use Rattle.sp_graph.specs.LeftOut.{network, IsLeastLeftOut}
use Rattle.sp_phase.specs.Lead.{Lead}
use Rattle.sp_phase.proofs.CopiedWords.{left_of_graph}
use Rattle.sp_phase.proofs.SettledBuckets.{sweep_far, sweep_none}
use Rattle.sp_phase.proofs.leader.Leader.pair_answer.Goals as goal

pub returns-in-Some-clause-refused : goal.returns-in-Some-clause-refused
returns-in-Some-clause-refused g c =
    let l = c.args.self.now in
    let t = c.args.target in
    let slice : c.as_slice-words.result.now ≡ l.words = c.as_slice-words.ensures.value ∙ ap (λ (x : Lead). x.words) c.self.view_is in
    let arcs = c.arcs.ensures.arcs ∙ ap (λ (x : Lead). x.stage.graph.arcs) c.self.view_is in
    let none : word_at l.words t ≡ Unreached = sym (c.look_up-word.ensures ∙ ap (λ (ws : List Word). word_at ws t) slice) ∙ c.if-not-is_unreached.ensures.0 refl in
    let swept = c.requires.known.none none in
    let L : List Word → Type 0 = λ ws. IsLeastLeftOut (network (length ws) c.arcs.result.now) (word_at ws) (Some c.in-Some.vertex) in
    let out = left_of_graph l.stage.graph (length l.words) c.arcs.result.now (word_at l.words) (Some c.in-Some.vertex) swept.0.size arcs (subst L slice c.in-Some.ensures) in
    ((swept.0.stage.source, c.requires.target), sweep_far g.row.P l.stage l.caller l.marks.each l.words swept c.swept_copy.ensures.is_pair t c.in-Some.vertex none out)

pub returns-in-None-clause-pair : goal.returns-in-None-clause-pair
returns-in-None-clause-pair g c =
    let l = c.args.self.now in
    let t = c.args.target in
    let slice : c.as_slice-words.result.now ≡ l.words = c.as_slice-words.ensures.value ∙ ap (λ (x : Lead). x.words) c.self.view_is in
    let arcs = c.arcs.ensures.arcs ∙ ap (λ (x : Lead). x.stage.graph.arcs) c.self.view_is in
    let none : word_at l.words t ≡ Unreached = sym (c.look_up-word.ensures ∙ ap (λ (ws : List Word). word_at ws t) slice) ∙ c.if-not-is_unreached.ensures.0 refl in
    let swept = c.requires.known.none none in
    let L : List Word → Type 0 = λ ws. IsLeastLeftOut (network (length ws) c.arcs.result.now) (word_at ws) None in
    let out = left_of_graph l.stage.graph (length l.words) c.arcs.result.now (word_at l.words) None swept.0.size arcs (subst L slice c.in-None.ensures) in
    ((swept.0.stage.source, c.requires.target), sweep_none g.row.P l.stage l.caller l.marks.each l.words swept c.swept_copy.ensures.is_pair t none out)
