use Rattle.std.proofs.Common.{List, ap}
use Rattle.std.specs.Prelude.{map}
use Rattle.sp_word.specs.Word.{Word}
use Rattle.sp_answer.specs.Within.{up_to}
use Rattle.sp_answer.proofs.OneSource.{part_tree}
use Rattle.sp_answer.proofs.run_words.RunWords.part.Goals as goal

pub returns : goal.returns
returns g c =
    let graph = c.args.graph.now in
    let s = c.args.source in
    let run = c.args.self.now in
    let limit = c.args.limit in
    let made = ap (λ (ws : List Word). map (up_to limit) ws) c.as_slice.ensures.value in
    part_tree g.row.P graph s (map (up_to limit) c.as_slice.result.now) c.in_ok-tree.tree c.in_ok-tree.ensures.tree c.in_ok-tree.ensures.words limit run.words.items run.far made c.n.ensures.graph c.requires.words
