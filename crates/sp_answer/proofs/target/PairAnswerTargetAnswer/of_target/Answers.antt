use Rattle.std.proofs.Common.{List, length, ap, sym, subst, ◌∙◌, arith}
use Rattle.sp_word.specs.Word.{Word}
use Rattle.sp_paths.specs.Paths.{IsVertex, word_at}
use Rattle.sp_answer.specs.Pair.{answer_by}
use Rattle.sp_answer.proofs.TargetAnswers.{told_answer}
use Rattle.sp_answer.proofs.target.PairAnswerTargetAnswer.of_target.Goals as goal

pub look_up-word-requires : goal.look_up-word-requires
look_up-word-requires g c =
    let t = c.args.target in
    let are = c.requires.words in
    let size = ap (λ (ws : List Word). length ws) c.as_slice.ensures.value ∙ are.size in
    (omega arith, subst (λ n. IsVertex n t) (sym size) (are.vertices 0 t (omega arith)))

pub returns : goal.returns
returns g c =
    let t = c.args.target in
    let run = c.args.words.now in
    let word = c.look_up-word.ensures ∙ ap (λ (ws : List Word). word_at ws t) c.as_slice.ensures.value in
    let by = c.of_word.ensures ∙ ap (λ (w : Word). answer_by w run.far) word in
    told_answer g.row.P c.args.graph.now c.args._source run.words.items run.far t c.of_word.result c.requires.words by
