use Rattle.std.proofs.Common.{List, [], ◌∷◌, length, ap, sym, subst, ◌∙◌, arith}
use Rattle.sp_word.specs.Word.{Word}
use Rattle.sp_paths.specs.Paths.{IsVertex, word_at}
use Rattle.sp_answer.specs.Pair.{answer_of, answer_by}
use Rattle.sp_answer.specs.Run.{AreTargetWords, IsAnswerFor}
use Rattle.sp_answer.proofs.TargetAnswers.{told_answer}
use Rattle.sp_answer.proofs.TargetRoutes.{found_back}
use Rattle.sp_answer.proofs.target.RouteAnswerTargetAnswer.of_target.Goals as goal

pub look_up-requires : goal.look_up-requires
look_up-requires g c =
    let t = c.args.target in
    let are = c.requires.words in
    let size = ap (λ (ws : List Word). length ws) c.as_slice-listed.ensures.value ∙ are.size in
    (omega arith, subst (λ n. IsVertex n t) (sym size) (are.vertices 0 t (omega arith)))

pub route_of-requires : goal.route_of-requires
route_of-requires g c =
    let s = c.args.source in
    let t = c.args.target in
    let words = c.as_slice-listed.result.now in
    let far = c.args.words.now.far in
    let are = subst (λ (ws : List Word). AreTargetWords g.row.P c.args.graph.now s (t ∷ []) ws far) (sym c.as_slice-listed.ensures.value) c.requires.words in
    let by = ap answer_of (sym c.in-Found.is) ∙ (c.of_word.ensures ∙ ap (λ (w : Word). answer_by w far) c.look_up.ensures) in
    (omega arith, (c.requires.source, (are.vertices 0 t (omega arith), (found_back g.row.P c.args.graph.now s t words far are c.in-Found.dist c.in-Found.pred by).0)))

pub returns-in_ok-route-in-Found : goal.returns-in_ok-route-in-Found
returns-in_ok-route-in-Found g c =
    let s = c.args.source in
    let t = c.args.target in
    let words = c.as_slice-listed.result.now in
    let far = c.args.words.now.far in
    let are = subst (λ (ws : List Word). AreTargetWords g.row.P c.args.graph.now s (t ∷ []) ws far) (sym c.as_slice-listed.ensures.value) c.requires.words in
    let by = ap answer_of (sym c.in-Found.is) ∙ (c.of_word.ensures ∙ ap (λ (w : Word). answer_by w far) c.look_up.ensures) in
    let (_, least, most) = found_back g.row.P c.args.graph.now s t words far are c.in-Found.dist c.in-Found.pred by in
    (least, most, c.in_ok-route-in-Found.ensures)

pub returns-in-TooFar : goal.returns-in-TooFar
returns-in-TooFar g c =
    let s = c.args.source in
    let t = c.args.target in
    let words = c.as_slice-listed.result.now in
    let far = c.args.words.now.far in
    let are = subst (λ (ws : List Word). AreTargetWords g.row.P c.args.graph.now s (t ∷ []) ws far) (sym c.as_slice-listed.ensures.value) c.requires.words in
    let by = c.of_word.ensures ∙ ap (λ (w : Word). answer_by w far) c.look_up.ensures in
    subst (IsAnswerFor c.args.graph.now s t _) c.in-TooFar.is (told_answer g.row.P c.args.graph.now s words far t c.of_word.result are by)

pub returns-in-NoWalk : goal.returns-in-NoWalk
returns-in-NoWalk g c =
    let s = c.args.source in
    let t = c.args.target in
    let words = c.as_slice-listed.result.now in
    let far = c.args.words.now.far in
    let are = subst (λ (ws : List Word). AreTargetWords g.row.P c.args.graph.now s (t ∷ []) ws far) (sym c.as_slice-listed.ensures.value) c.requires.words in
    let by = c.of_word.ensures ∙ ap (λ (w : Word). answer_by w far) c.look_up.ensures in
    subst (IsAnswerFor c.args.graph.now s t _) c.in-NoWalk.is (told_answer g.row.P c.args.graph.now s words far t c.of_word.result are by)
