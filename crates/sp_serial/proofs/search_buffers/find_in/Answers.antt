use Rattle.std.proofs.Common.{List, None, sym, ap, subst, arith}
use Rattle.std.proofs.lemmas.Bool.{OnTrue_at}
use Rattle.sp_word.specs.Word.{Word}
use Rattle.sp_answer.specs.Run.{AreTargetWords}
use Rattle.sp_answer.proofs.TargetAnswers.{target_words}
use Rattle.sp_serial.proofs.search_buffers.find_in.Goals as goal

pub answers-answers-requires : goal.answers-answers-requires
answers-answers-requires g c =
    let graph = c.args.graph.now in
    let s = c.args.source in
    let targets = c.args.targets in
    let told = OnTrue_at c.if-not-branch.false ((c.in_ok-reach.ensures {u = tt}).told) in
    let are = target_words g.row.P graph s c.reach.new.tracked.words.items None targets c.requires.targets told in
    (omega arith, (c.requires.source, subst (λ (ws : List Word). AreTargetWords g.row.P graph s targets.now ws None) (sym (ap (λ x. x.items) c.replace-words.ensures.value)) are))
