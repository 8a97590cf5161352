use Rattle.std.proofs.Common.{IfOk, subst}
use Rattle.sp_answer.specs.Run.{AreAnswersFor}
use Rattle.sp_lists.proofs.targets.find_answers.Goals as goal

pub returns-then-n-le1048574 : goal.returns-then-n-le1048574
returns-then-n-le1048574 c =
    let gr = c.args.prepared.graph.now in
    let s = c.args.source in
    let targets = c.args.targets.now in
    let told = c.told_by in
    subst (λ max. IfOk told.result (λ answers. AreAnswersFor gr s max targets answers.items)) told.ensures.reach told.ensures.answers

pub returns-then-n-le16777214 : goal.returns-then-n-le16777214
returns-then-n-le16777214 c =
    let gr = c.args.prepared.graph.now in
    let s = c.args.source in
    let targets = c.args.targets.now in
    let told = c.told_by-then-n-le16777214 in
    subst (λ max. IfOk told.result (λ answers. AreAnswersFor gr s max targets answers.items)) told.ensures.reach told.ensures.answers

pub returns-then-n-le268435454 : goal.returns-then-n-le268435454
returns-then-n-le268435454 c =
    let gr = c.args.prepared.graph.now in
    let s = c.args.source in
    let targets = c.args.targets.now in
    let told = c.told_by-then-n-le268435454 in
    subst (λ max. IfOk told.result (λ answers. AreAnswersFor gr s max targets answers.items)) told.ensures.reach told.ensures.answers

pub returns-else-n-le268435454 : goal.returns-else-n-le268435454
returns-else-n-le268435454 c =
    let gr = c.args.prepared.graph.now in
    let s = c.args.source in
    let targets = c.args.targets.now in
    let told = c.told_by-else-n-le268435454 in
    subst (λ max. IfOk told.result (λ answers. AreAnswersFor gr s max targets answers.items)) told.ensures.reach told.ensures.answers
