use Rattle.std.proofs.Common.{ℕ, ◌<◌, List, length, get_or, sym, ap, ◌∙◌, subst}
use Rattle.std.proofs.lemmas.Bool.{OnTrue_at}
use Rattle.std.proofs.lemmas.List.{get_or_default}
use Rattle.sp_word.specs.Word.{Word}
use Rattle.sp_paths.specs.Paths.{word_at}
use Rattle.sp_answer.specs.Within.{up_to}
use Rattle.sp_serial.specs.Part.{HasGained}
use Rattle.sp_serial.proofs.PartRows.{pushed_more}
use Rattle.sp_serial.proofs.part.tree_of.Goals as goal

pub loop-vertex-preserved : goal.loop-vertex-preserved
loop-vertex-preserved g c =
    let limit = c.args.limit in
    let words = c.args.tracked.now.words.items in
    let reached = c.args.tracked.now.reached.items in
    let i = c.loop-vertex.vertex-index in
    let list = c.deref-vertex-items.result.now in
    let listed = c.deref-vertex-items.ensures.value in
    let v = get_or list i 0 in
    let low = subst (λ (xs : List ℕ). i < length xs) listed c.loop-vertex-test.true in
    let is = c.up_to-word.ensures ∙ ap (up_to limit) (c.look_up.ensures ∙ ap (λ (ws : List Word). word_at ws v) c.deref.ensures.value) in
    let made = OnTrue_at c.if-not-branch.false (c.in_ok-push_word.ensures {u = tt}) in
    pushed_more c.args.source limit words reached i v c.loop-vertex.tree c.push_word.new.tree (λ d. get_or_default reached i d 0 low ∙ ap (λ (xs : List ℕ). get_or xs i 0) (sym listed)) c.loop-vertex.invariant (subst (λ (w : Word). HasGained c.loop-vertex.tree v w c.push_word.new.tree) is made)
