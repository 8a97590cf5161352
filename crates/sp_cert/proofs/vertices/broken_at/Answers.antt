use Rattle.std.proofs.Common.{sym, ap, ◌∙◌}
use Rattle.std.proofs.lemmas.Bool.{iff_false}
use Rattle.sp_word.specs.Word.{dist_of, pred_of}
use Rattle.sp_paths.specs.Paths.{word_at}
use Rattle.sp_cert.proofs.RowSteps.{pair_of_both, own_none, own_broken, breaks_none, breaks_names, breaks_limit}
use Rattle.sp_cert.proofs.vertices.broken_at.Goals as goal

pub returns-then-is_same : goal.returns-then-is_same
returns-then-is_same g c =
    own_none c.args.graph.now c.args.sources c.args.limit (word_at c.args.words.now) c.args.vertex (c.is_source.ensures.0 c.if-is_source.true) (sym c.look_up-word.ensures ∙ (c.is_same.ensures.word.0 c.if-is_same.true ∙ c.pack.ensures))

pub returns-else-is_same : goal.returns-else-is_same
returns-else-is_same g c =
    own_broken c.args.graph.now c.args.sources c.args.limit (word_at c.args.words.now) c.args.vertex (c.is_source.ensures.0 c.if-is_source.true) (λ e. iff_false c.is_same.ensures.word c.if-is_same.false (c.look_up-word.ensures ∙ (e ∙ sym c.pack.ensures)))

pub returns-then-not-is_explained : goal.returns-then-not-is_explained
returns-then-not-is_explained g c =
    breaks_names c.args.graph.now c.args.sources c.args.limit (word_at c.args.words.now) c.args.vertex (λ source. iff_false c.is_source.ensures c.if-is_source.false source) c.in-Some-Some.dist c.in-Some-Some.pred (pair_of_both (word_at c.args.words.now c.args.vertex) c.in-Some-Some.dist c.in-Some-Some.pred (sym (ap dist_of c.look_up-word.ensures) ∙ (sym c.dist.ensures.dist ∙ c.in-Some-Some.is-0)) (sym (ap pred_of c.look_up-word.ensures) ∙ (sym c.pred.ensures.pred ∙ c.in-Some-Some.is-1)))
    (λ e. iff_false c.is_explained.ensures c.if-not-is_explained.true e)

pub returns-then-is_above : goal.returns-then-is_above
returns-then-is_above g c =
    breaks_limit c.args.graph.now c.args.sources c.args.limit (word_at c.args.words.now) c.args.vertex (λ source. iff_false c.is_source.ensures c.if-is_source.false source) c.in-Some-Some.dist c.in-Some-Some.pred (pair_of_both (word_at c.args.words.now c.args.vertex) c.in-Some-Some.dist c.in-Some-Some.pred (sym (ap dist_of c.look_up-word.ensures) ∙ (sym c.dist.ensures.dist ∙ c.in-Some-Some.is-0)) (sym (ap pred_of c.look_up-word.ensures) ∙ (sym c.pred.ensures.pred ∙ c.in-Some-Some.is-1)))
    (c.is_explained.ensures.0 c.if-not-is_explained.false) (c.is_above.ensures.0 c.if-is_above.true)

pub returns-else-is_above : goal.returns-else-is_above
returns-else-is_above g c =
    breaks_none c.args.graph.now c.args.sources c.args.limit (word_at c.args.words.now) c.args.vertex (λ source. iff_false c.is_source.ensures c.if-is_source.false source) c.in-Some-Some.dist c.in-Some-Some.pred (pair_of_both (word_at c.args.words.now c.args.vertex) c.in-Some-Some.dist c.in-Some-Some.pred (sym (ap dist_of c.look_up-word.ensures) ∙ (sym c.dist.ensures.dist ∙ c.in-Some-Some.is-0)) (sym (ap pred_of c.look_up-word.ensures) ∙ (sym c.pred.ensures.pred ∙ c.in-Some-Some.is-1)))
    (c.is_explained.ensures.0 c.if-not-is_explained.false) (λ high. iff_false c.is_above.ensures c.if-is_above.false high)
