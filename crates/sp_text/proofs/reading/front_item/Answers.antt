use Rattle.std.proofs.Common.{◌≡◌, ℕ, ◌+◌, ◌∙◌, List, drop, get_or, arith, refl, sym, ap}
use Rattle.std.proofs.Math.Seq.{drop-drop}
use Rattle.std.proofs.lemmas.List.{take_rest}
use Rattle.sp_text.proofs.LineForms.{front_usual}
use Rattle.sp_text.proofs.FieldRuns.{no_remark}
use Rattle.sp_text.proofs.reading.front_item.Goals as goal

-- The bytes behind an LF.
behind_lf : (text : List ℕ) (end : ℕ) → drop (end + 2) text ≡ drop 1 (drop (end + 1) text)
behind_lf text end = sym (drop-drop 1 (end + 1) text ∙ ap (λ (k : ℕ). drop k text) (omega arith))

pub returns : goal.returns
returns c =
    let line = c.split_at.result.0.now in
    let text = c.args.text.now in
    let front = rw (take_rest text 1) at c.in_ok-values.ensures in
    let lf : get_or (drop 1 text) c.in_ok-values.end 0 ≡ 10 = rw (take_rest text 1) at c.if-rest-end-ne10.false in
    front_usual c.args.format.now text line c.split_at-2.result.1.now c.in_ok-after_letter.field-0.now c.in_ok-values.end _ c.args.ranges.now c.args.problem.now c.in_ok-values.values
    (c.requires.items 0 _ (omega arith)) (omega arith) (omega arith) front lf (omega arith) c.split_at.ensures.front
    (c.split_at-2.ensures.back ∙ behind_lf text c.in_ok-values.end) c.in_ok-after_letter.ensures.letter c.in_ok-after_letter.ensures.rest
    (sym (no_remark line (c.if-not-starts_otherwise.ensures refl))) (c.if-not-begins_otherwise.ensures refl)
