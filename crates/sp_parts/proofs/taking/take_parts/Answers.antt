use Rattle.std.proofs.Common.{◌≤◌, ◌^◌, ◌++◌, length, take}
use Rattle.std.specs.Prelude.{slice_range}
use Rattle.std.proofs.lemmas.Result.{err_from_is_err_and}
use Rattle.sp_text.specs.Collecting.{IsAfter}
use Rattle.std.proofs.lemmas.List.Elements.{All-get_or}
use Rattle.sp_text.specs.Text.{judge}
use Rattle.sp_parts.specs.Parts.{IsPartOf}
use Rattle.sp_parts.proofs.TextParts.{tail_slice, fed_earlier}
use Rattle.sp_parts.proofs.taking.take_parts.Goals as goal

pub returns-in_err-done : goal.returns-in_err-done
returns-in_err-done g c =
    let p = err_from_is_err_and c.from_residual.result c.from_residual.ensures.1 in
    rw (p.1, p.2) (λ front ps small problem parts h.
    c.in_err-done.ensures.refused front small (c.loop-part.invariant.1 front ps small problem parts h))

pub loop-part-preserved : goal.loop-part-preserved
loop-part-preserved g c = (
  c.in_ok-done.ensures.within,
  λ front ps small problem parts h.
      c.in_ok-done.ensures.taken front ps small problem (rw c.part-item.is (All-get_or (IsPartOf g.K.Keep.format g.K.Keep.ranges g.K.Keep.Kept ps c.args.text.now) c.args.parts.now c.loop-part.part-index c.part-item.result c.loop-part-test.true parts)) (c.loop-part.invariant.1 front ps small problem parts h),
)

pub returns : goal.returns
returns g c = λ front ps small problem parts h.
    let text = c.args.text.now in
    let done = c.loop-part.done in
    let behind = c.loop-part.invariant.1 front ps small problem parts h in
    let whole = tail_slice front text done in
    let short : length (front ++ take done text ++ slice_range text done (length text)) ≤ 2 ^ 62 = rw whole small in
    rw (← whole) (fed_earlier (judge g.K.Keep.format g.K.Keep.ranges) (λ c' lines. IsAfter g.K.Keep.format g.K.Keep.Kept lines c'.keep c'.problem c'.counts) front (take done text) (front ++ take done text ++ slice_range text done (length text)) c.feed_items.result c.feed_items.new.self (c.feed_items.ensures (front ++ take done text) short behind))
