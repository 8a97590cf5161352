use Rattle.std.proofs.Common.{◌≡◌, ◌<◌, [], ◌∷◌, length, drop, arith, length-append, append_assoc, refl, sym, ◌∙◌}
use Rattle.std.proofs.lemmas.Bool.{eqb-true}
use Rattle.std.proofs.lemmas.List.{take_rest, append-nil, drop_all, nil_from_length}
use Rattle.sp_text.proofs.UsualLines.{spaced_more, spaced_none}
use Rattle.sp_text.proofs.matching.spaced_numbers.Goals as goal

pub loop-place-preserved : goal.loop-place-preserved
loop-place-preserved c =
    let rest = c.loop-place.rest.now in
    let values = c.loop-place.values in
    let n = c.in-Value.value in
    let within : c.loop-place.place < length c.args.fields.now = omega arith in
    record {
      read = rw (c.put.ensures, length-append values (n ∷ []), c.loop-place.invariant.read) refl;
      spaced = λ ns others.
          let front = rw (take_rest rest 1) at c.in_ok-value.ensures in
          let more = rw (c.split_at.ensures.back, take_rest rest 1) at others in
          rw (c.put.ensures, append_assoc values (n ∷ []) ns)
          (c.loop-place.invariant.spaced (n ∷ ns)
          (spaced_more c.args.ranges.now c.args.problem.now c.args.fields.now c.loop-place.place _ rest ns n c.in_ok-value.value c.in_ok-value.end _ within c.in-len1-up.len_at_least c.if-first-ne32.false front c.greatest-most.ensures c.in-Value.ensures more));
    }

pub returns-then-is_empty : goal.returns-then-is_empty
returns-then-is_empty c =
    let values = c.loop-place.values in
    let none : c.loop-place.rest.now ≡ [] = nil_from_length c.loop-place.rest.now (eqb-true _ 0 (sym c.is_empty.ensures ∙ c.if-is_empty.true)) in
    let all : drop c.loop-place.place c.args.fields.now ≡ [] = drop_all c.loop-place.place c.args.fields.now c.loop-place-test.false in
    rw (← append-nil values) (c.loop-place.invariant.spaced [] (rw (none, all) (spaced_none c.args.ranges.now c.args.problem.now)))
