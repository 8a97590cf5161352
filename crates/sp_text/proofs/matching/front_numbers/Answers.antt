use Rattle.std.proofs.Common.{◌≡◌, ◌+◌, ◌<◌, [], ◌∷◌, ◌++◌, length, take, drop, arith, length-append, append_assoc, add-zero, refl}
use Rattle.std.proofs.lemmas.List.{append-nil, drop_all}
use Rattle.sp_text.specs.Matching.{AreSpaced}
use Rattle.sp_text.proofs.UsualLines.{spaced_none}
use Rattle.sp_text.proofs.FrontNumbers.{in_range, front_behind, spaced_on, plain_on, whole_on}
use Rattle.sp_text.proofs.matching.front_numbers.Goals as goal

pub loop-place-preserved : goal.loop-place-preserved
loop-place-preserved c =
    let text = c.args.text.now in
    let values = c.loop-place.values in
    let end = c.loop-place.end in
    let n = c.in_ok-value.value in
    let count = c.in_ok-value.count in
    let behind : c.split_at.result.1.now ≡ drop 1 text = c.split_at.ensures.back in
    let number = front_behind text n end count (rw behind at c.in_ok-value.ensures.number) in
    let before = c.loop-place.invariant in
    let within : c.loop-place.place < length c.args.fields.now = omega arith in
    let goes_on : end < length text = omega (arith, before.within) in
    record {
      read = rw (c.put.ensures, length-append values (n ∷ []), before.read) refl;
      within = omega (arith, c.in_ok-value.ensures.within);
      plain = plain_on text end count goes_on c.if-text-end-ne32.false number.digits before.plain;
      spaced = λ k ns others.
          rw (c.put.ensures, append_assoc values (n ∷ []) ns, whole_on text end count k)
          (before.spaced _ (n ∷ ns)
          (spaced_on c.args.ranges.now c.args.problem.now c.args.fields.now c.loop-place.place _ text ns n n end count k _ within goes_on c.if-text-end-ne32.false number c.greatest.ensures
          (in_range n _ _ c.if-field-gt1.false c.in_ok-value.ensures.positive c.if-value-greatest.false) others));
    }

pub returns : goal.returns
returns c =
    let values = c.loop-place.values in
    let end = c.loop-place.end in
    let before = c.loop-place.invariant in
    let all : drop c.loop-place.place c.args.fields.now ≡ [] = drop_all c.loop-place.place c.args.fields.now c.loop-place-test.false in
    let spaced : AreSpaced c.args.ranges.now c.args.problem.now c.args.fields.now (take (end + 0) c.args.text.now) (values ++ []) = before.spaced 0 [] (rw all (spaced_none c.args.ranges.now c.args.problem.now)) in
    record {
      within = omega (arith, before.within);
      short = omega (arith, before.within);
      plain = before.plain;
      spaced = rw (add-zero end, append-nil values) at spaced;
    }
