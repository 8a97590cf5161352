use Rattle.std.proofs.Common.{[], ◌∷◌, arith, length-append, length-drop}
use Rattle.std.proofs.lemmas.List.{take_rest, nil_from_length}
use Rattle.sp_text.specs.Lines.{fields_from}
use Rattle.sp_text.proofs.Forms.{next_first}
use Rattle.sp_text.proofs.matching.take_numbers.Goals as goal

pub loop-fields-preserved : goal.loop-fields-preserved
loop-fields-preserved c =
    let fields = c.loop-fields.fields.now in
    let values = c.loop-fields.values in
    let taken = c.in-Ok.ensures in
    record {
      room = rw (take_rest fields 1, c.push.ensures) (omega (arith, length-drop 1 fields, length-append values (c.in-Ok.n ∷ [])));
      spells = λ new result h. c.loop-fields.invariant.spells new result
          (next_first c.args.ranges.now c.args.problem.now fields _ (fields_from [] c.loop-fields.rest.now) (fields_from [] c.in-Ok.after.now) c.in-Ok.n values c.push.new.self new result (omega arith)
          (rw (take_rest fields 1) at taken.0) taken.1 c.push.ensures (rw (take_rest fields 1) at h));
    }

pub returns : goal.returns
returns c =
    let none = nil_from_length c.loop-fields.fields.now (omega arith) in
    c.loop-fields.invariant.spells c.loop-fields.values c.end_numbers.result (rw none (c.end_numbers.ensures c.args.ranges.now c.args.problem.now c.loop-fields.values))
