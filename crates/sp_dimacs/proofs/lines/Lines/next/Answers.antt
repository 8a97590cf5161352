use Rattle.std.proofs.Common.{Some, [], refl, ◌∙◌, ap}
use Rattle.sp_dimacs.proofs.Given.{lent, ended_here, next_of, none_of, fault_of}
use Rattle.sp_dimacs.proofs.lines.Lines.next.Goals as goal

pub returns-in-Ok-true : goal.returns-in-Ok-true
returns-in-Ok-true g c =
    let new = c.advance.new.self in (
      (refl, λ _. tt, (λ e is. ap (λ r. r.state) (c.in-Ok-true.ensures.again e is).1 ∙ is, λ start given h. lent g.R.Read start given new.room c.bytes.result.now c.in-Ok-true.field-0 new c.in-Ok-true.field-0-test c.bytes.ensures (c.in-Ok-true.ensures.gave start given h))),
      record {
        again = λ e is. let told = c.in-Ok-true.ensures.again e is in cc;
        text = λ text given h. next_of g.R.Read text given c.bytes.result.now new (lent g.R.Read (Some text) given new.room c.bytes.result.now c.in-Ok-true.field-0 new c.in-Ok-true.field-0-test c.bytes.ensures (c.in-Ok-true.ensures.gave (Some text) given h));
        after = tt;
      },
    )

pub returns-in-Ok-false : goal.returns-in-Ok-false
returns-in-Ok-false g c =
    let new = c.advance.new.self in (
      (refl, λ _. tt, (λ e is. ap (λ r. r.state) (c.in-Ok-false.ensures.again e is).1 ∙ is, λ start given h. ended_here g.R.Read start given new.room c.in-Ok-false.field-0 new c.in-Ok-false.field-0-test (c.in-Ok-false.ensures.gave start given h))),
      record {
        again = λ e is. let told = c.in-Ok-false.ensures.again e is in cc;
        text = λ text given h. none_of g.R.Read text given [] new (ended_here g.R.Read (Some text) given new.room c.in-Ok-false.field-0 new c.in-Ok-false.field-0-test (c.in-Ok-false.ensures.gave (Some text) given h));
        after = tt;
      },
    )

pub returns-in-Err : goal.returns-in-Err
returns-in-Err g c =
    let new = c.advance.new.self in (
      (refl, λ _. tt, (λ e is. ap (λ r. r.state) (c.in-Err.ensures.again e is).1 ∙ is, λ start given h. c.in-Err.ensures.gave start given h)),
      record {
        again = λ e is. let told = (c.in-Err.ensures.again e is).0 in cc;
        text = λ text given h. fault_of g.R.Read text given new.room c.in-Err.error new (c.in-Err.ensures.gave (Some text) given h);
        after = tt;
      },
    )
