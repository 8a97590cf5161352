use Rattle.std.proofs.Common.{◌+◌, ◌-◌, ◌*◌, length, get_or, refl, ap, inr, ◌∙◌, arith}
use Rattle.sp_paths.specs.declared.arc.Arc.{Arc}
use Rattle.sp_packed.proofs.rows.cut_fault.Goals as goal

pub returns-then-may_head : goal.returns-then-may_head
returns-then-may_head c =
    let ns = c.args.numbers.now in
    let a : Arc = record { tail = c.row_of.result; head = get_or ns (length ns - 1) 0; len = 1 } in
    inr (
      a,
      omega (arith, c.if-numbers-eq0.false),
      refl,
      record { some = c.row_of.ensures.next.some; within = c.row_of.ensures.next.within; row = c.row_of.ensures.row; fits = omega arith },
      inr (
        c.may_head.ensures.may c.if-may_head.true,
        record {
          at = c.cut-then-may_head.ensures.at ∙ ap (λ k. 4 * (k + 1)) c.words_before-before.ensures;
          few = c.cut-then-may_head.ensures.few;
          read = c.cut-then-may_head.ensures.read;
        },
      ),
    )
