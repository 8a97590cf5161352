use Rattle.std.proofs.Common.{◌∙◌, refl, sym, arith}
use Rattle.std.proofs.lemmas.List.Elements.{Contains-get_or}
use Rattle.std.proofs.lemmas.Bool.{false≢true}
use Rattle.sp_serial.proofs.Lowered.{no_arc}
use Rattle.sp_pairs.proofs.NearPairs.{passed_by, taken, next_found}
use Rattle.sp_pairs.proofs.near.next_of.Goals.{then-is_first, else-is_first}
use Rattle.sp_pairs.proofs.near.next_of.Goals as goal

pub loop-arc-preserved-then-comes_no_later : goal.loop-arc-preserved-then-comes_no_later
loop-arc-preserved-then-comes_no_later g c =
    let l = c.loop-arc in
    (l.invariant.0, l.invariant.1, passed_by l.room c.args.to c.args.dist c.args.row.now l.arc-index no_arc c.loop-arc-test.true l.next l.invariant.2 (λ first. c.if-comes_no_later.ensures.0 refl))

pub loop-arc-preserved : goal.loop-arc-preserved
loop-arc-preserved g c =
    let l = c.loop-arc in
    let decided = rw c.in-Some.is at c.in_ok-is_first.ensures.first in
    rw c.is_first_arc.ensures.graph (elim c.if-is_first.branch [
      | then-is_first w ↦ rw w.next-is (l.invariant.0, (Contains-get_or c.args.row.now l.arc-index no_arc c.loop-arc-test.true, decided.0 w.if-is_first.true), taken l.room c.args.to c.args.dist c.args.row.now l.arc-index no_arc c.loop-arc-test.true l.next l.invariant.2 (λ is. false≢true (c.if-comes_no_later.ensures.1 is)))
      | else-is_first w ↦ rw w.next-is (l.invariant.0, l.invariant.1, passed_by l.room c.args.to c.args.dist c.args.row.now l.arc-index no_arc c.loop-arc-test.true l.next l.invariant.2 (λ first. absurd (false≢true (sym w.if-is_first.false ∙ decided.1 first))))
    ])

pub returns-clause-next : goal.returns-clause-next
returns-clause-next g c =
    let l = c.loop-arc in
    rw l.invariant.0 at (next_found l.room c.args.to c.args.dist c.args.row.now l.arc-index l.next (omega (arith, c.loop-arc-test.false)) l.invariant.1 l.invariant.2)
