use Rattle.std.proofs.Common.{List, sym, subst, arith}
use Rattle.std.specs.Prelude.{All}
use Rattle.std.proofs.lemmas.Grind.{common_steps}
use Rattle.std.proofs.lemmas.List.Elements.{All-push}
use Rattle.sp_picture.specs.declared.ties.Tie.{Tie}
use Rattle.sp_picture.specs.Ties.{IsTie}
use Rattle.sp_picture.proofs.ties.ties_of.Goals.{then-eq+in_ok-push, else-eq}
use Rattle.sp_picture.proofs.ties.ties_of.Goals as goal

pub loop-place-preserved : goal.loop-place-preserved
loop-place-preserved g c =
    elim c.if-eq.branch [
      | then-eq+in_ok-push w ↦
          let each = All-push (IsTie c.args.marks.now) c.loop-place.ties.items w.tie_at.result c.loop-place.invariant.each w.tie_at.ensures.tie in
          rw w.ties-is (record { lost = grind (arith, common_steps); each = subst (λ (ties : List Tie). All (IsTie c.args.marks.now) ties) (sym w.in_ok-push.ensures.items) each })
      | else-eq w ↦ rw w.ties-is (record { lost = grind (arith, common_steps); each = c.loop-place.invariant.each })
    ]
