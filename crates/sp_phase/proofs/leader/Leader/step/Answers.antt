use Rattle.std.proofs.Common.{ℕ, Bool, Option, IfOk, sym, subst}
use Rattle.std.specs.Prelude.{IsTrue, IfSome}
use Rattle.sp_paths.specs.Paths.{IsVertex}
use Rattle.sp_paths.proofs.Sweep.{swept_is_pair}
use Rattle.sp_phase.specs.Stage.{Stage}
use Rattle.sp_phase.specs.Lead.{Lead}
use Rattle.sp_phase.specs.declared.advancing.AdvanceUntil.{AdvanceUntil}
use Rattle.sp_phase.specs.declared.advancing.AdvanceUntil.TheVariants.{BucketSettled}
use Rattle.sp_phase.specs.Settling.{Tells, IsBeyond}
use Rattle.sp_phase.proofs.SettledBuckets.{sweep_pair}
use Rattle.sp_phase.proofs.leader.Leader.step.Goals as goal

pub returns-in_ok-none-in-None-clause-later : goal.returns-in_ok-none-in-None-clause-later
returns-in_ok-none-in-None-clause-later g c _ = subst (λ o. IfSome o (IsBeyond c.args.until)) (sym c.in-None.is) tt

pub returns-in-BucketSettled-clause-later : goal.returns-in-BucketSettled-clause-later
returns-in-BucketSettled-clause-later g c =
    let T : AdvanceUntil → Option ℕ → Type 0 = λ u o. IfOk c.settle_bucket.result (λ (done : Lead × Bool). IsTrue done.1 → IfSome o (IsBeyond u)) in
    subst (λ u. T u c.args.bucket) (sym c.in-BucketSettled.is) (subst (λ o. T (BucketSettled c.in-BucketSettled.closed) o) (sym c.in-Some.is) c.settle_bucket.ensures.later)

pub returns-in-BucketSettled-clause-told : goal.returns-in-BucketSettled-clause-told
returns-in-BucketSettled-clause-told g c =
    let T : Option ℕ → Type 0 = λ o. IfOk c.settle_bucket.result (λ (done : Lead × Bool). IsTrue done.1 → Tells g.row.P o done.0) in
    subst T (sym c.in-Some.is) c.settle_bucket.ensures.told

pub returns-in_ok-none-in-None-clause-target : goal.returns-in_ok-none-in-None-clause-target
returns-in_ok-none-in-None-clause-target g c is t final =
    let l = c.sweep.new.self in
    let swept = c.in_ok-none-in-None.ensures.swept is in
    let vertex : IsVertex l.stage.graph.n t = subst (λ (s : Stage). IsVertex s.graph.n t) (sym c.in_ok-none-in-None.ensures.stage) (c.requires.target t final) in
    record {
      found = λ d p at. sweep_pair g.row.P l.stage l.caller l.marks.each l.words swept swept_is_pair t d p vertex at;
      none = λ at. swept;
    }

pub returns-in-Final-clause-told : goal.returns-in-Final-clause-told
returns-in-Final-clause-told g c =
    let T : Option ℕ → Type 0 = λ o. IfOk c.settle_target.result (λ (done : Lead × Bool). IsTrue done.1 → Tells g.row.P o done.0) in
    subst T (sym c.in-Some.is) c.settle_target.ensures.told
