use Rattle.std.proofs.Common.{ap, sym, subst, ◌∙◌, arith}
use Rattle.std.specs.Prelude.{All}
use Rattle.sp_phase.specs.Lead.{Lead}
use Rattle.sp_phase.specs.Running.{IsQueued}
use Rattle.sp_phase.proofs.leader.Leader.empty_bucket.Goals as goal

pub returns-then-is_empty : goal.returns-then-is_empty
returns-then-is_empty g c = ap (λ (l : Lead). l.stage) c.take_bucket-taken.ensures.rest ∙ c.loop.invariant

pub light_round-requires-after_bounds : goal.light_round-requires-after_bounds
light_round-requires-after_bounds g c κs within =
    let take = c.take_bucket-taken in
    let here = ap (λ (l : Lead). l.stage) take.ensures.rest in
    (omega arith, subst (λ es. All (IsQueued g.row.P take.new.self.stage) es) (sym c.as_slice.ensures.value) (subst (λ s. All (IsQueued g.row.P s) take.result.items) (sym here) take.ensures.queued))

pub loop-preserved : goal.loop-preserved
loop-preserved g c = c.in_ok-self.ensures.stage ∙ (ap (λ (l : Lead). l.stage) c.take_bucket-taken.ensures.rest ∙ c.loop.invariant)
