use Rattle.std.proofs.Common.{◌∙◌, refl}
use Rattle.sp_rounds.specs.Work.{numbers_of}
use Rattle.sp_rounds.proofs.WorkerSteps.{goes_more, goes_same}
use Rattle.sp_rounds.proofs.workers.stealing.run_worker.Goals as goal

pub loop-init : goal.loop-init
loop-init g c = (
  c.requires.tokens.0,
  c.requires.tokens.1,
  goes_same _ _ _ _ _ (λ i. record { caller = c.args.start.caller; claimer = c.args.start.claimer; receipts = numbers_of (c.new.ensures.items i); found = c.new-2.ensures.items i }),
  refl,
)

pub loop-preserved : goal.loop-preserved
loop-preserved g c =
    let step = c.try_number.ensures.goes in
    (step.made.later.table ∙ c.loop.invariant.0, step.claims ∙ c.loop.invariant.1, goes_more _ _ _ _ _ _ c.loop.invariant.2 step, c.try_number.ensures.started ∙ c.loop.invariant.3)

pub returns-then-not-try_number-clause-goes : goal.returns-then-not-try_number-clause-goes
returns-then-not-try_number-clause-goes g c = goes_more _ _ _ _ _ _ c.loop.invariant.2 c.try_number.ensures.goes
