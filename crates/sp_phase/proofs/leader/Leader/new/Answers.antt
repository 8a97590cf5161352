use Rattle.std.proofs.Common.{ℕ, ap, subst, sym, ◌∙◌}
use Rattle.sp_rounds.specs.Content.{Puts}
use Rattle.sp_phase.proofs.LeaderHolds.{first_leads}
use Rattle.sp_phase.proofs.leader.Leader.new.Goals as goal

pub invariant_of-result : goal.invariant_of-result
invariant_of-result g c =
    let W : ℕ → Type 0 = λ v. Puts (record { vertex = v; dist = 0 }) c.in_ok-buckets.buckets c.put.new.self in (
      c.requires.claimer,
      first_leads g.row.P c.args.store.now c.args.caller _ _ c.in_ok-buckets.buckets c.n-n.ensures.stage c.requires.caller c.open.ensures.caller c.open.ensures.source c.n-n.ensures.n c.in_ok-marks.ensures.each c.in_ok-marks.ensures.remembered
          (ap (λ b. b.delta) c.in_ok-buckets.ensures ∙ (c.get.ensures.width ∙ c.delta.ensures)) (ap (λ b. b.entries) c.in_ok-buckets.ensures) (subst W c.source.ensures c.in_ok-put.ensures.put)
          (sym c.in_ok-words.words.ok.0 ∙ (c.in_ok-words.ensures.len ∙ c.n-n.ensures.n)),
    )
