use Rattle.std.proofs.Common.{sym, subst, ◌∙◌}
use Rattle.sp_rounds.specs.Content.{Takes}
use Rattle.sp_rounds.specs.Filed.{IsFiled}
use Rattle.sp_rounds.proofs.BucketMap.{content_of, taken_there, none_taken}
use Rattle.sp_rounds.proofs.map.BucketMap.take.Goals as goal
use Rattle.sp_rounds.proofs.map.BucketMap.take.Goals.{in-Some, in-None}

taken : (c : goal.Joined-remove) → IsFiled c.self.inside.delta c.remove.new.self.entries × Takes c.args.number c.match-remove.result.items (content_of c.self.inside.delta c.self.inside.buckets.entries) (content_of c.self.inside.delta c.remove.new.self.entries)
taken c =
    let m = c.self.inside in
    elim c.match-remove.branch [
      | in-Some w ↦
          rw w.result-is (taken_there c.args.number m.delta m.buckets.entries c.remove.new.self.entries c.self.invariant.1 w.in-Some.bucket (sym c.remove.ensures.value ∙ w.in-Some.is) c.remove.ensures.entries c.remove.ensures.updates.1)
      | in-None w ↦
          rw (w.result-is, w.new.ensures.items)
          (none_taken c.args.number m.delta m.buckets.entries c.remove.new.self.entries c.self.invariant.1 (sym c.remove.ensures.value ∙ w.in-None.is) w.in-None.ensures.unchanged)
    ]

pub invariant_of-self : goal.invariant_of-self
invariant_of-self c = (c.self.invariant.0, (taken c).0)

pub returns : goal.returns
returns c = subst (λ old. Takes c.args.number c.match-remove.result.items old (content_of c.self.inside.delta c.remove.new.self.entries)) c.self.view_is (taken c).1
