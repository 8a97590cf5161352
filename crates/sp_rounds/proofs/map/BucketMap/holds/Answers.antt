use Rattle.std.proofs.Common.{◌≡◌, ◌≢◌, Any, All, Bool, true, false, refl, sym, subst, ◌∙◌}
use Rattle.std.specs.Bool.{OnFalse}
use Rattle.sp_rounds.specs.Content.{BucketsContent, bucket_of}
use Rattle.sp_rounds.proofs.BucketMap.{held, free}
use Rattle.sp_rounds.proofs.map.BucketMap.holds.Goals as goal

pub returns-clause-held : goal.returns-clause-held
returns-clause-held c = λ yes_.
    let m = c.self.inside in
    subst (λ (s : BucketsContent). Any (λ entry. bucket_of s.delta entry ≡ c.args.number) s.entries) c.self.view_is (held c.args.number m.delta m.buckets.entries c.self.invariant.1 (sym c.contains_key.ensures ∙ yes_))

pub returns-clause-free : goal.returns-clause-free
returns-clause-free c = at_false c.contains_key.result refl
  where
    at_false : (b : Bool) → c.contains_key.result ≡ b → OnFalse b (All (λ entry. bucket_of c.args.self.now.delta entry ≢ c.args.number) c.args.self.now.entries)
    at_false true e = tt
    at_false false e =
        let m = c.self.inside in
        subst (λ (s : BucketsContent). All (λ entry. bucket_of s.delta entry ≢ c.args.number) s.entries) c.self.view_is (free c.args.number m.delta m.buckets.entries c.self.invariant.1 (sym c.contains_key.ensures ∙ e))
