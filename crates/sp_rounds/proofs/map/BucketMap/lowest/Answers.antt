use Rattle.std.proofs.Common.{◌≢◌, [], subst, true≢false}
use Rattle.sp_rounds.specs.Content.{IsLowest}
use Rattle.sp_rounds.proofs.BucketMap.{lowest_there}
use Rattle.sp_rounds.proofs.EntryPlaces.{Any-nonempty}
use Rattle.sp_rounds.proofs.map.BucketMap.lowest.Goals as goal

pub returns-in-Some-clause-none : goal.returns-in-Some-clause-none
returns-in-Some-clause-none c =
    let m = c.self.inside in
    let low = lowest_there c.in-Some.number.now m.delta m.buckets.entries c.self.invariant.1 c.in-Some.field-0-1.now c.in-Some.ensures.value c.in-Some.ensures.all_from in
    let some : c.args.self.now.entries ≢ [] = subst (λ s. s.entries ≢ []) c.self.view_is (Any-nonempty _ _ low.here) in
    ((λ e. absurd (true≢false e)), (λ e. absurd (some e)))

pub returns-in-Some-clause-lowest : goal.returns-in-Some-clause-lowest
returns-in-Some-clause-lowest c =
    let m = c.self.inside in
    let low = lowest_there c.in-Some.number.now m.delta m.buckets.entries c.self.invariant.1 c.in-Some.field-0-1.now c.in-Some.ensures.value c.in-Some.ensures.all_from in
    subst (λ s. IsLowest s c.in-Some.number.now) c.self.view_is low
