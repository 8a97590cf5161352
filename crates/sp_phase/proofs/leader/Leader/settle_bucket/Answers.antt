use Rattle.std.proofs.Common.{◌≡◌, ℕ, ◌+◌, ◌*◌, ◌<◌, sym, subst, ap, ◌∙◌}
use Rattle.sp_rounds.specs.Content.{IsLowest}
use Rattle.sp_phase.specs.Stage.{Stage}
use Rattle.sp_phase.specs.Lead.{Lead}
use Rattle.sp_phase.proofs.SettledBuckets.{test_told, bucket_fits}
use Rattle.sp_phase.proofs.leader.Leader.settle_bucket.Goals as goal

pub bounds_of-bounds-requires : goal.bounds_of-bounds-requires
bounds_of-bounds-requires g c =
    let r = c.self.inside in
    let led = c.self.invariant.1 in
    let i = c.args.bucket in
    let F : ℕ → Type 0 = λ d. i * d + d < 18446744073709551616 in
    let lowest = subst (λ (l : Lead). IsLowest l.buckets i) (sym c.self.view_is) c.requires in
    subst F (sym (c.get.ensures.width ∙ c.delta.ensures)) (bucket_fits g.row.P r.store.now led.holds.stage r.buckets i led.width led.entries lowest)

pub returns-clause-stage : goal.returns-clause-stage
returns-clause-stage g c = c.queue_open.ensures.stage ∙ c.in_ok-leader.ensures

pub returns-clause-told : goal.returns-clause-told
returns-clause-told g c is =
    let l = c.queue_open.new.self in
    let i = c.args.bucket in
    let b = c.bounds_of-bounds.ensures in
    let same = c.queue_open.ensures.stage ∙ c.in_ok-leader.ensures in
    let d : c.get.result ≡ l.stage.delta = c.get.ensures.width ∙ (c.delta.ensures ∙ (ap (λ (x : Lead). x.stage.delta) c.self.view_is ∙ ap (λ (s : Stage). s.delta) (sym same))) in
    test_told g.row.P l.stage l.caller l.marks.each l.words c.in_ok-passed.ensures.copied c.tested_copy.ensures.settled i c.bounds_of-bounds.result (b.light ∙ ap (λ n. (i + 1) * n) d) (b.heavy ∙ ap (λ n. i * n) d) (c.in_ok-passed.ensures.none is)
