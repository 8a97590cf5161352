use Rattle.std.proofs.Common.{◌≡◌, ℕ, ◌+◌, ◌*◌, ◌<◌, List, sym, subst, ap, ◌∙◌}
use Rattle.sp_word.specs.Word.{Word}
use Rattle.sp_paths.specs.Paths.{IsVertex, word_at}
use Rattle.sp_rounds.specs.Content.{IsLowest}
use Rattle.sp_phase.specs.Stage.{Stage}
use Rattle.sp_phase.specs.Lead.{Lead}
use Rattle.sp_phase.specs.Pairs.{IsBelowDist}
use Rattle.sp_phase.proofs.SettledBuckets.{test_told, test_pair, bucket_fits}
use Rattle.sp_phase.proofs.leader.Leader.settle_target.Goals as goal

pub bounds_of-bounds-requires : goal.bounds_of-bounds-requires
bounds_of-bounds-requires g c =
    let r = c.self.inside in
    let led = c.self.invariant.1 in
    let i = c.args.bucket in
    let F : ℕ → Type 0 = λ d. i * d + d < 18446744073709551616 in
    let lowest = subst (λ (l : Lead). IsLowest l.buckets i) (sym c.self.view_is) c.requires.lowest in
    subst F (sym (c.get.ensures.width ∙ c.delta.ensures)) (bucket_fits g.row.P r.store.now led.holds.stage r.buckets i led.width led.entries lowest)

pub returns-clause-told : goal.returns-clause-told
returns-clause-told g c is =
    let l = c.queue_open.new.self in
    let i = c.args.bucket in
    let b = c.bounds_of-bounds.ensures in
    let same = c.queue_open.ensures.stage ∙ (ap (λ (x : Lead). x.stage) c.read.ensures.reads.rest ∙ c.in_ok-leader.ensures) in
    let d : c.get.result ≡ l.stage.delta = c.get.ensures.width ∙ (c.delta.ensures ∙ (ap (λ (x : Lead). x.stage.delta) c.self.view_is ∙ ap (λ (s : Stage). s.delta) (sym same))) in
    test_told g.row.P l.stage l.caller l.marks.each l.words c.in_ok-passed.ensures.copied c.tested_copy.ensures.settled i c.bounds_of-bounds.result (b.light ∙ ap (λ n. (i + 1) * n) d) (b.heavy ∙ ap (λ n. i * n) d) (c.in_ok-passed.ensures.none c.if-not-passed.false)

pub returns-clause-found : goal.returns-clause-found
returns-clause-found g c is =
    let l = c.queue_open.new.self in
    let i = c.args.bucket in
    let t = c.args.target in
    let b = c.bounds_of-bounds.ensures in
    let end = c.bounds_of-bounds.result.light in
    let same = c.queue_open.ensures.stage ∙ (ap (λ (x : Lead). x.stage) c.read.ensures.reads.rest ∙ c.in_ok-leader.ensures) in
    let d : c.get.result ≡ l.stage.delta = c.get.ensures.width ∙ (c.delta.ensures ∙ (ap (λ (x : Lead). x.stage.delta) c.self.view_is ∙ ap (λ (s : Stage). s.delta) (sym same))) in
    let slice : c.as_slice.result.now ≡ l.words = c.as_slice.ensures.value ∙ ap (λ (x : Lead). x.words) c.leader.view_is in
    let W : Stage → Type 0 = λ s. IsVertex s.graph.n t in
    let vertex : IsVertex l.stage.graph.n t = subst W (sym same) c.requires.target in
    let B : Word → Type 0 = λ w. IsBelowDist w end in
    let within : IsBelowDist (word_at l.words t) end = subst B (c.look_up.ensures ∙ ap (λ (ws : List Word). word_at ws t) slice) (c.is_within-found.ensures is) in
    record {
      found = λ dist pred at.
          test_pair g.row.P l.stage l.caller l.marks.each l.words c.in_ok-passed.ensures.copied i c.bounds_of-bounds.result (b.light ∙ ap (λ n. (i + 1) * n) d) (b.heavy ∙ ap (λ n. i * n) d) (c.in_ok-passed.ensures.none c.if-not-passed.false)
          c.tested_copy.ensures.pair t dist pred vertex at (subst B at within);
      none = λ at. absurd (subst B at within);
    }
