use Rattle.std.proofs.Common.{ℕ, ◌<◌, ◌++◌, length, get_or, take, refl, sym, subst, ◌∙◌}
use Rattle.std.specs.List.Sorted.{IsPermutation}
use Rattle.sp_bins.specs.declared.entry.Entry.{Entry}
use Rattle.sp_rounds.specs.Content.{BucketsContent}
use Rattle.sp_phase.proofs.LeaderHolds.{put_more, put_none}
use Rattle.sp_phase.proofs.rounds.put_all.Goals as goal

pub loop-entry-init : goal.loop-entry-init
loop-entry-init c = (refl, put_none c.args.buckets.now.entries c.args.entries.now)

pub loop-entry-preserved : goal.loop-entry-preserved
loop-entry-preserved c =
    let i : ℕ = c.loop-entry.entry-index in
    let xs = c.args.entries.now in
    let none : Entry = record { vertex = 0; dist = 0 } in
    let inside : i < length xs = c.loop-entry-test.true in (
      c.in_ok-put.ensures.put.delta ∙ c.loop-entry.invariant.0,
      put_more c.args.buckets.now.entries xs c.loop-entry.buckets.entries _ i (get_or xs i none) none inside refl c.loop-entry.invariant.1 c.in_ok-put.ensures.put.entries,
    )

pub returns-in_err-put-clause-some : goal.returns-in_err-put-clause-some
returns-in_err-put-clause-some c =
    let i : ℕ = c.loop-entry.entry-index in
    let F : BucketsContent → Type 0 = λ b. IsPermutation (c.args.buckets.now.entries ++ take i c.args.entries.now) b.entries in
    (i, subst F (sym c.in_err-put.ensures.refused) c.loop-entry.invariant.1)

pub returns-clause-some : goal.returns-clause-some
returns-clause-some c = (c.loop-entry.entry-index, c.loop-entry.invariant.1)
