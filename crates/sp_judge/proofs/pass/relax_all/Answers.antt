use Rattle.std.proofs.Common.{◌≡◌, ℕ, length, sym, subst, ◌∙◌}
use Rattle.std.specs.Bool.{OnFalse}
use Rattle.sp_word.specs.Word.{max_dist}
use Rattle.sp_paths.specs.Paths.{IsClosed, word_at}
use Rattle.sp_graph.specs.LeftOut.{network}
use Rattle.sp_judge.proofs.LoweringSteps.{lowered_then}
use Rattle.sp_judge.proofs.pass.relax_all.Goals as goal

pub loop-changed-preserved : goal.loop-changed-preserved
loop-changed-preserved g c =
    let n = length c.args.words.now.items in
    let max = max_dist g.row.P in
    let arcs = c.args.arcs.now in
    let before = c.loop-changed.words in
    let after = c.pass-changed.new.words in
    let told = c.pass-changed.ensures in
    let was = c.loop-changed.invariant in
    let same : before.len ≡ n = before.ok.0 ∙ was.size in
    record {
      size = sym after.ok.0 ∙ told.size ∙ same;
      small = told.small;
      lowered = lowered_then max arcs c.args.words.now.items before.items after.items was.lowered told.lowered;
      closed = λ e.
          let unless : OnFalse c.pass-changed.result (IsClosed (network before.len arcs) max (word_at after.items)) = told.closed in
          subst (λ (k : ℕ). IsClosed (network k arcs) max (word_at after.items)) same (rw e at unless);
    }
