use Rattle.std.proofs.Common.{◌≡◌, ℕ, ◌<◌, length, get_or}
use Rattle.std.proofs.lemmas.Bool.{OnFalse_from}
use Rattle.std.proofs.lemmas.List.{get_or_default}
use Rattle.std.specs.Prelude.{All}
use Rattle.sp_word.specs.Word.{max_dist}
use Rattle.sp_paths.specs.declared.arc.Arc.{Arc}
use Rattle.sp_paths.specs.Paths.{IsArc, IsClosed, word_at}
use Rattle.sp_graph.specs.LeftOut.{network}
use Rattle.sp_judge.proofs.PassSteps.{pass_keeps, pass_sets, pass_end}
use Rattle.sp_judge.proofs.pass.pass.Goals as goal
use Rattle.sp_judge.proofs.pass.pass.Goals.{in-Some, in_default}

pub loop-arc-preserved : goal.loop-arc-preserved
loop-arc-preserved g c =
    let i : ℕ = c.loop-arc.arc-index in
    let arcs = c.args.arcs.now in
    let none : Arc = record { tail = 0; head = 0; len = 0 } in
    let arc : Arc = get_or arcs i none in
    let in' : i < length arcs = c.loop-arc-test.true in
    let is : get_or arcs i arc ≡ arc = get_or_default arcs i arc none in' in
    let n = length c.args.words.now.items in
    let fine : All (IsArc n) arcs = rw c.args.words.now.ok.0 at c.requires.arcs in
    elim c.match-lesser_offer.branch [
      | in-Some w ↦ rw (w.words-is, w.changed-is) (pass_sets n (max_dist g.row.P) arcs i c.args.words.now.items c.loop-arc.words.items c.loop-arc.changed arc in' is c.loop-arc.invariant fine w.in-Some.word (rw (c.look_up-from.ensures, c.look_up-found.ensures, c.deref.ensures.value, c.deref-in-loop-arc.ensures.value) at w.in-Some.ensures.some))
      | in_default w ↦ rw (w.words-is, w.changed-is) (pass_keeps n (max_dist g.row.P) arcs i c.args.words.now.items c.loop-arc.words.items c.loop-arc.changed arc in' is c.loop-arc.invariant (rw (c.look_up-from.ensures, c.look_up-found.ensures, c.deref.ensures.value, c.deref-in-loop-arc.ensures.value) at w.in_default.ensures.none))
    ]

pub returns-clause-closed : goal.returns-clause-closed
returns-clause-closed g c =
    let n = length c.args.words.now.items in
    let words = word_at c.loop-arc.words.items in
    let closed = OnFalse_from c.loop-arc.changed (IsClosed (network n c.args.arcs.now) (max_dist g.row.P) words)
    (pass_end n (max_dist g.row.P) c.args.arcs.now c.loop-arc.arc-index c.args.words.now.items c.loop-arc.words.items c.loop-arc.changed c.loop-arc-test.false c.loop-arc.invariant) in
    closed
