use Rattle.std.proofs.Common.{◌≡◌, ℕ, ◌<◌, length, get_or, arith}
use Rattle.std.proofs.lemmas.Bool.{iff_false}
use Rattle.std.proofs.lemmas.List.{get_or_default, take_all}
use Rattle.sp_paths.specs.declared.arc.Arc.{Arc}
use Rattle.sp_paths.specs.Paths.{word_at}
use Rattle.sp_graph.specs.LeftOut.{LeadsOut}
use Rattle.sp_graph.proofs.LeftOut.{loop_keeps, loop_adds}
use Rattle.sp_graph.proofs.word_table.left_out.Goals as goal
use Rattle.sp_graph.proofs.word_table.left_out.Goals.{then-leads_out, else-leads_out}

pub loop-arc-preserved : goal.loop-arc-preserved
loop-arc-preserved g c =
    let i : ℕ = c.loop-arc.arc-index in
    let arcs = c.args.arcs.now in
    let none : Arc = record { tail = 0; head = 0; len = 0 } in
    let arc : Arc = get_or arcs i none in
    let in' : i < length arcs = omega arith in
    let is : get_or arcs i arc ≡ arc = get_or_default arcs i arc none in' in
    elim c.if-leads_out.branch [
      | then-leads_out w ↦ rw w.far-is (loop_adds (length c.args.words.now) arcs i (word_at c.args.words.now) c.loop-arc.far arc in' is c.loop-arc.invariant (rw (c.look_up-from.ensures, c.look_up-found.ensures) at (c.leads_out.ensures.0 w.if-leads_out.true)) w.smaller-least.result w.smaller-least.ensures)
      | else-leads_out w ↦ rw w.far-is (loop_keeps (length c.args.words.now) arcs i (word_at c.args.words.now) c.loop-arc.far arc in' is c.loop-arc.invariant (let none : LeadsOut c.look_up-from.result c.look_up-found.result → ⊥ = λ h. iff_false c.leads_out.ensures w.if-leads_out.false h in rw (c.look_up-from.ensures, c.look_up-found.ensures) at none))
    ]

pub returns : goal.returns
returns g c = rw (take_all c.loop-arc.arc-index c.args.arcs.now c.loop-arc-test.false) at c.loop-arc.invariant
