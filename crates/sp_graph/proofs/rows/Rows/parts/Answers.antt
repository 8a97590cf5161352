use Rattle.std.proofs.Common.{ap, ◌∙◌, eqb, leb, ltb}
use Rattle.std.specs.Prelude.{slice_range}
use Rattle.std.proofs.lemmas.List.Elements.{All-filter}
use Rattle.sp_paths.specs.Paths.{IsArc}
use Rattle.sp_paths.specs.Rows.{row_of}
use Rattle.sp_graph.specs.Order.{in_order}
use Rattle.sp_graph.proofs.Cuts.{light_read, heavy_read}
use Rattle.sp_graph.proofs.rows.Rows.parts.Goals as goal

pub part-light-requires-clause-within : goal.part-light-requires-clause-within
part-light-requires-clause-within c =
    let is = light_read c.self.inside.n (in_order c.self.inside.arcs.items) c.self.inside.delta c.self.inside.arcs.items c.self.inside.cuts.items c.args.v c.index-cut.result.now c.self.invariant.split (rw (← c.self.view_is) at c.requires) c.index-cut.ensures in
    rw c.deref.ensures.value is.within

pub part-heavy-requires-clause-rising : goal.part-heavy-requires-clause-rising
part-heavy-requires-clause-rising c =
    let is = heavy_read c.self.inside.n (in_order c.self.inside.arcs.items) c.self.inside.delta c.self.inside.arcs.items c.self.inside.cuts.items c.args.v c.index-cut.result.now c.index.result.now c.self.invariant.split (rw (← c.self.view_is) at c.requires) c.index-cut.ensures c.index.ensures in
    is.rising

pub part-heavy-requires-clause-within : goal.part-heavy-requires-clause-within
part-heavy-requires-clause-within c =
    let is = heavy_read c.self.inside.n (in_order c.self.inside.arcs.items) c.self.inside.delta c.self.inside.arcs.items c.self.inside.cuts.items c.args.v c.index-cut.result.now c.index.result.now c.self.invariant.split (rw (← c.self.view_is) at c.requires) c.index-cut.ensures c.index.ensures in
    rw c.deref-2.ensures.value is.within

pub returns-clause-light : goal.returns-clause-light
returns-clause-light c =
    let is = light_read c.self.inside.n (in_order c.self.inside.arcs.items) c.self.inside.delta c.self.inside.arcs.items c.self.inside.cuts.items c.args.v c.index-cut.result.now c.self.invariant.split (rw (← c.self.view_is) at c.requires) c.index-cut.ensures in
    rw (← c.self.view_is) (c.part-light.ensures ∙ ap (λ l. slice_range l c.index-cut.result.now.light c.index-cut.result.now.heavy) c.deref.ensures.value ∙ is.part)

pub returns-clause-heavy : goal.returns-clause-heavy
returns-clause-heavy c =
    let is = heavy_read c.self.inside.n (in_order c.self.inside.arcs.items) c.self.inside.delta c.self.inside.arcs.items c.self.inside.cuts.items c.args.v c.index-cut.result.now c.index.result.now c.self.invariant.split (rw (← c.self.view_is) at c.requires) c.index-cut.ensures c.index.ensures in
    rw (← c.self.view_is) (c.part-heavy.ensures ∙ ap (λ l. slice_range l c.index-cut.result.now.heavy c.index.result.now.light) c.deref-2.ensures.value ∙ is.part)

pub returns-clause-light_arcs : goal.returns-clause-light_arcs
returns-clause-light_arcs c =
    let is = light_read c.self.inside.n (in_order c.self.inside.arcs.items) c.self.inside.delta c.self.inside.arcs.items c.self.inside.cuts.items c.args.v c.index-cut.result.now c.self.invariant.split (rw (← c.self.view_is) at c.requires) c.index-cut.ensures in
    let same = c.part-light.ensures ∙ ap (λ l. slice_range l c.index-cut.result.now.light c.index-cut.result.now.heavy) c.deref.ensures.value ∙ is.part in
    let arcs = in_order c.self.inside.arcs.items in
    let all = All-filter (λ a. leb a.len c.self.inside.delta) (IsArc c.self.inside.n) (row_of arcs c.args.v) (All-filter (λ a. eqb a.tail c.args.v) (IsArc c.self.inside.n) arcs c.self.invariant.graph) in
    rw (← c.self.view_is, same) all

pub returns-clause-heavy_arcs : goal.returns-clause-heavy_arcs
returns-clause-heavy_arcs c =
    let is = heavy_read c.self.inside.n (in_order c.self.inside.arcs.items) c.self.inside.delta c.self.inside.arcs.items c.self.inside.cuts.items c.args.v c.index-cut.result.now c.index.result.now c.self.invariant.split (rw (← c.self.view_is) at c.requires) c.index-cut.ensures c.index.ensures in
    let same = c.part-heavy.ensures ∙ ap (λ l. slice_range l c.index-cut.result.now.heavy c.index.result.now.light) c.deref-2.ensures.value ∙ is.part in
    let arcs = in_order c.self.inside.arcs.items in
    let all = All-filter (λ a. ltb c.self.inside.delta a.len) (IsArc c.self.inside.n) (row_of arcs c.args.v) (All-filter (λ a. eqb a.tail c.args.v) (IsArc c.self.inside.n) arcs c.self.invariant.graph) in
    rw (← c.self.view_is, same) all
