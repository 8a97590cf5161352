use Rattle.std.proofs.Common.{◌≡◌, ◌≤◌, ◌∙◌, get_or, List, refl, subst, sym, arith}
use Rattle.std.specs.Prelude.{All, Contains}
use Rattle.std.proofs.lemmas.List.Elements.{Contains-get_or}
use Rattle.sp_word.specs.Word.{IsPair}
use Rattle.sp_paths.specs.declared.arc.Arc.{Arc}
use Rattle.sp_paths.specs.Paths.{Graph, IsArc, IsLawful}
use Rattle.sp_run.specs.Walks.{WalksFrom}
use Rattle.tests_runs.proofs.ArcOffers.{first_arc}
use Rattle.tests_runs.proofs.phase.settling.offer_first.Goals as goal

pub pack-word-requires : goal.pack-word-requires
pack-word-requires c =
    let none : Arc = record { tail = 0; head = 0; len = 0 } in
    let F : List Arc → Type 0 = λ xs. All (IsArc c.args.graph.now.n) xs in
    let fine = (subst F (sym c.arcs-arc-items.ensures.arcs) c.arcs-arc-items.ensures.graph) c.loop-arc.arc-index none c.loop-arc-test.true in
    let most : c.args.graph.now.n ≤ 10000 = c.requires.small in
    let last = fine.0.1 in
    (omega arith, (refl, (omega arith, omega arith)))

pub offer-requires : goal.offer-requires
offer-requires c =
    let none : Arc = record { tail = 0; head = 0; len = 0 } in
    let g = c.args.graph.now in
    let st = c.args.store.now in
    let arcs = c.arcs-arc-items.result.now in
    let a : Arc = get_or arcs c.loop-arc.arc-index none in
    let F : List Arc → Type 0 = λ xs. All (IsArc g.n) xs in
    let fine = (subst F (sym c.arcs-arc-items.ensures.arcs) c.arcs-arc-items.ensures.graph) c.loop-arc.arc-index none c.loop-arc-test.true in
    let C : List Arc → Type 0 = λ xs. Contains xs a in
    let H : Graph → Type 0 = λ x. Contains x.arcs a in
    let there = subst H c.requires.graph (subst C c.arcs-arc-items.ensures.arcs (Contains-get_or arcs c.loop-arc.arc-index none c.loop-arc-test.true)) in
    let L : WalksFrom → Type 0 = λ w. IsPair c.pack-word.result × IsLawful w.graph w.source c.args.head c.pack-word.result in
    let may = subst L (sym c.table.ensures.law) (first_arc st.graph st.source c.args.head c.from.result a c.pack-word.result there (c.if-arc-source.true ∙ c.requires.source) c.if-arc-head.true c.pack-word.ensures c.from.ensures) in
    let N : Graph → Type 0 = λ x. g.n ≡ x.n in
    let same : g.n ≡ st.graph.n = subst N c.requires.graph refl in
    let low = fine.1.0 in
    let high = fine.1.1 in
    let n = c.table.ensures.vertices in
    let is = c.if-arc-head.true in
    (omega arith, (omega arith, (omega arith, ((omega arith, omega arith), (c.loop-arc.invariant ∙ (c.requires.caller ∙ sym c.table.ensures.table), (may.0, may.1))))))
