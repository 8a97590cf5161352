use Rattle.std.proofs.Common.{◌≡◌, ◌∷◌, [], ℕ, subst, arith}
use Rattle.sp_lists.specs.Limits.{reach}
use Rattle.sp_lists.specs.Target.{IsFoundIn}
use Rattle.spt_c.specs.Arcs.{graph_of}
use Rattle.spt_c.specs.Asked.{asked}
use Rattle.spt_c.proofs.Pairs.{same_found, good_found}
use Rattle.spt_c.proofs.found.find.Goals as goal

pub returns-in-Ok : goal.returns-in-Ok
returns-in-Ok c =
    let g = c.in-Ok.graph in
    let h = graph_of c.args.n c.args.arcs.now in
    let same = c.in-Ok.ensures.same in
    let found = c.find_target.result in
    let S : ℕ → Type 0 = λ n. IsFoundIn (reach n) g c.args.source c.args.target found in
    good_found (asked c.args.arcs.now c.args.n (c.args.source ∷ c.args.target ∷ []) c.args.delta) h c.args.source c.args.target found c.in_default.ensures.good
    (same_found (reach c.args.n) g h c.args.source c.args.target found same (subst S same.n c.find_target.ensures))

pub find_target-requires-clause-source : goal.find_target-requires-clause-source
find_target-requires-clause-source c =
    let n : c.in-Ok.graph.n ≡ c.args.n = c.in-Ok.ensures.same.n in
    let source = c.in_default.ensures.good.sources 0 0 (omega arith) in
    (source.0, omega (arith, source.1, n))

pub find_target-requires-clause-target : goal.find_target-requires-clause-target
find_target-requires-clause-target c =
    let n : c.in-Ok.graph.n ≡ c.args.n = c.in-Ok.ensures.same.n in
    let target = c.in_default.ensures.good.sources 1 0 (omega arith) in
    (target.0, omega (arith, target.1, n))
