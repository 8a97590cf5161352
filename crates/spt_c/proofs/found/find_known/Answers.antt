use Rattle.std.proofs.Common.{ℕ, ◌∷◌, [], subst}
use Rattle.spt_c.specs.Asked.{asked, IsGood}
use Rattle.spt_c.specs.Found.{unlimited}
use Rattle.spt_c.proofs.Pairs.{good_found}
use Rattle.spt_c.proofs.found.find_known.Goals as goal

pub returns : goal.returns
returns c =
    let g = c.args.prepared.graph.now in
    let G : ℕ → Type 0 = λ n. IsGood (asked [] n (c.args.source ∷ c.args.target ∷ []) c.args.delta) unlimited in
    good_found (asked [] g.n (c.args.source ∷ c.args.target ∷ []) c.args.delta) g c.args.source c.args.target c.find_target.result (subst G c.n.ensures c.in_default.ensures.good) c.find_target.ensures
