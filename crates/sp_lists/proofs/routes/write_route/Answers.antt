use Rattle.std.proofs.Common.{ℕ, inl, inr, refl, subst}
use Rattle.sp_answer.specs.declared.route.RouteAnswer.{RouteAnswer}
use Rattle.sp_answer.specs.declared.route.RouteAnswer.TheVariants.{TooFar, NoWalk}
use Rattle.sp_answer.specs.Routed.{IsRouteAnswerFor}
use Rattle.sp_lists.specs.Limits.{reach}
use Rattle.sp_lists.specs.Query.{IsGoodQuery}
use Rattle.sp_lists.specs.Routes.{route_query}
use Rattle.sp_lists.proofs.RouteLists.{nothing_in_front}
use Rattle.sp_lists.proofs.routes.write_route.Goals as goal

pub returns-in-Ok-TooFar : goal.returns-in-Ok-TooFar
returns-in-Ok-TooFar c =
    let g = c.args.prepared.graph.now in
    let G : ℕ → Type 0 = λ n. IsGoodQuery n (route_query c.args.source c.args.target) 0 in
    let A : RouteAnswer → Type 0 = IsRouteAnswerFor g c.args.source c.args.target (reach g.n) in
    let it = c.in-Ok-TooFar in
    inr (subst G c.n.ensures c.in_default.ensures.good, inl (record { answer = TooFar it.vertex; is = subst A it.field-0-is it.ensures; told = refl; vertices = nothing_in_front c.args.vertices.now }))

pub returns-in-Ok-NoWalk : goal.returns-in-Ok-NoWalk
returns-in-Ok-NoWalk c =
    let g = c.args.prepared.graph.now in
    let G : ℕ → Type 0 = λ n. IsGoodQuery n (route_query c.args.source c.args.target) 0 in
    let A : RouteAnswer → Type 0 = IsRouteAnswerFor g c.args.source c.args.target (reach g.n) in
    let it = c.in-Ok-NoWalk in
    inr (subst G c.n.ensures c.in_default.ensures.good, inl (record { answer = NoWalk; is = subst A it.field-0-is it.ensures; told = refl; vertices = nothing_in_front c.args.vertices.now }))
