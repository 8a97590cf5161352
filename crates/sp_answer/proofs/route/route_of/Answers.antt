use Rattle.std.proofs.Common.{◌≡◌, ◌∷◌, length, sym, ◌∙◌, subst, ap, arith}
use Rattle.std.specs.Prelude.{reverse}
use Rattle.sp_word.specs.Word.{Pair}
use Rattle.sp_paths.specs.Paths.{IsVertex, IsLeast, word_at}
use Rattle.sp_paths.proofs.Core.{pair_dist}
use Rattle.sp_paths.proofs.Walks.{least_same}
use Rattle.sp_paths.specs.Routes.{GoesOn}
use Rattle.sp_paths.proofs.Backwards.{reached, step, reverse_push}
use Rattle.sp_answer.proofs.route.route_of.Goals as goal

pub place_of-at-requires : goal.place_of-at-requires
place_of-at-requires g c =
    let back = c.requires.words in
    let target = c.args.target in
    let r = reached c.args.graph.now c.args.source target c.args.words.now back target back.dist back.least (omega arith) in
    (omega arith, (subst (λ n. IsVertex n target) (sym back.size) c.requires.target, (back.dist, r.0, r.1)))

pub steps-init : goal.steps-init
steps-init g c =
    let graph = c.args.graph.now in
    let s = c.args.source in
    let t = c.args.target in
    let words = c.args.words.now in
    let back = c.requires.words in
    let at = c.place_of-at.result in
    let is : at.vertex ≡ t = c.place_of-at.ensures.vertex in
    let word : word_at words t ≡ Pair at.dist at.pred = c.place_of-at.ensures.word in
    let r = reached graph s t words back t back.dist back.least (omega arith) in
    let dist : back.dist ≡ at.dist = pair_dist back.dist r.0 at.dist at.pred (sym r.1 ∙ word) in
    let least : IsLeast graph s t at.dist = subst (IsLeast graph s t) dist back.least in
    record {
      here = subst (λ v. IsVertex (length words) v) (sym is) (subst (λ n. IsVertex n t) (sym back.size) c.requires.target);
      word = subst (λ v. word_at words v ≡ Pair at.dist at.pred) (sym is) word;
      least = subst (λ v. IsLeast graph s v at.dist) (sym is) least;
      on = subst (λ xs. GoesOn graph s at.vertex (reverse xs) t) (sym c.new-route.ensures.items) is;
      near = λ d there. omega (arith, least_same graph s t at.dist d least there);
    }

pub place_of-at-requires-in-steps : goal.place_of-at-requires-in-steps
place_of-at-requires-in-steps g c =
    let graph = c.args.graph.now in
    let s = c.args.source in
    let words = c.args.words.now in
    let back = c.requires.words in
    let at = c.steps.at in
    let inv = c.steps.invariant in
    let near = inv.near back.dist back.least in
    let more = step graph s c.args.target words back at.vertex at.dist at.pred c.n.ensures.graph inv.word c.steps-test.true inv.least near in
    let r = reached graph s c.args.target words back at.pred more.2 more.3 (omega (arith, more.4)) in
    (omega arith, (subst (λ n. IsVertex n at.pred) (sym back.size) more.1, (more.2, r.0, r.1)))

pub steps-smaller : goal.steps-smaller
steps-smaller g c =
    let graph = c.args.graph.now in
    let s = c.args.source in
    let words = c.args.words.now in
    let back = c.requires.words in
    let at = c.steps.at in
    let next = c.place_of-at-in-steps.result in
    let inv = c.steps.invariant in
    let near = inv.near back.dist back.least in
    let more = step graph s c.args.target words back at.vertex at.dist at.pred c.n.ensures.graph inv.word c.steps-test.true inv.least near in
    let r = reached graph s c.args.target words back at.pred more.2 more.3 (omega (arith, more.4)) in
    let same : more.2 ≡ next.dist = pair_dist more.2 r.0 next.dist next.pred (sym r.1 ∙ c.place_of-at-in-steps.ensures.word) in
    omega (arith, more.4)

pub steps-preserved : goal.steps-preserved
steps-preserved g c =
    let graph = c.args.graph.now in
    let s = c.args.source in
    let t = c.args.target in
    let words = c.args.words.now in
    let back = c.requires.words in
    let at = c.steps.at in
    let next = c.place_of-at-in-steps.result in
    let is : next.vertex ≡ at.pred = c.place_of-at-in-steps.ensures.vertex in
    let word : word_at words at.pred ≡ Pair next.dist next.pred = c.place_of-at-in-steps.ensures.word in
    let inv = c.steps.invariant in
    let near = inv.near back.dist back.least in
    let more = step graph s t words back at.vertex at.dist at.pred c.n.ensures.graph inv.word c.steps-test.true inv.least near in
    let r = reached graph s t words back at.pred more.2 more.3 (omega (arith, more.4)) in
    let same : more.2 ≡ next.dist = pair_dist more.2 r.0 next.dist next.pred (sym r.1 ∙ word) in
    let items : reverse c.push.new.self.items ≡ at.vertex ∷ reverse c.steps.route.items = ap reverse c.in_ok-push.ensures.items ∙ reverse_push c.steps.route.items at.vertex in
    record {
      here = subst (λ v. IsVertex (length words) v) (sym is) (subst (λ n. IsVertex n at.pred) (sym back.size) more.1);
      word = subst (λ v. word_at words v ≡ Pair next.dist next.pred) (sym is) word;
      least = subst (λ v. IsLeast graph s v next.dist) (sym is) (subst (IsLeast graph s at.pred) same more.3);
      on = subst (λ v. GoesOn graph s v (reverse c.push.new.self.items) t) (sym is) (subst (λ xs. GoesOn graph s at.pred xs t) (sym items) (more.0, inv.on));
      near = λ d there. omega (arith, inv.near d there, more.4, same);
    }
