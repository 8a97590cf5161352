-- Answers with their routes, as they are written.
use Rattle.std.proofs.Common.{◌≡◌, ◌+◌, ◌<◌, ℕ, List, [], ◌∷◌, ◌++◌, length, take, refl, sym, ap, ◌∙◌, arith}
use Rattle.std.specs.Prelude.{map, flat_map, slice_index_or}
use Rattle.std.proofs.lemmas.Bool.{le-leb}
use Rattle.std.proofs.lemmas.List.{take_more, map_more, flat_map_more, length-append}
use Rattle.sp_answer.specs.declared.route.RouteAnswer.{RouteAnswer}
use Rattle.sp_lists.specs.Routes.{distance_in, route_in, with_front, ends_after}

-- A list with nothing at its front is the list as it is.
pub nothing_in_front : {A : Type 0} (there : List A) → there ≡ with_front [] there
nothing_in_front there = rw (le-leb 0 (length there) (omega arith)) refl

-- The end of one route more.
ends_more : (before : ℕ) (answers : List RouteAnswer) (answer : RouteAnswer) → ends_after before (answers ++ answer ∷ []) ≡ ends_after before answers ++ (before + length (flat_map route_in (answers ++ answer ∷ []))) ∷ []
ends_more before [] answer =
    let n : length (route_in answer ++ []) ≡ length (route_in answer) + 0 = length-append (route_in answer) [] in
    ap (λ k. k ∷ []) (omega (arith, n))
ends_more before (first ∷ more) answer =
    let l = length (route_in first) in
    let rest = flat_map route_in (more ++ answer ∷ []) in
    let n : length (route_in first ++ rest) ≡ l + length rest = length-append (route_in first) rest in
    let sum : (before + l) + length rest ≡ before + length (route_in first ++ rest) = omega (arith, n) in
    ap (λ ends. (before + l) ∷ ends) (ends_more (before + l) more answer ∙ ap (λ k. ends_after (before + l) more ++ k ∷ []) sum)

module _ (answers : List RouteAnswer) (i : ℕ) (answer : RouteAnswer) (low : i < length answers) (is : answer ≡ slice_index_or answers i answer) where
  next : take (i + 1) answers ≡ take i answers ++ answer ∷ []
  next = take_more answers i answer low ∙ ap (λ a. take i answers ++ a ∷ []) (sym is)

  -- one distance more
  pub dist_more : (old new : List ℕ) (d : ℕ) → old ≡ map distance_in (take i answers) → d ≡ distance_in answer → new ≡ old ++ d ∷ [] → new ≡ map distance_in (take (i + 1) answers)
  dist_more old new d was here put =
      put
      ∙ (ap (λ ds. ds ++ d ∷ []) was
      ∙ (ap (λ x. map distance_in (take i answers) ++ x ∷ []) (here ∙ ap distance_in is)
      ∙ sym (map_more distance_in answers i answer low)))

  -- the vertices of one route more
  pub vertices_more : (old new route : List ℕ) → old ≡ flat_map route_in (take i answers) → route ≡ route_in answer → new ≡ old ++ route → new ≡ flat_map route_in (take (i + 1) answers)
  vertices_more old new route was here put =
      put
      ∙ (ap (λ vs. vs ++ route) was
      ∙ (ap (λ vs. flat_map route_in (take i answers) ++ vs) here
      ∙ (flat_map_more route_in [] (take i answers) answer ∙ sym (ap (flat_map route_in) next))))

  -- its end
  pub end_more : (old new vertices : List ℕ) (end : ℕ) → old ≡ ends_after 0 (take i answers) → vertices ≡ flat_map route_in (take (i + 1) answers) → end ≡ length vertices → new ≡ old ++ end ∷ [] → new ≡ ends_after 0 (take (i + 1) answers)
  end_more old new vertices end was all at put =
      let many : end ≡ length (flat_map route_in (take i answers ++ answer ∷ [])) = at ∙ ap length (all ∙ ap (flat_map route_in) next) in
      let sum : end ≡ 0 + length (flat_map route_in (take i answers ++ answer ∷ [])) = omega (arith, many) in
      put
      ∙ (ap (λ es. es ++ end ∷ []) was
      ∙ (ap (λ e. ends_after 0 (take i answers) ++ e ∷ []) sum
      ∙ (sym (ends_more 0 (take i answers) answer) ∙ sym (ap (ends_after 0) next))))
