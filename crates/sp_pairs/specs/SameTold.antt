-- What is told of a pair is the same in graphs with the same arcs: the proofs of a law of what is told.
use Rattle.std.proofs.Common.{ℕ, inl, inr, List, [], ◌∷◌, le_refl}
use Rattle.sp_word.specs.Word.{Pair}
use Rattle.sp_paths.specs.Paths.{Graph, IsTreeWord, Found, TooFar, NoWalk}
use Rattle.sp_paths.specs.Routes.{IsBefore, GoesOn, IsRoute}
use Rattle.sp_paths.specs.Bags.{AreSame}
use Rattle.sp_paths.proofs.SameArcs.{same_arcs_same_answers}
use Rattle.sp_answer.specs.declared.pair.PairAnswer.{PairAnswer as Word}
use Rattle.sp_answer.specs.declared.route.RouteAnswer.{RouteAnswer as Route}
use Rattle.sp_answer.specs.declared.route.RouteAnswer.TheVariants as route
use Rattle.sp_answer.specs.Pair.{answer_of}
use Rattle.sp_answer.specs.Run.{IsAnswerFor}
use Rattle.sp_answer.specs.Routed.{IsRouteAnswerFor}

pub same_word : (g h : Graph) (s t max : ℕ) (word : Word) → AreSame g h → IsAnswerFor g s t max word → IsAnswerFor h s t max word
same_word g h s t max word same is = (same_arcs_same_answers g h same).pair s t max (answer_of word) is

module _ (g h : Graph) (s : ℕ) (same : AreSame g h) where
  same_before : (u v : ℕ) → IsBefore g s u v → IsBefore h s u v
  same_before u v (other, d, pair) = go ((same_arcs_same_answers g h same).pair s v d (Found d u) ((d, pair.least, le_refl d), inr (other, pair))).1
    where
      go : IsTreeWord h s v (Pair d u) → IsBefore h s u v
      go (inl own) = absurd (other own.0)
      go (inr (still, there)) = (still, d, there)

  same_way : (u t : ℕ) (rest : List ℕ) → GoesOn g s u rest t → GoesOn h s u rest t
  same_way u t [] is = is
  same_way u t (v ∷ rest) is = (same_before u v is.0, same_way v t rest is.1)

  same_vertices : (t : ℕ) (vertices : List ℕ) → IsRoute g s t vertices → IsRoute h s t vertices
  same_vertices t [] is = absurd is
  same_vertices t (v ∷ rest) is = (is.0, same_way v t rest is.1)

pub same_route : (g h : Graph) (s t max : ℕ) (told : Route) → AreSame g h → IsRouteAnswerFor g s t max told → IsRouteAnswerFor h s t max told
same_route g h s t max (route.Found d vertices) same (least, most, is) = ((same_arcs_same_answers g h same).least s t d least, most, same_vertices g h s same t vertices.items is)
same_route g h s t max (route.TooFar v) same is = (same_arcs_same_answers g h same).pair s t max (TooFar v) is
same_route g h s t max route.NoWalk same is = (same_arcs_same_answers g h same).pair s t max NoWalk is
