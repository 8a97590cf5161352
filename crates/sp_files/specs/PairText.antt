-- The text of the result for a source and a target: the target's word, or the route to it.
use Rattle.std.specs.Prelude.{ℕ, List, ◌++◌, codes}
use Rattle.std.specs.List.{flat_map}
use Rattle.sp_paths.specs.Paths.{PairAnswer, Found, TooFar, NoWalk}
use Rattle.sp_answer.specs.Routed.{RouteAnswer, Found as FoundRoute, TooFar as FarVertex, NoWalk as NoRoute}
use Rattle.sp_text.specs.Numeral.{number_text}
use Rattle.sp_files.specs.TreeText.{far_text}

-- This is the line `d S T D P`, with the target's word of the tree.
unfoldable pub found_text : (source target dist pred : ℕ) → List ℕ
found_text s t d p = codes "d" ++ number_text s ++ number_text t ++ number_text d ++ number_text p ++ codes "\n"

-- This is the line `n S T`: no walk leads to the target.
unfoldable pub none_text : (source target : ℕ) → List ℕ
none_text s t = codes "n" ++ number_text s ++ number_text t ++ codes "\n"

-- This is the line of a pair: its target's word, or the vertex that is too far, or that there is no walk.
abbrev pub pair_text : ℕ × ℕ → PairAnswer → List ℕ
pair_text pair (Found d p) = found_text pair.0 pair.1 d p
pair_text pair (TooFar v) = far_text pair.0 v
pair_text pair NoWalk = none_text pair.0 pair.1

-- These are numbers, with a space before each.
abbrev pub numbers_text : List ℕ → List ℕ
numbers_text numbers = flat_map number_text numbers

-- This is the beginning `r S T D` of a line.
abbrev pub route_head : (source target dist : ℕ) → List ℕ
route_head s t d = codes "r" ++ number_text s ++ number_text t ++ number_text d

-- This is the line `r S T D V0 V1 .. Vk`, with the vertices of the route: the source is the first of them and the target the last.
abbrev pub route_text : (source target dist : ℕ) → (route : List ℕ) → List ℕ
route_text s t d route = route_head s t d ++ numbers_text route ++ codes "\n"

-- This is the line of a pair with its route; where there is none, it is the line without routes.
abbrev pub routed_text : ℕ × ℕ → RouteAnswer → List ℕ
routed_text pair (FoundRoute d route) = route_text pair.0 pair.1 d route
routed_text pair (FarVertex v) = far_text pair.0 v
routed_text pair NoRoute = none_text pair.0 pair.1
