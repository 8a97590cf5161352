-- Graphs with the same arcs have the same forests.
use Rattle.std.proofs.Common.{ℕ, inl, inr, List, Option, Some, None, sym, subst, ◌∙◌}
use Rattle.std.specs.Prelude.{All}
use Rattle.sp_word.specs.History.{Table}
use Rattle.sp_word.specs.Word.{Word, Pair, Unreached, max_dist}
use Rattle.sp_paths.specs.Paths.{Graph, IsVertex}
use Rattle.sp_paths.specs.Bags.{AreSame}
use Rattle.sp_paths.proofs.SameArcs.{same_arcs_same_answers}
use Rattle.sp_paths.specs.Forests.{HasWalkFromAny, IsNearest, IsPredecessor, IsForestWord, IsForest, IsNear, IsForestWithin, IsBeyond, IsFar}
use Rattle.sp_answer.specs.ForestTable.{ForestTable, table_of}
use Rattle.sp_answer.specs.Nearest.{IsForestUpTo, HasRoots, IsForestAnswer}

turned : (g h : Graph) → AreSame g h → AreSame h g
turned g h e = record { n = sym e.n; there = e.back; back = e.there }

same_vertex : (g h : Graph) → AreSame g h → (v : ℕ) → IsVertex g.n v → IsVertex h.n v
same_vertex g h e v in' = subst (λ n. IsVertex n v) e.n in'

same_walk : (g h : Graph) → AreSame g h → (ss : List ℕ) (v d : ℕ) → HasWalkFromAny g ss v d → HasWalkFromAny h ss v d
same_walk g h e ss v d (s, source, walk) = (s, source, (same_arcs_same_answers g h e).walk s v d walk)

same_nearest : (g h : Graph) → AreSame g h → (ss : List ℕ) (v d : ℕ) → IsNearest g ss v d → IsNearest h ss v d
same_nearest g h e ss v d l = record { walk = same_walk g h e ss v d l.walk; least = λ c w. l.least c (same_walk h g (turned g h e) ss v c w) }

same_before : (g h : Graph) → AreSame g h → (ss : List ℕ) (v d u : ℕ) → IsPredecessor g ss v d u → IsPredecessor h ss v d u
same_before g h e ss v d u (c, l, near, a, sum) = (c, l, same_nearest g h e ss u c near, e.there (record { tail = u; head = v; len = l }) a, sum)

same_word : (g h : Graph) → AreSame g h → (ss : List ℕ) (v : ℕ) (w : Word) → IsForestWord g ss v w → IsForestWord h ss v w
same_word g h e ss v Unreached t = λ d w. t d (same_walk h g (turned g h e) ss v d w)
same_word g h e ss v (Pair d p) (inl own) = inl own
same_word g h e ss v (Pair d p) (inr t) = inr (
  t.0,
  record {
    least = same_nearest g h e ss v d t.1.least;
    before = same_before g h e ss v d p t.1.before;
    smallest = λ u b. t.1.smallest u (same_before h g (turned g h e) ss v d u b);
  },
)

same_forest : (g h : Graph) → AreSame g h → (ss : List ℕ) (words : Table) → IsForest g ss words → IsForest h ss words
same_forest g h e ss words t = λ v in'. same_word g h e ss v (words v) (t v (same_vertex h g (turned g h e) v in'))

same_near : (g h : Graph) → AreSame g h → (ss : List ℕ) (max v : ℕ) → IsNear g ss max v → IsNear h ss max v
same_near g h e ss max v (d, near, fits) = (d, same_nearest g h e ss v d near, fits)

same_within : (g h : Graph) → AreSame g h → (ss : List ℕ) (max : ℕ) (words : Table) → IsForestWithin g ss max words → IsForestWithin h ss max words
same_within g h e ss max words t = record {
  near = λ v is. same_word g h e ss v (words v) (t.near v (same_near h g (turned g h e) ss max v is));
  others = λ v in' far. t.others v (same_vertex h g (turned g h e) v in') (λ is. far (same_near g h e ss max v is));
}

same_beyond : (g h : Graph) → AreSame g h → (ss : List ℕ) (max v : ℕ) → IsBeyond g ss max v → IsBeyond h ss max v
same_beyond g h e ss max v b = record {
  dist = b.dist;
  least = same_nearest g h e ss v b.dist b.least;
  above = b.above;
  tail = b.tail;
  tail_dist = b.tail_dist;
  tail_least = same_nearest g h e ss b.tail b.tail_dist b.tail_least;
  tail_within = b.tail_within;
  len = b.len;
  arc = e.there (record { tail = b.tail; head = v; len = b.len }) b.arc;
}

pub same_far : (g h : Graph) → AreSame g h → (ss : List ℕ) (max : ℕ) (answer : Option ℕ) → IsFar g ss max answer → IsFar h ss max answer
same_far g h e ss max None f = λ v b. f v (same_beyond h g (turned g h e) ss max v b)
same_far g h e ss max (Some v) f = (same_beyond g h e ss max v f.0, λ w b. f.1 w (same_beyond h g (turned g h e) ss max w b))

same_up_to : (P : ℕ) (g h : Graph) → AreSame g h → (ss : List ℕ) (limit : Option ℕ) (words : Table) → IsForestUpTo P g ss limit words → IsForestUpTo P h ss limit words
same_up_to P g h e ss None words t = (same_forest g h e ss words t.0, same_far g h e ss (max_dist P) None t.1)
same_up_to P g h e ss (Some limit) words t = same_within g h e ss limit words t

same_roots : (g h : Graph) → AreSame g h → (ss : List ℕ) (f : ForestTable) → HasRoots g ss f → HasRoots h ss f
same_roots g h e ss f t = λ v d p in' word.
    let (r, root, is) = t v d p (same_vertex h g (turned g h e) v in') word in
    (r, root, record { chain = is.chain; source = is.source; dist = (same_arcs_same_answers g h e).least r v d is.dist })

pub same_forest_answer : (P : ℕ) (g h : Graph) → AreSame g h → (ss : List ℕ) (limit : Option ℕ) (f : ForestTable) → IsForestAnswer P g ss limit f → IsForestAnswer P h ss limit f
same_forest_answer P g h e ss limit f a = record {
  vertices = subst (λ n. All (IsVertex n) ss) e.n a.vertices;
  n = a.n ∙ e.n;
  forest = same_up_to P g h e ss limit (table_of f) a.forest;
  roots = same_roots g h e ss f a.roots;
}
