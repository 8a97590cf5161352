-- Graphs with the same arcs and lists of the same sources have the same forest.
use Rattle.std.proofs.Common.{ℕ, inl, inr, List, Option, Some, None, refl, sym}
use Rattle.std.proofs.lemmas.List.Elements.{All-weaker}
use Rattle.std.specs.Prelude.{Contains}
use Rattle.sp_word.specs.History.{Table}
use Rattle.sp_word.specs.Word.{Word, Pair, Unreached}
use Rattle.sp_paths.specs.Paths.{Graph, HasWalk}
use Rattle.sp_paths.specs.Bags.{AreSame}
use Rattle.sp_paths.specs.Forests.{HasWalkFromAny, IsNearest, IsPredecessor, IsForestPair, IsForestWord, IsForest, IsNear, IsForestWithin, IsBeyond, IsFar}
use Rattle.sp_paths.specs.ForestLaws.{SameSources, SourcesAreASet}

pub same_walk : (g h : Graph) → AreSame g h → (s v d : ℕ) → HasWalk g s v d → HasWalk h s v d
same_walk g h e s v d (walk, w, is) = (walk, record { of_arcs = All-weaker (λ a. Contains g.arcs a) (λ a. Contains h.arcs a) e.there walk w.of_arcs; leads = w.leads }, is)

-- the graphs have the same arcs, and the lists the same sources
pub record Alike (g h : Graph) (a b : List ℕ) : Type 0 where
  pub graphs : AreSame g h
  pub sources : SameSources a b

pub turned : (g h : Graph) (a b : List ℕ) → Alike g h a b → Alike h g b a
turned g h a b e = record {
  graphs = record { n = sym e.graphs.n; there = e.graphs.back; back = e.graphs.there };
  sources = record { there = e.sources.back; back = e.sources.there };
}

walk_too : (g h : Graph) (a b : List ℕ) → Alike g h a b → (v d : ℕ) → HasWalkFromAny g a v d → HasWalkFromAny h b v d
walk_too g h a b e v d (s, at, walk) = (s, e.sources.there s at, same_walk g h e.graphs s v d walk)

pub nearest_too : (g h : Graph) (a b : List ℕ) → Alike g h a b → (v d : ℕ) → IsNearest g a v d → IsNearest h b v d
nearest_too g h a b e v d near = record { walk = walk_too g h a b e v d near.walk; least = λ c walk. near.least c (walk_too h g b a (turned g h a b e) v c walk) }

predecessor_too : (g h : Graph) (a b : List ℕ) → Alike g h a b → (v d u : ℕ) → IsPredecessor g a v d u → IsPredecessor h b v d u
predecessor_too g h a b e v d u (c, l, near, arc, is) = (c, l, nearest_too g h a b e u c near, e.graphs.there (record { tail = u; head = v; len = l }) arc, is)

pair_too : (g h : Graph) (a b : List ℕ) → Alike g h a b → (v d p : ℕ) → IsForestPair g a v d p → IsForestPair h b v d p
pair_too g h a b e v d p pair = record {
  least = nearest_too g h a b e v d pair.least;
  before = predecessor_too g h a b e v d p pair.before;
  smallest = λ u before. pair.smallest u (predecessor_too h g b a (turned g h a b e) v d u before);
}

pub word_too : (g h : Graph) (a b : List ℕ) → Alike g h a b → (v : ℕ) (w : Word) → IsForestWord g a v w → IsForestWord h b v w
word_too g h a b e v Unreached none = λ d walk. none d (walk_too h g b a (turned g h a b e) v d walk)
word_too g h a b e v (Pair d p) (inl (at, zero, bare)) = inl (e.sources.there v at, zero, bare)
word_too g h a b e v (Pair d p) (inr (none, pair)) = inr (λ at. none (e.sources.back v at), pair_too g h a b e v d p pair)

near_too : (g h : Graph) (a b : List ℕ) → Alike g h a b → (max v : ℕ) → IsNear g a max v → IsNear h b max v
near_too g h a b e max v (d, near, low) = (d, nearest_too g h a b e v d near, low)

forest_too : (g h : Graph) (a b : List ℕ) → Alike g h a b → (words : Table) → IsForest g a words → IsForest h b words
forest_too g h a b e words all = λ v at. word_too g h a b e v (words v) (all v (rw (← e.graphs.n) at at))

within_too : (g h : Graph) (a b : List ℕ) → Alike g h a b → (max : ℕ) (words : Table) → IsForestWithin g a max words → IsForestWithin h b max words
within_too g h a b e max words part = record {
  near = λ v near. word_too g h a b e v (words v) (part.near v (near_too h g b a (turned g h a b e) max v near));
  others = λ v at far. part.others v (rw (← e.graphs.n) at at) (λ near. far (near_too g h a b e max v near));
}

beyond_too : (g h : Graph) (a b : List ℕ) → Alike g h a b → (max v : ℕ) → IsBeyond g a max v → IsBeyond h b max v
beyond_too g h a b e max v far = record {
  dist = far.dist;
  least = nearest_too g h a b e v far.dist far.least;
  above = far.above;
  tail = far.tail;
  tail_dist = far.tail_dist;
  tail_least = nearest_too g h a b e far.tail far.tail_dist far.tail_least;
  tail_within = far.tail_within;
  len = far.len;
  arc = e.graphs.there (record { tail = far.tail; head = v; len = far.len }) far.arc;
}

pub far_too : (g h : Graph) (a b : List ℕ) → Alike g h a b → (max : ℕ) (v : Option ℕ) → IsFar g a max v → IsFar h b max v
far_too g h a b e max None none = λ v far. none v (beyond_too h g b a (turned g h a b e) max v far)
far_too g h a b e max (Some v) (far, smallest) = (beyond_too g h a b e max v far, λ w far'. smallest w (beyond_too h g b a (turned g h a b e) max w far'))

pub sources_are_a_set : SourcesAreASet
sources_are_a_set g a b same =
    let e : Alike g g a b = record { graphs = record { n = refl; there = λ arc here. here; back = λ arc here. here }; sources = same } in
    let back = turned g g a b e in
    record {
      nearest = λ v d. (nearest_too g g a b e v d, nearest_too g g b a back v d);
      forest = λ words. (forest_too g g a b e words, forest_too g g b a back words);
      within = λ max words. (within_too g g a b e max words, within_too g g b a back max words);
      far = λ max v. (far_too g g a b e max v, far_too g g b a back max v);
    }
