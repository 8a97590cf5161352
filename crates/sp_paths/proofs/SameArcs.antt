-- Graphs with the same arcs have the same answers.
use Rattle.std.proofs.Common.{ℕ, [], ◌∷◌, Option, Some, None}
use Rattle.sp_word.specs.Word.{Word, Pair}
use Rattle.sp_paths.specs.Paths.{Graph, IsLeast, IsTreeWord, IsFar, IsNear, IsPair, PairAnswer, Found, TooFar, NoWalk}
use Rattle.sp_paths.specs.Bags.{AreSame, SameArcsSameAnswers}
use Rattle.sp_paths.proofs.OneForest.{least_to, least_of, word_to, word_of, far_to, far_of}
use Rattle.sp_paths.proofs.SameSources.{Alike, turned, same_walk, nearest_too, word_too, far_too}

module _ (g h : Graph) (s : ℕ) (e : Alike g h (s ∷ []) (s ∷ [])) where
  same_least : (v d : ℕ) → IsLeast g s v d → IsLeast h s v d
  same_least v d least = least_to h s v d (nearest_too g h (s ∷ []) (s ∷ []) e v d (least_of g s v d least))

  same_word : (v : ℕ) (w : Word) → IsTreeWord g s v w → IsTreeWord h s v w
  same_word v w word = word_to h s v w (word_too g h (s ∷ []) (s ∷ []) e v w (word_of g s v w word))

  same_far : (max : ℕ) (answer : Option ℕ) → IsFar g s max answer → IsFar h s max answer
  same_far max answer far = far_to h s max answer (far_too g h (s ∷ []) (s ∷ []) e max answer (far_of g s max answer far))

  same_near : (max v : ℕ) → IsNear g s max v → IsNear h s max v
  same_near max v (d, least, fits) = (d, same_least v d least, fits)

one : (g h : Graph) (s : ℕ) → AreSame g h → Alike g h (s ∷ []) (s ∷ [])
one g h s e = record { graphs = e; sources = record { there = λ r here. here; back = λ r here. here } }

module _ (g h : Graph) (s : ℕ) (e : Alike g h (s ∷ []) (s ∷ [])) where
  far_back : (max t : ℕ) → (IsNear g s max t → ⊥) → IsNear h s max t → ⊥
  far_back max t far near = far (same_near h g s (turned g h (s ∷ []) (s ∷ []) e) max t near)

  same_pair : (t max : ℕ) (answer : PairAnswer) → IsPair g s t max answer → IsPair h s t max answer
  same_pair t max (Found d p) a = (same_near g h s e max t a.0, same_word g h s e t (Pair d p) a.1)
  same_pair t max (TooFar v) a = (far_back max t a.0, same_far g h s e max (Some v) a.1)
  same_pair t max NoWalk a = (far_back max t a.0, same_far g h s e max None a.1)

pub same_arcs_same_answers : SameArcsSameAnswers
same_arcs_same_answers g h e = record {
  walk = same_walk g h e;
  least = λ s. same_least g h s (one g h s e);
  tree = λ s words tree v at. same_word g h s (one g h s e) v (words v) (tree v (rw (← e.n) at at));
  far = λ s. same_far g h s (one g h s e);
  pair = λ s. same_pair g h s (one g h s e);
}
