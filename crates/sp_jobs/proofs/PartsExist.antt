-- Every source has the part of its tree within a limit.
use Rattle.std.proofs.Common.{◌≡◌, ℕ, ◌+◌, ◌<◌, ◌≤◌, ◌⊎◌, inl, inr, refl, sym, ◌∙◌, subst, arith}
use Rattle.std.proofs.lemmas.Bool.{cases_lt}
use Rattle.sp_word.specs.Word.{Word, Unreached, Pair, Fits, max_dist, max_pred}
use Rattle.sp_word.specs.History.{Table}
use Rattle.sp_paths.specs.Paths.{Graph, IsGraph, IsVertex, HasArc, HasWalk, IsTreeWord, IsNear, IsPair, PairAnswer, Found, TooFar, NoWalk, EndsInTree}
use Rattle.sp_paths.specs.Bags.{AreSame, SameAnswers}
use Rattle.sp_paths.proofs.Walks.{arc_in, walk_cases, least_same}
use Rattle.sp_paths.proofs.Existence.{pairs_exist}
use Rattle.sp_paths.proofs.SameArcs.{same_arcs_same_answers}
use Rattle.sp_answer.specs.Table.{HasPredWithin}

module _ (g : Graph) (gr : IsGraph g) (s : ℕ) (in' : IsVertex g.n s) (limit : ℕ) where
  -- a vertex near the source is one of the graph
  near_vertex : (v : ℕ) → IsNear g s limit v → IsVertex g.n v
  near_vertex v (d, least, fits) = go (walk_cases g s v d least.walk)
    where
      go : ((s ≡ v) × (d ≡ 0)) ⊎ ((u c l : ℕ) × HasWalk g s u c × HasArc g u v l × (c + l ≡ d)) → IsVertex g.n v
      go (inl same) = subst (IsVertex g.n) same.0 in'
      go (inr (u, c, l, walk, arc, sum)) = (arc_in g gr u v l arc).1

  -- the word of a vertex in the part of the tree
  abbrev IsPartWord : (v : ℕ) → Word → Type 0
  IsPartWord v Unreached = IsNear g s limit v → ⊥
  IsPartWord v (Pair d p) = IsNear g s limit v × IsTreeWord g s v (Pair d p)

  of_pair : (v : ℕ) (answer : PairAnswer) → IsPair g s v limit answer → (w : Word) × IsPartWord v w
  of_pair v (Found d p) is = (Pair d p, is)
  of_pair v (TooFar u) is = (Unreached, is.0)
  of_pair v NoWalk is = (Unreached, is.0)

  part_word : (v : ℕ) → (w : Word) × IsPartWord v w
  part_word v = go (cases_lt v 1) (cases_lt g.n v)
    where
      go : (v < 1) ⊎ (1 ≤ v) → (g.n < v) ⊎ (v ≤ g.n) → (w : Word) × IsPartWord v w
      go (inl low) _ = (Unreached, λ near. let at = near_vertex v near in absurd (omega (arith, at.0, low)))
      go (inr low) (inl high) = (Unreached, λ near. let at = near_vertex v near in absurd (omega (arith, at.1, high)))
      go (inr low) (inr high) = let is = pairs_exist g s v limit gr in' (low, high) in of_pair v is.0 is.1

  -- the words of all vertices
  pub part : Table
  part v = (part_word v).0

  part_is : (v : ℕ) → IsPartWord v (part v)
  unfolding part
  part_is v = (part_word v).1

  near_is : (v : ℕ) (w : Word) → IsPartWord v w → IsNear g s limit v → IsTreeWord g s v w
  near_is v Unreached is near = absurd (is near)
  near_is v (Pair d p) is near = is.1

  other_is : (v : ℕ) (w : Word) → IsPartWord v w → (IsNear g s limit v → ⊥) → w ≡ Unreached
  other_is v Unreached is far = refl
  other_is v (Pair d p) is far = absurd (far is.0)

  pub part_ends : EndsInTree g s limit part
  part_ends = record { near = λ v near. near_is v (part v) (part_is v) near; others = λ v at far. other_is v (part v) (part_is v) far }

  -- they fit a layout that has the limit and the vertices
  module _ (P : ℕ) (most : g.n ≤ max_pred P) (within : limit ≤ max_dist P) where
    word_fits : (v : ℕ) (w : Word) → IsPartWord v w → Fits P w × HasPredWithin g.n w
    word_fits v Unreached is = (tt, tt)
    word_fits v (Pair d p) (near, inl own) = ((omega (arith, own.1), omega (arith, own.2)), omega (arith, own.2))
    word_fits v (Pair d p) ((e, least, fits), inr (other, t)) =
        let (c, l, tail, arc, sum) = t.before in
        let same = least_same g s v d e t.least least in
        let ends = arc_in g gr p v l arc in
        ((omega (arith, same, fits, within), omega (arith, ends.0.1, most)), ends.0.1)

    pub part_fits : (v : ℕ) → Fits P (part v) × HasPredWithin g.n (part v)
    part_fits v = word_fits v (part v) (part_is v)

  -- a table with the same words ends there too
  pub ends_same : (a b : Table) → ((v : ℕ) → IsVertex g.n v → a v ≡ b v) → EndsInTree g s limit a → EndsInTree g s limit b
  ends_same a b same ends = record {
    near = λ v near. subst (IsTreeWord g s v) (same v (near_vertex v near)) (ends.near v near);
    others = λ v at far. sym (same v at) ∙ ends.others v at far;
  }

-- ## Graphs with the same arcs

turned : (g h : Graph) → AreSame g h → AreSame h g
turned g h same = record { n = sym same.n; there = same.back; back = same.there }

same_near : (g h : Graph) → SameAnswers g h → (s limit v : ℕ) → IsNear g s limit v → IsNear h s limit v
same_near g h all s limit v (d, least, fits) = (d, all.least s v d least, fits)

same_word : (g h : Graph) → SameAnswers g h → (s limit v : ℕ) (w : Word) → IsNear g s limit v → IsTreeWord g s v w → IsTreeWord h s v w
same_word g h all s limit v Unreached (d, least, fits) none = absurd (none d least.walk)
same_word g h all s limit v (Pair d p) near is = (all.pair s v limit (Found d p) (near, is)).1

-- The part of a tree in the one is that in the other.
pub same_part : (g h : Graph) → AreSame g h → (s limit : ℕ) (words : Table) → EndsInTree g s limit words → EndsInTree h s limit words
same_part g h same s limit words ends =
    let there = same_arcs_same_answers g h same in
    let back = same_arcs_same_answers h g (turned g h same) in
    record {
      near = λ v near. let here = same_near h g back s limit v near in same_word g h there s limit v (words v) here (ends.near v here);
      others = λ v at far. ends.others v (subst (λ n. IsVertex n v) (sym same.n) at) (λ near. far (same_near g h there s limit v near));
    }
