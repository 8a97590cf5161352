-- Every source of a graph has an answer.
use Rattle.std.proofs.Common.{◌≡◌, ℕ, zero, suc, ◌+◌, ◌-◌, ◌<◌, ◌≤◌, ◌⊎◌, inl, inr, List, [], ◌∷◌, length, get_or, Option, Some, None, true, refl, sym, ap, ◌∙◌, subst, arith}
use Rattle.std.specs.Prelude.{All, IfSome}
use Rattle.std.specs.Option.{unwrap_or}
use Rattle.std.proofs.lemmas.Option.{unwrap_or-slice_get}
use Rattle.sp_word.specs.Word.{Word, Unreached, Pair, Fits, is_layout, max_dist, max_pred}
use Rattle.sp_word.specs.History.{Table}
use Rattle.sp_paths.specs.Paths.{Graph, IsGraph, IsVertex, IsTreePair, IsTreeWord, IsTree, IsFar, EndsInTree}
use Rattle.sp_paths.specs.Theorems.{HasTree}
use Rattle.sp_paths.proofs.Walks.{arc_in}
use Rattle.sp_paths.proofs.Only.{far_is_meant}
use Rattle.sp_paths.proofs.Existence.{trees_exist}
use Rattle.sp_answer.specs.Table.{TreeTable, tree_of, table_of, rows_from, HasPredWithin, IsTable}
use Rattle.sp_answer.proofs.RisingRows.{tree_is_table, words_are}
use Rattle.sp_jobs.specs.Batch.{TreeAnswer, TreeOf, FarFrom, IsTreeAnswer, AreTreeAnswers}
use Rattle.sp_jobs.proofs.PartsExist.{part, part_ends, part_fits, ends_same}

-- ## The words of a table in a list

-- those of `count` vertices from one on
listed : Table → (vertex count : ℕ) → List Word
listed words v zero = []
listed words v (suc count) = words v ∷ listed words (v + 1) count

length-listed : (words : Table) (v count : ℕ) → length (listed words v count) ≡ count
unfolding listed
length-listed words v zero = refl
length-listed words v (suc count) = omega (arith, length-listed words (v + 1) count)

get_or-listed : (words : Table) (v count i : ℕ) (d : Word) → i < count → get_or (listed words v count) i d ≡ words (v + i)
unfolding listed
get_or-listed words v zero i d less = absurd (omega arith)
get_or-listed words v (suc count) zero d less = let same : v ≡ v + 0 = omega arith in ap words same
get_or-listed words v (suc count) (suc i) d less = let same : v + 1 + i ≡ v + suc i = omega arith in get_or-listed words (v + 1) count i d (omega arith) ∙ ap words same

module _ (P : ℕ) (g : Graph) (layout : is_layout P ≡ true) (most : g.n ≤ max_pred P) (gr : IsGraph g) where
  -- ## The words of one source

  -- that fit the layout, and whose predecessors are vertices
  module _ (s : ℕ) (in' : IsVertex g.n s) (words : Table) (fit : (v : ℕ) → IsVertex g.n v → Fits P (words v) × HasPredWithin g.n (words v)) where
    list : List Word
    list = listed words 1 g.n

    size : length list ≡ g.n
    unfolding list
    size = length-listed words 1 g.n

    listed_within : (i : ℕ) (d : Word) → i < length list → Fits P (get_or list i d) × HasPredWithin g.n (get_or list i d)
    unfolding list
    listed_within i d less =
        let low : i < g.n = omega (arith, size) in
        rw (get_or-listed words 1 g.n i d low) (fit (1 + i) (omega arith, omega arith))

    table : TreeTable
    table = tree_of s list

    is_table : IsTable P table
    unfolding table
    is_table =
        tree_is_table P (length list) s list (rows_from 1 list) layout (omega (arith, size, in'.0, in'.1)) (omega (arith, size, most)) in'.0 (omega (arith, size, in'.1)) refl refl
        (λ i d less. subst (λ n. HasPredWithin n (get_or list i d)) (sym size) (listed_within i d less).1)
        (λ i d less. (listed_within i d less).0)

    same_word : (v : ℕ) → IsVertex g.n v → words v ≡ table_of table v
    unfolding table list
    same_word v (least, most') =
        let there : 1 + (v - 1) ≡ v = omega arith in
        ap words (sym there)
        ∙ (sym (get_or-listed words 1 g.n (v - 1) Unreached (omega arith))
        ∙ (sym (unwrap_or-slice_get (listed words 1 g.n) (v - 1) Unreached) ∙ ap (λ o. unwrap_or o Unreached) (words_are s (listed words 1 g.n) v least (omega (arith, length-listed words 1 g.n)))))

    table_n : table.n ≡ g.n
    unfolding table
    table_n = size

    table_source : table.source ≡ s
    unfolding table
    table_source = refl

  -- ## The tree of one source

  module _ (s : ℕ) (in' : IsVertex g.n s) (words : Table) (tree : IsTree g s words) (far : IsFar g s (max_dist P) None) where
    -- its words fit the layout, since no vertex is too far, and its predecessors are vertices
    pair_within : (v d p : ℕ) → IsTreePair g s v d p → (d ≤ max_dist P) × (p ≤ g.n)
    pair_within v d p t =
        let (c, l, least, a, q) = t.before in
        ((far_is_meant g s (max_dist P) gr).none.0 far v d t.least, (arc_in g gr p v l a).0.1)

    word_within : (v : ℕ) (w : Word) → IsTreeWord g s v w → Fits P w × HasPredWithin g.n w
    word_within v Unreached is = (tt, tt)
    word_within v (Pair d p) (inl own) = ((omega (arith, own.1), omega (arith, own.2)), omega (arith, own.2))
    word_within v (Pair d p) (inr (other, t)) = let w = pair_within v d p t in ((w.0, omega (arith, w.1, most)), w.1)

    fit : (v : ℕ) → IsVertex g.n v → Fits P (words v) × HasPredWithin g.n (words v)
    fit v at = word_within v (words v) (tree v at)

    tree_answer : (answer : TreeAnswer) × IsTreeAnswer P None g s answer
    tree_answer = (
      TreeOf (table s in' words fit),
      (
        is_table s in' words fit,
        record {
          vertex = in';
          n = table_n s in' words fit;
          source = table_source s in' words fit;
          tree = λ v at. subst (IsTreeWord g s v) (same_word s in' words fit v at) (tree v at);
          far = far;
        },
      ),
    )

  -- ## Its part within a limit

  module _ (limit : ℕ) (within : limit ≤ max_dist P) (s : ℕ) (in' : IsVertex g.n s) where
    words : Table
    words = part g gr s in' limit

    part_fit : (v : ℕ) → IsVertex g.n v → Fits P (words v) × HasPredWithin g.n (words v)
    unfolding words
    part_fit v at = part_fits g gr s in' limit P most within v

    ends : EndsInTree g s limit words
    unfolding words
    ends = part_ends g gr s in' limit

    part_answer : (answer : TreeAnswer) × IsTreeAnswer P (Some limit) g s answer
    part_answer = (
      TreeOf (table s in' words part_fit),
      (
        is_table s in' words part_fit,
        record {
          vertex = in';
          n = table_n s in' words part_fit;
          source = table_source s in' words part_fit;
          tree = ends_same g gr s in' limit words (table_of (table s in' words part_fit)) (same_word s in' words part_fit) ends;
        },
      ),
    )

  -- ## All sources

  answer_exists : (limit : Option ℕ) → IfSome limit (λ l. l ≤ max_dist P) → (s : ℕ) → IsVertex g.n s → (answer : TreeAnswer) × IsTreeAnswer P limit g s answer
  answer_exists None within s in' = go (trees_exist g s (max_dist P) gr in')
    where
      go : HasTree g s (max_dist P) ⊎ ((v : ℕ) × IsFar g s (max_dist P) (Some v)) → (answer : TreeAnswer) × IsTreeAnswer P None g s answer
      go (inl (words, tree, far)) = tree_answer s in' words tree far
      go (inr (v, far)) = (FarFrom s v, (refl, far))
  answer_exists (Some limit) within s in' = part_answer limit within s in'

  module _ (limit : Option ℕ) (within : IfSome limit (λ l. l ≤ max_dist P)) where
    pub answers_exist : (sources : List ℕ) → All (IsVertex g.n) sources → (answers : List TreeAnswer) × AreTreeAnswers P limit g sources answers
    answers_exist [] all = ([], tt)
    answers_exist (s ∷ sources) all =
        let first = answer_exists limit within s (all 0 0 (omega arith)) in
        let more = answers_exist sources (λ i d less. all (suc i) d (omega arith)) in
        (first.0 ∷ more.0, (first.1, more.1))
