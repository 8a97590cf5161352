-- What the table of a run from one source means: what that of a run from several means, whose only source it is.
use Rattle.std.proofs.Common.{◌≡◌, ℕ, ◌≤◌, ◌⊎◌, inl, inr, [], ◌∷◌, Some, None, sym, subst}
use Rattle.std.specs.Prelude.{Contains}
use Rattle.std.proofs.lemmas.List.Elements.{All-nil, All-cons}
use Rattle.sp_word.specs.History.{Table}
use Rattle.sp_word.specs.Word.{Word, Pair, Unreached}
use Rattle.sp_paths.specs.Paths.{Graph, IsGraph, IsVertex, IsLeast, IsNear, IsTreeWord, IsLawful, IsTableFrom, IsClosed}
use Rattle.sp_paths.specs.Theorems.{IsFinished, FinishedEndsInTree, FinishedIsTree, FinishedIsFar, FinishedIsPair}
use Rattle.sp_paths.specs.Forests.{IsLawful as IsLawfulFromAny, IsTableFrom as IsTableFromAny, IsClosedTable, IsFinished as IsFinishedFromAny}
use Rattle.sp_paths.proofs.ForestWalks.{contains_first}
use Rattle.sp_paths.proofs.OneForest.{only_one, least_to, least_of, word_to, far_to}
use Rattle.sp_paths.proofs.Core.{cases_word, closed_shows_within}
use Rattle.sp_paths.proofs.Finished.{finished_is_forest, finished_is_far as finished_is_far_from_any}

module _ (g : Graph) (s : ℕ) where
  lawful_of : (v : ℕ) (w : Word) → IsLawful g s v w → IsLawfulFromAny g (s ∷ []) v w
  lawful_of v Unreached h = tt
  lawful_of v (Pair d p) (inl own) = inl (subst (Contains (s ∷ [])) (sym own.0) (contains_first s []), own.1, own.2)
  lawful_of v (Pair d p) (inr by) = inr (s, contains_first s [], by)

  table_of : (words : Table) → IsTableFrom g s words → IsTableFromAny g (s ∷ []) words
  table_of words table = record { lawful = λ v at. lawful_of v (words v) (table.lawful v at); own = λ r here. subst (λ x. words x ≡ Pair 0 0) (sym (only_one s r here)) table.source }

  pub closed_of : IsGraph g → IsVertex g.n s → (limit : ℕ) (words : Table) → IsTableFrom g s words → IsClosed g limit words → IsClosedTable g (s ∷ []) limit words
  closed_of gr in' limit words table closed = record { graph = gr; vertices = All-cons (IsVertex g.n) s [] in' (All-nil (IsVertex g.n)); table = table_of words table; closed = closed }

  module _ (limit : ℕ) (words : Table) (h : IsClosedTable g (s ∷ []) limit words) where
    -- a vertex near the source has its word in the tree
    pub near_word : (v d : ℕ) → IsLeast g s v d → d ≤ limit → IsTreeWord g s v (words v)
    near_word v d least low = word_to g s v (words v) ((closed_shows_within g (s ∷ []) limit words h).near v (d, least_of g s v d least, low))

    -- a distance up to the limit is the least length
    pub near_pair : (v d p : ℕ) → IsVertex g.n v → words v ≡ Pair d p → d ≤ limit → IsLeast g s v d × IsTreeWord g s v (Pair d p)
    near_pair v d p at is low =
        let least = least_to g s v d ((closed_shows_within g (s ∷ []) limit words h).dist v d p at is low) in
        (least, subst (IsTreeWord g s v) is (near_word v d least low))

    not_near : (v : ℕ) → words v ≡ Unreached → IsNear g s limit v → ⊥
    not_near v is (d, least, low) = let none : IsTreeWord g s v Unreached = subst (IsTreeWord g s v) is (near_word v d least low) in none d least.walk

  finished_of : (max : ℕ) (words : Table) → IsFinished g s max words → IsFinishedFromAny g (s ∷ []) max words
  finished_of max words f = record { all = closed_of f.graph f.source max words f.table f.closed; within = f.within }

pub finished_ends_in_tree : FinishedEndsInTree
finished_ends_in_tree g s max words f = record { near = λ v (d, least, low). near_word g s max words all v d least low; others = λ v at far. others v at far (cases_word (words v)) }
  where
    all : IsClosedTable g (s ∷ []) max words
    all = (finished_of g s max words f).all

    others : (v : ℕ) → IsVertex g.n v → (IsNear g s max v → ⊥) → ((d p : ℕ) × (words v ≡ Pair d p)) ⊎ (words v ≡ Unreached) → words v ≡ Unreached
    others v at far (inl (d, p, is)) = let low = f.within v d p at is in absurd (far (d, (near_pair g s max words all v d p at is low).0, low))
    others v at far (inr is) = is

pub finished_is_tree : FinishedIsTree
finished_is_tree g s max words f none =
    let both = finished_is_forest g (s ∷ []) max words (finished_of g s max words f) none in
    (λ v at. word_to g s v (words v) (both.0 v at), far_to g s max None both.1)

pub finished_is_far : FinishedIsFar
finished_is_far g s max words f v out least = far_to g s max (Some v) (finished_is_far_from_any g (s ∷ []) max words (finished_of g s max words f) v out least)

pub finished_is_pair : FinishedIsPair
finished_is_pair g s max words f t =
    let all = (finished_of g s max words f).all in
    record {
      found = λ d p at is. (let low = f.within t d p at is in let h = near_pair g s max words all t d p at is low in ((d, h.0, low), h.1));
      too_far = λ v is out least. (not_near g s max words all t is, finished_is_far g s max words f v out least);
      no_walk = λ is none. (not_near g s max words all t is, (finished_is_tree g s max words f none).1);
    }
