-- What the words of a run tell, in which the arcs are relaxed: all of them, or those up to a distance.
use Rattle.std.proofs.Common.{◌≡◌, ℕ, ◌+◌, ◌-◌, ◌<◌, ◌≤◌, ◌⊎◌, inl, inr, List, length, get_or, Option, Some, None, refl, sym, ap, ◌∙◌, subst, arith, Bor}
use Rattle.std.specs.Prelude.{All}
use Rattle.std.proofs.lemmas.Bool.{cases_lt}
use Rattle.std.proofs.lemmas.List.{get_or_default}
use Rattle.sp_word.specs.Word.{Word, Unreached, Pair, max_dist}
use Rattle.sp_paths.specs.Paths.{Graph, IsGraph, IsVertex, IsClosed, IsWithin, word_at}
use Rattle.sp_paths.proofs.Walks.{arc_in}
use Rattle.sp_graph.specs.LeftOut.{IsLeastLeftOut}
use Rattle.sp_answer.specs.Pair.{answer_by}
use Rattle.sp_answer.specs.Table.{HasPredWithin}
use Rattle.sp_answer.specs.Within.{up_to}
use Rattle.sp_paths.specs.Forests.{IsForestWord, IsNear, IsLawful, IsTableFrom, IsClosedTable, IsFinished}
use Rattle.sp_paths.specs.ForestLaws.{ShowsWithin}
use Rattle.sp_answer.specs.Run.{IsTold, AreTold, IsFinalUpTo, AreFinal, IsUpTo, IsWhole, AreRunWords}
use Rattle.sp_answer.specs.declared.asked.Until.TheVariants.{All as AllWords, Limit, Targets}
use Rattle.sp_paths.proofs.ForestWalks.{any_by_parts, nearest_same}
use Rattle.sp_paths.proofs.OneForest.{forest_nearest}
use Rattle.sp_paths.proofs.Core.{not_both, reached, pair_nearest, pair_forest, closed_shows_within}
use Rattle.sp_paths.proofs.Finished.{finished_is_forest, finished_is_far}
use Rattle.sp_answer.proofs.RowsWithin.{kept, dropped}

module _ (P : ℕ) (g : Graph) (sources : List ℕ) (graph : IsGraph g) (vertices : All (IsVertex g.n) sources) (words : List Word) (size : length words ≡ g.n) (table : IsTableFrom g sources (word_at words)) (low : IsWithin g.n (max_dist P) (word_at words)) where
  -- ## Predecessors

  pred_within : (v : ℕ) (w : Word) → IsLawful g sources v w → HasPredWithin g.n w
  pred_within v Unreached law = tt
  pred_within v (Pair d p) (inl own) = let zero_is = own.2 in omega arith
  pred_within v (Pair d p) (inr by) = let parts = any_by_parts g sources v d p by in (arc_in g graph p v parts.1 parts.3).0.1

  preds_within : All (HasPredWithin (length words)) words
  preds_within k d lt =
      let at : IsVertex g.n (k + 1) = (omega (arith, size), omega (arith, size)) in
      let is : word_at words (k + 1) ≡ get_or words k d = (let there : k + 1 - 1 ≡ k = omega arith in ap (λ i. get_or words i Unreached) there ∙ get_or_default words k Unreached d lt) in
      subst (λ n. HasPredWithin n (get_or words k d)) (sym size) (subst (HasPredWithin g.n) is (pred_within (k + 1) (word_at words (k + 1)) (table.lawful (k + 1) at)))

  -- ## Up to a limit

  closed_table : (limit : ℕ) → IsClosed g limit (word_at words) → IsClosedTable g sources limit (word_at words)
  closed_table limit closed = record { graph = graph; vertices = vertices; table = table; closed = closed }

  module _ (limit : ℕ) (shows : ShowsWithin g sources limit (word_at words)) where
    near : (v : ℕ) → IsNear g sources limit v → IsForestWord g sources v (up_to limit (word_at words v))
    near v (d, least, below) = go (word_at words v) (shows.near v (d, least, below))
      where
        go : (w : Word) → IsForestWord g sources v w → IsForestWord g sources v (up_to limit w)
        go Unreached t = t
        go (Pair e q) t =
            let same : e ≡ d = nearest_same g sources v e d (forest_nearest g sources v e q t) least in
            rw (kept limit e q (omega arith)) t

    others : (v : ℕ) → IsVertex g.n v → (IsNear g sources limit v → ⊥) → up_to limit (word_at words v) ≡ Unreached
    others v at far = go (word_at words v) refl
      where
        far_pair : (e q : ℕ) → word_at words v ≡ Pair e q → (limit < e) ⊎ (e ≤ limit) → up_to limit (Pair e q) ≡ Unreached
        far_pair e q is (inl high) = dropped limit e q high
        far_pair e q is (inr below) = absurd (far (e, shows.dist v e q at is below, below))

        go : (w : Word) → word_at words v ≡ w → up_to limit w ≡ Unreached
        go Unreached is = refl
        go (Pair e q) is = far_pair e q is (cases_lt limit e)

  pub limit_words : (limit : ℕ) → IsClosed g limit (word_at words) → AreRunWords P g sources (Limit limit) words None
  limit_words limit closed =
      let shows = closed_shows_within g sources limit (word_at words) (closed_table limit closed) in
      record { vertices = vertices; size = size; preds = preds_within; tells = (record { near = near limit shows; others = others limit shows }, refl) }

  -- ## Targets

  pub target_words : (targets : Bor (List ℕ)) (far : Option ℕ) → AreTold P g sources targets.now words far × AreFinal g sources targets.now words → AreRunWords P g sources (Targets targets) words far
  target_words targets far told = record { vertices = vertices; size = size; preds = preds_within; tells = told }

  -- a target has its word of the forest where the arcs up to its distance are relaxed
  near_told : (far : ℕ) → ((d : ℕ) → d ≤ far → d ≤ max_dist P → IsClosed g d (word_at words)) → (t : ℕ) → IsVertex g.n t → (w : Word) → word_at words t ≡ w → IsUpTo far w → IsTold P g sources t (answer_by w None)
  near_told far closed t at Unreached is up = absurd up
  near_told far closed t at (Pair d p) is up =
      let most : d ≤ max_dist P = low t d p at is in
      let all : IsClosedTable g sources d (word_at words) = closed_table d (closed d up most) in
      ((d, pair_nearest g sources d (word_at words) all t d p at is (omega arith), most), pair_forest g sources d (word_at words) all t d p at is (omega arith))

  -- and so has each vertex that is no farther
  near_final : (far : ℕ) → ((d : ℕ) → d ≤ far → d ≤ max_dist P → IsClosed g d (word_at words)) → (t : ℕ) → IsVertex g.n t → (w : Word) → word_at words t ≡ w → IsUpTo far w → IsFinalUpTo g sources words w
  near_final far closed t at Unreached is up = tt
  near_final far closed t at (Pair d p) is up = (closed_shows_within g sources d (word_at words) (closed_table d (closed d up (low t d p at is)))).near

  pub near_targets : (far : ℕ) (targets : List ℕ) → ((d : ℕ) → d ≤ far → d ≤ max_dist P → IsClosed g d (word_at words)) → All (IsVertex g.n) targets → All (λ t. IsUpTo far (word_at words t)) targets → AreTold P g sources targets words None × AreFinal g sources targets words
  near_targets far targets closed ends up = (
    λ k d less. near_told far closed (get_or targets k d) (ends k d less) (word_at words (get_or targets k d)) refl (up k d less),
    λ k d less. near_final far closed (get_or targets k d) (ends k d less) (word_at words (get_or targets k d)) refl (up k d less),
  )

-- ## Where all arcs are relaxed

module _ (P : ℕ) (g : Graph) (sources : List ℕ) (words : List Word) (size : length words ≡ g.n) (finished : IsFinished g sources (max_dist P) (word_at words)) where
  whole_forest : (far : Option ℕ) → IsLeastLeftOut g (word_at words) far → IsWhole P g sources words far
  whole_forest None left = finished_is_forest g sources (max_dist P) (word_at words) finished left
  whole_forest (Some v) left = finished_is_far g sources (max_dist P) (word_at words) finished v left.0 left.1

  pub whole_words : (far : Option ℕ) → IsLeastLeftOut g (word_at words) far → AreRunWords P g sources AllWords words far
  whole_words far left = record {
    vertices = finished.all.vertices;
    size = size;
    preds = preds_within P g sources finished.all.graph finished.all.vertices words size finished.all.table finished.within;
    tells = whole_forest far left;
  }

  not_near : (t : ℕ) → word_at words t ≡ Unreached → IsNear g sources (max_dist P) t → ⊥
  not_near t is (d, least, low) =
      let r = reached g sources (max_dist P) (word_at words) finished.all t d least.walk low in not_both (word_at words t) r.0 r.1 r.2 is

  whole_told : (far : Option ℕ) → IsLeastLeftOut g (word_at words) far → (t : ℕ) → IsVertex g.n t → (w : Word) → word_at words t ≡ w → IsTold P g sources t (answer_by w far)
  whole_told far left t at (Pair d p) is =
      let low : d ≤ max_dist P = finished.within t d p at is in
      ((d, pair_nearest g sources (max_dist P) (word_at words) finished.all t d p at is low, low), pair_forest g sources (max_dist P) (word_at words) finished.all t d p at is low)
  whole_told (Some v) left t at Unreached is = (not_near t is, finished_is_far g sources (max_dist P) (word_at words) finished v left.0 left.1)
  whole_told None left t at Unreached is = (not_near t is, (finished_is_forest g sources (max_dist P) (word_at words) finished left).1)

  whole_final : (t : ℕ) → IsVertex g.n t → (w : Word) → word_at words t ≡ w → IsFinalUpTo g sources words w
  whole_final t at Unreached is = tt
  whole_final t at (Pair d p) is = λ v (e, least, low). (let most = finished.within t d p at is in (closed_shows_within g sources (max_dist P) (word_at words) finished.all).near v (e, least, omega arith))

  pub whole_targets : (far : Option ℕ) (targets : List ℕ) → IsLeastLeftOut g (word_at words) far → All (IsVertex g.n) targets → AreTold P g sources targets words far × AreFinal g sources targets words
  whole_targets far targets left ends = (
    λ k d less. whole_told far left (get_or targets k d) (ends k d less) (word_at words (get_or targets k d)) refl,
    λ k d less. whole_final (get_or targets k d) (ends k d less) (word_at words (get_or targets k d)) refl,
  )
