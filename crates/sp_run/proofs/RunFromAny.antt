-- A run by a team, from one source or several.
use Rattle.std.proofs.Common.{◌≡◌, ℕ, ◌+◌, ◌<◌, ◌≤◌, ◌⊎◌, inl, inr, List, length, get_or, sym, ap, ◌∙◌, subst, arith}
use Rattle.std.proofs.lemmas.Bool.{cases_lt}
use Rattle.std.proofs.lemmas.List.{get_or_default}
use Rattle.sp_word.specs.Word.{Word, Unreached, Pair, lesser, max_dist}
use Rattle.sp_word.specs.History.{Table}
use Rattle.sp_paths.specs.Paths.{IsAtMost}
use Rattle.sp_paths.proofs.Walks.{arc_in}
use Rattle.sp_paths.proofs.CallSteps.{lesser_of_offer}
use Rattle.sp_paths.specs.Forests.{IsLawful}
use Rattle.sp_paths.proofs.ForestWalks.{any_by, lawful_walk}
use Rattle.sp_offer.specs.Order.{lawful, IsNoMore}
use Rattle.sp_team.specs.Law.{AllowsArcs, IsReady}
use Rattle.sp_judge.specs.Several.{IsTableOfAny}
use Rattle.sp_judge.proofs.LoweredWalks.{any_table}
use Rattle.sp_run.specs.Sources.{WalkSources}
use Rattle.sp_run.specs.RunFromAny.{IsPlace, TakesWalks, IsOfWalks}

-- what is no more than (0, 0) is (0, 0)
pub none_less : (w : Word) → IsNoMore w (Pair 0 0) → w ≡ Pair 0 0
none_less Unreached h = absurd h
none_less (Pair d p) (inl h) = absurd (omega arith)
none_less (Pair d p) (inr h) = let e : d ≡ 0 = h.0 in let f : p ≡ 0 = omega (arith, h.1) in cc

at_most_none : (w : Word) → IsAtMost w 0 0 → w ≡ Pair 0 0
at_most_none Unreached h = absurd h
at_most_none (Pair d p) (inl h) = absurd (omega arith)
at_most_none (Pair d p) (inr h) = let e : d ≡ 0 = h.0 in let f : p ≡ 0 = omega (arith, h.1) in cc

-- an offer of (0, 0) leaves it
pub offered_none : (w : Word) → lesser w (Pair 0 0) ≡ Pair 0 0
offered_none w = at_most_none (lesser w (Pair 0 0)) (lesser_of_offer w 0 0)

-- one source more was offered its own pair, in a table whose words fall
pub one_source_more : (sources : List ℕ) (i : ℕ) (before after : Table) → i < length sources → ((v : ℕ) → IsNoMore (after v) (before v)) → after (get_or sources i 0) ≡ Pair 0 0
    → ((k d : ℕ) → k < i → before (get_or sources k d) ≡ Pair 0 0) → (k d : ℕ) → k < i + 1 → after (get_or sources k d) ≡ Pair 0 0
one_source_more sources i before after low falls here known k d less = go (cases_lt k i)
  where
    go : (k < i) ⊎ (i ≤ k) → after (get_or sources k d) ≡ Pair 0 0
    go (inl earlier) = none_less (after (get_or sources k d)) (subst (IsNoMore (after (get_or sources k d))) (known k d earlier) (falls (get_or sources k d)))
    go (inr last) =
        let same : k ≡ i = omega arith in
        let at : get_or sources k d ≡ get_or sources i 0 = ap (λ j. get_or sources j d) same ∙ get_or_default sources i d 0 low in
        ap after at ∙ here

module _ (P : ℕ) (run : WalkSources) (place : IsPlace P run) where
  -- what an arc makes of a walk is a walk
  walks_allow : AllowsArcs (lawful P (IsLawful run.graph run.sources)) (max_dist P) run.graph
  walks_allow u v l d p arc law fits =
      let inside = (arc_in run.graph place.graph u v l arc).0 in
      let most = place.most in
      (tt, (fits, (let low = inside.1 in omega arith)), inr (any_by run.graph run.sources u v d l (lawful_walk run.graph run.sources u d p law.2) arc))

  pub table_ready : (law : WalkSources) (vertices : ℕ) → TakesWalks run law vertices → IsReady P (lawful P (IsLawful law.graph law.sources)) vertices run.graph
  table_ready law vertices takes =
      let R : WalkSources → Type 0 = λ w. IsReady P (lawful P (IsLawful w.graph w.sources)) vertices run.graph in
      subst R (sym takes.0) (record { layout = place.layout; words = takes.1; arcs = walks_allow })

  -- a copy is a table of walks
  pub walks_table : (words : List Word) → IsOfWalks P run words → IsTableOfAny run.graph run.sources (max_dist P) words
  walks_table words copy = any_table run.graph place.graph run.sources (max_dist P) words copy.0 copy.1 copy.2
