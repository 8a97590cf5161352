-- A copy with no open vertex is closed, and one whose test passed is settled.
use Rattle.std.proofs.Common.{◌≡◌, ℕ, ◌+◌, ◌<◌, ◌≤◌, ◌⊎◌, inl, inr, Option, Some, arith}
use Rattle.std.proofs.lemmas.Bool.{cases_lt}
use Rattle.sp_word.specs.History.{Table}
use Rattle.sp_word.specs.Word.{Word, Pair, Unreached}
use Rattle.sp_paths.specs.Paths.{Graph, IsLeast, IsTreeWord, IsAtMost, IsClosed}
use Rattle.sp_paths.specs.Theorems.{IsFinished, HasPassed}
use Rattle.sp_paths.specs.Phase.{IsMarkedCopy, HasNoOpen, PassesTest, SweptEndsInTree, SweptIsTree, SweptIsFar, TestedIsSettled, SettledIsLeast, IsShorter, ShorterIsLater, TestedIsPair, SweptIsPair}
use Rattle.sp_paths.proofs.Walks.{arc_in, lawful_walk, least_same}
use Rattle.sp_paths.proofs.Core.{cases_word}
use Rattle.sp_paths.proofs.Least.{least_exists}
use Rattle.sp_paths.proofs.Only.{tree_pair_least}
use Rattle.sp_paths.proofs.TheoremProofs.{finished_ends_in_tree, finished_is_tree, finished_is_far, finished_is_pair}
use Rattle.sp_paths.proofs.Settle.{passed_is_settled, passed_is_pair}

module _ (g : Graph) (s max delta : ℕ) (known words : Table) (light heavy : ℕ → Option ℕ) (copy : IsMarkedCopy g s max delta known words light heavy) where
  swept_closed : HasNoOpen g words light heavy → IsClosed g max words
  swept_closed done u v l a d p e fits = by_kind (cases_lt delta l)
    where
      at : (light u ≡ Some d) × (heavy u ≡ Some d)
      at = done u d p (arc_in g copy.graph u v l a).0 e

      by_kind : (delta < l) ⊎ (l ≤ delta) → IsAtMost (words v) (d + l) u
      by_kind (inl long) = copy.below v (d + l) u (copy.relaxed.heavy_arcs u v l d a long at.1 fits)
      by_kind (inr short) = copy.below v (d + l) u (copy.relaxed.light_arcs u v l d a short at.0 fits)

  swept_finished : HasNoOpen g words light heavy → IsFinished g s max words
  swept_finished done = record { graph = copy.graph; source = copy.source; table = copy.table; within = copy.within; closed = swept_closed done }

  tested_passed : (i : ℕ) → PassesTest g delta i words light heavy → HasPassed g s max delta i words
  tested_passed i test = record {
    graph = copy.graph;
    source = copy.source;
    wide = copy.wide;
    table = copy.table;
    light = λ u v l d p a short e below fits. copy.below v (d + l) u (copy.relaxed.light_arcs u v l d a short (test.light_below u d p (arc_in g copy.graph u v l a).0 e below) fits);
    heavy = λ u v l d p a long e below fits. copy.below v (d + l) u (copy.relaxed.heavy_arcs u v l d a long (test.heavy_below u d p (arc_in g copy.graph u v l a).0 e below) fits);
  }

pub swept_ends_in_tree : SweptEndsInTree
swept_ends_in_tree g s max delta known words light heavy copy done = finished_ends_in_tree g s max words (swept_finished g s max delta known words light heavy copy done)

pub swept_is_tree : SweptIsTree
swept_is_tree g s max delta known words light heavy copy done none = finished_is_tree g s max words (swept_finished g s max delta known words light heavy copy done) none

pub swept_is_far : SweptIsFar
swept_is_far g s max delta known words light heavy copy done v out least = finished_is_far g s max words (swept_finished g s max delta known words light heavy copy done) v out least

pub tested_is_settled : TestedIsSettled
tested_is_settled g s max delta i known words light heavy copy test = passed_is_settled g s max delta i words (tested_passed g s max delta known words light heavy copy i test)

pub settled_is_least : SettledIsLeast
settled_is_least g s max bound words gr settled v d p lawful below fits = go (cases_word (words v))
  where
    least : (e : ℕ) × IsLeast g s v e × (e ≤ d)
    least = least_exists g gr s v d (lawful_walk g s v d p lawful)

    tree : IsTreeWord g s v (words v)
    tree = settled v least.0 least.1 (omega (arith, least.2)) (omega (arith, least.2))

    none : words v ≡ Unreached → ⊥
    none e = let no_walk : IsTreeWord g s v Unreached = rw e at tree in no_walk least.0 least.1.walk

    go : ((e q : ℕ) × (words v ≡ Pair e q)) ⊎ (words v ≡ Unreached) → (e q : ℕ) × (words v ≡ Pair e q) × (e ≤ d)
    go (inl (e, q, is)) =
        let mine = tree_pair_least g s v e q (rw is at tree) in
        let same = least_same g s v e least.0 mine least.1 in
        (e, q, is, omega (arith, least.2))
    go (inr e) = absurd (none e)

not_shorter : (w : Word) (d e q : ℕ) → w ≡ Pair e q → e ≤ d → IsShorter d w → ⊥
not_shorter w d e q is le shorter = let less : IsShorter d (Pair e q) = rw is at shorter in absurd (omega arith)

pub shorter_is_later : ShorterIsLater
shorter_is_later g s max bound words gr settled v d p lawful fits shorter = go (cases_lt d bound)
  where
    go : (d < bound) ⊎ (bound ≤ d) → bound ≤ d
    go (inr h) = h
    go (inl below) = let r = settled_is_least g s max bound words gr settled v d p lawful below fits in absurd (not_shorter (words v) d r.0 r.1 r.2 r.3 shorter)

pub tested_is_pair : TestedIsPair
tested_is_pair g s max delta i known words light heavy copy test t d p h e below =
    passed_is_pair g s max delta i words (tested_passed g s max delta known words light heavy copy i test) t d p h e below (copy.within t d p h e)

pub swept_is_pair : SweptIsPair
swept_is_pair g s max delta known words light heavy copy done = finished_is_pair g s max words (swept_finished g s max delta known words light heavy copy done)
