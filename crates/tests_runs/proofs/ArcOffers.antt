-- What an arc from the source lets a test offer, and what a test knows of a run that told a bucket.
use Rattle.std.proofs.Common.{◌≡◌, ℕ, ◌+◌, Option, Some, None, refl, inr, subst, sym, arith}
use Rattle.std.specs.Prelude.{Contains, IsSome, IsSomeAnd}
use Rattle.sp_word.specs.Word.{Word, Pair, IsPair}
use Rattle.sp_paths.specs.declared.arc.Arc.{Arc}
use Rattle.sp_paths.specs.Paths.{Graph, HasArc, HasWalkBy, IsLawful}
use Rattle.sp_offer.specs.Story.{Knowledge}
use Rattle.sp_phase.specs.Progress.{RunProgress, IsUnspent}
use Rattle.sp_phase.specs.Settling.{IsTold, IsToldBy}
use Rattle.sp_paths.proofs.Walks.{walk_by, walk_none}

pub first_arc : (g : Graph) (s head d : ℕ) (a : Arc) (w : Word) → Contains g.arcs a → a.tail ≡ s → a.head ≡ head → w ≡ Pair d a.tail → d ≡ a.len → IsPair w × IsLawful g s head w
first_arc g s head d a w there tail is word len =
    let A : ℕ → Type 0 = λ u. HasArc g u a.head a.len in
    let by : HasWalkBy g s a.head (0 + a.len) s = walk_by g s s a.head 0 a.len (walk_none g s) (subst A tail there) in
    let B : ℕ → ℕ → ℕ → Type 0 = λ v x p. HasWalkBy g s v x p in
    let same : 0 + a.len ≡ d = omega arith in
    let here = subst (λ p. B head d p) (sym tail) (subst (λ x. B head x s) same (subst (λ v. B v (0 + a.len) s) is by)) in
    let F : Word → Type 0 = λ x. IsPair x × IsLawful g s head x in
    subst F (sym word) (tt, inr here)

some_of : (o : Option Knowledge) (Q : Knowledge → Type 0) → IsSomeAnd o Q → IsSome o
some_of None Q h = absurd h
some_of (Some x) Q h = refl

-- a run that tells a bucket isn't spent
pub told_unspent : (P : ℕ) (bucket : Option ℕ) (run : RunProgress) → IsToldBy P bucket run → IsUnspent run
told_unspent P bucket run told = some_of run.caller (IsTold P run.stage bucket) told
