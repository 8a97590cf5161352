-- One step of a pass over the arcs.
use Rattle.std.proofs.Common.{◌≡◌, ℕ, ◌+◌, ◌-◌, ◌*◌, ◌<◌, ◌≤◌, ◌⊎◌, inl, inr, Bool, true, false, cond, List, [], ◌∷◌, ◌++◌, length, get_or, set, take, ap, ◌∙◌, subst, arith, length-set, get_or-set_same, get_or-set_other}
use Rattle.std.specs.Prelude.{All, sum_by}
use Rattle.std.proofs.Math.Nat.{mul-le-mul_right}
use Rattle.std.proofs.lemmas.List.{take_more, take_all}
use Rattle.std.proofs.lemmas.List.Elements.{All-get_or, All-set}
use Rattle.std.proofs.lemmas.List.Sums.{sum_by-set}
use Rattle.sp_word.specs.Word.{Word, Unreached, Pair, IsBelow, dist_of}
use Rattle.sp_word.specs.History.{Table}
use Rattle.sp_paths.specs.declared.arc.Arc.{Arc}
use Rattle.sp_paths.specs.Paths.{IsArc, HasArc, IsAtMost, IsClosed, word_at}
use Rattle.sp_graph.specs.LeftOut.{network}
use Rattle.sp_judge.proofs.Below.{not_below}
use Rattle.sp_judge.specs.Passing.{IsLesserOffer, IsNoLesser, IsSmall, rank}
use Rattle.sp_judge.specs.Lowering.{IsLowered}
use Rattle.sp_judge.proofs.LoweringSteps.{lowered_one, lowered_then}
use Rattle.sp_graph.proofs.LeftOut.{arc_more}

-- the next arc is relaxed too
pub closed_more : (n max : ℕ) (arcs : List Arc) (arc : Arc) (words : Table) → IsClosed (network n arcs) max words → IsNoLesser max (words arc.tail) arc (words arc.head) → IsClosed (network n (arcs ++ arc ∷ [])) max words
closed_more n max arcs arc words closed here u v l a d p e fits = go (arc_more n arcs arc u v l a)
  where
    go : HasArc (network n arcs) u v l ⊎ (arc ≡ record { tail = u; head = v; len = l }) → IsAtMost (words v) (d + l) u
    go (inl a') = closed u v l a' d p e fits
    go (inr same) = let H : Arc → Type 0 = λ x. IsNoLesser max (words x.tail) x (words x.head) in not_below (words v) (d + l) u ((subst H same here) d (ap dist_of e) fits)

-- what is less has a lower place
rank_less : (n max : ℕ) (found : Word) (d p : ℕ) → IsSmall n max found → d ≤ max → p ≤ n → IsBelow (Pair d p) found → rank n max (Pair d p) < rank n max found
rank_less n max Unreached d p small fits in' more =
    let row : d * (n + 1) ≤ max * (n + 1) = mul-le-mul_right (n + 1) fits in omega arith
rank_less n max (Pair e q) d p small fits in' (inl k) = let row : (d + 1) * (n + 1) ≤ e * (n + 1) = mul-le-mul_right (n + 1) (omega arith) in omega arith
rank_less n max (Pair e q) d p small fits in' (inr k) = rw k.0 (omega (arith, k.1))

-- the word of a vertex after a write at another, and at itself
pub word_other : (words : List Word) (head v : ℕ) (w : Word) → 1 ≤ head → 1 ≤ v → (v ≡ head → ⊥) → word_at (set words (head - 1) w) v ≡ word_at words v
word_other words head v w h k other = get_or-set_other words (head - 1) (v - 1) w Unreached (λ e. other (omega arith))

pub word_same : (words : List Word) (head : ℕ) (w : Word) → 1 ≤ head → head ≤ length words → word_at (set words (head - 1) w) head ≡ w
word_same words head w h k = get_or-set_same words (head - 1) w Unreached (omega arith)

-- what holds after i arcs of a pass
pub record IsPassing (n max : ℕ) (arcs : List Arc) (i : ℕ) (initial words : List Word) (changed : Bool) : Type 0 where
  pub size : length words ≡ n
  pub small : All (IsSmall n max) words
  pub lowered : IsLowered max arcs initial words
  pub closed : changed ≡ false → IsClosed (network n (take i arcs)) max (word_at words)
  pub less : sum_by (rank n max) words + cond changed 1 0 ≤ sum_by (rank n max) initial

module _ (n max : ℕ) (arcs : List Arc) (i : ℕ) (initial words : List Word) (changed : Bool) (arc : Arc) (in' : i < length arcs) (is : get_or arcs i arc ≡ arc) (p : IsPassing n max arcs i initial words changed) where
  next : take (i + 1) arcs ≡ take i arcs ++ arc ∷ []
  next = take_more arcs i arc in' ∙ ap (λ x. take i arcs ++ x ∷ []) is

  pub pass_keeps : IsNoLesser max (word_at words arc.tail) arc (word_at words arc.head) → IsPassing n max arcs (i + 1) initial words changed
  pass_keeps here = record {
    size = p.size;
    small = p.small;
    lowered = p.lowered;
    closed = λ e. rw next (closed_more n max (take i arcs) arc (word_at words) (p.closed e) here);
    less = p.less;
  }

  pub pass_sets : All (IsArc n) arcs → (w : Word) → IsLesserOffer max (word_at words arc.tail) arc (word_at words arc.head) w → IsPassing n max arcs (i + 1) initial (set words (arc.head - 1) w) true
  pass_sets fine w lesser = record {
    size = length-set words (arc.head - 1) w ∙ p.size;
    small = All-set (IsSmall n max) words (arc.head - 1) w (rw lesser.3 (lesser.2, ends.0.1)) p.small;
    lowered = lowered_then max arcs initial words (set words (arc.head - 1) w) p.lowered (lowered_one max arcs words arc w (i, in', is) lesser);
    closed = λ e. absurd (cc);
    less = less;
  }
    where
      ends : IsArc n arc
      ends = rw is at (All-get_or (IsArc n) arcs i arc in' fine)

      place : arc.head - 1 < length words
      place = omega (arith, ends.1, p.size)

      lower : rank n max w < rank n max (word_at words arc.head)
      lower = rw lesser.3 (rank_less n max (word_at words arc.head) (lesser.0 + arc.len) arc.tail (All-get_or (IsSmall n max) words (arc.head - 1) Unreached place p.small) lesser.2 ends.0.1 (rw lesser.3 at lesser.4))

      less : sum_by (rank n max) (set words (arc.head - 1) w) + cond true 1 0 ≤ sum_by (rank n max) initial
      less = let sum = sum_by-set (rank n max) words (arc.head - 1) w Unreached place in let low = lower in omega (arith, p.less)

pub pass_end : (n max : ℕ) (arcs : List Arc) (i : ℕ) (initial words : List Word) (changed : Bool) → length arcs ≤ i → IsPassing n max arcs i initial words changed → changed ≡ false → IsClosed (network n arcs) max (word_at words)
pass_end n max arcs i initial words changed h p e = rw (take_all i arcs h) at (p.closed e)
