-- The order of words, and what an offer leaves.
use Rattle.std.proofs.Common.{◌≡◌, ◌<◌, ◌≤◌, ◌==◌, ◌&&◌, ◌||◌, nat_lt, Bool, true, false, cond, inl, inr, ⊎_elim, refl, arith, le_refl}
use Rattle.std.proofs.lemmas.Bool.{cond_both, or_cases, and_parts, ltb-true, eqb-true}
use Rattle.sp_word.specs.declared.reply.Reply.TheVariants.{Shorter, SmallerPred, Kept}
use Rattle.sp_word.specs.Word.{Word, Unreached, Pair, is_below, lesser}
use Rattle.sp_word.specs.Reply.{reply_to}
use Rattle.sp_offer.specs.Order.{IsNoMore}
use Rattle.sp_offer.specs.Histories.{is_smaller}

pub at_most-refl : (a : Word) → IsNoMore a a
at_most-refl Unreached = tt
at_most-refl (Pair d p) = inr (refl, le_refl p)

pub at_most-trans : (a b c : Word) → IsNoMore a b → IsNoMore b c → IsNoMore a c
at_most-trans a b Unreached x y = tt
at_most-trans a Unreached (Pair f r) x y = absurd y
at_most-trans Unreached (Pair e q) (Pair f r) x y = absurd x
at_most-trans (Pair d p) (Pair e q) (Pair f r) x y =
    ⊎_elim
    (λ (less : d < e). ⊎_elim (λ (h : e < f). inl (omega arith)) (λ (h : (e ≡ f) × (q ≤ r)). let same = h.0 in inl (omega arith)) y)
    (λ (k : (d ≡ e) × (p ≤ q)). let one = k.0 in let two = k.1 in ⊎_elim (λ (h : e < f). inl (omega arith)) (λ (h : (e ≡ f) × (q ≤ r)). let same = h.0 in let more = h.1 in inr (omega arith, omega arith)) y)
    x

-- words that are at most each other are the same
pub at_most-both : (a b : Word) → IsNoMore a b → IsNoMore b a → a ≡ b
at_most-both Unreached Unreached x y = refl
at_most-both (Pair d p) Unreached x y = absurd y
at_most-both Unreached (Pair e q) x y = absurd x
at_most-both (Pair d p) (Pair e q) x y =
    ⊎_elim
    (λ (less : d < e). ⊎_elim (λ (h : e < d). absurd (omega arith)) (λ (h : (e ≡ d) × (q ≤ p)). let same = h.0 in absurd (omega arith)) y)
    (λ (k : (d ≡ e) × (p ≤ q)). let one = k.0 in let two = k.1 in ⊎_elim (λ (h : e < d). absurd (omega arith)) (λ (h : (e ≡ d) × (q ≤ p)). let more = h.1 in same_pair one (omega arith)) y)
    x
  where
    same_pair : d ≡ e → p ≡ q → Pair d p ≡ Pair e q
    same_pair h k i = Pair (h i) (k i)

-- a word that is below another is at most that
pub below_at_most : (a b : Word) → is_below a b ≡ true → IsNoMore a b
below_at_most a Unreached below = tt
below_at_most Unreached (Pair e q) below = cc
below_at_most (Pair d p) (Pair e q) below =
    ⊎_elim
    (λ (h : nat_lt d e ≡ true). inl (ltb-true d e h))
    (λ (h : ((d == e) && nat_lt p q) ≡ true). let parts = and_parts (d == e) (nat_lt p q) h in let less = ltb-true p q parts.1 in inr (eqb-true d e parts.0, omega arith))
    (or_cases (nat_lt d e) ((d == e) && nat_lt p q) below)

-- what an offer leaves is at most what was there
pub lesser_at_most : (a b : Word) → IsNoMore (lesser a b) a
lesser_at_most a b = cond_both (is_below b a) b a (λ (w : Word). IsNoMore w a) (below_at_most b a) (λ _. at_most-refl a)

either_way : (a b : Bool) → is_smaller (cond a Shorter (cond b SmallerPred Kept)) ≡ a || b
either_way true b = refl
either_way false true = refl
either_way false false = refl

-- an offer is answered Shorter or SmallerPred just where it is below the word found
pub smaller_is_below : (found word : Word) → is_smaller (reply_to found word) ≡ is_below word found
smaller_is_below found Unreached = refl
smaller_is_below Unreached (Pair d p) = refl
smaller_is_below (Pair e q) (Pair d p) = either_way (nat_lt d e) ((d == e) && nat_lt p q)
