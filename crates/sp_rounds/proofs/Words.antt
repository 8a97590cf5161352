-- The order of words.
use Rattle.std.proofs.Common.{◌≡◌, ℕ, ◌<◌, ◌≤◌, ◌⊎◌, inl, inr, refl, arith, Bool, true, false, nat_lt}
use Rattle.std.specs.Prelude.{◌==◌, ◌&&◌, ◌||◌, if◌then◌else◌}
use Rattle.std.proofs.lemmas.Bool.Decides.{nat_tests}
use Rattle.sp_word.specs.Word.{Word, Unreached, Pair, is_below, lesser}
use Rattle.sp_word.specs.Reply.{reply_to}
use Rattle.sp_word.specs.declared.reply.Reply.TheVariants.{Shorter, SmallerPred, Kept}
use Rattle.sp_offer.specs.Order.{IsNoMore}
use Rattle.sp_paths.specs.Paths.{IsAtMost as IsWithinPair}

pub at_most_itself : (a : Word) → IsNoMore a a
at_most_itself Unreached = tt
at_most_itself (Pair d p) = inr (refl, omega arith)

pub at_most_along : (a b c : Word) → IsNoMore a b → IsNoMore b c → IsNoMore a c
at_most_along a b Unreached h k = tt
at_most_along a Unreached (Pair f r) h k = absurd k
at_most_along Unreached (Pair e q) (Pair f r) h k = absurd h
at_most_along (Pair d p) (Pair e q) (Pair f r) h k =
    elim h as (λ _. (d < f) ⊎ ((d ≡ f) × (p ≤ r))) [
      | inl x ↦ elim k as (λ _. (d < f) ⊎ ((d ≡ f) × (p ≤ r))) [ inl y ↦ inl (omega arith) | inr y ↦ inl (let e = y.0 in omega arith) ]
      | inr x ↦ elim k as (λ _. (d < f) ⊎ ((d ≡ f) × (p ≤ r))) [ inl y ↦ inl (let e = x.0 in omega arith) | inr y ↦ inr ((let e = x.0 in let g = y.0 in omega arith), (let e = x.1 in let g = y.1 in omega arith)) ]
    ]

-- what is at most a pair, in the words of the graph's theorems
pub within_pair : (a : Word) (d p : ℕ) → IsNoMore a (Pair d p) → IsWithinPair a d p
within_pair Unreached d p h = h
within_pair (Pair e q) d p h = h

below_pair : (d p e q : ℕ) → (e < d) ⊎ ((e ≡ d) × (q ≤ p)) → (nat_lt d e || ((d == e) && nat_lt p q)) ≡ false
below_pair d p e q h = grind (arith, nat_tests, h)

not_below_pair : (d p e q : ℕ) → (nat_lt d e || ((d == e) && nat_lt p q)) ≡ false → (e < d) ⊎ ((e ≡ d) × (q ≤ p))
not_below_pair d p e q h = grind (arith, nat_tests, h)

-- the test says whether a word is above another
pub not_above : (known word : Word) → IsNoMore known word → is_below word known ≡ false
not_above known Unreached h = refl
not_above Unreached (Pair d p) h = absurd h
not_above (Pair e q) (Pair d p) h = below_pair d p e q h

pub at_most : (known word : Word) → is_below word known ≡ false → IsNoMore known word
at_most known Unreached h = tt
at_most Unreached (Pair d p) h = absurd (cc)
at_most (Pair e q) (Pair d p) h = not_below_pair d p e q h

-- an offer leaves a word that is at most the one offered
pub lesser_at_most : (found word : Word) → IsNoMore (lesser found word) word
lesser_at_most found word =
    let same = at_most_itself word in
    let other = at_most found word in
    elim (is_below word found) as (λ b. is_below word found ≡ b → IsNoMore (if b then word else found) word)
    [ true ↦ (λ e. same) | false ↦ (λ e. other e) ] refl

-- of two pairs the lesser has no greater distance
pub no_farther : (d p e q : ℕ) → IsNoMore (Pair d p) (Pair e q) → d ≤ e
no_farther d p e q h = elim h as (λ _. d ≤ e) [ inl x ↦ omega arith | inr x ↦ (let s = x.0 in omega arith) ]

shorter_if : (a b : Bool) → (if a then Shorter else if b then SmallerPred else Kept) ≡ Shorter → a ≡ true
shorter_if true b h = refl
shorter_if false true h = absurd (cc)
shorter_if false false h = absurd (cc)

is_less : (a b : ℕ) → nat_lt a b ≡ true → a < b
is_less a b h = grind (arith, nat_tests, h)

shorter_pair : (f r d p : ℕ) → reply_to (Pair f r) (Pair d p) ≡ Shorter → d < f
shorter_pair f r d p h = is_less d f (shorter_if (nat_lt d f) ((d == f) && nat_lt p r) h)

-- an offer that made the distance smaller offered less than any word above the one found
pub shorter_below : (found : Word) (d p e q : ℕ) → reply_to found (Pair d p) ≡ Shorter → IsNoMore found (Pair e q) → d < e
shorter_below Unreached d p e q h k = absurd k
shorter_below (Pair f r) d p e q h k = let a = shorter_pair f r d p h in let b = no_farther f r e q k in omega arith
