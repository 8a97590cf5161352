-- Words and their bits.
use Rattle.std.proofs.Common.{◌≡◌, ℕ, ◌+◌, ◌-◌, ◌*◌, ◌/◌, ◌%◌, ◌^◌, ◌<◌, ◌≤◌, ◌==◌, ◌&&◌, ◌||◌, nat_lt, min, true, false, ⊎_elim, refl, sym, ap₂, ◌∙◌, subst, arith, ne_eqb}
use Rattle.std.proofs.lemmas.Bool.{cond_both, cond-false, ltb-true, ltb-false, lt-ltb, le-ltb, eqb-true, and_from, or_right, or_cases, and_parts, both_ways}
use Rattle.std.proofs.lemmas.Bool.Decides.{nat_tests}
use Rattle.sp_word.specs.Word.{Word, Unreached, Pair, Fits, is_layout, is_word, is_below, lesser, bits_of, word_of}
use Rattle.sp_word.proofs.Layouts.{by_layout}
use Rattle.sp_offer.specs.Order.{IsNoMore}

-- the halves of a pair's bits
abbrev Halves : ℕ → ℕ → ℕ → Type 0
Halves P d p = ((d * 2 ^ P + p) / 2 ^ P ≡ d) × ((d * 2 ^ P + p) % 2 ^ P ≡ p) × (d * 2 ^ P + p + 2 < 18446744073709551616)

halves : (P d p : ℕ) → is_layout P ≡ true → Fits P (Pair d p) → Halves P d p
halves P d p layout = by_layout (λ (q : ℕ). Fits q (Pair d p) → Halves q d p) P layout
    (λ f. let a = f.0 in let b = f.1 in (omega arith, omega arith, omega arith))
    (λ f. let a = f.0 in let b = f.1 in (omega arith, omega arith, omega arith))
    (λ f. let a = f.0 in let b = f.1 in (omega arith, omega arith, omega arith))
    (λ f. let a = f.0 in let b = f.1 in (omega arith, omega arith, omega arith))

not_unreached : (n : ℕ) → n + 2 < 18446744073709551616 → (n == 18446744073709551615) ≡ false
not_unreached n small = ne_eqb n 18446744073709551615 (λ h. omega arith)

-- the bits of a word spell it
pub word_back : (P : ℕ) (w : Word) → is_layout P ≡ true → Fits P w → word_of P (bits_of P w) ≡ w
word_back P Unreached layout fits = refl
word_back P (Pair d p) layout fits = let h = halves P d p layout fits in
    cond-false _ Unreached (Pair ((d * 2 ^ P + p) / 2 ^ P) ((d * 2 ^ P + p) % 2 ^ P)) (not_unreached (d * 2 ^ P + p) h.2) ∙ ap₂ Pair h.0 h.1

pub bits_few : (P : ℕ) (w : Word) → is_layout P ≡ true → Fits P w → bits_of P w < 18446744073709551616
bits_few P Unreached layout fits = omega arith
bits_few P (Pair d p) layout fits = let h = (halves P d p layout fits).2 in omega arith

both_less : (d p m n : ℕ) → d < m → p < n → (nat_lt d m && nat_lt p n) ≡ true
both_less d p m n a b = and_from (nat_lt d m) (nat_lt p n) (lt-ltb d m a) (lt-ltb p n b)

halves_fit : (P d p : ℕ) → is_layout P ≡ true → Fits P (Pair d p) → (nat_lt d (2 ^ (64 - P) - 1) && nat_lt p (2 ^ P - 1)) ≡ true
halves_fit P d p layout = by_layout (λ (q : ℕ). Fits q (Pair d p) → (nat_lt d (2 ^ (64 - q) - 1) && nat_lt p (2 ^ q - 1)) ≡ true) P layout
    (λ f. let a = f.0 in let b = f.1 in both_less d p (2 ^ (64 - 20) - 1) (2 ^ 20 - 1) (omega arith) (omega arith))
    (λ f. let a = f.0 in let b = f.1 in both_less d p (2 ^ (64 - 24) - 1) (2 ^ 24 - 1) (omega arith) (omega arith))
    (λ f. let a = f.0 in let b = f.1 in both_less d p (2 ^ (64 - 28) - 1) (2 ^ 28 - 1) (omega arith) (omega arith))
    (λ f. let a = f.0 in let b = f.1 in both_less d p (2 ^ (64 - 32) - 1) (2 ^ 32 - 1) (omega arith) (omega arith))

pub bits_spell : (P : ℕ) (w : Word) → is_layout P ≡ true → Fits P w → is_word P (bits_of P w) ≡ true
bits_spell P Unreached layout fits = refl
bits_spell P (Pair d p) layout fits = let h = halves P d p layout fits in
    or_right ((d * 2 ^ P + p) == 18446744073709551615) _ (subst (λ (x : ℕ × ℕ). (nat_lt x.0 (2 ^ (64 - P) - 1) && nat_lt x.1 (2 ^ P - 1)) ≡ true) (λ i. (sym h.0 i, sym h.1 i)) (halves_fit P d p layout fits))

-- any bits are those of the word that they spell
pub spelled : (P bits : ℕ) → is_layout P ≡ true → bits ≡ bits_of P (word_of P bits)
spelled P bits layout = cond_both (bits == 18446744073709551615) Unreached (Pair (bits / 2 ^ P) (bits % 2 ^ P)) (λ (w : Word). bits ≡ bits_of P w) (λ is. eqb-true bits 18446744073709551615 is)
    (λ _. by_layout (λ (q : ℕ). bits ≡ bits / 2 ^ q * 2 ^ q + bits % 2 ^ q) P layout (omega arith) (omega arith) (omega arith) (omega arith))

-- bits that are those of a word spell one that fits
pub word_fits : (P bits : ℕ) → is_layout P ≡ true → is_word P bits ≡ true → Fits P (word_of P bits)
word_fits P bits layout word = cond_both (bits == 18446744073709551615) Unreached (Pair (bits / 2 ^ P) (bits % 2 ^ P)) (Fits P) (λ _. tt)
    (λ other. halves_of P (bits / 2 ^ P) (bits % 2 ^ P) layout (⊎_elim (λ (same : (bits == 18446744073709551615) ≡ true). absurd (both_ways (bits == 18446744073709551615) other same)) (λ h. h)
    (or_cases (bits == 18446744073709551615) (nat_lt (bits / 2 ^ P) (2 ^ (64 - P) - 1) && nat_lt (bits % 2 ^ P) (2 ^ P - 1)) word)))
  where
    less_of : (d p m n : ℕ) → (nat_lt d m && nat_lt p n) ≡ true → (d < m) × (p < n)
    less_of d p m n h = let parts = and_parts (nat_lt d m) (nat_lt p n) h in (ltb-true d m parts.0, ltb-true p n parts.1)

    halves_of : (P d p : ℕ) → is_layout P ≡ true → (nat_lt d (2 ^ (64 - P) - 1) && nat_lt p (2 ^ P - 1)) ≡ true → Fits P (Pair d p)
    halves_of P d p layout = by_layout (λ (q : ℕ). (nat_lt d (2 ^ (64 - q) - 1) && nat_lt p (2 ^ q - 1)) ≡ true → Fits q (Pair d p)) P layout
        (λ h. let k = less_of d p (2 ^ (64 - 20) - 1) (2 ^ 20 - 1) h in let a = k.0 in let b = k.1 in (omega arith, omega arith))
        (λ h. let k = less_of d p (2 ^ (64 - 24) - 1) (2 ^ 24 - 1) h in let a = k.0 in let b = k.1 in (omega arith, omega arith))
        (λ h. let k = less_of d p (2 ^ (64 - 28) - 1) (2 ^ 28 - 1) h in let a = k.0 in let b = k.1 in (omega arith, omega arith))
        (λ h. let k = less_of d p (2 ^ (64 - 32) - 1) (2 ^ 32 - 1) h in let a = k.0 in let b = k.1 in (omega arith, omega arith))

-- bits of a word below all ones are not the number before it either
pub pair_small : (P bits : ℕ) → is_layout P ≡ true → is_word P bits ≡ true → bits < 18446744073709551615 → bits + 2 < 18446744073709551616
pair_small P bits layout word less = small (word_of P bits) (word_fits P bits layout word) (spelled P bits layout)
  where
    small : (w : Word) → Fits P w → bits ≡ bits_of P w → bits + 2 < 18446744073709551616
    small Unreached fits is = absurd (omega arith)
    small (Pair d p) fits is = let h = (halves P d p layout fits).2 in omega arith

-- ## The order of bits is the order of words

abbrev Ordered : ℕ → ℕ → ℕ → ℕ → ℕ → Type 0
Ordered P d p e q = (nat_lt d e || ((d == e) && nat_lt p q)) ≡ nat_lt (d * 2 ^ P + p) (e * 2 ^ P + q)

ordered : (P d p e q : ℕ) → is_layout P ≡ true → Fits P (Pair d p) → Fits P (Pair e q) → Ordered P d p e q
ordered P d p e q layout = by_layout (λ (r : ℕ). Fits r (Pair d p) → Fits r (Pair e q) → Ordered r d p e q) P layout
    (λ f g. let a = f.1 in let b = g.1 in grind (arith, nat_tests))
    (λ f g. let a = f.1 in let b = g.1 in grind (arith, nat_tests))
    (λ f g. let a = f.1 in let b = g.1 in grind (arith, nat_tests))
    (λ f g. let a = f.1 in let b = g.1 in grind (arith, nat_tests))

pub bits_below : (P : ℕ) (a b : Word) → is_layout P ≡ true → Fits P a → Fits P b → is_below a b ≡ nat_lt (bits_of P a) (bits_of P b)
bits_below P Unreached b layout f g = let h = bits_few P b layout g in sym (le-ltb _ _ (omega arith))
bits_below P (Pair d p) Unreached layout f g = let h = (halves P d p layout f).2 in sym (lt-ltb _ _ (omega arith))
bits_below P (Pair d p) (Pair e q) layout f g = ordered P d p e q layout f g

at_most_pairs : (P d p e q : ℕ) → is_layout P ≡ true → Fits P (Pair d p) → Fits P (Pair e q) → IsNoMore (Pair d p) (Pair e q) → d * 2 ^ P + p ≤ e * 2 ^ P + q
at_most_pairs P d p e q layout = by_layout (λ (r : ℕ). Fits r (Pair d p) → Fits r (Pair e q) → IsNoMore (Pair d p) (Pair e q) → d * 2 ^ r + p ≤ e * 2 ^ r + q) P layout
    (λ f g. let a = f.1 in ⊎_elim (λ (h : d < e). omega arith) (λ (h : (d ≡ e) × (p ≤ q)). let x = h.0 in let y = h.1 in omega arith))
    (λ f g. let a = f.1 in ⊎_elim (λ (h : d < e). omega arith) (λ (h : (d ≡ e) × (p ≤ q)). let x = h.0 in let y = h.1 in omega arith))
    (λ f g. let a = f.1 in ⊎_elim (λ (h : d < e). omega arith) (λ (h : (d ≡ e) × (p ≤ q)). let x = h.0 in let y = h.1 in omega arith))
    (λ f g. let a = f.1 in ⊎_elim (λ (h : d < e). omega arith) (λ (h : (d ≡ e) × (p ≤ q)). let x = h.0 in let y = h.1 in omega arith))

pub at_most_bits : (P : ℕ) (a b : Word) → is_layout P ≡ true → Fits P a → Fits P b → IsNoMore a b → bits_of P a ≤ bits_of P b
at_most_bits P a Unreached layout f g h = let few = bits_few P a layout f in omega arith
at_most_bits P Unreached (Pair e q) layout f g h = absurd h
at_most_bits P (Pair d p) (Pair e q) layout f g h = at_most_pairs P d p e q layout f g h

-- the bits of the lesser word are the lesser bits
pub bits_lesser : (P : ℕ) (a b : Word) → is_layout P ≡ true → Fits P a → Fits P b → bits_of P (lesser a b) ≡ min (bits_of P a) (bits_of P b)
bits_lesser P a b layout f g = cond_both (is_below b a) b a (λ (w : Word). bits_of P w ≡ min (bits_of P a) (bits_of P b))
    (λ is. let less = ltb-true (bits_of P b) (bits_of P a) (sym (bits_below P b a layout g f) ∙ is) in omega arith)
    (λ is. let more = ltb-false (bits_of P b) (bits_of P a) (sym (bits_below P b a layout g f) ∙ is) in omega arith)
