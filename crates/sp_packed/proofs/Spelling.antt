-- What words spell.
use Rattle.std.proofs.Common.{◌≡◌, ℕ, zero, suc, ◌+◌, ◌*◌, ◌<◌, ◌≤◌, ◌^◌, List, [], ◌∷◌, ◌++◌, length, get_or, set, take, drop, refl, sym, ap, ◌∙◌, arith, append_assoc, length-append}
use Rattle.std.specs.Int.{w32, from_le_bytes}
use Rattle.std.proofs.lemmas.Nat.{le_bytes_4, from_le_bytes-to_le_bytes_4}
use Rattle.std.proofs.lemmas.List.{take_at, drop_at, take_more, take_more_set, append-nil, take-append-drop, length-take-le}
use Rattle.std.proofs.lemmas.List.Concat.{flat_map-append}
use Rattle.sp_packed.specs.declared.word_sums.Sum.{Sum}
use Rattle.sp_packed.specs.Words.{word, words, step, sum_on, no_sum, sum_words}

pub length-word : (n : ℕ) → length (word n) ≡ 4
unfolding word
length-word n = refl

-- the number that four bytes spell
pub word_of : (bs : List ℕ) (n : ℕ) → length bs ≡ 4 → ((i : ℕ) → get_or bs i 0 < 256) → n ≡ from_le_bytes w32 bs → word n ≡ bs
unfolding word
word_of bs n size bytes e = le_bytes_4 bs n size bytes e

pub from-word : (n : ℕ) → n < 2 ^ 32 → from_le_bytes w32 (word n) ≡ n
unfolding word
from-word n h = from_le_bytes-to_le_bytes_4 n h

pub word_same : (x y : ℕ) (a b : List ℕ) → x < 2 ^ 32 → y < 2 ^ 32 → word x ++ a ≡ word y ++ b → (x ≡ y) × (a ≡ b)
word_same x y a b hx hy e =
    let first : word x ≡ word y = sym (take_at (word x) a 4 (length-word x)) ∙ ap (take 4) e ∙ take_at (word y) b 4 (length-word y) in (
      sym (from-word x hx) ∙ ap (from_le_bytes w32) first ∙ from-word y hy,
      sym (drop_at (word x) a 4 (length-word x)) ∙ ap (drop 4) e ∙ drop_at (word y) b 4 (length-word y),
    )

pub length-words : (ws : List ℕ) → length (words ws) ≡ 4 * length ws
length-words [] = refl
length-words (w ∷ ws) = omega (arith, length-append (word w) (words ws), length-word w, length-words ws)

pub words-append : (xs ys : List ℕ) → words (xs ++ ys) ≡ words xs ++ words ys
words-append xs ys = flat_map-append word xs ys

pub sum_on-append : (s : Sum) (xs ys : List ℕ) → sum_on s (xs ++ ys) ≡ sum_on (sum_on s xs) ys
unfolding sum_on
sum_on-append s [] ys = refl
sum_on-append s (x ∷ xs) ys = sum_on-append (step s x) xs ys

pub sum_on-more : (s t : Sum) (ws : List ℕ) (i : ℕ) → i < length ws → sum_on s (take i ws) ≡ t
    → sum_on s (take (i + 1) ws) ≡ step t (get_or ws i 0)
unfolding sum_on
sum_on-more s t ws i lt e =
    ap (sum_on s) (take_more ws i 0 lt) ∙ sum_on-append s (take i ws) (get_or ws i 0 ∷ []) ∙ ap (λ v. step v (get_or ws i 0)) e

pub four_fit : (a b c d : ℕ) → a < 256 → b < 256 → c < 256 → d < 256 → (i : ℕ) → get_or (a ∷ b ∷ c ∷ d ∷ []) i 0 < 256
four_fit a b c d ha hb hc hd zero = ha
four_fit a b c d ha hb hc hd (suc zero) = hb
four_fit a b c d ha hb hc hd (suc (suc zero)) = hc
four_fit a b c d ha hb hc hd (suc (suc (suc zero))) = hd
four_fit a b c d ha hb hc hd (suc (suc (suc (suc i)))) = omega arith

pub take_four : (bs : List ℕ) (k : ℕ) → k + 4 ≤ length bs
    → take (k + 4) bs ≡ take k bs ++ get_or bs k 0 ∷ get_or bs (k + 1) 0 ∷ get_or bs (k + 2) 0 ∷ get_or bs (k + 3) 0 ∷ []
take_four bs k h =
    let e0 = take_more bs k 0 (omega arith) in
    let e1 = take_more bs (k + 1) 0 (omega arith) in
    let e2 = take_more bs (k + 2) 0 (omega arith) in
    let e3 = take_more bs (k + 3) 0 (omega arith) in
    grind (arith, e0, e1, e2, e3, append_assoc)

-- one word more
pub decode_more : (bs ws : List ℕ) (i x : ℕ) → length bs ≡ 4 * length ws → i < length ws → ((k : ℕ) → get_or bs k 0 < 256)
    → words (take i ws) ≡ take (4 * i) bs
    → x ≡ from_le_bytes w32 (get_or bs (4 * i) 0 ∷ get_or bs (4 * i + 1) 0 ∷ get_or bs (4 * i + 2) 0 ∷ get_or bs (4 * i + 3) 0 ∷ [])
    → words (take (i + 1) (set ws i x)) ≡ take (4 * (i + 1)) bs
decode_more bs ws i x size lt fits e is =
    let b0 = get_or bs (4 * i) 0 in
    let b1 = get_or bs (4 * i + 1) 0 in
    let b2 = get_or bs (4 * i + 2) 0 in
    let b3 = get_or bs (4 * i + 3) 0 in
    let four : List ℕ = b0 ∷ b1 ∷ b2 ∷ b3 ∷ [] in
    let spelled : word x ≡ four = word_of four x refl (four_fit b0 b1 b2 b3 (fits (4 * i)) (fits (4 * i + 1)) (fits (4 * i + 2)) (fits (4 * i + 3))) is in
    ap words (take_more_set ws i x lt) ∙ words-append (take i ws) (x ∷ []) ∙ ap (λ l. l ++ words (x ∷ [])) e
    ∙ ap (λ l. take (4 * i) bs ++ l) (append-nil (word x) ∙ spelled)
    ∙ sym (take_four bs (4 * i) (omega arith)) ∙ ap (λ k. take k bs) (omega arith)

-- the words at the front of a text
pub take_words : (ws part : List ℕ) (k : ℕ) → k ≤ length ws → take (4 * k) (words ws ++ part) ≡ words (take k ws)
take_words ws part k le =
    let front = take k ws in
    let back = drop k ws in
    let split : words ws ++ part ≡ words front ++ (words back ++ part)
    = ap (λ l. words l ++ part) (sym (take-append-drop k ws)) ∙ ap (λ l. l ++ part) (words-append front back) ∙ append_assoc (words front) (words back) part in
    let size : length (words front) ≡ 4 * k = omega (arith, length-words front, length-take-le k ws le) in
    ap (take (4 * k)) split ∙ take_at (words front) (words back ++ part) (4 * k) size

-- Two texts of equally many words that agree have the same words and the same rest.
pub words_equal : (xs ys a b : List ℕ) → ((i : ℕ) → get_or xs i 0 < 2 ^ 32) → ((i : ℕ) → get_or ys i 0 < 2 ^ 32) → length xs ≡ length ys
    → words xs ++ a ≡ words ys ++ b → (xs ≡ ys) × (a ≡ b)
words_equal [] [] a b hx hy size e = (refl, e)
words_equal [] (y ∷ ys) a b hx hy size e = absurd (omega (arith, size))
words_equal (x ∷ xs) [] a b hx hy size e = absurd (omega (arith, size))
words_equal (x ∷ xs) (y ∷ ys) a b hx hy size e =
    let one = word_same x y (words xs ++ a) (words ys ++ b) (hx 0) (hy 0) (sym (append_assoc _ (words xs) a) ∙ e ∙ append_assoc _ (words ys) b) in
    let rest = words_equal xs ys a b (λ i. hx (suc i)) (λ i. hy (suc i)) (omega (arith, size)) one.1 in
    (ap (λ h. h ∷ xs) one.0 ∙ ap (λ t. y ∷ t) rest.0, rest.1)

-- Lists that begin equally long and agree have the same fronts and the same rest.
pub same_parts : {X : Type 0} (xs ys a b : List X) → length xs ≡ length ys → xs ++ a ≡ ys ++ b → (xs ≡ ys) × (a ≡ b)
same_parts xs ys a b size e = (
  sym (take_at xs a (length ys) size) ∙ ap (take (length ys)) e ∙ take_at ys b (length ys) refl,
  sym (drop_at xs a (length ys) size) ∙ ap (drop (length ys)) e ∙ drop_at ys b (length ys) refl,
)

pub fit_both : (xs ys : List ℕ) → ((i : ℕ) → get_or xs i 0 < 2 ^ 32) → ((i : ℕ) → get_or ys i 0 < 2 ^ 32) → (i : ℕ) → get_or (xs ++ ys) i 0 < 2 ^ 32
fit_both [] ys hx hy i = hy i
fit_both (x ∷ xs) ys hx hy zero = hx zero
fit_both (x ∷ xs) ys hx hy (suc i) = fit_both xs ys (λ k. hx (suc k)) hy i

pub fit_take : (xs : List ℕ) (k : ℕ) → ((i : ℕ) → get_or xs i 0 < 2 ^ 32) → (i : ℕ) → get_or (take k xs) i 0 < 2 ^ 32
fit_take xs zero h i = omega arith
fit_take [] (suc k) h i = omega arith
fit_take (x ∷ xs) (suc k) h zero = h zero
fit_take (x ∷ xs) (suc k) h (suc i) = fit_take xs k (λ j. h (suc j)) i

-- The parts of a sum are below 2^64, and its words are words.
sum_small : (s : Sum) (ns : List ℕ) → s.first < 2 ^ 64 → s.second < 2 ^ 64 → ((sum_on s ns).first < 2 ^ 64) × ((sum_on s ns).second < 2 ^ 64)
unfolding sum_on
sum_small s [] hf hs = (hf, hs)
sum_small s (w ∷ ns) hf hs = sum_small (step s w) ns (omega arith) (omega arith)

sum_words_fit : (s : Sum) → s.first < 2 ^ 64 → s.second < 2 ^ 64 → (i : ℕ) → get_or (sum_words s) i 0 < 2 ^ 32
unfolding sum_words
sum_words_fit s hf hs zero = omega arith
sum_words_fit s hf hs (suc zero) = omega arith
sum_words_fit s hf hs (suc (suc zero)) = omega arith
sum_words_fit s hf hs (suc (suc (suc zero))) = omega arith
sum_words_fit s hf hs (suc (suc (suc (suc i)))) = omega arith

pub sum_fits : (ns : List ℕ) (i : ℕ) → get_or (sum_words (sum_on no_sum ns)) i 0 < 2 ^ 32
sum_fits ns i = let small = sum_small no_sum ns (omega arith) (omega arith) in sum_words_fit (sum_on no_sum ns) small.0 small.1 i
