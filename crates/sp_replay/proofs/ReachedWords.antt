-- How many of some words are reached.
use Rattle.std.proofs.Common.{◌≡◌, ℕ, ◌+◌, ◌<◌, List, [], ◌∷◌, ◌++◌, length, take, get_or, refl, ap, ◌∙◌, arith}
use Rattle.std.proofs.lemmas.List.{take_more}
use Rattle.sp_word.specs.Word.{Word, Unreached, Pair}
use Rattle.sp_replay.specs.ReportText.{reached_count}

count-append : (xs ys : List Word) → reached_count (xs ++ ys) ≡ reached_count xs + reached_count ys
count-append [] ys = omega arith
count-append (Unreached ∷ xs) ys = count-append xs ys
count-append (Pair d p ∷ xs) ys = omega (arith, count-append xs ys)

-- One word more.
pub count_next : (words : List Word) (i : ℕ) (x : Word) → i < length words → x ≡ get_or words i x → reached_count (take (i + 1) words) ≡ reached_count (take i words) + reached_count (x ∷ [])
count_next words i x within is =
    ap reached_count (take_more words i x within) ∙ (count-append (take i words) (get_or words i x ∷ []) ∙ rw (← is) refl)

pub unreached_counts_none : (x : Word) → x ≡ Unreached → reached_count (x ∷ []) ≡ 0
unreached_counts_none x is = rw is refl

pub reached_counts_one : (x : Word) → (x ≡ Unreached → ⊥) → reached_count (x ∷ []) ≡ 1
reached_counts_one Unreached not = absurd (not refl)
reached_counts_one (Pair d p) not = refl
