-- The rows of the words up to a limit.
use Rattle.std.proofs.Common.{◌≡◌, ℕ, ◌+◌, ◌-◌, ◌<◌, ◌≤◌, ◌⊎◌, inl, inr, true, List, [], ◌∷◌, ◌++◌, length, take, get_or, Some, refl, sym, ap, subst, arith}
use Rattle.std.specs.Prelude.{All, map, nat_le, slice_get}
use Rattle.std.proofs.lemmas.Bool.{cases_lt, le-leb, lt-leb, cond-true, cond-false}
use Rattle.std.proofs.lemmas.List.{length-map}
use Rattle.std.proofs.lemmas.List.Elements.{All-map, All-weaker}
use Rattle.sp_word.specs.Word.{Word, Unreached, Pair, Fits, dist_of, max_pred, is_layout}
use Rattle.sp_answer.specs.Table.{IsTable, HasPredWithin, row_of, rows_from, table_of, tree_of}
use Rattle.sp_answer.specs.Within.{up_to}
use Rattle.sp_answer.proofs.VertexRows.{row_taken}
use Rattle.sp_answer.proofs.RisingRows.{tree_is_table, words_are}

pub kept : (limit d p : ℕ) → d ≤ limit → up_to limit (Pair d p) ≡ Pair d p
kept limit d p low = cond-true (nat_le d limit) (Pair d p) Unreached (le-leb d limit low)

pub dropped : (limit d p : ℕ) → limit < d → up_to limit (Pair d p) ≡ Unreached
dropped limit d p high = cond-false (nat_le d limit) (Pair d p) Unreached (lt-leb d limit high)

-- what holds of a pair holds of it up to the limit, where it holds of an unreached word
still : (A : Word → Type 0) (limit : ℕ) (w : Word) → A Unreached → A w → A (up_to limit w)
still A limit Unreached none h = h
still A limit (Pair d p) none h = go (cases_lt limit d)
  where
    go : (limit < d) ⊎ (d ≤ limit) → A (up_to limit (Pair d p))
    go (inl high) = subst A (sym (dropped limit d p high)) none
    go (inr low) = subst A (sym (kept limit d p low)) h

all_still : (A : Word → Type 0) (limit : ℕ) (words : List Word) → A Unreached → All A words → All A (map (up_to limit) words)
all_still A limit words none h = All-map A (up_to limit) words (All-weaker A (λ w. A (up_to limit w)) (λ w each. still A limit w none each) words h)

-- one row more

pub within_row : (limit vertex d : ℕ) (word : Word) → Some d ≡ dist_of word → d ≤ limit → (vertex, word) ∷ [] ≡ row_of vertex (up_to limit word)
within_row limit vertex d Unreached is low = cc
within_row limit vertex d (Pair e p) is low = let same : d ≡ e = cc in sym (ap (row_of vertex) (kept limit e p (omega (arith, same))))

pub row_taken_within : (P limit : ℕ) (words : List Word) (i : ℕ) (x : Word) (rows new : List (ℕ × Word)) → i < length words → x ≡ get_or words i x → (rows ≡ rows_from 1 (map (up_to limit) (take i words))) × All (Fits P) (take i words)
    → new ≡ rows ++ row_of (i + 1) (up_to limit x) → Fits P x → (new ≡ rows_from 1 (map (up_to limit) (take (i + 1) words))) × All (Fits P) (take (i + 1) words)
row_taken_within P limit = row_taken (ℕ × Word) (λ v w. row_of v (up_to limit w)) (λ v words. rows_from v (map (up_to limit) words)) (λ v. refl) (λ v w words. refl) P

-- the table of the rows

pub part_is_table : (P source limit : ℕ) (words : List Word) (rows : List (ℕ × Word)) → is_layout P ≡ true → 1 ≤ length words → length words ≤ max_pred P → 1 ≤ source → source ≤ length words → rows ≡ rows_from 1 (map (up_to limit) words)
    → All (HasPredWithin (length words)) words → All (Fits P) words → IsTable P (record { n = length words; source = source; rows = rows })
part_is_table P source limit words rows layout least most source_least source_most rows_are preds fits =
    let part = map (up_to limit) words in
    let size : length part ≡ length words = length-map words (up_to limit) in
    let within = subst (λ n. All (HasPredWithin n) part) (sym size) (all_still (HasPredWithin (length words)) limit words tt preds) in
    tree_is_table P (length words) source part rows layout (omega (arith, size)) (subst (λ n. n ≤ max_pred P) (sym size) most) source_least (omega (arith, size)) (sym size) rows_are within (all_still (Fits P) limit words tt fits)

pub part_is_tree : (source limit : ℕ) (words : List Word) (rows : List (ℕ × Word)) → rows ≡ rows_from 1 (map (up_to limit) words) → record { n = length words; source = source; rows = rows } ≡ tree_of source (map (up_to limit) words)
part_is_tree source limit words rows rows_are = let size = length-map words (up_to limit) in rw (rows_are, size) refl

pub part_words : (source limit : ℕ) (words : List Word) (rows : List (ℕ × Word)) → rows ≡ rows_from 1 (map (up_to limit) words) → (v : ℕ) → 1 ≤ v → v ≤ length words
    → slice_get (map (up_to limit) words) (v - 1) ≡ Some (table_of (record { n = length words; source = source; rows = rows }) v)
part_words source limit words rows rows_are v least most =
    let size = length-map words (up_to limit) in
    rw rows_are (words_are source (map (up_to limit) words) v least (omega (arith, size)))
