-- Reached vertices, counted word by word.
use Rattle.std.proofs.Common.{◌≡◌, ℕ, ◌+◌, ◌<◌, ◌≤◌, List, length, take, get_or, refl, ap, ◌∙◌, arith}
use Rattle.std.specs.Prelude.{All}
use Rattle.std.proofs.lemmas.List.{length-append}
use Rattle.std.proofs.lemmas.List.Elements.{All-more}
use Rattle.sp_word.specs.Word.{Word, Unreached, Pair, Fits}
use Rattle.sp_answer.specs.Table.{row_of, rows_from}
use Rattle.sp_answer.proofs.VertexRows.{rows_more}

-- So many of the first words are reached, and all of these fit their layout.
pub record IsCount (P : ℕ) (words : List Word) (i count : ℕ) : Type 0 where
  pub is : count ≡ length (rows_from 1 (take i words))
  pub few : count ≤ i
  pub fits : All (Fits P) (take i words)

-- the number of a row's vertex has no bearing on how many rows there are
any_row : (u v : ℕ) (word : Word) → length (row_of u word) ≡ length (row_of v word)
any_row u v Unreached = refl
any_row u v (Pair d p) = refl

one_row : (v : ℕ) (word : Word) → length (row_of v word) ≤ 1
one_row v Unreached = omega arith
one_row v (Pair d p) = omega arith

pub one_more : (P : ℕ) (words : List Word) (i count one : ℕ) (x : Word) → i < length words → x ≡ get_or words i x → IsCount P words i count → one ≡ length (row_of 0 x) → Fits P x → IsCount P words (i + 1) (count + one)
one_more P words i count one x within is before one_is fits =
    let front = rows_from 1 (take i words) in
    let grown : length (rows_from 1 (take (i + 1) words)) ≡ length front + length (row_of (i + 1) x) = ap length (rows_more (ℕ × Word) row_of rows_from (λ v. refl) (λ v w words. refl) words i x within is) ∙ length-append front (row_of (i + 1) x) in
    record {
      is = omega (arith, grown, before.is, one_is, any_row 0 (i + 1) x);
      few = omega (arith, before.few, one_is, one_row 0 x);
      fits = All-more (Fits P) words i x within before.fits (rw (← is) fits);
    }
