-- Rows of distances, one after the other.
use Rattle.std.proofs.Common.{◌≡◌, ◌<◌, ◌≤◌, ◌+◌, ◌*◌, ℕ, suc, List, [], ◌∷◌, ◌++◌, length, get_or, Option, Some, None, refl, sym, ◌∙◌, subst, arith}
use Rattle.std.specs.Prelude.{All, slice_get, slice_index, MatchOption, IsSomeAnd}
use Rattle.std.proofs.lemmas.Option.{slice_get_within}
use Rattle.std.proofs.lemmas.Slice.Zip.{AllZip-left, AllZip-long}
use Rattle.sp_paths.specs.Paths.{Graph}
use Rattle.sp_answer.specs.declared.pair.PairAnswer.{PairAnswer}
use Rattle.sp_answer.specs.Pair.{answer_of}
use Rattle.sp_answer.specs.Run.{IsAnswerFor, AreAnswersFor}
use Rattle.sp_lists.specs.declared.outcomes.Outcome.{Outcome}
use Rattle.sp_lists.specs.declared.outcomes.Outcome.TheVariants.{Done, Memory}
use Rattle.sp_lists.specs.Matrix.{HasDistance, HasRowAt, ArePutAt, KeepsBut, IsRowIn, AreRowsDone, IsBlockIn}
use Rattle.sp_lists.proofs.Blocks.{next_block, next_holds}

-- What holds of the items of two lists, one behind the other, holds of those of the second.
pub all_behind : (P : ℕ → Type 0) (xs ys : List ℕ) → All P (xs ++ ys) → All P ys
all_behind P [] ys all = all
all_behind P (x ∷ xs) ys all = all_behind P xs ys (λ k d h. let next : suc k < length (x ∷ (xs ++ ys)) = grind arith in all (suc k) d next)

-- ## One row

distance_at : (max : ℕ) (g : Graph) (s t j low : ℕ) (answers : List PairAnswer) (there : List ℕ) (o : Option PairAnswer) → slice_get answers j ≡ o → IsSomeAnd o (λ told. IsAnswerFor g s t max told)
    → ArePutAt answers low there → HasDistance max g s t (slice_index there (low + j))
distance_at max g s t j low answers there None e is put = absurd is
distance_at max g s t j low answers there (Some told) e is put = record { answer = answer_of told; pair = is; distance = put j told e }

-- The distances of the answers for the targets are their row.
row_put : (max : ℕ) (g : Graph) (s low : ℕ) (targets : List ℕ) (answers : List PairAnswer) (there : List ℕ) → AreAnswersFor g s max targets answers → ArePutAt answers low there
    → HasRowAt max g s targets low there
row_put max g s low targets answers there zip put j t at =
    let R : ℕ → PairAnswer → Type 0 = λ t told. IsAnswerFor g s t max told in
    let M : Option ℕ → Type 0 = λ o. MatchOption o (Unit {0}) (λ t. IsSomeAnd (slice_get answers j) (R t)) in
    let both : M (Some t) = subst M at (AllZip-left R targets answers zip j) in
    distance_at max g s t j low answers there (slice_get answers j) refl both put

pub as_many : (max : ℕ) (g : Graph) (s : ℕ) (targets : List ℕ) (answers : List PairAnswer) → AreAnswersFor g s max targets answers → length answers ≡ length targets
as_many max g s targets answers zip = AllZip-long (λ t told. IsAnswerFor g s t max told) targets answers zip

-- One target alone has the first answer.
pub one_answer : (max : ℕ) (g : Graph) (s t : ℕ) (answers : List PairAnswer) (d : PairAnswer) → AreAnswersFor g s max (t ∷ []) answers → IsAnswerFor g s t max (get_or answers 0 d)
one_answer max g s t [] d zip = absurd (AllZip-left (λ t told. IsAnswerFor g s t max told) (t ∷ []) [] zip 0)
one_answer max g s t (answer ∷ more) d zip = AllZip-left (λ t told. IsAnswerFor g s t max told) (t ∷ []) (answer ∷ more) zip 0

pub whole_row : (max : ℕ) (g : Graph) (s low : ℕ) (targets : List ℕ) (answers : List PairAnswer) (old new : List ℕ) → AreAnswersFor g s max targets answers → ArePutAt answers low new
    → KeepsBut low (length answers) old new → IsRowIn max g s targets low old new Done
whole_row max g s low targets answers old new zip put others = (
  row_put max g s low targets answers new zip put,
  subst (λ count. KeepsBut low count old new) (as_many max g s targets answers zip) others,
)

-- ## Several rows

-- A row stands where its places hold what they held.
stays : (max : ℕ) (g : Graph) (s low at : ℕ) (targets : List ℕ) (old new : List ℕ) → low + length targets ≤ at → KeepsBut at (length targets) old new → HasRowAt max g s targets low old → HasRowAt max g s targets low new
stays max g s low at targets old new behind same row j t there =
    let within : j < length targets = slice_get_within targets j t there in
    let before : low + j < at = omega arith in
    subst (HasDistance max g s t) (sym (same.below (low + j) before)) (row j t there)

-- One row more is done.
pub one_row_more : (max : ℕ) (g : Graph) (sources targets : List ℕ) (place low : ℕ) (old mid new : List ℕ) → low ≡ place * length targets → AreRowsDone max g sources targets place old mid
    → IsRowIn max g (slice_index sources place) targets low mid new Done → AreRowsDone max g sources targets (place + 1) old new
one_row_more max g sources targets place low old mid new at done solved =
    let n = length targets in
    let R : ℕ → Type 0 = λ x. IsRowIn max g (slice_index sources place) targets x mid new Done in
    let row : R (place * n) = subst R at solved in record {
      rows = next_holds (λ s low there. HasRowAt max g s targets low there) sources n place mid new (λ i s behind is. stays max g s (i * n) (place * n) targets mid new behind row.1 is) done.rows row.0;
      rest = λ k h.
          let beyond : place * n + n ≤ k = subst (λ x. x ≤ k) (next_block place n) h in
          let above : place * n ≤ k = omega arith in
          row.1.beyond k beyond ∙ done.rest k above;
    }

-- Where there was no memory for a row, the rows before it are done.
pub stopped_at : (max : ℕ) (g : Graph) (sources targets : List ℕ) (place low : ℕ) (old mid new : List ℕ) (told : Outcome) → place < length sources → (told ≡ Done → ⊥)
    → AreRowsDone max g sources targets place old mid → IsRowIn max g (slice_index sources place) targets low mid new told
    → IsBlockIn max g sources targets old new (record { done = place; told = told })
stopped_at max g sources targets place low old mid new Done within not done is = absurd (not refl)
stopped_at max g sources targets place low old mid new Memory within not done is = (subst (λ x. AreRowsDone max g sources targets place old x) (sym is) done, within)
stopped_at max g sources targets place low old mid new told within not done is = absurd is
