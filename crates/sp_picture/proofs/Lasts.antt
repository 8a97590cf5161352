-- The last such mark among the first so many.
use Rattle.std.proofs.Common.{◌≡◌, ◌<◌, ◌≤◌, ◌⊎◌, ◌∙◌, inl, inr, ℕ, ◌+◌, List, length, get_or, refl, sym, subst, arith}
use Rattle.std.proofs.lemmas.Bool.{cases_eq}
use Rattle.std.proofs.lemmas.Option.{same_Some, slice_get_read, slice_get_within}
use Rattle.std.specs.Prelude.{Option, Some, None}
use Rattle.sp_picture.specs.declared.marks.StepMark.{StepMark}
use Rattle.sp_picture.specs.Ties.{StandsAt, IsLast}

-- among the marks before `end`
abbrev pub IsLastBelow : {P : ℕ} → (IsSuch : StepMark P → Type 0) → List (StepMark P) → (end : ℕ) → Option ℕ → Type 0
IsLastBelow IsSuch marks end None = (k : ℕ) → k < end → StandsAt IsSuch marks k → ⊥
IsLastBelow IsSuch marks end (Some place) = StandsAt IsSuch marks place × ((k : ℕ) → k < end → place < k → StandsAt IsSuch marks k → ⊥)

-- such a one stands at the end
pub last_here : {P : ℕ} (IsSuch : StepMark P → Type 0) (marks : List (StepMark P)) (i : ℕ) (mark : StepMark P) → i < length marks → mark ≡ get_or marks i mark → IsSuch mark → IsLastBelow IsSuch marks (i + 1) (Some i)
last_here IsSuch marks i mark within is such = (record { mark = mark; there = slice_get_read marks (length marks) i mark refl within is; such = such }, λ k below above stands. omega (arith, below, above))

none_there : {P : ℕ} (IsSuch : StepMark P → Type 0) (marks : List (StepMark P)) (i : ℕ) (mark : StepMark P) → i < length marks → mark ≡ get_or marks i mark → (IsSuch mark → ⊥) → StandsAt IsSuch marks i → ⊥
none_there IsSuch marks i mark within is none stands = none (subst IsSuch (same_Some stands.mark mark (sym stands.there ∙ slice_get_read marks (length marks) i mark refl within is)) stands.such)

none_up_to : {P : ℕ} (IsSuch : StepMark P → Type 0) (marks : List (StepMark P)) (i k : ℕ) → (StandsAt IsSuch marks i → ⊥) → (k < i → StandsAt IsSuch marks k → ⊥) → k < i + 1 → StandsAt IsSuch marks k → ⊥
none_up_to IsSuch marks i k here before below stands = by_case (cases_eq k i)
  where
    by_case : (k ≡ i) ⊎ (k ≡ i → ⊥) → ⊥
    by_case (inl same) = here (subst (λ (n : ℕ). StandsAt IsSuch marks n) same stands)
    by_case (inr other) = before (omega (arith, below, other)) stands

-- none such stands at the end
pub last_before : {P : ℕ} (IsSuch : StepMark P → Type 0) (marks : List (StepMark P)) (i : ℕ) (mark : StepMark P) (last : Option ℕ) → i < length marks → mark ≡ get_or marks i mark → (IsSuch mark → ⊥)
    → IsLastBelow IsSuch marks i last → IsLastBelow IsSuch marks (i + 1) last
last_before IsSuch marks i mark None within is none all = λ k below. none_up_to IsSuch marks i k (none_there IsSuch marks i mark within is none) (all k) below
last_before IsSuch marks i mark (Some place) within is none all = (all.0, λ k below above. none_up_to IsSuch marks i k (none_there IsSuch marks i mark within is none) (λ less. all.1 k less above) below)

-- no mark is left
pub last_of_all : {P : ℕ} (IsSuch : StepMark P → Type 0) (marks : List (StepMark P)) (i : ℕ) (last : Option ℕ) → length marks ≤ i → IsLastBelow IsSuch marks i last → IsLast IsSuch marks last
last_of_all IsSuch marks i None past all = λ k stands. all k (let less = slice_get_within marks k stands.mark stands.there in omega (arith, less, past)) stands
last_of_all IsSuch marks i (Some place) past all = (all.0, λ k above stands. all.1 k (let less = slice_get_within marks k stands.mark stands.there in omega (arith, less, past)) above stands)
