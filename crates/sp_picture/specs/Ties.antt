-- The load and the store to which a lost exchange is tied.
use Rattle.std.specs.Prelude.{◌≡◌, ◌<◌, ℕ, ◌+◌, List, [], ◌∷◌, take, slice_get, Option, Some, None}
use Rattle.sp_picture.specs.declared.marks.StepMark.{StepMark}
use Rattle.sp_picture.specs.declared.marks.Deed.{Deed}
use Rattle.sp_picture.specs.declared.marks.Deed.TheVariants.{Rest, Load, Won, Lost}
use Rattle.sp_picture.specs.declared.ties.Tie.{Tie}
use Rattle.sp_picture.specs.Marks.{deed_of, IsStoreTo}

-- This puts the index of the mark, if it is a lost exchange, before the others.
abbrev pub lost_by : Deed → (place : ℕ) → List ℕ → List ℕ
lost_by Rest place more = more
lost_by Load place more = more
lost_by Won place more = more
lost_by Lost place more = place ∷ more

-- These are the indices of the lost exchanges among these marks, the first of which is at index `place`.
abbrev pub lost_from : {P : ℕ} → (place : ℕ) → List (StepMark P) → List ℕ
lost_from place [] = []
lost_from place (mark ∷ more) = lost_by (deed_of mark) place (lost_from (place + 1) more)

-- The mark at this index has the property.
pub record StandsAt {P : ℕ} (IsSuch : StepMark P → Type 0) (marks : List (StepMark P)) (place : ℕ) : Type 0 where
  pub mark : StepMark P
  pub there : slice_get marks place ≡ Some mark
  pub such : IsSuch mark

-- This is the index of the last mark with the property, if there is one.
abbrev pub IsLast : {P : ℕ} → (IsSuch : StepMark P → Type 0) → List (StepMark P) → Option ℕ → Type 0
IsLast IsSuch marks None = (k : ℕ) → StandsAt IsSuch marks k → ⊥
IsLast IsSuch marks (Some place) = StandsAt IsSuch marks place × ((k : ℕ) → place < k → StandsAt IsSuch marks k → ⊥)

-- The load is its actor's last step before it, and the store is the last one to its word before it.
pub record IsTie {P : ℕ} (marks : List (StepMark P)) (tie : Tie) : Type 0 where
  pub mark : StepMark P
  pub there : slice_get marks tie.lost ≡ Some mark
  pub load : IsLast (λ m. m.actor ≡ mark.actor) (take tie.lost marks) tie.load
  pub store : IsLast (IsStoreTo mark.vertex) (take tie.lost marks) tie.store
