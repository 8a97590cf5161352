-- Words that are lowered by relaxing arcs, one after the other.
use Rattle.std.specs.Prelude.{◌≡◌, ℕ, ◌-◌, ◌<◌, List, [], ◌∷◌, Contains, slice_set, Some}
use Rattle.sp_word.specs.Word.{Word, dist_of}
use Rattle.sp_paths.specs.declared.arc.Arc.{Arc}
use Rattle.sp_paths.specs.Paths.{word_at}
use Rattle.sp_judge.specs.Passing.{IsLesserOffer, IsNoLesser}

-- An arc that is relaxed, and the word that its head gets.
abbrev pub Step : Type 0
Step = Arc × Word

-- In each step, one of these arcs lowers the word of its head. Together the steps turn the words before into those
-- after.
abbrev pub AreSteps : (max : ℕ) → (arcs : List Arc) → List Step → (before after : List Word) → Type 0
AreSteps max arcs [] before after = after ≡ before
AreSteps max arcs (step ∷ more) before after = Contains arcs step.0 × IsLesserOffer max (word_at before step.0.tail) step.0 (word_at before step.0.head) step.1 × AreSteps max arcs more (slice_set before (step.0.head - 1) step.1) after

-- Some of these arcs, each any number of times, turned the words before into those after.
abbrev pub IsLowered : (max : ℕ) → (arcs : List Arc) → (before after : List Word) → Type 0
IsLowered max arcs before after = (steps : List Step) × AreSteps max arcs steps before after

-- The arc turned the words before into those after, or they are the same.
abbrev pub IsLoweredBy : (max : ℕ) → Arc → (before after : List Word) → Type 0
IsLoweredBy max arc before after = (arcs : List Arc) → Contains arcs arc → IsLowered max arcs before after

-- If the arc offers its head less than the head's word, the head gets this offer, and every other word stays.
abbrev pub TakesLesser : (max : ℕ) → Arc → (before after : List Word) → Type 0
TakesLesser max arc before after = (word : Word) → IsLesserOffer max (word_at before arc.tail) arc (word_at before arc.head) word → after ≡ slice_set before (arc.head - 1) word

-- If the arc offers nothing less, every word stays.
abbrev pub KeepsUnlessLesser : (max : ℕ) → Arc → (before after : List Word) → Type 0
KeepsUnlessLesser max arc before after = IsNoLesser max (word_at before arc.tail) arc (word_at before arc.head) → after ≡ before

-- This is the vertex's distance afterwards, less than the one that it had before, if it had one.
abbrev pub IsShorterDist : ℕ → (before after : List Word) → ℕ → Type 0
IsShorterDist vertex before after dist = (dist_of (word_at after vertex) ≡ Some dist) × ((was : ℕ) → dist_of (word_at before vertex) ≡ Some was → dist < was)

-- The vertex has the same distance as before, or still none.
abbrev pub HasSameDist : ℕ → (before after : List Word) → Type 0
HasSameDist vertex before after = dist_of (word_at after vertex) ≡ dist_of (word_at before vertex)
