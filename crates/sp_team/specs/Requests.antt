-- The requests that relaxed vertices make to the heads of their arcs.
use Rattle.std.specs.Prelude.{◌≡◌, ℕ, ◌+◌, ◌<◌, ◌≤◌, Bool, true, false, List, [], ◌∷◌, ◌++◌, map, All}
use Rattle.sp_word.specs.Word.{Word, Pair, max_pred}
use Rattle.sp_paths.specs.declared.arc.Arc.{Arc}
use Rattle.sp_paths.specs.Paths.{IsVertex}
use Rattle.sp_team.specs.declared.relax.Request.{Request}

-- the head is a vertex, and the law allows it the word
pub record IsRequest {P : ℕ} (law : ℕ → Word → Type 0) (vertices : ℕ) (r : Request P) : Type 0 where
  pub head : IsVertex vertices r.head
  pub allowed : law r.head r.word

-- the request of an arc whose tail has this distance
abbrev pub request : (P dist : ℕ) → Arc → Request P
request P dist a = record { word = Pair (dist + a.len) a.tail; head = a.head; len = a.len }

-- if the sum is within the greatest distance, the tail fits in a word
abbrev pub HasTail : (P max dist : ℕ) → Arc → Type 0
HasTail P max dist a = dist + a.len ≤ max → a.tail ≤ max_pred P

-- if the sums of all these arcs are within the greatest distance, their tails fit in a word
abbrev pub HaveTails : (P max dist : ℕ) → List Arc → Type 0
HaveTails P max dist arcs = All (λ a. dist + a.len ≤ max) arcs → All (λ a. a.tail ≤ max_pred P) arcs

-- if the sum is within the greatest distance, a request for the arc was appended; otherwise none was
abbrev pub Asks : (P max : ℕ) → Arc → (dist : ℕ) → (fits : Bool) → (before after : List (Request P)) → Type 0
Asks P max a dist true before after = (dist + a.len ≤ max) × (after ≡ before ++ request P dist a ∷ [])
Asks P max a dist false before after = (max < dist + a.len) × (after ≡ before)

-- all sums are within the greatest distance, and a request for each arc of the row was appended
abbrev pub AsksAll : (P max : ℕ) → (row : List Arc) → (dist : ℕ) → (before after : List (Request P)) → Type 0
AsksAll P max row dist before after = All (λ a. dist + a.len ≤ max) row × (after ≡ before ++ map (request P dist) row)
