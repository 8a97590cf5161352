-- The answers for pairs of a turned graph, as they are found in the graph itself.
use Rattle.std.specs.Prelude.{◌≡◌, ◌+◌, ◌≤◌, ℕ, List, Option, Some, None, Contains, reverse}
use Rattle.sp_paths.specs.declared.arc.Arc.{Arc}
use Rattle.sp_paths.specs.Paths.{Graph, IsLeast}
use Rattle.sp_network.specs.Turned.{IsTurned}
use Rattle.sp_paths.specs.Routes.{GoesOn}
use Rattle.sp_pairs.specs.declared.told.RouteEnd.{RouteEnd}
use Rattle.sp_pairs.specs.declared.asking.PairState.{PairState}
use Rattle.sp_pairs.specs.Slots.{AnswerIn, IsClosed, IsHeld}

-- ## Where a walk goes first

-- a walk to t of length d may go by this arc first, and then by a least one
abbrev pub IsFirstArc : Graph → (t d : ℕ) → Arc → Type 0
IsFirstArc g t d a = (c : ℕ) × IsLeast g a.head t c × (c + a.len ≡ d)

-- of the arcs of a row, this is such an arc, and no other such arc has a smaller head
pub record IsNext (g : Graph) (t d : ℕ) (row : List Arc) (a : Arc) : Type 0 where
  pub there : Contains row a
  pub first : IsFirstArc g t d a
  pub smallest : (b : Arc) → Contains row b → IsFirstArc g t d b → a.head ≤ b.head

-- there is an arc, and the number of its head is no greater
abbrev pub ComesNoLater : Option Arc → (v : ℕ) → Type 0
ComesNoLater None v = ⊥
ComesNoLater (Some a) v = a.head ≤ v

-- ## Answers

-- The end of the route to a target, as far as it is told: the least length to the target is at most max, and each of the vertices has the one
-- before it.
pub record IsEndOfRoute (g : Graph) (max : ℕ) (end : RouteEnd) : Type 0 where
  pub least : IsLeast g end.source end.target end.dist
  pub most : end.dist ≤ max
  pub on : GoesOn g end.source end.first (reverse end.later.items) end.target

-- This is the end of the route to a target of a source in each graph whose arcs are those of this one turned round.
pub record IsTurnedEnd (g : Graph) (s t max : ℕ) (end : RouteEnd) : Type 0 where
  pub source : end.source ≡ s
  pub target : end.target ≡ t
  pub is : (h : Graph) → IsTurned g h → IsEndOfRoute h max end

-- this is the answer for a target of a source in each graph whose arcs are those of this one turned round
abbrev pub IsTurnedAnswer : {A : Type 0} → AnswerIn A → Graph → (s t : ℕ) → A → Type 0
IsTurnedAnswer Is g s t answer = (h : Graph) → IsTurned g h → Is h s t answer

-- The answer for a pair is known, and is the pair's in each graph whose arcs are those of this one turned round.
pub record IsClosedFor {A : Type 0} (Is : AnswerIn A) (g : Graph) (pair : ℕ × ℕ) (slot : PairState A) : Type 0 where
  pub closed : IsClosed slot
  pub held : (h : Graph) → IsTurned g h → IsHeld Is h pair slot
