-- The earliest of several faults, and the faults at a vertex, by an arc and by roots.
use Rattle.std.specs.Prelude.{◌≡◌, ◌≢◌, ℕ, ◌+◌, ◌<◌, ◌≤◌, ◌⊎◌, ◌==◌, ◌&&◌, ◌||◌, Bool, if◌then◌else◌, nat_lt, List, Contains, length, slice_index_or, Option, Some, None}
use Rattle.sp_word.specs.Word.{Unreached, Pair, IsBelow}
use Rattle.sp_word.specs.History.{Table}
use Rattle.sp_paths.specs.declared.arc.Arc.{Arc}
use Rattle.sp_paths.specs.Paths.{Graph, IsVertex}
use Rattle.sp_cert.specs.declared.rule.Rule.{Rule}
use Rattle.sp_cert.specs.declared.rule.Rule.TheVariants.{Size, OwnSource, NoLesserOffer, NamesPredecessor, OnlyTooFar, BeyondLimit, OtherRoot}
use Rattle.sp_cert.specs.declared.fault.BrokenRule.{BrokenRule}
use Rattle.sp_cert.specs.declared.sources.SourceRule.{SourceRule}
use Rattle.sp_cert.specs.declared.sources.SourceRule.TheVariants.{WithoutPred}
use Rattle.sp_cert.specs.Claims.{IsSource, IsUpTo, IsAbove}
use Rattle.sp_cert.specs.Rules.{number_of, IsExplained, NoLater}

-- This is the earliest of the faults with the property, or none.
abbrev pub IsFirstOf : (ℕ → Rule → Type 0) → Option BrokenRule → Type 0
IsFirstOf P None = (v : ℕ) → (rule : Rule) → P v rule → ⊥
IsFirstOf P (Some f) = P f.vertex f.rule × ((w : ℕ) → (other : Rule) → P w other → NoLater f.vertex f.rule w other)

-- The second fault comes before the first.
abbrev pub is_later : BrokenRule → BrokenRule → Bool
is_later f g = nat_lt g.vertex f.vertex || ((g.vertex == f.vertex) && nat_lt (number_of g.rule) (number_of f.rule))

-- This is the earlier of two faults, each of which may be missing.
abbrev pub earlier_of : Option BrokenRule → Option BrokenRule → Option BrokenRule
earlier_of None b = b
earlier_of (Some f) None = Some f
earlier_of (Some f) (Some g) = if is_later f g then Some g else Some f

-- The arc a comes no later than b: by head, then by length.
abbrev pub IsNoFurther : Arc → Arc → Type 0
IsNoFurther a b = (a.head < b.head) ⊎ ((a.head ≡ b.head) × (a.len ≤ b.len))

-- The arcs rise by head, then by length.
abbrev pub IsRow : List Arc → Type 0
IsRow arcs = (i j : ℕ) → (d : Arc) → i ≤ j → j < length arcs → IsNoFurther (slice_index_or arcs i d) (slice_index_or arcs j d)

-- Some arc leads to the head and has this length.
abbrev pub HasArcTo : List Arc → (head len : ℕ) → Type 0
HasArcTo arcs head len = (arc : Arc) × Contains arcs arc × (arc.head ≡ head) × (arc.len ≡ len)

-- These are the rules that a vertex breaks by its own word.
abbrev pub BreaksAt : Graph → SourceRule → (limit : Option ℕ) → Table → (v : ℕ) → Rule → Type 0
BreaksAt g sources limit words v Size = ⊥
BreaksAt g sources limit words v OwnSource = IsSource sources words v × (words v ≢ Pair 0 0)
BreaksAt g sources limit words v NoLesserOffer = ⊥
BreaksAt g sources limit words v NamesPredecessor = (d p : ℕ) × (words v ≡ Pair d p) × (IsSource sources words v → ⊥) × (IsExplained g words v d p → ⊥)
BreaksAt g sources limit words v OnlyTooFar = ⊥
BreaksAt g sources limit words v BeyondLimit = (d p : ℕ) × (words v ≡ Pair d p) × IsAbove limit d
BreaksAt g sources limit words v OtherRoot = ⊥

-- These are the rules that an arc breaks at its head.
abbrev pub BreaksBy : (max : ℕ) → (limit : Option ℕ) → Table → Arc → Rule → Type 0
BreaksBy max limit words arc Size = ⊥
BreaksBy max limit words arc OwnSource = ⊥
BreaksBy max limit words arc NoLesserOffer = (d p : ℕ) × (words arc.tail ≡ Pair d p) × (d + arc.len ≤ max) × IsUpTo limit (d + arc.len) × IsBelow (Pair (d + arc.len) arc.tail) (words arc.head)
BreaksBy max limit words arc NamesPredecessor = ⊥
BreaksBy max limit words arc OnlyTooFar = (limit ≡ None) × ((d p : ℕ) × (words arc.tail ≡ Pair d p) × (max < d + arc.len) × (words arc.head ≡ Unreached))
BreaksBy max limit words arc BeyondLimit = ⊥
BreaksBy max limit words arc OtherRoot = ⊥

-- These are the rules that a vertex of a forest breaks by its root.
abbrev pub BreaksRoot : Table → (roots : ℕ → Option ℕ) → (v : ℕ) → Rule → Type 0
BreaksRoot words roots v Size = ⊥
BreaksRoot words roots v OwnSource = IsSource WithoutPred words v × (roots v ≢ Some v)
BreaksRoot words roots v NoLesserOffer = ⊥
BreaksRoot words roots v NamesPredecessor = ⊥
BreaksRoot words roots v OnlyTooFar = ⊥
BreaksRoot words roots v BeyondLimit = ⊥
BreaksRoot words roots v OtherRoot = (d p : ℕ) × (words v ≡ Pair d p) × (IsSource WithoutPred words v → ⊥) × (roots v ≢ roots p)

-- This is the lowest rule that is broken, or none.
abbrev pub IsBroken : (Rule → Type 0) → Option Rule → Type 0
IsBroken P None = (rule : Rule) → P rule → ⊥
IsBroken P (Some rule) = P rule × ((other : Rule) → P other → number_of rule ≤ number_of other)

-- These are the faults at a vertex that breaks such rules.
abbrev pub FaultAt : (ℕ → Rule → Type 0) → (vertex : ℕ) → (v : ℕ) → Rule → Type 0
FaultAt P vertex v rule = (v ≡ vertex) × P vertex rule

-- These are the faults at all vertices up to n.
abbrev pub FaultOfVertex : (n : ℕ) → (ℕ → Rule → Type 0) → (v : ℕ) → Rule → Type 0
FaultOfVertex n P v rule = IsVertex n v × P v rule

-- These are the faults that an arc shows at its head.
abbrev pub FaultBy : (max : ℕ) → (limit : Option ℕ) → Table → Arc → (v : ℕ) → Rule → Type 0
FaultBy max limit words arc v rule = (v ≡ arc.head) × BreaksBy max limit words arc rule

-- These are the faults that the arcs of a list show at their heads.
abbrev pub FaultOfArc : (max : ℕ) → (limit : Option ℕ) → Table → List Arc → (v : ℕ) → Rule → Type 0
FaultOfArc max limit words arcs v rule = (arc : Arc) × Contains arcs arc × FaultBy max limit words arc v rule

-- These are all faults of words, except those of roots.
abbrev pub FaultOfWords : Graph → (max : ℕ) → SourceRule → (limit : Option ℕ) → Table → (v : ℕ) → Rule → Type 0
FaultOfWords g max sources limit words v rule = FaultOfArc max limit words g.arcs v rule ⊎ FaultOfVertex g.n (BreaksAt g sources limit words) v rule
