-- Histories of calls that relax the arcs of a graph, with any callers and in any order.
use Rattle.std.specs.Prelude.{◌≡◌, ◌≢◌, ℕ, ◌+◌, ◌≤◌, ◌==◌, if◌then◌else◌, List, [], ◌∷◌, ◌++◌, Contains}
use Rattle.sp_word.specs.declared.reply.Reply.{Reply}
use Rattle.sp_word.specs.Word.{Word, Unreached, Pair}
use Rattle.sp_word.specs.History.{Table, Call, Offer, Read, Event, run, IsLegal}
use Rattle.sp_paths.specs.Paths.{Graph, IsGraph, IsVertex, HasArc, EndsInTree}

-- The source has (0, 0), and every other vertex is unreached.
pub record IsOpening (n s : ℕ) (words : Table) : Type 0 where
  pub source : words s ≡ Pair 0 0
  pub others : (v : ℕ) → IsVertex n v → v ≢ s → words v ≡ Unreached

-- This is the table at the beginning of a run from s.
abbrev pub opening : (s : ℕ) → Table
opening s v = if v == s then Pair 0 0 else Unreached

-- Some caller read the vertex and found the distance d.
abbrev pub HasRead : List Event → (vertex d : ℕ) → Type 0
HasRead events v d = (by q : ℕ) × Contains events (record { by = by; vertex = v; call = Read (Pair d q) })

-- Some caller offered the pair (d, p) to the vertex.
abbrev pub HasOffer : List Event → (vertex d p : ℕ) → Type 0
HasOffer events v d p = (by : ℕ) × (found : Word) × (reply : Reply) × Contains events (record { by = by; vertex = v; call = Offer (Pair d p) found reply })

-- An arc to v makes the word from a distance that was read at its tail, and the new distance is at most max.
pub record IsOfArc (g : Graph) (max : ℕ) (before : List Event) (v : ℕ) (word : Word) : Type 0 where
  pub tail : ℕ
  pub dist : ℕ
  pub len : ℕ
  pub arc : HasArc g tail v len
  pub read : HasRead before tail dist
  pub offered : word ≡ Pair (dist + len) tail
  pub fits : dist + len ≤ max

-- The call is a read, or it offers what an arc makes of an earlier read.
abbrev pub IsByArc : Graph → (max : ℕ) → (before : List Event) → (vertex : ℕ) → Call → Type 0
IsByArc g max before v (Read found) = Unit {0}
IsByArc g max before v (Offer word found reply) = IsOfArc g max before v word

-- Every call of the history is one by an arc, given the calls before it.
abbrev pub IsByArcs : Graph → (max : ℕ) → List Event → Type 0
IsByArcs g max events = (before : List Event) → (e : Event) → (later : List Event) → events ≡ before ++ e ∷ later → IsByArc g max before e.vertex e.call

-- Every arc from a vertex that is reached at the end was relaxed at the final distance of its tail.
abbrev pub IsClosedHistory : Graph → (max : ℕ) → (final : Table) → List Event → Type 0
IsClosedHistory g max final events = (u v l d p : ℕ) → HasArc g u v l → final u ≡ Pair d p → d + l ≤ max → HasOffer events v (d + l) u

-- The history is legal and closed, it consists of relaxations, and it leads from the opening words to the final words.
pub record IsRelaxing (g : Graph) (s max : ℕ) (first final : Table) (events : List Event) : Type 0 where
  pub graph : IsGraph g
  pub source : IsVertex g.n s
  pub opened : IsOpening g.n s first
  pub legal : IsLegal first events
  pub by_arcs : IsByArcs g max events
  pub ends : (v : ℕ) → IsVertex g.n v → run first events v ≡ final v
  pub closed : IsClosedHistory g max final events

-- A closed history ends in the tree.
abbrev pub ClosedEndsInTree : Type 0
ClosedEndsInTree = (g : Graph) (s max : ℕ) (first final : Table) (events : List Event) → IsRelaxing g s max first final events → EndsInTree g s max final

-- A history of relaxations grows by one call.
abbrev pub OneCallMore : Type 0
OneCallMore = (g : Graph) (max : ℕ) (events : List Event) (e : Event) → IsByArcs g max events → IsByArc g max events e.vertex e.call → IsByArcs g max (events ++ e ∷ [])

-- In it the source has (0, 0), and every other vertex is unreached.
abbrev pub OpeningOpens : Type 0
OpeningOpens = (n s : ℕ) → IsOpening n s (opening s)
