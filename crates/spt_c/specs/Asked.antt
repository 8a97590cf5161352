-- What a call asks for, and what is wrong with it.
use Rattle.std.specs.Prelude.{◌<◌, ◌≤◌, ◌*◌, ℕ, List, length, All}
use Rattle.sp_paths.specs.Paths.{IsVertex, IsArc}
use Rattle.sp_lists.specs.declared.outcomes.Outcome.{Outcome}
use Rattle.sp_lists.specs.declared.outcomes.Outcome.TheVariants.{BadSize, BadDelta, BadArc, NoSuchVertex}
use Rattle.sp_lists.specs.Limits.{IsCount, IsFirstWithout, reach}
use Rattle.spt_c.specs.declared.arcs.SptArc.{SptArc}
use Rattle.spt_c.specs.Arcs.{arc_of}

-- This asks for the trees from these sources in the graph of n vertices with these arcs; delta is tested alone.
pub record AskedTrees : Type 0 where
  pub arcs : List SptArc
  pub n : ℕ
  pub sources : List ℕ
  pub delta : ℕ

-- The question with these parts.
abbrev pub asked : List SptArc → (n : ℕ) → (sources : List ℕ) → (delta : ℕ) → AskedTrees
asked arcs n sources delta = record { arcs = arcs; n = n; sources = sources; delta = delta }

-- ## What is tested

-- A graph may have n vertices, and there are places for the blocks, n for each.
abbrev pub HasRoom : (n blocks places : ℕ) → Type 0
HasRoom n blocks places = IsCount n × (blocks * n ≤ places)

-- The arc leads from a vertex to a vertex, and has a positive length.
abbrev pub IsArcOf : (n : ℕ) → SptArc → Type 0
IsArcOf n a = IsArc n (arc_of a)

-- Nothing is wrong, given this number of places in both slices.
pub record IsGood (q : AskedTrees) (places : ℕ) : Type 0 where
  pub room : HasRoom q.n (length q.sources) places
  pub delta : q.delta ≤ reach q.n
  pub sources : All (IsVertex q.n) q.sources
  pub arcs : All (IsArcOf q.n) q.arcs

-- ## What is wrong

-- The number of vertices or of places is wrong.
abbrev pub IsBadSize : AskedTrees → (places : ℕ) → Type 0
IsBadSize q places = HasRoom q.n (length q.sources) places → ⊥

-- Delta is greater than the greatest distance.
abbrev pub IsBadDelta : AskedTrees → Type 0
IsBadDelta q = reach q.n < q.delta

-- This is the first thing that is wrong, among the size, the delta, the sources and the arcs, in this order.
abbrev pub IsRefused : AskedTrees → (places : ℕ) → Outcome → Type 0
IsRefused q places BadSize = IsBadSize q places
IsRefused q places BadDelta = HasRoom q.n (length q.sources) places × IsBadDelta q
IsRefused q places (NoSuchVertex place) = HasRoom q.n (length q.sources) places × (q.delta ≤ reach q.n) × IsFirstWithout (IsVertex q.n) q.sources place
IsRefused q places (BadArc place) = HasRoom q.n (length q.sources) places × (q.delta ≤ reach q.n) × All (IsVertex q.n) q.sources × IsFirstWithout (IsArcOf q.n) q.arcs place
IsRefused q places told = ⊥
