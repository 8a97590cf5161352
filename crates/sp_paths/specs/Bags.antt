-- Graphs with the same arcs have the same trees: neither the order of the list of arcs matters, nor how often an arc is
-- repeated.
use Rattle.std.specs.Prelude.{◌≡◌, ℕ, Option, Contains}
use Rattle.sp_paths.specs.declared.arc.Arc.{Arc}
use Rattle.sp_word.specs.History.{Table}
use Rattle.sp_paths.specs.Paths.{Graph, IsTree, IsFar, IsPair, PairAnswer, HasWalk, IsLeast}

-- The graphs have the same vertices and the same arcs, in any order and each any number of times.
pub record AreSame (g h : Graph) : Type 0 where
  pub n : g.n ≡ h.n
  pub there : (a : Arc) → Contains g.arcs a → Contains h.arcs a
  pub back : (a : Arc) → Contains h.arcs a → Contains g.arcs a

-- Each walk, least length, tree, vertex that is too far and answer for a target in g is also one in h.
pub record SameAnswers (g h : Graph) : Type 0 where
  pub walk : (s v d : ℕ) → HasWalk g s v d → HasWalk h s v d
  pub least : (s v d : ℕ) → IsLeast g s v d → IsLeast h s v d
  pub tree : (s : ℕ) (words : Table) → IsTree g s words → IsTree h s words
  pub far : (s max : ℕ) (answer : Option ℕ) → IsFar g s max answer → IsFar h s max answer
  pub pair : (s t max : ℕ) (answer : PairAnswer) → IsPair g s t max answer → IsPair h s t max answer

-- Graphs with the same arcs have the same answers.
abbrev pub SameArcsSameAnswers : Type 0
SameArcsSameAnswers = (g h : Graph) → AreSame g h → SameAnswers g h
