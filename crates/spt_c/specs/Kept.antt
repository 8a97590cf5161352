-- What a call tells C about a graph that is kept between calls.
use Rattle.std.specs.Prelude.{◌≡◌, ◌⊎◌, ℕ, List, [], All, length}
use Rattle.std.specs.declared.option.Option.{Option}
use Rattle.std.specs.declared.option.Option.TheVariants.{None, Some}
use Rattle.sp_paths.specs.Paths.{Graph}
use Rattle.sp_paths.specs.Bags.{AreSame}
use Rattle.sp_lists.specs.declared.outcomes.BatchOutcome.{BatchOutcome}
use Rattle.sp_lists.specs.declared.outcomes.Outcome.TheVariants.{NoGraph}
use Rattle.sp_lists.specs.Limits.{IsCount, IsFirstWithout, reach}
use Rattle.sp_lists.specs.Blocks.{Slices, places, AreSolved}
use Rattle.spt_c.specs.declared.arcs.SptArc.{SptArc}
use Rattle.spt_c.specs.declared.answers.SptAnswer.{SptAnswer}
use Rattle.spt_c.specs.declared.counts.SptCounts.{SptCounts}
use Rattle.spt_c.specs.declared.making.KeepOutcome.{KeepOutcome}
use Rattle.spt_c.specs.declared.making.KeepOutcome.TheVariants.{Kept, BadSize, BadArc, Memory, NoGraph as NoGraphMade, InUse}
use Rattle.spt_c.specs.Arcs.{graph_of}
use Rattle.spt_c.specs.Asked.{AskedTrees, asked, IsArcOf, IsGood}
use Rattle.spt_c.specs.Outcome.{IsRefusal}
use Rattle.spt_c.specs.InUse.{answer_in_use}

-- ## A graph is made

-- These are the numbers of the header.
abbrev pub made_of : KeepOutcome → SptAnswer
made_of Kept = record { status = 0; vertex = 0; index = 0 }
made_of BadSize = record { status = 1; vertex = 0; index = 0 }
made_of (BadArc place) = record { status = 3; vertex = 0; index = place }
made_of Memory = record { status = 6; vertex = 0; index = 0 }
made_of NoGraphMade = record { status = 10; vertex = 0; index = 0 }
made_of InUse = answer_in_use

-- The graph of n vertices with exactly these arcs is kept.
abbrev pub Keeps : (n : ℕ) → List SptArc → Option Graph → Type 0
Keeps n arcs None = ⊥
Keeps n arcs (Some graph) = AreSame graph (graph_of n arcs) × (length graph.arcs ≡ length arcs)

-- A graph may have n vertices, and all arcs are valid.
abbrev pub HasGraph : (n : ℕ) → List SptArc → Type 0
HasGraph n arcs = IsCount n × All (IsArcOf n) arcs

-- The graph is kept, or the one that was kept before.
abbrev pub IsMade : (n : ℕ) → List SptArc → (old new : Option Graph) → KeepOutcome → Type 0
IsMade n arcs old new Kept = HasGraph n arcs × Keeps n arcs new
IsMade n arcs old new BadSize = (IsCount n → ⊥) × (new ≡ old)
IsMade n arcs old new (BadArc place) = IsCount n × IsFirstWithout (IsArcOf n) arcs place × (new ≡ old)
IsMade n arcs old new Memory = HasGraph n arcs × (new ≡ old)
IsMade n arcs old new made = ⊥

-- The second place keeps what the first keeps, or what it kept before.
abbrev pub IsShared : (first old new : Option Graph) → KeepOutcome → Type 0
IsShared first old new Kept = new ≡ first
IsShared first old new Memory = new ≡ old
IsShared first old new made = ⊥

-- These are its n vertices and m arcs, if there is a graph.
abbrev pub counts_of : Option Graph → SptCounts
counts_of None = record { status = 10; n = 0; m = 0 }
counts_of (Some g) = record { status = 0; n = g.n; m = length g.arcs }

-- ## Its trees

-- A call for the trees of a graph that is kept passes no arcs.
abbrev pub asked_of : Graph → (sources : List ℕ) → (delta : ℕ) → AskedTrees
asked_of g sources delta = asked [] g.n sources delta

-- Nothing is wrong, and the slices hold the trees of the sources up to the first that has none.
pub record IsAnswerOf (g : Graph) (sources : List ℕ) (delta : ℕ) (old new : Slices) (b : BatchOutcome) : Type 0 where
  pub good : IsGood (asked_of g sources delta) (places old)
  pub solved : AreSolved (reach g.n) g sources old new b

-- The result of a call for the trees of sources in a graph: a refusal, or the answer.
abbrev pub IsToldOf : Graph → (sources : List ℕ) → (delta : ℕ) → (old new : Slices) → BatchOutcome → Type 0
IsToldOf g sources delta old new b = IsRefusal (asked_of g sources delta) old new b ⊎ IsAnswerOf g sources delta old new b

-- No graph is kept, and nothing is written.
pub record IsWithoutGraph (old new : Slices) (b : BatchOutcome) : Type 0 where
  pub why : b.told ≡ NoGraph
  pub none : b.done ≡ 0
  pub same : new ≡ old

-- The result of a call for trees in the graph that a place keeps, if it keeps one.
abbrev pub IsToldOfKept : Option Graph → (sources : List ℕ) → (delta : ℕ) → (old new : Slices) → BatchOutcome → Type 0
IsToldOfKept None sources delta old new b = IsWithoutGraph old new b
IsToldOfKept (Some g) sources delta old new b = IsToldOf g sources delta old new b
