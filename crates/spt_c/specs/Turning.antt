-- What a call tells C about a graph that is made from one that is kept.
use Rattle.std.specs.Prelude.{◌≡◌}
use Rattle.std.specs.declared.option.Option.{Option}
use Rattle.std.specs.declared.option.Option.TheVariants.{None, Some}
use Rattle.sp_paths.specs.Paths.{Graph}
use Rattle.spt_c.specs.declared.making.KeepOutcome.{KeepOutcome}
use Rattle.spt_c.specs.declared.making.KeepOutcome.TheVariants.{Kept, Memory, NoGraph}

-- The graph that is kept then is made in this way from that of the other place.
abbrev pub KeepsMade : (Graph → Graph → Type 0) → Graph → Option Graph → Type 0
KeepsMade IsMadeOf g None = ⊥
KeepsMade IsMadeOf g (Some h) = IsMadeOf g h

-- The place keeps such a graph, or what it kept before.
abbrev pub IsMadeFrom : (Graph → Graph → Type 0) → (from old new : Option Graph) → KeepOutcome → Type 0
IsMadeFrom IsMadeOf (Some g) old new Kept = KeepsMade IsMadeOf g new
IsMadeFrom IsMadeOf (Some g) old new Memory = new ≡ old
IsMadeFrom IsMadeOf None old new NoGraph = new ≡ old
IsMadeFrom IsMadeOf from old new made = ⊥
