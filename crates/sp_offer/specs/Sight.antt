-- What a seat has seen, for the rule.
use Rattle.std.specs.Prelude.{ℕ, List, [], ◌++◌}
use Rattle.sp_word.specs.History.{Event}
use Rattle.sp_offer.specs.Interleaving.{Doing, Rests}
use Rattle.sp_offer.specs.Trail.{Found}
use Rattle.sp_offer.specs.Story.{Story}

-- The history that was seen; a longer prefix of the one history, which was handed over and not yet looked at; the
-- places of the seat's own calls; the steps of its calls; and what it does between two of them.
pub record Sight : Type 0 where
  pub seen : List Event
  pub heard : List Event
  pub own : List ℕ
  pub trail : List Found
  pub at : Doing

-- This is what contracts see of it.
abbrev pub story : Sight → Story
story v = record { seen = v.seen; own = v.own }

-- This is the sight of the first caller, and of the seat that a joined caller leaves: nothing was seen, done or heard.
abbrev pub newcomer : Sight
newcomer = record { seen = []; heard = []; own = []; trail = []; at = Rests }

-- A second caller has seen what the first has, and has done nothing.
abbrev pub listener : Sight → Sight
listener v = record { seen = v.seen; heard = []; own = []; trail = []; at = Rests }

-- One caller takes over the calls of another, and has heard what the other had seen.
abbrev pub merged_sight : Sight → Sight → Sight
merged_sight v w = record { seen = v.seen; heard = w.seen; own = v.own ++ w.own; trail = v.trail ++ w.trail; at = v.at }
