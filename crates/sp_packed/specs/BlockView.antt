-- What contracts see of a block.
use Rattle.std.specs.Prelude.{◌≤◌, take}
use Rattle.sp_packed.specs.Words.{Came}
use Rattle.sp_packed.specs.declared.blocks.WordBlock.TheInside.{Inside}
use Rattle.sp_packed.specs.declared.blocks.TheConstants.{ROOM}

-- This is what came of a text in a block.
abbrev pub came_of : Inside → Came
came_of b = record { numbers = take b.len b.numbers; sum = b.sum }

-- The numbers fit into the block.
abbrev pub IsRoom : Inside → Type 0
IsRoom b = b.len ≤ ROOM
