-- The bytes of a block: those up to the LF of the first line that begins with `e`.
use Rattle.std.specs.Prelude.{◌≡◌, ℕ, ◌+◌, ◌==◌, if◌then◌else◌, List, [], ◌∷◌, length}
use Rattle.sp_answer.specs.Table.{TreeTable}
use Rattle.sp_files.specs.declared.trees.block_state.BlockState.{BlockState}
use Rattle.sp_files.specs.declared.trees.block_state.BlockState.TheVariants.{Fresh, Last, Within, Over}

-- This is the state after one more byte.
abbrev pub after : BlockState → ℕ → BlockState
after Fresh b = if b == 10 then Fresh else (if b == 101 then Last else Within)
after Last b = if b == 10 then Over else Last
after Within b = if b == 10 then Fresh else Within
after Over b = Over

-- These bytes lead from one state to the other, and none comes after the block.
abbrev pub Runs : BlockState → List ℕ → BlockState → Type 0
Runs state [] end = end ≡ state
Runs Over (b ∷ bytes) end = ⊥
Runs state (b ∷ bytes) end = Runs (after state b) bytes end

-- The bytes begin a block, and perhaps are all of it.
abbrev pub IsWithinBlock : List ℕ → Type 0
IsWithinBlock bytes = (state : BlockState) × Runs Fresh bytes state

-- The bytes are a block.
abbrev pub IsBlock : List ℕ → Type 0
IsBlock bytes = Runs Fresh bytes Over

-- This is the number of lines of a block: one for each row, the problem line and the last line.
abbrev pub lines_in : TreeTable → ℕ
lines_in tree = length tree.rows + 2
