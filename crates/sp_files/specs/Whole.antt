-- A file of trees, block by block.
use Rattle.std.specs.Prelude.{◌≡◌, ℕ, ◌+◌, ◌<◌, Bool, true, List, [], ◌∷◌, ◌++◌, length, All, Some}
use Rattle.std.specs.List.{flat_map}
use Rattle.sp_text.specs.declared.faults.DimacsError.{DimacsError}
use Rattle.sp_answer.specs.Table.{TreeTable, IsTable}
use Rattle.sp_files.specs.TreeText.{tree_text}
use Rattle.sp_files.specs.Block.{IsWithinBlock, lines_in}
use Rattle.sp_files.specs.Stream.{IsFaultOf}
use Rattle.sp_files.specs.Giving.{in_file}

-- These are the texts of trees, one after the other.
abbrev pub trees_text : List TreeTable → List ℕ
trees_text trees = flat_map tree_text trees

-- This is the total number of lines of the trees.
abbrev pub lines_of : List TreeTable → ℕ
lines_of [] = 0
lines_of (tree ∷ more) = lines_in tree + lines_of more

-- The text is that of one or more trees.
pub record IsFile (P : ℕ) (text : List ℕ) (trees : List TreeTable) : Type 0 where
  pub some : 0 < length trees
  pub tables : All (IsTable P) trees
  pub is : text ≡ trees_text trees

-- After the blocks of some trees a block has this fault, which is reported at its line of the file; or the device has failed in
-- that block. The end after a tree is no fault.
pub record IsFileFault (P : ℕ) (text : List ℕ) (failed : Bool) (e : DimacsError) : Type 0 where
  pub trees : List TreeTable
  pub tables : All (IsTable P) trees
  pub front : List ℕ
  pub behind : List ℕ
  pub parts : text ≡ trees_text trees ++ front ++ behind
  pub block : IsWithinBlock front
  pub begun : 0 < length trees → front ++ behind ≡ [] → failed ≡ true
  pub fault : DimacsError
  pub has_fault : IsFaultOf P front (Some behind) failed fault
  pub told : e ≡ in_file (lines_of trees) fault
