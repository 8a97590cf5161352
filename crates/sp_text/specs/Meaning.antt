-- What the definitions mean, stated independently.
use Rattle.std.specs.Prelude.{◌≡◌, ◌≢◌, ℕ, ◌+◌, ◌<◌, List, [], ◌∷◌, ◌++◌, length, take, get_or, Some, None}
use Rattle.std.specs.List.{flat_map, AllByRecursion}
use Rattle.sp_text.specs.declared.faults.DimacsError.{DimacsError}
use Rattle.sp_text.specs.First.{Judge, line_fault}

-- This is the first of the lines that has a fault, given the lines before it, and its fault.
pub record IsFirstFault (rules : Judge) (all : List (List ℕ)) (e : DimacsError) : Type 0 where
  pub place : ℕ
  pub within : place < length all
  pub line : e.line ≡ place + 1
  pub fault : line_fault rules (take place all) (get_or all place []) ≡ Some e.kind
  pub none_before : (j : ℕ) → j < place → line_fault rules (take j all) (get_or all j []) ≡ None

-- None of the bytes is an LF.
abbrev pub HasNoLf : List ℕ → Type 0
HasNoLf bytes = AllByRecursion (λ b. b ≢ 10) bytes

-- These bytes come before the first LF, and those after it.
abbrev pub IsFirstLine : (bytes line more : List ℕ) → Type 0
IsFirstLine bytes line more = HasNoLf line × (bytes ≡ line ++ 10 ∷ more)

-- A text consists of its lines, each with its LF, and then a rest; there is no other LF.
pub record IsCut (text : List ℕ) (all : List (List ℕ)) (more : List ℕ) : Type 0 where
  pub whole : text ≡ flat_map (λ line. line ++ 10 ∷ []) all ++ more
  pub lines : AllByRecursion HasNoLf all
  pub rest : HasNoLf more
