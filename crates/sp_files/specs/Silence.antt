-- No line of a file is reported with the fault of a device.
use Rattle.std.proofs.Common.{◌≢◌, ℕ, Bool, true, false, cond, ◌&&◌, leb, Option, Some, None}
use Rattle.sp_text.specs.declared.faults.Kind.{Kind}
use Rattle.sp_text.specs.declared.faults.Kind.TheVariants.{BadLine, NoProblem, SecondProblem, OutOfRange, Read}
use Rattle.sp_text.specs.First.{IsSilent}
use Rattle.sp_files.specs.declared.lines.RowNumbers.{RowNumbers}
use Rattle.sp_files.specs.declared.lines.Line.{Line}
use Rattle.sp_files.specs.declared.lines.Line.TheVariants.{Problem, Row, End}
use Rattle.sp_files.specs.declared.content.RowProgress.{RowProgress}
use Rattle.sp_files.specs.declared.taking.Spelled.{Spelled}
use Rattle.sp_files.specs.declared.taking.Spelled.TheVariants.{Nothing, Open, Whole}
use Rattle.sp_files.specs.Spelling.{Content, in_range, second_range, problem_fault, root_fault, row_fault, place, fault, missing_of, spelling_state, line_in, judge}

by_test : (b : Bool) (letter : ℕ) (later : Option Kind) → later ≢ Some Read → cond b later (Some (OutOfRange letter)) ≢ Some Read
by_test true letter later silent h = silent h
by_test false letter later silent h = cc

none_silent : ◌≢◌ {A = Option Kind} None (Some Read)
none_silent h = cc

range_silent : (letter least most n : ℕ) (later : Option Kind) → later ≢ Some Read → in_range letter least most n later ≢ Some Read
range_silent letter least most n later silent h = by_test (leb least n && leb n most) letter later silent h

-- No line's fault, and nothing that is missing, is the fault of a device.

root_silent : (n : ℕ) (root : Option ℕ) → root_fault n root ≢ Some Read
root_silent n None h = cc
root_silent n (Some root) h = range_silent 83 1 n root None none_silent h

row_silent : (P : ℕ) (at : RowProgress) (row : RowNumbers) → row_fault P at row ≢ Some Read
row_silent P at row = range_silent 86 _ at.n row.vertex _ (range_silent 68 0 _ row.dist _ (range_silent 80 0 at.n row.pred _ (root_silent at.n row.root)))

problem_silent : (P : ℕ) (near : Bool) (n second : ℕ) → problem_fault P near n second ≢ Some Read
problem_silent P near n second = range_silent 78 1 _ n _ (range_silent (second_range near).0 (second_range near).1 n second None none_silent)

if_silent : (b : Bool) (x y : Option Kind) → x ≢ Some Read → y ≢ Some Read → cond b x y ≢ Some Read
if_silent true x y first second h = first h
if_silent false x y first second h = second h

fault_silent : (P : ℕ) (begins : Bool → Bool) (s : Spelled Content) (line : Option Line) → fault P begins s line ≢ Some Read
fault_silent P begins (Whole t) line h = cc
fault_silent P begins Nothing None h = cc
fault_silent P begins (Open t) None h = cc
fault_silent P begins Nothing (Some (Problem near n second)) h = if_silent (begins near) _ (Some BadLine) (problem_silent P near n second) (λ e. cc) h
fault_silent P begins Nothing (Some (Row row)) h = if_silent _ (Some NoProblem) (Some BadLine) (λ e. cc) (λ e. cc) h
fault_silent P begins Nothing (Some (End count)) h = cc
fault_silent P begins (Open t) (Some (Problem near n second)) h = if_silent _ (Some SecondProblem) (Some BadLine) (λ e. cc) (λ e. cc) h
fault_silent P begins (Open t) (Some (Row row)) h = if_silent _ _ (Some BadLine) (row_silent P (place t) row) (λ e. cc) h
fault_silent P begins (Open t) (Some (End count)) h = range_silent 82 _ _ count None none_silent h

missing_silent : (s : Spelled Content) → missing_of s ≢ Some Read
missing_silent Nothing h = cc
missing_silent (Open t) h = cc
missing_silent (Whole t) h = cc

pub silent : (P : ℕ) (begins : Bool → Bool) → IsSilent (judge P begins)
silent P begins = record { fault = λ before line. fault_silent P begins (spelling_state before) (line_in line); missing = λ all. missing_silent (spelling_state all) }
