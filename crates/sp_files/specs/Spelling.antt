-- What the lines of a tree's or a forest's file spell, and their faults.
use Rattle.std.specs.Prelude.{ℕ, ◌+◌, Bool, true, false, ◌&&◌, List, [], ◌∷◌, length, is_some, unwrap_or, nat_le, not, if◌then◌else◌, codes, Option, Some, None}
use mathlib.Core.Bool.{beq}
use Rattle.sp_word.specs.Word.{max_dist, max_pred}
use Rattle.sp_text.specs.declared.faults.Kind.{Kind}
use Rattle.sp_text.specs.declared.faults.Kind.TheVariants.{BadLine, NoProblem, SecondProblem, OutOfRange, TooMany, TooFew}
use Rattle.sp_text.specs.Lines.{is_number, value}
use Rattle.sp_text.specs.Numeral.{capped_value}
use Rattle.sp_text.specs.Text.{is_word}
use Rattle.sp_text.specs.First.{Judge}
use Rattle.sp_answer.specs.Table.{TreeTable, with_row, last_vertex}
use Rattle.sp_answer.specs.ForestTable.{ForestTable, with_row as with_rooted_row, last_vertex as last_rooted}
use Rattle.sp_files.specs.declared.lines.RowNumbers.{RowNumbers}
use Rattle.sp_files.specs.declared.lines.Line.{Line}
use Rattle.sp_files.specs.declared.lines.Line.TheVariants.{Problem, Row, End}
use Rattle.sp_files.specs.declared.content.RowProgress.{RowProgress}
use Rattle.sp_files.specs.declared.taking.Spelled.{Spelled}
use Rattle.sp_files.specs.declared.taking.Spelled.TheVariants.{Nothing, Open, Whole}
use Rattle.sp_files.specs.Fields.{fields}

-- 1. A line by itself.

-- These are the numbers `V D P` of a tree's row, or `V D P S` of a forest's.
abbrev pub row_of : List (List ℕ) → Option Line
row_of (vertex ∷ dist ∷ pred ∷ []) =
    if is_number vertex && is_number dist && is_number pred then Some (Row (record { vertex = value vertex; dist = value dist; pred = value pred; root = None })) else None
row_of (vertex ∷ dist ∷ pred ∷ root ∷ []) =
    if is_number vertex && is_number dist && is_number pred && is_number root then Some (Row (record { vertex = value vertex; dist = value dist; pred = value pred; root = Some (value root) })) else None
row_of other = None

-- These are `N` and one more number, after the word.
abbrev pub problem_of : (near : Bool) → List (List ℕ) → Option Line
problem_of near (n ∷ second ∷ []) = if is_number n && is_number second then Some (Problem near (value n) (value second)) else None
problem_of near other = None

-- This is the first line: `spt N S` of a tree's file, or `near N K` of a forest's.
abbrev pub first_of : List (List ℕ) → Option Line
first_of [] = None
first_of (word ∷ numbers) = if is_word (codes "spt") word then problem_of false numbers else (if is_word (codes "near") word then problem_of true numbers else None)

-- This is `R` after `e`.
abbrev pub end_of : List (List ℕ) → Option Line
end_of (count ∷ []) = if is_number count then Some (End (value count)) else None
end_of other = None

-- This is the line that has these fields.
abbrev pub line_of : List (List ℕ) → Option Line
line_of [] = None
line_of (word ∷ more) =
    if is_word (codes "v") word then row_of more else (if is_word (codes "p") word then first_of more else (if is_word (codes "e") word then end_of more else None))

-- This is the line of a file that these bytes are, in its one spelling; `None` for any other bytes.
unfoldable pub line_in : List ℕ → Option Line
line_in bytes = line_of (fields bytes)

-- This is a root as 64 bits can hold it.
abbrev pub capped_root : Option ℕ → Option ℕ
capped_root None = None
capped_root (Some root) = Some (capped_value root)

-- This is a row as 64 bits can hold its numbers.
abbrev pub capped_row : RowNumbers → RowNumbers
capped_row row = record { vertex = capped_value row.vertex; dist = capped_value row.dist; pred = capped_value row.pred; root = capped_root row.root }

-- This is the line as 64 bits can hold its numbers.
abbrev pub capped_line : Option Line → Option Line
capped_line None = None
capped_line (Some (Problem near n second)) = Some (Problem near (capped_value n) (capped_value second))
capped_line (Some (Row row)) = Some (Row (capped_row row))
capped_line (Some (End count)) = Some (End (capped_value count))

-- 2. What lines without a fault spell so far: nothing, a table that may get more rows, or a whole table.

-- What a file holds: a tree; or a forest, and the number of sources that the first line tells.
pub data Content : Type 0 where
  OfTree : TreeTable → Content
  OfForest : (sources : ℕ) → ForestTable → Content

-- How far the rows have come: whether they are those of a forest, the number of vertices, the last vertex, and how many they are.
abbrev pub place : Content → RowProgress
place (OfTree t) = record { rooted = false; n = t.n; last = last_vertex t.rows; rows = length t.rows }
place (OfForest sources f) = record { rooted = true; n = f.n; last = last_rooted f.rows; rows = length f.rows }

-- This is what the first line begins: a tree with this source, or a forest with this number of sources.
abbrev pub begin : (near : Bool) → (n second : ℕ) → Content
begin false n second = OfTree (record { n = n; source = second; rows = [] })
begin true n second = OfForest second (record { n = n; rows = [] })

-- This is the content with one more row.
abbrev pub add : Content → RowNumbers → Content
add (OfTree t) row = OfTree (with_row t row.vertex row.dist row.pred)
add (OfForest sources f) row = OfForest sources (with_rooted_row f row.vertex row.dist row.pred (unwrap_or row.root 0))

-- This is what is spelled after one more line.
abbrev pub next : Spelled Content → Option Line → Spelled Content
next Nothing (Some (Problem near n second)) = Open (begin near n second)
next (Open t) (Some (Row row)) = Open (add t row)
next (Open t) (Some (End count)) = Whole t
next spelled line = spelled

-- This is what more lines spell, behind others that spelled this.
abbrev pub spelled_from : Spelled Content → List (List ℕ) → Spelled Content
spelled_from spelled [] = spelled
spelled_from spelled (line ∷ more) = spelled_from (next spelled (line_in line)) more

-- This is what lines have spelled so far.
abbrev pub spelling_state : List (List ℕ) → Spelled Content
spelling_state lines = spelled_from Nothing lines

-- 3. The fault of a line.

-- A number out of its range is reported by the letter of its field.
abbrev pub in_range : (letter least most n : ℕ) → (later : Option Kind) → Option Kind
in_range letter least most n later = if nat_le least n && nat_le n most then later else Some (OutOfRange letter)

-- These are the letter and the least value of the second number: that of the source S of a tree, or of the number of sources K.
abbrev pub second_range : (near : Bool) → ℕ × ℕ
second_range false = (83, 1)
second_range true = (75, 0)

-- N is up to the greatest vertex, S or K up to N.
abbrev pub problem_fault : (P : ℕ) → (near : Bool) → (n second : ℕ) → Option Kind
problem_fault P near n second = in_range 78 1 (max_pred P) n (in_range (second_range near).0 (second_range near).1 n second None)

-- The root is a vertex.
abbrev pub root_fault : (n : ℕ) → Option ℕ → Option Kind
root_fault n None = None
root_fault n (Some root) = in_range 83 1 n root None

-- V is above the vertex before and up to N, D up to the greatest distance, P up to N, and S a vertex.
abbrev pub row_fault : (P : ℕ) → RowProgress → RowNumbers → Option Kind
row_fault P at row = in_range 86 (at.last + 1) at.n row.vertex (in_range 68 0 (max_dist P) row.dist (in_range 80 0 at.n row.pred (root_fault at.n row.root)))

-- This is the fault of a line, given what the lines before it spell, and whether `p near` and `p spt` may begin the file. A line of
-- the other kind of file is bad. R is the number of rows.
abbrev pub fault : (P : ℕ) → (begins : Bool → Bool) → Spelled Content → Option Line → Option Kind
fault P begins (Whole t) line = Some TooMany
fault P begins Nothing None = Some BadLine
fault P begins (Open t) None = Some BadLine
fault P begins Nothing (Some (Problem near n second)) = if begins near then problem_fault P near n second else Some BadLine
fault P begins Nothing (Some (Row row)) = if not (beq (is_some row.root) (begins false)) then Some NoProblem else Some BadLine
fault P begins Nothing (Some (End count)) = Some NoProblem
fault P begins (Open t) (Some (Problem near n second)) = if beq near (place t).rooted then Some SecondProblem else Some BadLine
fault P begins (Open t) (Some (Row row)) = if beq (is_some row.root) (place t).rooted then row_fault P (place t) row else Some BadLine
fault P begins (Open t) (Some (End count)) = in_range 82 (place t).rows (place t).rows count None

-- 4. The rules of the file. Each line has its LF, and nothing may follow a whole table.

-- A whole table was spelled.
abbrev pub is_whole : {T : Type 0} → Spelled T → Bool
is_whole Nothing = false
is_whole (Open t) = false
is_whole (Whole t) = true

-- This is what is missing when the lines end: a problem line, or rows.
abbrev pub missing_of : {T : Type 0} → Spelled T → Option Kind
missing_of Nothing = Some NoProblem
missing_of (Open t) = Some TooFew
missing_of (Whole t) = None

-- The value of a row line needs memory.
abbrev pub is_row : Option Line → Bool
is_row (Some (Row row)) = true
is_row line = false

-- These are the rules of a file that may begin so.
abbrev pub judge : (P : ℕ) → (begins : Bool → Bool) → Judge
judge P begins = record {
  closed = λ lines. is_whole (spelling_state lines);
  fault = λ before line. fault P begins (spelling_state before) (line_in line);
  missing = λ lines. missing_of (spelling_state lines);
  is_item = λ line. is_row (line_in line);
  needs_lf = true;
}

-- These are the rules of a tree's file.
abbrev pub tree_judge : (P : ℕ) → Judge
tree_judge P = judge P not

-- These are the rules of a forest's file.
abbrev pub forest_judge : (P : ℕ) → Judge
forest_judge P = judge P (λ near. near)
