-- The row of a source: what was found for its pairs with the targets, before it is written.
use Rattle.std.specs.Prelude.{◌≡◌, ◌≤◌, ℕ, Bool, List, length, map, All}
use Rattle.std.specs.List.{flat_map, count_by}
use Rattle.sp_paths.specs.Paths.{Graph, IsVertex, PairAnswer}
use Rattle.sp_answer.specs.declared.pair.PairAnswer.{PairAnswer as Found}
use Rattle.sp_answer.specs.Pair.{answer_of}
use Rattle.sp_jobs.specs.Ready.{IsReady}
use Rattle.sp_jobs.specs.Told.{WrittenAnswer}
use Rattle.sp_files.specs.PairText.{pair_text}
use Rattle.sp_jobs.specs.PairAnswers.{word_kind, ArePairAnswers, pairs_text, is_too_far}
use Rattle.sp_jobs.specs.declared.row.Row.{Row}
use Rattle.sp_jobs.specs.Matrix.{pairs_from}

-- the targets of lines
abbrev pub targets_in : List (ℕ × Found) → List ℕ
targets_in lines = map (λ line. line.0) lines

-- the answers of lines
abbrev pub answers_in : List (ℕ × Found) → List PairAnswer
answers_in lines = map (λ line. answer_of line.1) lines

-- the text of a line of this source
abbrev pub line_text : (s : ℕ) → ℕ × Found → List ℕ
line_text s line = pair_text (s, line.0) (answer_of line.1)

-- The line has a vertex that is too far.
abbrev pub is_far_line : ℕ × Found → Bool
is_far_line line = is_too_far (answer_of line.1)

-- what a row tells
abbrev pub told_of_row : Row → WrittenAnswer
told_of_row row = record { count = length row.lines.items; far = count_by is_far_line row.lines.items; text = flat_map (line_text row.source) row.lines.items }

-- The lines are for these targets, in their order, and have the answers to their pairs with the source.
pub record AreLines (P : ℕ) (g : Graph) (s : ℕ) (targets : List ℕ) (lines : List (ℕ × Found)) : Type 0 where
  pub in_order : targets_in lines ≡ targets
  pub answers : ArePairAnswers word_kind P g (pairs_from s targets) (answers_in lines)

-- The row is the source's, with these targets.
pub record IsRow (P : ℕ) (g : Graph) (s : ℕ) (targets : List ℕ) (row : Row) : Type 0 where
  pub source : row.source ≡ s
  pub lines : AreLines P g s targets row.lines.items

-- what the answers to pairs tell
abbrev pub told_pairs : List (ℕ × ℕ) → List PairAnswer → WrittenAnswer
told_pairs pairs answers = record { count = length pairs; far = count_by is_too_far answers; text = pairs_text word_kind pairs answers }

-- The answers to the source's pairs with the targets tell that.
pub record IsRowTold (P : ℕ) (g : Graph) (targets : List ℕ) (s : ℕ) (told : WrittenAnswer) : Type 0 where
  pub answers : List PairAnswer
  pub are : ArePairAnswers word_kind P g (pairs_from s targets) answers
  pub tells : told ≡ told_pairs (pairs_from s targets) answers

-- The engine can run, source and targets are vertices, no more of them than a list may have, and the graph is within the limits of a run.
pub record CanFindRow (CanRun : Type 0) (P : ℕ) (g : Graph) (targets : List ℕ) (s : ℕ) : Type 0 where
  pub engine : CanRun
  pub ready : IsReady P g
  pub source : IsVertex g.n s
  pub vertices : All (IsVertex g.n) targets
  pub few : length targets ≤ 1048576
