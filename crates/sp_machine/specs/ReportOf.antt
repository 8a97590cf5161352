-- The report of a run.
use Rattle.std.specs.Prelude.{◌≡◌, ℕ, ◌-◌, ◌*◌, ◌≤◌, ◌↔◌, List, IsTrue}
use Rattle.sp_word.specs.Word.{max_dist}
use Rattle.sp_paths.specs.Paths.{word_at, EndsInTree}
use Rattle.sp_machine.specs.declared.report.Report.{Report}
use Rattle.sp_machine.specs.Programme.{Programme, opening_words}
use Rattle.sp_machine.specs.Linear.{IsLinear}
use Rattle.sp_machine.specs.Relaxing.{graph_of, RelaxesFrom}
use Rattle.sp_machine.specs.Run.{run_of, IsClosed}

-- The report is that of the programme's run with these steps.
pub record IsReportOf {P : ℕ} (p : Programme P) (schedule : List ℕ) (report : Report P) : Type 0 where
  pub calls : report.calls.items ≡ (run_of p schedule).log.calls
  pub words : report.words.items ≡ (run_of p schedule).machine.words
  pub wins : report.wins ≡ (run_of p schedule).log.wins
  pub losses : report.losses ≡ (run_of p schedule).log.losses
  pub closed : IsTrue report.closed ↔ IsClosed p (run_of p schedule).machine.words (run_of p schedule).log.relaxed

-- The calls of a report are those of a linear run from the opening words to the report's words.
abbrev pub IsOfLinearRun : {P : ℕ} → Programme P → Report P → Type 0
IsOfLinearRun p report = IsLinear p.words (word_at (opening_words p)) report.calls.items (word_at report.words.items)

-- If the items relax the arcs of a graph from a source and the run was closed, the words are the tree.
abbrev pub IsTreeIfClosed : {P : ℕ} → Programme P → Report P → Type 0
IsTreeIfClosed {P} p report = (s : ℕ) → RelaxesFrom p s → IsTrue report.closed → EndsInTree (graph_of p) s (max_dist P) (word_at report.words.items)

-- For each exchange that is won, each other actor loses at most one.
abbrev pub HasFewLosses : {P : ℕ} → Programme P → Report P → Type 0
HasFewLosses p report = report.losses ≤ (p.actors - 1) * report.wins
