-- What a run that has come to its end is reported to be.
use Rattle.std.proofs.Common.{◌≡◌, ◌∙◌, ℕ, ◌-◌, ◌*◌, ◌≤◌, Bool, List, length, drop, map, sym, ap, subst, Vec, Global}
use Rattle.std.proofs.lemmas.List.{at_drop_all, get_or-map, length-map}
use Rattle.std.proofs.lemmas.List.Elements.{All-map}
use Rattle.std.specs.Prelude.{All, IsTrue, ◌↔◌}
use Rattle.sp_word.specs.Word.{Word, max_dist}
use Rattle.sp_machine.specs.declared.item.Item.{Item}
use Rattle.sp_machine.specs.declared.effect.Relaxation.{Relaxation}
use Rattle.sp_machine.specs.declared.log.Log.{Log}
use Rattle.sp_machine.specs.declared.report.Report.{Report}
use Rattle.sp_paths.specs.Paths.{word_at, EndsInTree}
use Rattle.sp_machine.specs.Programme.{Programme, IsProgramme, IsNumber, opening_words}
use Rattle.sp_machine.specs.Step.{Machine}
use Rattle.sp_machine.specs.Run.{RunState, run_from, run_of, IsItemClosed, IsClosed}
use Rattle.sp_machine.specs.LogView.{log_of}
use Rattle.sp_machine.specs.Linear.{IsLinear}
use Rattle.sp_machine.specs.Relaxing.{graph_of, RelaxesFrom}
use Rattle.sp_machine.specs.ReportOf.{IsReportOf}
use Rattle.sp_machine.proofs.ClosedRuns.{closed_run_ends_in_tree}
use Rattle.sp_machine.proofs.RunSteps.{run_is_linear}
use Rattle.sp_machine.proofs.LostExchanges.{losses_are_few}

-- no step is left
pub whole_run : {P : ℕ} (r : RunState P) (p : Programme P) (schedule : List ℕ) (i : ℕ) → run_from r (drop i schedule) ≡ run_of p schedule → length schedule ≤ i → r ≡ run_of p schedule
whole_run r p schedule i rest past = sym (at_drop_all (λ more. run_from r more) schedule i past) ∙ rest

All-unmap : {X Y : Type 0} (F : Y → Type 0) (f : X → Y) (xs : List X) → All F (map f xs) → All (λ x. F (f x)) xs
All-unmap F f xs all k d within = subst F (get_or-map f xs k d (f d) within) (all k (f d) (simp length-map within))

-- closed by the rows of the code is closed by the programme's
closed_rows : {P : ℕ} (p : Programme P) (words : List Word) (relaxed : List Relaxation) (rows : List (Vec (Item P) Global)) (closed : Bool) → map (λ row. row.items) rows ≡ p.rows
    → IsTrue closed ↔ All (λ row. All (IsItemClosed words relaxed) row.items) rows → IsTrue closed ↔ IsClosed p words relaxed
closed_rows {P = P} p words relaxed rows closed rows_are is = (
  λ holds. subst (λ (them : List (List (Item P))). All (λ row. All (IsItemClosed words relaxed) row) them) rows_are (All-map (λ row. All (IsItemClosed words relaxed) row) (λ row. row.items) rows (is.0 holds)),
  λ all. is.1 (All-unmap (λ row. All (IsItemClosed words relaxed) row) (λ row. row.items) rows (subst (λ (them : List (List (Item P))). All (λ row. All (IsItemClosed words relaxed) row) them) (sym rows_are) all)),
)

pub reported : {P : ℕ} (p : Programme P) (schedule : List ℕ) (machine : Machine P) (log : Log P) (words : Vec Word Global) (rows : List (Vec (Item P) Global)) (closed : Bool)
    → record { machine = machine; log = log_of log } ≡ run_of p schedule → words.items ≡ machine.words → map (λ row. row.items) rows ≡ p.rows
    → IsTrue closed ↔ All (λ row. All (IsItemClosed machine.words log.relaxed.items) row.items) rows
    → IsReportOf p schedule (record { calls = log.calls; words = words; wins = log.wins; losses = log.losses; closed = closed })
reported {P = P} p schedule machine log words rows closed ran words_are rows_are is = record {
  calls = ap (λ r. r.log.calls) ran;
  words = words_are ∙ ap (λ r. r.machine.words) ran;
  wins = ap (λ r. r.log.wins) ran;
  losses = ap (λ r. r.log.losses) ran;
  closed = subst (λ (r : RunState P). IsTrue closed ↔ IsClosed p r.machine.words r.log.relaxed) ran (closed_rows p machine.words log.relaxed.items rows closed rows_are is);
}

pub linear : {P : ℕ} (p : Programme P) (schedule : List ℕ) (machine : Machine P) (log : Log P) (words : List Word) → IsProgramme p → All (IsNumber p.actors) schedule
    → record { machine = machine; log = log_of log } ≡ run_of p schedule → words ≡ machine.words
    → IsLinear p.words (word_at (opening_words p)) log.calls.items (word_at words)
linear {P = P} p schedule machine log words programme numbers ran words_are =
    subst (λ (end : List Word). IsLinear p.words (word_at (opening_words p)) log.calls.items (word_at end)) (sym words_are)
    (subst (λ (r : RunState P). IsLinear p.words (word_at (opening_words p)) r.log.calls (word_at r.machine.words)) (sym ran) (run_is_linear P p schedule programme numbers))

pub few_losses : {P : ℕ} (p : Programme P) (schedule : List ℕ) (machine : Machine P) (log : Log P) → IsProgramme p → All (IsNumber p.actors) schedule
    → record { machine = machine; log = log_of log } ≡ run_of p schedule → log.losses ≤ (p.actors - 1) * log.wins
few_losses {P = P} p schedule machine log programme numbers ran =
    subst (λ (r : RunState P). r.log.losses ≤ (p.actors - 1) * r.log.wins) (sym ran) (losses_are_few P p schedule programme numbers)

-- a report that tells a closed run tells the tree
pub tree : {P : ℕ} (p : Programme P) (schedule : List ℕ) (report : Report P) → IsProgramme p → All (IsNumber p.actors) schedule → IsReportOf p schedule report
    → (s : ℕ) → RelaxesFrom p s → IsTrue report.closed → EndsInTree (graph_of p) s (max_dist P) (word_at report.words.items)
tree {P = P} p schedule report programme numbers is s from closed =
    subst (λ (end : List Word). EndsInTree (graph_of p) s (max_dist P) (word_at end)) (sym is.words) (closed_run_ends_in_tree P p schedule s programme numbers from (is.closed.0 closed))
