-- Tasks that a leader makes of vertices while its caller learns.
use Rattle.std.proofs.Common.{◌≡◌, ℕ, List, [], ◌∷◌, ◌++◌, Some, refl, ◌∙◌, subst}
use Rattle.std.specs.Prelude.{All}
use Rattle.std.proofs.lemmas.List.Elements.{All-nil, All-cons, All-append}
use Rattle.sp_word.specs.Word.{Word, dist_of}
use Rattle.sp_paths.specs.Paths.{IsVertex}
use Rattle.sp_offer.specs.Story.{Knowledge, known_table}
use Rattle.sp_offer.proofs.Orders.{at_most-refl, at_most-trans}
use Rattle.sp_rounds.specs.declared.task.TaskKind.{TaskKind}
use Rattle.sp_rounds.specs.declared.task.Task.{Task}
use Rattle.sp_phase.specs.Stage.{Stage, Learns}
use Rattle.sp_phase.specs.Rounds.{IsDue}
use Rattle.sp_phase.specs.Lead.{Lead, GoesOn, MakesDue, lead_without_memory}
use Rattle.sp_phase.specs.Running.{Leads}
use Rattle.sp_run.proofs.LawfulWalks.{lawful_walk}
use Rattle.sp_phase.proofs.TaskMarks.{task_of}
use Rattle.sp_phase.proofs.KnownWords.{known_pair, dist_pair}

-- ## A leader goes on

learns_trans : (P : ℕ) (st : Stage) (a b c : Knowledge) → Learns P st a b → Learns P st b c → Learns P st a c
learns_trans P st a b c one two = record {
  table = two.table ∙ one.table;
  falls = λ v. at_most-trans (known_table c.story v) (known_table b.story v) (known_table a.story v) (two.falls v) (one.falls v);
  lawful = two.lawful;
}

pub goes_on : (P : ℕ) (a b c : Lead) → GoesOn P a b → GoesOn P b c → GoesOn P a c
goes_on P a b c one two = record {
  stage = two.stage ∙ one.stage;
  learns = learns_trans P a.stage a.caller b.caller c.caller one.learns (subst (λ s. Learns P s b.caller c.caller) one.stage two.learns);
}

-- ## Tasks

pub due_none : (P : ℕ) (l l' : Lead) → GoesOn P l l' → MakesDue P [] l l'
due_none P l l' goes = record { goes = goes; due = All-nil (IsDue P l.stage) }

-- what is remembered is handed out first
pub due_first : (P : ℕ) (l : Lead) → Leads P l.stage l → MakesDue P [] l l × MakesDue P [] l (lead_without_memory l)
due_first P l led =
    let learns : Learns P l.stage l.caller l.caller = record { table = refl; falls = λ v. at_most-refl (known_table l.caller.story v); lawful = led.holds.running.lawful } in
    (due_none P l l (record { stage = refl; learns = learns }), due_none P l (lead_without_memory l) (record { stage = refl; learns = learns }))

pub due_more : (P : ℕ) (a b c : Lead) (ts us : List Task) → MakesDue P ts a b → MakesDue P us b c → MakesDue P (ts ++ us) a c
due_more P a b c ts us one two = record {
  goes = goes_on P a b c one.goes two.goes;
  due = All-append (IsDue P a.stage) ts us one.due (subst (λ s. All (IsDue P s) us) one.goes.stage two.due);
}

-- a vertex at the distance that was read is due
pub due_one : (P v d : ℕ) (w : Word) (kind : TaskKind) (l l' : Lead) → GoesOn P l l' → IsVertex l.stage.graph.n v → known_table l'.caller.story v ≡ w → dist_of w ≡ Some d
    → MakesDue P (task_of kind v d ∷ []) l l'
due_one P v d w kind l l' goes at read is =
    let st = l.stage in
    let pair = dist_pair w d is in
    let told = known_pair P st v (known_table l'.caller.story v) d pair.0 (goes.learns.lawful v) (read ∙ pair.1) in
    record { goes = goes; due = All-cons (IsDue P st) (task_of kind v d) [] (at, told.1, lawful_walk st.graph st.source v d pair.0 told.0) (All-nil (IsDue P st)) }
