-- A fault of opening the files of `check` comes before anything is written.
use Rattle.std.proofs.Common.{◌≡◌, ◌≢◌, ◌⊎◌, ◌∙◌, false, inl, inr, sym, subst, refl, Some, Result, Err, IfErr, codes, rules}
use Rattle.sp_command.specs.declared.faults.FileKind.TheVariants as kind
use Rattle.sp_command.specs.declared.faults.Fault.{Fault}
use Rattle.sp_command.specs.declared.faults.Fault.TheVariants as fault
use Rattle.sp_command.specs.Scene.{Files}
use Rattle.sp_device.specs.Failing.{Failing}
use Rattle.sp_command.specs.Causes.{StaysClosed, StaysClosedAfter, IsPresent, MayBeRefused}
use Rattle.sp_tools.specs.declared.check.CheckCommand.{CheckCommand}
use Rattle.sp_tools.specs.CheckAnswers.{check_paths}
use Rattle.sp_tools.specs.Early.{IsEarly, IsOfFile}

apart : kind.Graph ≢ kind.Tree
apart = search rules

graph_present : (given : CheckCommand) (files : Files) → files.absent given.graph.now ≡ false → IsPresent (check_paths given) files kind.Graph
graph_present given files present path is = let same : given.graph.now ≡ path = search rules in subst (λ p. files.absent p ≡ false) same present

pub opened_early : (own : Fault → Type 0) (given : CheckCommand) (files : Files) (why : Fault)
    → (why ≡ fault.InputTwice → (given.graph.now ≡ codes "-") × (given.tree.now ≡ codes "-"))
    → (why ≡ fault.InputTwice) ⊎ (StaysClosed files kind.Graph given.graph.now why ⊎ StaysClosedAfter files given.graph.now kind.Tree given.tree.now why)
    → IsEarly (check_paths given) own files why
opened_early own given files why once (inl is) =
    subst (λ x. IsEarly (check_paths given) own files x) (sym is) (kind.Graph, kind.Tree, apart, subst (λ x. Some given.graph.now ≡ Some x) (once is).0 refl, subst (λ x. Some given.tree.now ≡ Some x) (once is).1 refl)
opened_early own given files why once (inr (inl (is, closed))) =
    subst (λ x. IsEarly (check_paths given) own files x) (sym is) (given.graph.now, refl, closed, tt)
opened_early own given files why once (inr (inr ((is, closed), present))) =
    subst (λ x. IsEarly (check_paths given) own files x) (sym is) (given.tree.now, refl, closed, (graph_present given files present, tt))

-- The same of an answer that tells the fault.
pub early_answer : {T : Type 0} (own : Fault → Type 0) (given : CheckCommand) (files : Files) (why : Fault) (result : Result T Fault) → result ≡ Err why
    → (why ≡ fault.InputTwice → (given.graph.now ≡ codes "-") × (given.tree.now ≡ codes "-"))
    → (why ≡ fault.InputTwice) ⊎ (StaysClosed files kind.Graph given.graph.now why ⊎ StaysClosedAfter files given.graph.now kind.Tree given.tree.now why)
    → IfErr result (IsEarly (check_paths given) own files)
early_answer own given files why result is once closed = subst (λ r. IfErr r (IsEarly (check_paths given) own files)) (sym is) (opened_early own given files why once closed)

-- A fault of the trees comes before anything is written.
pub of_trees_early : (own : Fault → Type 0) (given : CheckCommand) (files : Files) (failing : Failing) → failing ≡ files.failing given.tree.now → (why : Fault) → IsOfFile kind.Tree failing why → IsEarly (check_paths given) own files why
of_trees_early own given files failing fails (fault.Input k e) (is, may) = subst (λ file. MayBeRefused (check_paths given) files file e) (sym is) (given.tree.now, refl, λ read never. may read (fails ∙ never))
of_trees_early own given files failing fails fault.Memory is = tt
of_trees_early own given files failing fails (fault.Usage e) is = absurd is
of_trees_early own given files failing fails fault.DeltaOutOfRange is = absurd is
of_trees_early own given files failing fails fault.LimitOutOfRange is = absurd is
of_trees_early own given files failing fails fault.InputTwice is = absurd is
of_trees_early own given files failing fails fault.NoPlaces is = absurd is
of_trees_early own given files failing fails (fault.OutputIsInput role) is = absurd is
of_trees_early own given files failing fails (fault.CannotOpen file) is = absurd is
of_trees_early own given files failing fails (fault.Packed e) is = absurd is
of_trees_early own given files failing fails (fault.NoSuchVertex v file) is = absurd is
of_trees_early own given files failing fails fault.TooManySteps is = absurd is
of_trees_early own given files failing fails fault.ToTerminal is = absurd is
of_trees_early own given files failing fails fault.WriteFailed is = absurd is
of_trees_early own given files failing fails fault.CannotWrite is = absurd is
