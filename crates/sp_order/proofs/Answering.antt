-- From an answer to what a whole run leaves.
use Rattle.std.proofs.Common.{◌≡◌, ◌≤◌, ℕ, true, List, Result, Ok, Err, IfOk, IfErr, MatchResult, refl, ap, ◌∙◌, subst, arith}
use Rattle.std.proofs.lemmas.Bool.{false≢true}
use Rattle.sp_device.specs.declared.devices.Write.{Ghosts as Writer}
use Rattle.sp_command.specs.declared.faults.Fault.{Fault}
use Rattle.sp_command.specs.declared.faults.Fault.TheVariants as fault
use Rattle.sp_command.specs.declared.faults.Fault.TheVariants.{WriteFailed}
use Rattle.sp_command.specs.declared.faults.Status.{Status}
use Rattle.sp_command.specs.declared.faults.Status.TheVariants as status
use Rattle.sp_command.specs.Faults.{code_of, is_done, is_early, status_of}
use Rattle.sp_command.specs.Outputs.{OutputFiles}
use Rattle.sp_command.specs.Scene.{Scene}
use Rattle.sp_order.specs.declared.hints.Refusal.{Refusal}
use Rattle.sp_order.specs.declared.hints.Telling.TheVariants.{Nothing}
use Rattle.sp_order.specs.Orders.{IsObeyed, Obeying}
use Rattle.sp_order.specs.Told.{EndsWith, IsAnswered}
use Rattle.sp_order.proofs.Telling.{told_by}

-- What was obeyed and told is answered.
pub answered : {Command Text E : Type 0} (by : Obeying Command Text) (words : List (List ℕ)) (s : Scene) (old new : OutputFiles) (e : Writer E) (err_old err_new : E) (answer : Result Status Refusal) (end : Status) (code : ℕ)
    → MatchResult answer (λ status. IsObeyed by words s old new (Ok status)) (λ refusal. IsObeyed by words s old new (Err refusal.fault)) → IfErr answer (λ refusal. refusal.telling ≡ Nothing → refusal.fault ≡ WriteFailed)
    → EndsWith e answer err_old err_new end → code ≡ code_of end → IsAnswered by words s old new e err_old err_new code
answered by words s old new e err_old err_new (Ok done) end code obeyed unread told is = (Ok done, obeyed, is ∙ ap code_of told.0, told.1)
answered by words s old new e err_old err_new (Err refusal) end code obeyed unread told is = (Err refusal.fault, obeyed, is ∙ ap code_of told.0, told_by e refusal.telling refusal.fault err_old err_new unread told.1)

done_apart : (end : Status) → is_done end ≡ true → 1 ≤ code_of end → code_of end ≤ 2 → ⊥
done_apart status.Done done some few = omega (arith, some)
done_apart status.Usage done some few = false≢true done
done_apart status.Refused done some few = false≢true done
done_apart status.CheckedNo done some few = omega (arith, few)
done_apart status.TooFar done some few = omega (arith, few)
done_apart status.Memory done some few = false≢true done
done_apart status.Failed done some few = false≢true done

-- A fault with status 1 or 2 comes early.
early : (why : Fault) → code_of (status_of why) ≤ 2 → is_early why ≡ true
early (fault.Usage error) few = refl
early fault.DeltaOutOfRange few = refl
early fault.LimitOutOfRange few = refl
early fault.InputTwice few = refl
early (fault.OutputIsInput file) few = refl
early fault.NoPlaces few = refl
early (fault.CannotOpen file) few = refl
early (fault.Input file error) few = refl
early (fault.Packed error) few = refl
early (fault.NoSuchVertex source kind) few = refl
early fault.TooManySteps few = refl
early fault.ToTerminal few = refl
early fault.Memory few = absurd (let no : ⊥ = omega (arith, few) in no)
early fault.WriteFailed few = absurd (let no : ⊥ = omega (arith, few) in no)
early fault.CannotWrite few = refl

-- Where the exit status is 1 or 2, nothing was written.
pub unwritten : {E X : Type 0} (e : Writer E) (err_old err_new : E) (out_old out_new : X) (answer : Result Status Refusal) (end : Status) (code : ℕ)
    → IfOk answer (λ status. is_done status ≡ true) → IfErr answer (λ refusal. is_early refusal.fault ≡ true → out_new ≡ out_old)
    → EndsWith e answer err_old err_new end → code ≡ code_of end → 1 ≤ code → code ≤ 2 → out_new ≡ out_old
unwritten e err_old err_new out_old out_new (Ok status) end code done same told is some few =
    let at : code ≡ code_of status = is ∙ ap code_of told.0 in absurd (done_apart status done (subst (λ n. 1 ≤ n) at some) (subst (λ n. n ≤ 2) at few))
unwritten e err_old err_new out_old out_new (Err refusal) end code done same told is some few =
    same (early refusal.fault (subst (λ n. n ≤ 2) (is ∙ ap code_of told.0) few))
