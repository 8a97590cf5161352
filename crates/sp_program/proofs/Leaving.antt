-- What a run leaves: where memory is refused before the words are obeyed, where they can't be read, and where they are obeyed.
use Rattle.std.proofs.Common.{◌≡◌, ◌⊎◌, ℕ, List, [], Option, Some, None, Result, Ok, Err, refl, sym, subst, inl, inr, arith}
use Rattle.std.proofs.lemmas.List.{append-nil}
use Rattle.std.specs.Io.KnownBytes.{Appends}
use Rattle.sp_device.specs.declared.devices.Write.{Ghosts as Writer}
use Rattle.sp_command.specs.declared.faults.Fault.{Fault}
use Rattle.sp_command.specs.declared.faults.Fault.TheVariants.{Memory}
use Rattle.sp_command.specs.Lines.{IsLineWritten, IsWritten}
use Rattle.sp_command.specs.Outputs.{IsBlank, OutputFiles}
use Rattle.sp_command.specs.Scene.{Files, Scene, IsUnwritten, scene}
use Rattle.sp_disk.specs.Found.{Tells}
use Rattle.sp_order.specs.Orders.{Obeying}
use Rattle.sp_order.specs.Told.{BreaksOff, IsFaultTold}
use Rattle.sp_program.specs.Ran.{IsCarriedBy, IsRun, RanOn, unread_text}

-- A fault's line is told where it was written, or the writer has failed at it.
pub line_is_told : {E T X : Type 0} (e : Writer E) (why : Fault) (old : E) (result : Result T X) (new : E) → IsLineWritten e why old result new → IsFaultTold e why old new
line_is_told e why old (Ok done) new wrote line known = inl ([], subst (λ t. Appends (e.written old) (e.written new) t) (sym (append-nil line)) (wrote line known))
line_is_told e why old (Err fault) new wrote line known = inr (wrote line known)

-- The same of any text.
pub text_is_told : {E T X : Type 0} (e : Writer E) (text : List ℕ) (old : E) (result : Result T X) (new : E) → IsWritten e text old result new → Appends (e.written old) (e.written new) text ⊎ BreaksOff e text old new
text_is_told e text old (Ok done) new wrote = inl wrote
text_is_told e text old (Err fault) new wrote = inr wrote

-- Whatever the words are, they are obeyed like this where memory is refused.
pub memory_is_carried : {Command Text E : Type 0} {by : Obeying Command Text} {words : List (List ℕ)} {s : Scene} {outputs : OutputFiles} {e : Writer E} {err_old err_new : E} {code : ℕ} → IsUnwritten s → code ≡ 5 → IsFaultTold e Memory err_old err_new → IsCarriedBy by words s outputs outputs e err_old err_new code
memory_is_carried unwritten status told = record { answered = (Err Memory, inr (tt, unwritten, refl), status, inl told) }

-- Words with the same texts are obeyed the same.
pub carried_as : {Command Text E : Type 0} {by : Obeying Command Text} {words others : List (List ℕ)} {s : Scene} {old new : OutputFiles} {e : Writer E} {err_old err_new : E} {code : ℕ} → words ≡ others → IsCarriedBy by words s old new e err_old err_new code → IsCarriedBy by others s old new e err_old err_new code
carried_as {Command} {Text} {E} {by} {words} {others} {s} {old} {new} {e} {err_old} {err_new} {code} same carried = subst (λ (all : List (List ℕ)). IsCarriedBy by all s old new e err_old err_new code) same carried

-- ## From what the system says of the words to what a run leaves

pub given_is_run : {Command Text E : Type 0} {by : Obeying Command Text} {given : Option (List (List ℕ))} {words : List (List ℕ)} {s : Scene} {old new : OutputFiles} {e : Writer E} {err_old err_new : E} {code : ℕ} → Tells given words → IsCarriedBy by words s old new e err_old err_new code → IsRun by given s old new e err_old err_new code
given_is_run {Command} {Text} {E} {by} {given} {words} told carried = inl (record { words = words; told = told; carried = carried })

-- These are the words if they are known, and else any.
told_words : (given : Option (List (List ℕ))) → (words : List (List ℕ)) × Tells given words
told_words None = ([], λ told is. grind (arith, is))
told_words (Some words) = (words, λ told is. grind (arith, is))

pub memory_is_run : {Command Text E : Type 0} {by : Obeying Command Text} {given : Option (List (List ℕ))} {s : Scene} {outputs : OutputFiles} {e : Writer E} {err_old err_new : E} {code : ℕ} → IsUnwritten s → code ≡ 5 → IsFaultTold e Memory err_old err_new → IsRun by given s outputs outputs e err_old err_new code
memory_is_run {Command} {Text} {E} {by} {given} unwritten status told = let some = told_words given in given_is_run some.1 (memory_is_carried unwritten status told)

pub unread_is_run : {Command Text E : Type 0} {by : Obeying Command Text} {given : Option (List (List ℕ))} {s : Scene} {outputs : OutputFiles} {e : Writer E} {err_old err_new : E} {code : ℕ} → given ≡ None → IsUnwritten s → code ≡ 1 → Appends (e.written err_old) (e.written err_new) unread_text ⊎ BreaksOff e unread_text err_old err_new → IsRun by given s outputs outputs e err_old err_new code
unread_is_run unknown unwritten status told = inr (record { unknown = unknown; unwritten = unwritten; unkept = refl; told = told; status = status })

pub ran_on : {Command Text W E : Type 0} (by : Obeying Command Text) (given : Option (List (List ℕ))) (files : Files) (old new : OutputFiles) (w : Writer W) (e : Writer E) (out_before out : W) (err_before err : E) (code : ℕ)
    → IsBlank (w.written out_before) → IsBlank (e.written err_before) → IsRun by given (scene files (w.written out_before) (w.written out) (w.has_failed out)) old new e err_before err code → RanOn by given files old new w e out err code
ran_on by given files old new w e out_before out err_before err code out_blank err_blank ran = record { out_before = out_before; err_before = err_before; out_blank = out_blank; err_blank = err_blank; ran = ran }
