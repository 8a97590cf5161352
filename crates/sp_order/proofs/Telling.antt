-- What is left on standard error by a fault's line, and by what comes behind it.
use Rattle.std.proofs.Common.{◌≡◌, [], Result, Ok, Err, IsOk, IsErr, refl, sym, subst, inl, inr}
use Rattle.std.proofs.lemmas.List.{append-nil}
use Rattle.std.specs.Io.KnownBytes.{Appends}
use Rattle.std.proofs.lemmas.Bool.{false≢true}
use Rattle.std.proofs.KnownBytes.{Appends-trans}
use Rattle.sp_device.specs.declared.devices.Write.{Ghosts as Writer}
use Rattle.sp_command.specs.declared.faults.Fault.{Fault}
use Rattle.sp_command.specs.declared.faults.Fault.TheVariants.{WriteFailed}
use Rattle.sp_command.specs.declared.hints.Hint.{Hint}
use Rattle.sp_command.specs.Lines.{IsLineWritten, MayAppend}
use Rattle.sp_order.specs.declared.hints.Telling.{Telling}
use Rattle.sp_order.specs.declared.hints.Telling.TheVariants.{Nothing, Line, Lines}
use Rattle.sp_order.specs.Told.{Tells, IsLineTold, IsFaultTold, IsTold}

line_told : {E T X : Type 0} (e : Writer E) (why : Fault) (old : E) (result : Result T X) (new : E) → IsLineWritten e why old result new → IsLineTold e why old new
line_told e why old (Ok done) new wrote line known = inl (wrote line known)
line_told e why old (Err fault) new wrote line known = inr (wrote line known)

-- The line alone is told.
pub alone : {E T X : Type 0} (e : Writer E) (telling : Telling) (why : Fault) (old : E) (result : Result T X) (new : E) → telling ≡ Line → IsLineWritten e why old result new → Tells e telling why old new
alone e telling why old result new is wrote = subst (λ some. Tells e some why old new) (sym is) (line_told e why old result new wrote)

pub more_told : {E T X : Type 0} (e : Writer E) (why : Fault) (old : E) (result : Result T X) (mid new : E) → IsOk result → IsLineWritten e why old result mid → MayAppend e mid new → IsFaultTold e why old new
more_told e why old (Ok done) mid new is wrote more line known = inl (more.0, Appends-trans (e.written old) (e.written mid) (e.written new) line more.0 (wrote line known) more.1)
more_told e why old (Err fault) mid new is wrote more line known = absurd (false≢true is)

pub cut_told : {E T X : Type 0} (e : Writer E) (why : Fault) (old : E) (result : Result T X) (new : E) → IsErr result → IsLineWritten e why old result new → IsFaultTold e why old new
cut_told e why old (Ok done) new is wrote line known = absurd (false≢true is)
cut_told e why old (Err fault) new is wrote line known = inr (wrote line known)

-- More than the line is told.
pub with_more : {E : Type 0} (e : Writer E) (telling : Telling) (hint : Hint) (why : Fault) (old new : E) → telling ≡ Lines hint → IsFaultTold e why old new → Tells e telling why old new
with_more e telling hint why old new is told = subst (λ some. Tells e some why old new) (sym is) told

-- Whatever the text about a fault says, the fault is told, unless the text is that nobody need be told.
pub told_by : {E : Type 0} (e : Writer E) (telling : Telling) (why : Fault) (old new : E) → (telling ≡ Nothing → why ≡ WriteFailed) → Tells e telling why old new → IsTold e (Err why) old new
told_by e Nothing why old new unread tells = inr (unread refl, tells)
told_by e Line why old new unread tells = inl (λ line known. elim (tells line known) [ inl whole ↦ inl ([], subst (λ t. Appends (e.written old) (e.written new) t) (sym (append-nil line)) whole) | inr cut ↦ inr cut ])
told_by e (Lines hint) why old new unread tells = inl tells
