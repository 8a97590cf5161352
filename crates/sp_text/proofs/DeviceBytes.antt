-- What was read of a device, where its bytes are known.
use Rattle.std.proofs.Common.{◌≡◌, ◌≢◌, ℕ, ◌⊎◌, Bool, true, false, List, [], ◌++◌, Option, Some, None, Result, Ok, Err, refl, ap, ◌∙◌, inl, inr}
use Rattle.std.specs.Prelude.{IfErr}
use Rattle.std.specs.Io.KnownBytes.{Consumes, IsAtEnd}
use Rattle.std.proofs.lemmas.List.{append-nil}
use Rattle.sp_device.specs.declared.devices.Read.{Ghosts as Reader}
use Rattle.sp_text.specs.declared.faults.Kind.TheVariants.{Memory, Read}
use Rattle.sp_text.specs.declared.faults.DimacsError.{DimacsError}
use Rattle.sp_text.specs.Lines.{lines}
use Rattle.sp_text.specs.First.{Judge, IsSilent, fault_at_failure, fault_at_end}
use Rattle.sp_text.specs.Feeding.{Refused, IsMemory, IsToldOf}
use Rattle.sp_text.specs.Whole.{AllRead, ReadOn}
use Rattle.sp_text.proofs.Silent.{early_silent, told_silent}

memory_silent : (judge : Judge) (before all : List (List ℕ)) (e : DimacsError) → IsMemory judge before all e → e.kind ≢ Read
memory_silent judge before all e h is = let k : e.kind ≡ Memory = h.kind in cc

kind_told : (judge : Judge) (text : List ℕ) (at_end failure : Type 0) (has_failed : Bool) (e : DimacsError) → IsSilent judge
    → Refused judge [] text e ⊎ (at_end × IsToldOf judge text e) ⊎ ((has_failed ≡ true) × failure) → e.kind ≡ Read → has_failed ≡ true
kind_told judge text at_end failure has_failed e silent (inl (inl is)) read = absurd (early_silent judge silent text e is read)
kind_told judge text at_end failure has_failed e silent (inl (inr memory)) read = absurd (memory_silent judge _ _ e memory read)
kind_told judge text at_end failure has_failed e silent (inr (inl (end, inl is))) read = absurd (told_silent judge silent text e is read)
kind_told judge text at_end failure has_failed e silent (inr (inl (end, inr memory))) read = absurd (memory_silent judge _ _ e memory read)
kind_told judge text at_end failure has_failed e silent (inr (inr (is, fault))) read = is

pub read_told : {R V : Type 0} (judge : Judge) (Spelled : List (List ℕ) → V → Type 0) (r : Reader R) (old : R) (result : Result V DimacsError) (new : R) → IsSilent judge → ReadOn judge Spelled r old result new
    → IfErr result (λ e. e.kind ≡ Read → r.has_failed new ≡ true)
read_told judge Spelled r old (Ok value) new silent h = tt
read_told judge Spelled r old (Err e) new silent (given, gone, fault) = kind_told judge given (IsAtEnd (r.left new)) (fault_at_failure judge given ≡ Some e) (r.has_failed new) e silent fault

-- A device that hasn't failed isn't told of.
pub never_read : {V : Type 0} (has_failed : Bool) (result : Result V DimacsError) → has_failed ≡ false → IfErr result (λ e. e.kind ≡ Read → has_failed ≡ true) → IfErr result (λ e. e.kind ≢ Read)
never_read has_failed (Ok value) going told = tt
never_read has_failed (Err e) going told = λ read. let failed = told read in cc

-- Where all bytes of the device are known.

all_told : (judge : Judge) (text : List ℕ) (old new : Option (List ℕ)) (has_failed : Bool) (e : DimacsError) → old ≡ Some text
    → (front : List ℕ) × Consumes old new front × (Refused judge [] front e ⊎ (IsAtEnd new × IsToldOf judge front e) ⊎ ((has_failed ≡ true) × (fault_at_failure judge front ≡ Some e)))
    → (front more : List ℕ) × (text ≡ front ++ more) × (new ≡ Some more) × (Refused judge [] front e ⊎ ((more ≡ []) × IsToldOf judge text e) ⊎ ((has_failed ≡ true) × (fault_at_failure judge front ≡ Some e)))
all_told judge text old None has_failed e is (came, consumed, why) = absurd (rw is at consumed)
all_told judge text old (Some left) has_failed e is (came, consumed, inl told) = (came, left, rw is at consumed, refl, inl told)
all_told judge text old (Some left) has_failed e is (came, consumed, inr (inl (end, told))) =
    let whole : text ≡ came ++ left = rw is at consumed in
    let all : text ≡ came = whole ∙ rw end (append-nil came) in
    (came, left, whole, refl, inr (inl (end, rw all told)))
all_told judge text old (Some left) has_failed e is (came, consumed, inr (inr failed)) = (came, left, rw is at consumed, refl, inr (inr failed))

all_spelled : (text : List ℕ) (old new : Option (List ℕ)) (Clean Holds : List ℕ → Type 0) → old ≡ Some text → (came : List ℕ) × Consumes old new came × IsAtEnd new × Clean came × Holds came → (new ≡ Some []) × Clean text × Holds text
all_spelled text old None Clean Holds is (came, consumed, end, clean, holds) = absurd (rw is at consumed)
all_spelled text old (Some left) Clean Holds is (came, consumed, end, clean, holds) =
    let whole : text ≡ came ++ left = rw is at consumed in
    let all : text ≡ came = whole ∙ rw end (append-nil came) in
    (ap (λ (t : List ℕ). Some t) end, rw all clean, rw all holds)

pub all_read : {R V : Type 0} (judge : Judge) (Spelled : List (List ℕ) → V → Type 0) (r : Reader R) (text : List ℕ) (old : R) (result : Result V DimacsError) (new : R) → r.left old ≡ Some text → ReadOn judge Spelled r old result new
    → AllRead judge Spelled text (r.left new) (r.has_failed new) result
all_read judge Spelled r text old (Ok value) new is read = all_spelled text (r.left old) (r.left new) (λ t. fault_at_end judge t ≡ None) (λ t. Spelled (lines t) value) is read
all_read judge Spelled r text old (Err e) new is read = all_told judge text (r.left old) (r.left new) (r.has_failed new) e is read
