-- Answers written and counted, some sources after the others.
use Rattle.std.specs.Prelude.{◌≡◌, ◌+◌, ◌<◌, ◌≤◌, ◌^◌, ℕ, List, ◌++◌, length, map, Result, Ok, Err}
use Rattle.sp_device.specs.declared.devices.Write.{Ghosts as Writer}
use Rattle.sp_jobs.specs.declared.answers.Summary.{Summary}
use Rattle.sp_jobs.specs.declared.answers.BatchError.{BatchError}
use Rattle.sp_jobs.specs.declared.answering.Step.{Step}
use Rattle.sp_jobs.specs.Told.{WrittenAnswer, AreDue, AreWritten, AreDone, AreAllAnswered}

-- of no source
abbrev pub none : Summary
none = record { sources = 0; too_far = 0; bytes = 0 }

-- of some sources and of those behind them
abbrev pub sum_of : (first second : Summary) → Summary
sum_of first second = record {
  sources = first.sources + second.sources;
  too_far = first.too_far + second.too_far;
  bytes = first.bytes + second.bytes;
}

-- The sums fit 64 bits.
pub record Fits (first second : Summary) : Type 0 where
  pub sources : first.sources + second.sources < 2 ^ 64
  pub too_far : first.too_far + second.too_far < 2 ^ 64
  pub bytes : first.bytes + second.bytes < 2 ^ 64

-- They are answers to the sources, in their order.
abbrev pub AreFound : {F : Type 0} → (F → WrittenAnswer) → (ℕ → WrittenAnswer → Type 0) → (sources : List ℕ) → List F → Type 0
AreFound told Answers sources group = AreDue Answers sources (map told group)

-- They are answers to some sources, no more of them than a list may have.
pub record AreFew {F : Type 0} (told : F → WrittenAnswer) (Answers : ℕ → WrittenAnswer → Type 0) (group : List F) : Type 0 where
  pub sources : List ℕ
  pub short : length sources ≤ 1048576
  pub found : AreFound told Answers sources group

-- They were written.
abbrev pub IsGroupWritten : {F W : Type 0} → (F → WrittenAnswer) → Writer W → List F → W → Result Summary BatchError → W → Type 0
IsGroupWritten told device group old result new = AreWritten device (map told group) old result new

-- Of the sources the first were answered, and the answers to the others were found.
pub record IsStep {F W : Type 0} (told : F → WrittenAnswer) (Answers : ℕ → WrittenAnswer → Type 0) (sources : List ℕ) (device : Writer W) (old : W) (step : Step F) (new : W) : Type 0 where
  pub front : List ℕ
  pub back : List ℕ
  pub parts : sources ≡ front ++ back
  pub done : AreDone Answers front device old step.summary new
  pub found : AreFound told Answers back step.waiting.items

-- The same, or a refusal with a beginning of the answers' text.
abbrev pub IsStepped : {F W : Type 0} → (F → WrittenAnswer) → (ℕ → WrittenAnswer → Type 0) → (sources : List ℕ) → Writer W → W → Result (Step F) BatchError → W → Type 0
IsStepped told Answers sources device old (Ok step) new = IsStep told Answers sources device old step new
IsStepped told Answers sources device old (Err e) new = AreAllAnswered Answers sources device old (Err e) new

-- From sources of which the answers wait, and those behind them.
abbrev pub MovesOn : {F W : Type 0} → (F → WrittenAnswer) → (ℕ → WrittenAnswer → Type 0) → (waiting : List F) → (sources : List ℕ) → Writer W → W → Result (Step F) BatchError → W → Type 0
MovesOn told Answers waiting sources device old result new = (front : List ℕ) → AreFound told Answers front waiting → IsStepped told Answers (front ++ sources) device old result new
