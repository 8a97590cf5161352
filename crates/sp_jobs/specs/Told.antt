-- What is due for sources, and what is written for them.
use Rattle.std.specs.Prelude.{◌≡◌, ◌+◌, ◌<◌, ◌≤◌, ◌^◌, ℕ, true, List, [], ◌∷◌, ◌++◌, sum_by, Option, Result, Ok, Err}
use Rattle.std.specs.List.{flat_map}
use Rattle.std.specs.Io.KnownBytes.{Appends}
use Rattle.sp_device.specs.declared.devices.Write.{Ghosts as Writer}
use Rattle.sp_device.specs.Devices.{IsBegun}
use Rattle.sp_jobs.specs.declared.answers.Summary.{Summary}
use Rattle.sp_jobs.specs.declared.answers.BatchError.{BatchError}
use Rattle.sp_jobs.specs.declared.answers.BatchError.TheVariants.{Memory, Write}
use Rattle.sp_jobs.specs.Answers.{IsCount}

-- ## Answers

-- what is written for a source: so many answers, so many of them of a vertex that is too far, and their text
pub record WrittenAnswer : Type 0 where
  pub count : ℕ
  pub far : ℕ
  pub text : List ℕ

-- How many answers it counts.
abbrev pub count_of : WrittenAnswer → ℕ
count_of told = told.count

-- How many of these answers are a vertex that is too far.
abbrev pub far_of : WrittenAnswer → ℕ
far_of told = told.far

-- The text that it writes.
abbrev pub text_of : WrittenAnswer → List ℕ
text_of told = told.text

-- This is an answer to the source, and it has no more parts than a list may have.
pub record IsDue (Answers : ℕ → WrittenAnswer → Type 0) (s : ℕ) (told : WrittenAnswer) : Type 0 where
  pub answers : Answers s told
  pub few : told.count ≤ 1048576
  pub far : told.far ≤ told.count

-- answers to a list of sources, in its order
abbrev pub AreDue : (ℕ → WrittenAnswer → Type 0) → List ℕ → List WrittenAnswer → Type 0
AreDue Answers [] [] = Unit {0}
AreDue Answers [] (told ∷ more) = ⊥
AreDue Answers (s ∷ sources) [] = ⊥
AreDue Answers (s ∷ sources) (told ∷ more) = IsDue Answers s told × AreDue Answers sources more

-- the texts of answers, joined with nothing between
abbrev pub told_text : List WrittenAnswer → List ℕ
told_text all = flat_map text_of all

-- The summary of all these answers.
abbrev pub IsSummary : List WrittenAnswer → Summary → Type 0
IsSummary all summary = IsCount (sum_by count_of all) (sum_by far_of all) (told_text all) summary

-- ## Answers written

-- Exactly the text of the answers was written, and it was counted.
pub record IsWritten {W : Type 0} (device : Writer W) (all : List WrittenAnswer) (old : W) (summary : Summary) (new : W) : Type 0 where
  pub wrote : Appends (device.written old) (device.written new) (told_text all)
  pub counted : IsSummary all summary
  pub went : device.passed new ≡ device.passed old + summary.bytes
  pub small : 0 < summary.bytes → device.passed new ≤ 2 ^ 62

-- The answers were written; or the writer failed, and a beginning of their text stands.
abbrev pub AreWritten : {W : Type 0} → Writer W → List WrittenAnswer → W → Result Summary BatchError → W → Type 0
AreWritten device all old (Ok summary) new = IsWritten device all old summary new
AreWritten device all old (Err Write) new = IsBegun (told_text all) (device.written old) (device.written new) × (device.has_failed new ≡ true)
AreWritten device all old (Err e) new = ⊥

-- ## Sources answered

-- The sources were answered, and their answers written and counted.
pub record AreDone {W : Type 0} (Answers : ℕ → WrittenAnswer → Type 0) (sources : List ℕ) (device : Writer W) (old : W) (summary : Summary) (new : W) : Type 0 where
  pub all : List WrittenAnswer
  pub are : AreDue Answers sources all
  pub text : IsWritten device all old summary new

-- The first of the sources were answered, and of their text a beginning stands.
pub record HasBegunFirst (Answers : ℕ → WrittenAnswer → Type 0) (sources : List ℕ) (old new : Option (List ℕ)) : Type 0 where
  pub done : List ℕ
  pub later : List ℕ
  pub parts : sources ≡ done ++ later
  pub all : List WrittenAnswer
  pub are : AreDue Answers done all
  pub begun : IsBegun (told_text all) old new

-- The sources were answered; or memory was refused or the writer failed, and a beginning of the text of the first answers stands.
abbrev pub AreAllAnswered : {W : Type 0} → (ℕ → WrittenAnswer → Type 0) → List ℕ → Writer W → W → Result Summary BatchError → W → Type 0
AreAllAnswered Answers sources device old (Ok summary) new = AreDone Answers sources device old summary new
AreAllAnswered Answers sources device old (Err Memory) new = HasBegunFirst Answers sources (device.written old) (device.written new)
AreAllAnswered Answers sources device old (Err Write) new = HasBegunFirst Answers sources (device.written old) (device.written new) × (device.has_failed new ≡ true)
AreAllAnswered Answers sources device old (Err e) new = ⊥
