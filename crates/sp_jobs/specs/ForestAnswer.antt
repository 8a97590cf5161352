-- An answer that was found, and how it is written.
use Rattle.std.specs.Prelude.{◌≡◌, ℕ, true, Result, Ok, Err}
use Rattle.std.specs.Io.KnownBytes.{Appends}
use Rattle.sp_device.specs.declared.devices.Write.{Ghosts as Writer}
use Rattle.sp_device.specs.Devices.{IsBegun}
use Rattle.sp_jobs.specs.declared.answers.Summary.{Summary}
use Rattle.sp_jobs.specs.declared.answers.BatchError.{BatchError}
use Rattle.sp_jobs.specs.declared.answers.BatchError.TheVariants.{Write}
use Rattle.sp_jobs.specs.declared.forest_answer.NearestAnswer.{NearestAnswer}
use Rattle.sp_jobs.specs.declared.forest_answer.NearestAnswer.TheVariants.{Forest, TooFar}
use Rattle.sp_jobs.specs.Nearest.{ForestAnswer, ForestOf, FarFromAll, forest_answer_text, IsForestSummary}

-- the answer that it is
abbrev pub forest_answer_of : {P : ℕ} → NearestAnswer P → ForestAnswer
forest_answer_of (Forest f) = ForestOf f
forest_answer_of (TooFar vertex) = FarFromAll vertex

-- Exactly the text of the answer was written, and it was counted; or the writer failed, and a beginning of the text stands.
abbrev pub IsForestAnswerWritten : {W : Type 0} → Writer W → ForestAnswer → W → Result Summary BatchError → W → Type 0
IsForestAnswerWritten w answer old (Ok summary) new = Appends (w.written old) (w.written new) (forest_answer_text answer) × IsForestSummary answer summary
IsForestAnswerWritten w answer old (Err Write) new = IsBegun (forest_answer_text answer) (w.written old) (w.written new) × (w.has_failed new ≡ true)
IsForestAnswerWritten w answer old (Err e) new = ⊥
