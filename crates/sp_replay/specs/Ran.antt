-- The words that a programme's offers leave, as those of a run of the step machine.
use Rattle.std.specs.Prelude.{ℕ, List}
use Rattle.sp_word.specs.Word.{Word}
use Rattle.sp_machine.specs.Programme.{Programme}
use Rattle.sp_offer.specs.Order.{lawful}
use Rattle.sp_offer.specs.Story.{Knowledge}
use Rattle.sp_offer.specs.Ending.{IsEnd}
use Rattle.sp_replay.specs.CallerRuns.{IsRunOf}
use Rattle.sp_replay.specs.Least.{IsOffered}

-- Callers whose offers are the programme's left the words at a table, and what they did there, step by step, is a run of
-- the machine that ends in these words.
pub record AreLeftByRun {P : ℕ} (p : Programme P) (words : List Word) : Type 0 where
  pub caller : Knowledge
  pub end : IsEnd (lawful P (IsOffered p)) caller words
  pub run : IsRunOf P (lawful P (IsOffered p)) caller words end
