-- The answer of `offers` to the text of its file.
use Rattle.std.specs.Prelude.{ℕ, Bool, List, Option, Some, None, Result, Err, IfOk}
use Rattle.sp_text.specs.declared.faults.DimacsError.{DimacsError}
use Rattle.sp_text.specs.Text.{ItemLine as Line, Spells}
use Rattle.sp_text.specs.Formats.{ranges_of}
use Rattle.sp_word.specs.Word.{Word}
use Rattle.sp_machine.specs.Programme.{Programme}
use Rattle.sp_replay.specs.ReplayFormat.{offers}
use Rattle.sp_replay.specs.Offers.{IsOffers, OffersRead}
use Rattle.sp_replay.specs.ReportText.{words_text}
use Rattle.sp_replay.specs.Least.{AreLeast}
use Rattle.sp_command.specs.declared.faults.Fault.{Fault}
use Rattle.sp_command.specs.declared.faults.Status.{Status}
use Rattle.sp_command.specs.declared.faults.Fault.TheVariants.{Input}
use Rattle.sp_command.specs.declared.faults.FileKind.TheVariants as kind
use Rattle.sp_command.specs.Scene.{Scene, HasText, Meaning}
use Rattle.sp_command.specs.Causes.{Paths}
use Rattle.sp_command.specs.Answers.{Told, Tells}
use Rattle.sp_tools.specs.declared.offers.OffersCommand.{OffersCommand}
use Rattle.sp_tools.specs.ReplayAnswers.{done}

-- The text has no fault, and spells this programme.
abbrev pub SpellsOffers : {P : ℕ} → (text : List ℕ) → Programme P → Type 0
SpellsOffers {P} text p = (problem : List ℕ) × (lines : List Line) × Spells offers (ranges_of P) text problem lines × IsOffers problem lines p

-- This is the answer of a reader to the text.
abbrev pub OffersIn : {P : ℕ} → (text : List ℕ) → Result (Programme P) DimacsError → Type 0
OffersIn text result = (left : Option (List ℕ)) × (failed : Bool) × OffersRead text left failed result

-- The text spells offers, and these words are the least of them for each vertex.
pub record AreLeft (P : ℕ) (text : List ℕ) (words : List Word) : Type 0 where
  pub programme : Programme P
  pub spelled : SpellsOffers text programme
  pub least : AreLeast programme words

-- This is the first fault of the text.
abbrev pub IsOffersRefused : (P : ℕ) → (text : List ℕ) → Fault → Type 0
IsOffersRefused P text (Input kind.Offers e) = OffersIn {P = P} text (Err e)
IsOffersRefused P text _ = ⊥

-- The final words were written, or a fault says why not.
abbrev pub TellsWords : (P : ℕ) → (text : List ℕ) → Scene → Result Status Fault → Type 0
TellsWords P text s result = Tells (AreLeft P text) words_text done (IsOffersRefused P text) s result

-- Some text spells offers, and exactly the text of the words that they leave was written.
abbrev pub TellsWordsOfSome : (P : ℕ) → Scene → Status → Type 0
TellsWordsOfSome P s status = (text : List ℕ) × Told (AreLeft P text) words_text done s status

-- The answer is the words that the offers of the file leave, where its text is known; and if it succeeds, whatever is
-- known of it, what belongs to some text.
pub record IsOffersAnswer (P : ℕ) (c : OffersCommand) (s : Scene) (result : Result Status Fault) : Type 0 where
  pub told : (text : List ℕ) → HasText s c.file.now text → TellsWords P text s result
  pub of_some : IfOk result (TellsWordsOfSome P s)

-- The meaning of the answer of `offers`.
abbrev pub OffersAnswers : (P : ℕ) → Meaning OffersCommand
OffersAnswers P c s result = IsOffersAnswer P c s result

-- This is the path of the command's file.
abbrev pub offers_paths : OffersCommand → Paths
offers_paths c kind.Offers = Some c.file.now
offers_paths c _ = None
