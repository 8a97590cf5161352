-- The answer of `check` where the layout has the limit that the command line gives.
use Rattle.std.proofs.Common.{◌≡◌, ℕ, List, Option, Result, IfOk, subst}
use Rattle.sp_command.specs.declared.faults.Fault.{Fault}
use Rattle.sp_command.specs.declared.faults.Status.{Status}
use Rattle.sp_command.specs.Scene.{Scene}
use Rattle.sp_options.specs.Within.{IsLimit}
use Rattle.sp_tools.specs.declared.check.CheckCommand.{CheckCommand}
use Rattle.sp_tools.specs.CheckAnswers.{GiveTexts, SaysOf, SaysOfSome, IsCheckAnswer}

module _ (P : ℕ) (c : CheckCommand) (limit : Option ℕ) (s : Scene) (result : Result Status Fault) (is : limit ≡ c.within.limit) (low : IsLimit P c.within.limit) where
  -- of the only block, or of each
  pub says_of : ((gr tree : List ℕ) → GiveTexts s.files.text c gr tree → SaysOf P c.direction c.all limit gr tree s result) → IfOk result (SaysOfSome P c.direction c.all limit s) → IsCheckAnswer P c s result
  says_of told some = record {
    no_limit = λ none. absurd (none low);
    told = λ low' gr tree texts. subst (λ l. SaysOf P c.direction c.all l gr tree s result) is (told gr tree texts);
    of_some = subst (λ l. IfOk result (SaysOfSome P c.direction c.all l s)) is some;
  }
