-- The verdict of `check` on a tree or a forest, and its exit status.
use Rattle.std.specs.Prelude.{◌≡◌, ℕ, List, ◌++◌, codes, decimal, Option, None, Some, Result, Ok, Err}
use Rattle.sp_word.specs.Word.{max_dist}
use Rattle.sp_paths.specs.Paths.{Graph}
use Rattle.sp_answer.specs.Table.{TreeTable}
use Rattle.sp_cert.specs.Certificate.{IsCertified, IsCertifiedWithin}
use Rattle.sp_answer.specs.ForestTable.{ForestTable}
use Rattle.sp_files.specs.declared.either.TreeOrForest.{TreeOrForest}
use Rattle.sp_files.specs.declared.either.TreeOrForest.TheVariants.{Tree, Forest}
use Rattle.sp_cert.specs.declared.checking.CheckError.{CheckError}
use Rattle.sp_cert.specs.declared.checking.CheckError.TheVariants.{Fault, Memory}
use Rattle.sp_cert.specs.Claims.{claim_of_tree, claim_of_forest}
use Rattle.sp_cert.specs.Rules.{number_of, IsFirstFault, IsForestOf, IsCounted}
use Rattle.sp_command.specs.declared.faults.Status.{Status}
use Rattle.sp_command.specs.declared.faults.Status.TheVariants as status
use Rattle.sp_tools.specs.declared.check.Verdict.{Verdict}
use Rattle.sp_tools.specs.declared.check.Verdict.TheVariants.{Yes, No}

-- The tree is certified, within the limit if there is one.
abbrev pub IsRight : (P : ℕ) → (limit : Option ℕ) → Graph → TreeTable → Type 0
IsRight P None g t = IsCertified P g t
IsRight P (Some limit) g t = IsCertifiedWithin limit g t

-- The tree is certified, or this is its first fault.
abbrev pub IsVerdict : (P : ℕ) → (limit : Option ℕ) → Graph → TreeTable → Verdict → Type 0
IsVerdict P limit g t Yes = IsRight P limit g t
IsVerdict P limit g t (No v rule) = IsFirstFault g (max_dist P) (t.n ≡ g.n) (claim_of_tree t limit) v rule

-- The same of a forest, of which so many sources are counted.
abbrev pub IsForestVerdict : (P : ℕ) → (limit : Option ℕ) → Graph → ForestTable → (count : ℕ) → Verdict → Type 0
IsForestVerdict P limit g f count Yes = IsForestOf P g f count limit
IsForestVerdict P limit g f count (No v rule) = IsFirstFault g (max_dist P) (IsCounted g f count) (claim_of_forest f limit) v rule

-- The same of what a file holds.
abbrev pub IsVerdictOn : {P : ℕ} → (limit : Option ℕ) → Graph → TreeOrForest P → Verdict → Type 0
IsVerdictOn {P} limit g (Tree tree) verdict = IsVerdict P limit g tree verdict
IsVerdictOn {P} limit g (Forest file) verdict = IsForestVerdict P limit g file.forest file.sources verdict

-- This is the verdict that an answer of the checker tells.
abbrev pub IsVerdictOf : Result (Unit {0}) CheckError → Verdict → Type 0
IsVerdictOf (Ok done) verdict = verdict ≡ Yes
IsVerdictOf (Err (Fault v rule)) verdict = verdict ≡ No v rule
IsVerdictOf (Err Memory) verdict = ⊥

-- This is `yes`, or `no V R`.
abbrev pub verdict_text : Verdict → List ℕ
verdict_text Yes = codes "yes\n"
verdict_text (No v rule) = codes "no " ++ decimal v ++ codes " " ++ decimal (number_of rule) ++ codes "\n"

-- The exit status for a verdict.
abbrev pub verdict_end : Verdict → Status
verdict_end Yes = status.Done
verdict_end (No v rule) = status.CheckedNo
