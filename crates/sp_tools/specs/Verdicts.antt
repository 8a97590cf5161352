-- The verdicts of `check --all` on the blocks of a tree file, and its exit status.
use Rattle.std.specs.Prelude.{◌≡◌, ℕ, Bool, true, false, List, [], ◌∷◌, ◌++◌, codes, decimal, if◌then◌else◌, Option}
use Rattle.sp_paths.specs.Paths.{Graph}
use Rattle.sp_answer.specs.Table.{TreeTable}
use Rattle.sp_cert.specs.Rules.{number_of}
use Rattle.sp_files.specs.Whole.{IsFile, IsFileFault}
use Rattle.sp_command.specs.declared.faults.Status.{Status}
use Rattle.sp_command.specs.declared.faults.Status.TheVariants as status
use Rattle.sp_command.specs.declared.faults.Fault.{Fault}
use Rattle.sp_command.specs.declared.faults.Fault.TheVariants as fault
use Rattle.sp_command.specs.declared.faults.FileKind.TheVariants as file
use Rattle.sp_tools.specs.declared.check.Verdict.{Verdict}
use Rattle.sp_tools.specs.declared.check.Verdict.TheVariants.{Yes, No}
use Rattle.sp_tools.specs.declared.check_all.Judged.{Judged}
use Rattle.sp_tools.specs.Verdict.{IsVerdict}

-- Each of these trees has its verdict, in their order, with its source.
abbrev pub AreJudged : (P : ℕ) → (limit : Option ℕ) → Graph → List TreeTable → List Judged → Type 0
AreJudged P limit g [] [] = Unit {0}
AreJudged P limit g [] (judged ∷ more) = ⊥
AreJudged P limit g (tree ∷ trees) [] = ⊥
AreJudged P limit g (tree ∷ trees) (judged ∷ more) = (judged.source ≡ tree.source) × IsVerdict P limit g tree judged.verdict × AreJudged P limit g trees more

-- The fault is the first one of the file, or there was no memory.
abbrev pub TellsFault : (P : ℕ) → (text : List ℕ) → (failed : Bool) → Fault → Type 0
TellsFault P text failed (fault.Input file.Tree e) = IsFileFault P text failed e
TellsFault P text failed fault.Memory = Unit {0}
TellsFault P text failed _ = ⊥

-- The text is that of one tree or more, and each has its verdict.
abbrev pub FileJudged : (P : ℕ) → (limit : Option ℕ) → Graph → (text : List ℕ) → List Judged → Type 0
FileJudged P limit g text all = (trees : List TreeTable) × IsFile P text trees × AreJudged P limit g trees all

-- This is `yes`, or `no S V R`.
abbrev pub text_of : (source : ℕ) → Verdict → List ℕ
text_of source Yes = codes "yes\n"
text_of source (No v rule) = codes "no " ++ decimal source ++ codes " " ++ decimal v ++ codes " " ++ decimal (number_of rule) ++ codes "\n"

-- The line for a block.
abbrev pub judged_text : Judged → List ℕ
judged_text judged = text_of judged.source judged.verdict

-- The verdict is yes.
abbrev pub is_yes : Verdict → Bool
is_yes Yes = true
is_yes (No v rule) = false

-- The status is done if each answer is yes.
abbrev pub end_of : List Judged → Status
end_of [] = status.Done
end_of (judged ∷ more) = if is_yes judged.verdict then end_of more else status.CheckedNo
