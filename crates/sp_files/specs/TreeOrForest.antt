-- The file of a tree or of a forest, told apart by its first line.
use Rattle.std.specs.Prelude.{ℕ, Bool, List, take, codes, if◌then◌else◌, Option, Result}
use Rattle.sp_text.specs.declared.faults.DimacsError.{DimacsError}
use Rattle.sp_text.specs.Text.{is_word}
use Rattle.sp_text.specs.First.{Judge}
use Rattle.sp_files.specs.declared.forests.file.ForestFile.{ForestFile}
use Rattle.sp_files.specs.declared.either.TreeOrForest.{TreeOrForest}
use Rattle.sp_files.specs.Spelling.{tree_judge, forest_judge}
use Rattle.sp_files.specs.Taking.{IsContent, forest_content, either_content, content_text}
use Rattle.sp_files.specs.Reading.{ReadAs}

-- The text begins with `p near`.
abbrev pub is_near : List ℕ → Bool
is_near text = is_word (codes "p near") (take 6 text)

-- These are the rules of a forest's file, or those of a tree's.
abbrev pub rules : (P : ℕ) → (near : Bool) → Judge
rules P near = if near then forest_judge P else tree_judge P

-- These are the rules that a text selects: a forest's if its first line begins with `p near`, and otherwise a tree's.
abbrev pub rules_of : (P : ℕ) → List ℕ → Judge
rules_of P text = rules P (is_near text)

-- This is the text of a tree's or a forest's file.
abbrev pub either_text : {P : ℕ} → TreeOrForest P → List ℕ
either_text value = content_text (either_content value)

-- A file may hold this forest, with its number of sources.
abbrev pub IsHeld : {P : ℕ} → ForestFile P → Type 0
IsHeld {P} file = IsContent P (forest_content file)

-- A file may hold this tree or this forest.
abbrev pub IsEither : {P : ℕ} → TreeOrForest P → Type 0
IsEither {P} value = IsContent P (either_content value)

-- This is the result for the whole text of a device: what the text holds; or its fault, by the rules that it selects.
abbrev pub EitherRead : {P : ℕ} → List ℕ → Option (List ℕ) → Bool → Result (TreeOrForest P) DimacsError → Type 0
EitherRead {P} text left has_failed result = ReadAs (rules_of P text) either_text text left has_failed result
