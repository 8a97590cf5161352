-- What a file holds, and its lines as they are taken.
use Rattle.std.specs.Prelude.{◌≡◌, ℕ, ◌<◌, ◌≤◌, ◌⊎◌, Bool, true, not, List, Option, Some, None, Result, Ok, Err}
use Rattle.sp_word.specs.Word.{max_dist}
use Rattle.sp_paths.specs.Paths.{IsVertex}
use Rattle.sp_text.specs.declared.faults.Kind.{Kind}
use Rattle.sp_text.specs.declared.faults.Kind.TheVariants.{Memory}
use Rattle.sp_answer.specs.Table.{TreeTable, IsTable}
use Rattle.sp_files.specs.declared.lines.RowNumbers.{RowNumbers}
use Rattle.sp_files.specs.declared.lines.Line.{Line}
use Rattle.sp_files.specs.declared.content.RowProgress.{RowProgress}
use Rattle.sp_files.specs.declared.forests.file.ForestFile.{ForestFile}
use Rattle.sp_files.specs.declared.either.TreeOrForest.{TreeOrForest}
use Rattle.sp_files.specs.declared.either.TreeOrForest.TheVariants.{Tree, Forest}
use Rattle.sp_files.specs.declared.taking.Spelled.{Spelled}
use Rattle.sp_files.specs.declared.taking.Spelled.TheVariants.{Nothing, Open, Whole}
use Rattle.sp_files.specs.TreeText.{tree_text}
use Rattle.sp_files.specs.ForestText.{file_text, IsFile}
use Rattle.sp_files.specs.Spelling.{Content, OfTree, OfForest, place, next, fault, is_row}

-- A kind of value that a file may hold: whether `p near` and `p spt` may begin the file, and the content that a value is.
pub record FileForm (V : Type 0) : Type 0 where
  pub begins : Bool → Bool
  pub content : V → Content

-- This is the content of a forest's file.
abbrev pub forest_content : {P : ℕ} → ForestFile P → Content
forest_content file = OfForest file.sources file.forest

-- This is the content of a file that may hold either.
abbrev pub either_content : {P : ℕ} → TreeOrForest P → Content
either_content (Tree tree) = OfTree tree
either_content (Forest file) = forest_content file

-- A file may hold a tree.
abbrev pub tree_form : FileForm TreeTable
tree_form = record { begins = not; content = λ tree. OfTree tree }

-- A file may hold a forest.
abbrev pub forest_form : {P : ℕ} → FileForm (ForestFile P)
forest_form = record { begins = λ near. near; content = λ file. forest_content file }

-- A file may hold either.
abbrev pub either_form : {P : ℕ} → FileForm (TreeOrForest P)
either_form = record { begins = λ near. true; content = λ value. either_content value }

-- This is the text of a content.
abbrev pub content_text : Content → List ℕ
content_text (OfTree t) = tree_text t
content_text (OfForest sources f) = file_text sources f

-- A file may hold this content.
abbrev pub IsContent : (P : ℕ) → Content → Type 0
IsContent P (OfTree t) = IsTable P t
IsContent P (OfForest sources f) = IsFile P sources f

-- The root is a vertex, if there is one.
abbrev pub IsRootWithin : (n : ℕ) → Option ℕ → Type 0
IsRootWithin n None = Unit {0}
IsRootWithin n (Some root) = IsVertex n root

-- A row with these numbers may come next.
pub record IsRowWithin (P : ℕ) (at : RowProgress) (row : RowNumbers) : Type 0 where
  pub above : at.last < row.vertex
  pub most : row.vertex ≤ at.n
  pub dist : row.dist ≤ max_dist P
  pub pred : row.pred ≤ at.n
  pub root : IsRootWithin at.n row.root

-- This is the content so far of what a reader keeps.
abbrev pub spelled_by : {V : Type 0} → FileForm V → Spelled V → Spelled Content
spelled_by form Nothing = Nothing
spelled_by form (Open value) = Open (form.content value)
spelled_by form (Whole value) = Whole (form.content value)

-- A file that may begin so may hold the content so far.
abbrev pub Holds : (P : ℕ) → (begins : Bool → Bool) → Spelled Content → Type 0
Holds P begins Nothing = Unit {0}
Holds P begins (Open content) = IsContent P content × (begins (place content).rooted ≡ true)
Holds P begins (Whole content) = IsContent P content × (begins (place content).rooted ≡ true)

-- This is the result for a line: its fault; or it was taken; or there was no memory for a row.
abbrev pub Answers : (P : ℕ) → (begins : Bool → Bool) → Spelled Content → Option Line → Result (Unit {0}) Kind → Spelled Content → Type 0
Answers P begins old line (Ok u) new = (fault P begins old line ≡ None) × (new ≡ next old line)
Answers P begins old line (Err kind) new = (fault P begins old line ≡ Some kind) ⊎ ((fault P begins old line ≡ None) × (kind ≡ Memory) × (is_row line ≡ true))
