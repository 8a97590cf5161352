-- The texts of trees and of forests' files.
use Rattle.std.proofs.Common.{◌≡◌, ℕ, ◌≤◌, true, false, not, List, None, Bool, refl, ◌∙◌, sym, arith}
use Rattle.std.proofs.lemmas.List.Sums.{count_by-le-length}
use Rattle.sp_word.specs.Word.{is_layout, max_dist}
use Rattle.sp_text.specs.First.{fault_at_end}
use Rattle.sp_answer.specs.Table.{TreeTable, IsTable}
use Rattle.sp_answer.specs.ForestTable.{ForestTable, IsForestTable}
use Rattle.sp_answer.proofs.ForestRows.{few_rows}
use Rattle.sp_files.specs.TreeText.{tree_text}
use Rattle.sp_files.specs.ForestText.{is_source, source_count, forest_text, file_text, IsFile}
use Rattle.sp_files.specs.Spelling.{Content, OfTree, OfForest, place, tree_judge, forest_judge}
use Rattle.sp_files.specs.Taking.{content_text, IsContent}
use Rattle.sp_files.proofs.Contents.{text_is}
use Rattle.sp_files.proofs.Accepted.{accepted}
use Rattle.sp_files.proofs.Accepts.{accepts, one_content}

-- 1. A text without a fault is that of a tree or of a forest's file, and the text of each has no fault.

no_forest : (b : Bool) → not b ≡ true → b ≡ true → ⊥
no_forest true tree forest = cc
no_forest false tree forest = cc

tree_of : (P : ℕ) (text : List ℕ) (content : Content) → IsContent P content → not (place content).rooted ≡ true → text ≡ content_text content → (t : TreeTable) × IsTable P t × (text ≡ tree_text t)
tree_of P text (OfTree t) h kind is = (t, h, is)
tree_of P text (OfForest k f) h kind is = absurd (no_forest true kind refl)

pub tree_told : (P : ℕ) (text : List ℕ) → is_layout P ≡ true → fault_at_end (tree_judge P) text ≡ None → (t : TreeTable) × IsTable P t × (text ≡ tree_text t)
tree_told P text layout none =
    let h = accepted P not layout text none in
    tree_of P text h.content h.holds h.kind (h.is ∙ sym (text_is h.content))

pub tree_accepted : (P : ℕ) (t : TreeTable) → IsTable P t → fault_at_end (tree_judge P) (tree_text t) ≡ None
tree_accepted P t h = rw (text_is (OfTree t)) (accepts P not h.layout (OfTree t) h refl).none

file_of : (P : ℕ) (text : List ℕ) (content : Content) → IsContent P content → (place content).rooted ≡ true → text ≡ content_text content → (k : ℕ) × (f : ForestTable) × IsFile P k f × (text ≡ file_text k f)
file_of P text (OfTree t) h kind is = absurd (no_forest false refl kind)
file_of P text (OfForest k f) h kind is = (k, f, h, is)

pub file_told : (P : ℕ) (text : List ℕ) → is_layout P ≡ true → fault_at_end (forest_judge P) text ≡ None → (k : ℕ) × (f : ForestTable) × IsFile P k f × (text ≡ file_text k f)
file_told P text layout none =
    let h = accepted P (λ near. near) layout text none in
    file_of P text h.content h.holds h.kind (h.is ∙ sym (text_is h.content))

pub file_accepted : (P k : ℕ) (f : ForestTable) → IsFile P k f → fault_at_end (forest_judge P) (file_text k f) ≡ None
file_accepted P k f h = rw (text_is (OfForest k f)) (accepts P (λ near. near) h.table.layout (OfForest k f) h refl).none

-- 2. Two of them have two texts.

one_text : (P : ℕ) (a b : Content) → is_layout P ≡ true → IsContent P a → IsContent P b → content_text a ≡ content_text b → a ≡ b
one_text P a b layout first second same = one_content P (λ near. true) layout a b first second refl refl (sym (text_is a) ∙ (same ∙ text_is b))

pub one_tree : (P : ℕ) (t u : TreeTable) → IsTable P t → IsTable P u → tree_text t ≡ tree_text u → t ≡ u
one_tree P t u first second same =
    let is : OfTree t ≡ OfTree u = one_text P (OfTree t) (OfTree u) first.layout first second same in cc

pub one_file : (P j k : ℕ) (e f : ForestTable) → IsFile P j e → IsFile P k f → file_text j e ≡ file_text k f → (j ≡ k) × (e ≡ f)
one_file P j k e f first second same =
    let is : OfForest j e ≡ OfForest k f = one_text P (OfForest j e) (OfForest k f) first.table.layout first second same in (cc, cc)

-- 3. The text of a forest is that of a file.

pub own_text : (f : ForestTable) → forest_text f ≡ file_text (source_count f.rows) f
unfolding forest_text file_text
own_text f = refl

pub own_file : (P : ℕ) (f : ForestTable) → IsForestTable P f → 1 ≤ f.n → IsFile P (source_count f.rows) f
own_file P f h least = record {
  table = h;
  least = least;
  sources_most = omega (arith, count_by-le-length is_source f.rows, few_rows (max_dist P) f.n 0 f.rows (omega arith) h.rows);
}
