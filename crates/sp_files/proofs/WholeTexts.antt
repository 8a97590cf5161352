-- Whole texts from their parts: what waits first, what is written behind it.
use Rattle.std.proofs.Common.{◌≡◌, ℕ, ◌<◌, List, [], ◌++◌, Result, sym, append_assoc, length, arith}
use Rattle.std.proofs.KnownBytes.{Appends-nil}
use Rattle.std.specs.List.{flat_map}
use Rattle.sp_device.specs.declared.devices.Write.{Ghosts as Writer}
use Rattle.sp_device.specs.declared.printing.Printer.{Printer}
use Rattle.sp_device.specs.Printing.{IsSending, Finished, Counted, EndsCounting}
use Rattle.sp_device.proofs.TextSteps.{sends_ok}
use Rattle.sp_answer.specs.Table.{TreeTable}
use Rattle.sp_answer.specs.ForestTable.{ForestTable}
use Rattle.sp_files.specs.TreeText.{problem_text, row_text, end_text, tree_text}
use Rattle.sp_files.specs.ForestText.{problem_text as forest_problem_text, row_text as forest_row_text, source_count, forest_text}
use Rattle.sp_files.specs.Sending.{Begins, EndsWith}

tree_is : (t : TreeTable) (n source count : ℕ) (lines : List ℕ) → n ≡ t.n → source ≡ t.source → lines ≡ flat_map row_text t.rows → count ≡ length t.rows → tree_text t ≡ problem_text n source ++ (lines ++ end_text count)
unfolding tree_text
tree_is t n source count lines n_is source_is lines_are count_is = rw (n_is, source_is, lines_are, count_is) (append_assoc (problem_text t.n t.source) (flat_map row_text t.rows) (end_text (length t.rows)))

forest_is : (f : ForestTable) (count : ℕ) (lines : List ℕ) → lines ≡ flat_map forest_row_text f.rows → count ≡ length f.rows → forest_text f ≡ forest_problem_text f.n (source_count f.rows) ++ (lines ++ end_text count)
unfolding forest_text
forest_is f count lines lines_are count_is = rw (lines_are, count_is) (append_assoc (forest_problem_text f.n (source_count f.rows)) (flat_map forest_row_text f.rows) (end_text (length f.rows)))

begun : {W : Type 0} (w : Writer W) (text : List ℕ) (start : W) (printer : Printer) → Begins text printer → IsSending w text start start printer
begun w text start printer h = sends_ok w text start start printer h.going (record {
  done = [];
  parts = sym h.waits;
  wrote = Appends-nil (w.written start);
  went = omega arith;
  counted = h.none;
  small = λ (some : 0 < 0). absurd (omega (arith, some));
})

-- A text that waits is written at the end.
pub counted_alone : {W F : Type 0} (w : Writer W) (text : List ℕ) (start new : W) (printer : Printer) (result : Result ℕ F) → Begins text printer → EndsCounting w start printer result new → Counted w start result new
counted_alone w text start new printer result h ends = ends text start (begun w text start printer h)

module _ {W F : Type 0} {w : Writer W} {start new : W} {printer : Printer} {result : Result ℕ F} where
  whole : {first more : List ℕ} → Begins first printer → EndsWith w more start printer result new → Finished w (first ++ more) start result new × Counted w start result new
  whole {first} h is = is.ends first start (begun w first start printer h)

  pub counted : {first more : List ℕ} → Begins first printer → EndsWith w more start printer result new → Counted w start result new
  counted h is = (whole h is).1

  -- The text of a tree, from its parts.
  pub tree_written : {n source count : ℕ} {lines : List ℕ} (t : TreeTable) → n ≡ t.n → source ≡ t.source → lines ≡ flat_map row_text t.rows → count ≡ length t.rows
      → Begins (problem_text n source) printer → EndsWith w (lines ++ end_text count) start printer result new → Finished w (tree_text t) start result new
  tree_written {n = n} {source = source} {count = count} {lines = lines} t n_is source_is lines_are count_is h is = rw (tree_is t n source count lines n_is source_is lines_are count_is) (whole h is).0

  -- The text of a forest, from its parts.
  pub forest_written : {count : ℕ} {lines : List ℕ} (f : ForestTable) → lines ≡ flat_map forest_row_text f.rows → count ≡ length f.rows
      → Begins (forest_problem_text f.n (source_count f.rows)) printer → EndsWith w (lines ++ end_text count) start printer result new → Finished w (forest_text f) start result new
  forest_written {count = count} {lines = lines} f lines_are count_is h is = rw (forest_is f count lines lines_are count_is) (whole h is).0
