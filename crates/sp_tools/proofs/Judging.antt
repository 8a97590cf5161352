-- How the blocks of a file are judged, one after the other.
use Rattle.std.proofs.Common.{◌≡◌, ℕ, ◌+◌, ◌-◌, ◌^◌, ◌<◌, min, Bool, List, [], ◌∷◌, ◌++◌, length, append-nil, Option, Some, None, Ok, Err, refl, sym, ap, ◌∙◌, subst, arith}
use Rattle.std.specs.Prelude.{All}
use Rattle.std.proofs.KnownBytes.{Consumes-nil, Consumes-trans, prepend_known-nil}
use Rattle.std.proofs.lemmas.Grind.{flat_map-append}
use Rattle.std.proofs.lemmas.List.{append_assoc, append_cancel_left}
use Rattle.std.proofs.lemmas.List.Elements.{All-push}
use Rattle.std.specs.Io.KnownBytes.{Consumes, IsAtEnd}
use Rattle.sp_paths.specs.Paths.{Graph}
use Rattle.sp_device.specs.declared.devices.Read.{Ghosts as Reader}
use Rattle.sp_text.specs.declared.faults.DimacsError.{DimacsError}
use Rattle.sp_answer.specs.Table.{TreeTable, IsTable}
use Rattle.sp_files.specs.TreeText.{tree_text}
use Rattle.sp_files.specs.declared.trees.blocks.TreeBlocks.{TreeBlocks}
use Rattle.sp_files.specs.Block.{lines_in}
use Rattle.sp_files.specs.Stream.{IsFaultOf}
use Rattle.sp_files.specs.Giving.{left_of, IsFresh, IsGoing, Gives, in_file, lines_before}
use Rattle.sp_files.specs.Whole.{trees_text, lines_of, IsFileFault}
use Rattle.sp_tools.specs.declared.check_all.Judged.{Judged}
use Rattle.sp_tools.specs.Verdict.{IsVerdict}
use Rattle.sp_tools.specs.Verdicts.{AreJudged, FileJudged}

-- The trees that were given since `start` are judged.
pub record HaveVerdicts {P : ℕ} {D : Type 0} (r : Reader D) (limit : Option ℕ) (g : Graph) (start : Option (List ℕ)) (blocks : TreeBlocks P) (device : D) (all : List Judged) : Type 0 where
  pub trees : List TreeTable
  pub tables : All (IsTable P) trees
  pub came : Consumes start (left_of r blocks device) (trees_text trees)
  pub lines : lines_before blocks ≡ min (lines_of trees) (2 ^ 64 - 1)
  pub judged : AreJudged P limit g trees all
  pub going : IsGoing r blocks device

lines_of_more : (trees : List TreeTable) (tree : TreeTable) → lines_of (trees ++ tree ∷ []) ≡ lines_of trees + lines_in tree
lines_of_more [] tree = omega arith
lines_of_more (first ∷ trees) tree = omega (arith, lines_of_more trees tree)

text_more : (trees : List TreeTable) (tree : TreeTable) → trees_text trees ++ tree_text tree ≡ trees_text (trees ++ tree ∷ [])
text_more trees tree = sym (flat_map-append tree_text trees (tree ∷ []) ∙ ap (λ (t : List ℕ). trees_text trees ++ t) (append-nil (tree_text tree)))

judged_more : (P : ℕ) (limit : Option ℕ) (g : Graph) (trees : List TreeTable) (all : List Judged) (tree : TreeTable) (judged : Judged) → AreJudged P limit g trees all → judged.source ≡ tree.source → IsVerdict P limit g tree judged.verdict → AreJudged P limit g (trees ++ tree ∷ []) (all ++ judged ∷ [])
judged_more P limit g [] [] tree judged h source verdict = (source, verdict, tt)
judged_more P limit g [] (first ∷ all) tree judged h source verdict = absurd h
judged_more P limit g (first ∷ trees) [] tree judged h source verdict = absurd h
judged_more P limit g (first ∷ trees) (second ∷ all) tree judged h source verdict = (h.0, h.1, judged_more P limit g trees all tree judged h.2 source verdict)

capped : (most a b lines : ℕ) → lines ≡ min a most → min (lines + b) most ≡ min (a + b) most
capped most a b lines is = omega (arith, is)

-- One tree more.
pub one_more : {P : ℕ} {D : Type 0} (r : Reader D) (limit : Option ℕ) (g : Graph) (start : Option (List ℕ)) (old new : TreeBlocks P) (before after : D) (all : List Judged) (tree : TreeTable) (judged : Judged)
    → HaveVerdicts r limit g start old before all → Gives r old before (Ok (Some tree)) new after → judged.source ≡ tree.source → IsVerdict P limit g tree judged.verdict → HaveVerdicts r limit g start new after (all ++ judged ∷ [])
one_more {P = P} r limit g start old new before after all tree judged h gives source verdict =
    let came = Consumes-trans start (left_of r old before) (left_of r new after) (trees_text h.trees) (tree_text tree) h.came gives.2 in
    record {
      trees = h.trees ++ tree ∷ [];
      tables = All-push (IsTable P) h.trees tree h.tables gives.0;
      came = subst (Consumes start (left_of r new after)) (text_more h.trees tree) came;
      lines = gives.3 ∙ (capped (2 ^ 64 - 1) (lines_of h.trees) (lines_in tree) (lines_before old) h.lines ∙ ap (λ n. min n (2 ^ 64 - 1)) (sym (lines_of_more h.trees tree)));
      judged = judged_more P limit g h.trees all tree judged h.judged source verdict;
      going = gives.1;
    }

whole : (text front : List ℕ) (left : Option (List ℕ)) → Consumes (Some text) left front → IsAtEnd left → text ≡ front
whole text front None came all = absurd came
whole text front (Some more) came all = came ∙ (ap (λ (t : List ℕ). front ++ t) all ∙ append-nil front)

some_trees : (trees : List TreeTable) (most lines : ℕ) → lines ≡ min (lines_of trees) most → 0 < lines → 0 < length trees
some_trees [] most lines is some = absurd (omega (arith, is, some))
some_trees (tree ∷ trees) most lines is some = omega arith

-- The text has ended behind a tree.
pub all_judged : {P : ℕ} {D : Type 0} (r : Reader D) (limit : Option ℕ) (g : Graph) (start : Option (List ℕ)) (text : List ℕ) (old new : TreeBlocks P) (before after : D) (all : List Judged)
    → start ≡ Some text → HaveVerdicts r limit g start old before all → Gives r old before (Ok None) new after → FileJudged P limit g text all
all_judged r limit g start text old new before after all known h gives =
    let came = Consumes-trans start (left_of r old before) (left_of r new after) (trees_text h.trees) [] h.came gives.3 in
    let is = whole text (trees_text h.trees ++ []) (left_of r new after) (rw known at came) gives.1 in
    (h.trees, record { some = some_trees h.trees (2 ^ 64 - 1) (lines_before old) h.lines gives.0; tables = h.tables; is = is ∙ append-nil (trees_text h.trees) }, h.judged)

-- The same whatever is known of the text: the trees are those of the text that they make.
pub some_judged : {P : ℕ} {D : Type 0} (r : Reader D) (limit : Option ℕ) (g : Graph) (start : Option (List ℕ)) (old new : TreeBlocks P) (before after : D) (all : List Judged)
    → HaveVerdicts r limit g start old before all → Gives r old before (Ok None) new after → (text : List ℕ) × FileJudged P limit g text all
some_judged r limit g start old new before after all h gives =
    (trees_text h.trees, (h.trees, record { some = some_trees h.trees (2 ^ 64 - 1) (lines_before old) h.lines gives.0; tables = h.tables; is = refl }, h.judged))

left_behind : (P : ℕ) (text front block : List ℕ) (left : Option (List ℕ)) (failed : Bool) (fault : DimacsError) → Consumes (Some text) left (front ++ block) → IsFaultOf P block left failed fault
    → (behind : List ℕ) × (text ≡ front ++ block ++ behind) × IsFaultOf P block (Some behind) failed fault
left_behind P text front block None failed fault came h = absurd came
left_behind P text front block (Some behind) failed fault came h = (behind, came, h)

some_lines : (trees : List TreeTable) (most lines : ℕ) → lines ≡ min (lines_of trees) most → 0 < most → 0 < length trees → 0 < lines
some_lines [] most lines is wide some = absurd (omega (arith, some))
some_lines (tree ∷ trees) most lines is wide some = omega (arith, is, wide)

-- Where nothing stands behind the given trees, nothing is left.
all_given : (text front rest : List ℕ) (left : Option (List ℕ)) → Consumes (Some text) left front → text ≡ front ++ rest → rest ≡ [] → left ≡ Some []
all_given text front rest None came parts none = absurd came
all_given text front rest (Some more) came parts none = ap Some (append_cancel_left front more rest (sym came ∙ parts) ∙ none)

told_in_file : (a lines : ℕ) (e : DimacsError) → lines ≡ min a (2 ^ 64 - 1) → in_file lines e ≡ in_file a e
told_in_file a lines e is = ap (λ n. record { line = n; kind = e.kind }) (capped (2 ^ 64 - 1) a e.line lines is)

-- A block has a fault.
pub refused : {P : ℕ} {D : Type 0} (r : Reader D) (limit : Option ℕ) (g : Graph) (start : Option (List ℕ)) (text : List ℕ) (old new : TreeBlocks P) (before after : D) (all : List Judged) (e : DimacsError)
    → start ≡ Some text → HaveVerdicts r limit g start old before all → Gives r old before (Err e) new after → IsFileFault P text (r.has_failed after) e
refused {P = P} r limit g start text old new before after all e known h (spent, begun, fault, told, (front, block, from, has_fault)) =
    let came = Consumes-trans start (left_of r old before) (left_of r new after) (trees_text h.trees) front h.came from in
    let behind = left_behind P text (trees_text h.trees) front (left_of r new after) (r.has_failed after) fault (rw known at came) has_fault in
    record {
      trees = h.trees;
      tables = h.tables;
      front = front;
      behind = behind.0;
      parts = behind.1;
      block = block;
      begun = λ some none.
          begun (some_lines h.trees (2 ^ 64 - 1) (lines_before old) h.lines (omega arith) some) (all_given text (trees_text h.trees) (front ++ behind.0) (left_of r old before) (rw known at h.came) (behind.1 ∙ append_assoc (trees_text h.trees) front behind.0) none);
      fault = fault;
      has_fault = behind.2;
      told = told ∙ told_in_file (lines_of h.trees) (lines_before old) fault h.lines;
    }

-- Before the first tree.
pub none_judged : {P : ℕ} {D : Type 0} (r : Reader D) (limit : Option ℕ) (g : Graph) (blocks : TreeBlocks P) (device : D) → IsFresh blocks → HaveVerdicts r limit g (r.left device) blocks device []
none_judged r limit g blocks device h = record {
  trees = [];
  tables = λ k d within. absurd (omega (arith, within));
  came = rw (h.piece, prepend_known-nil (r.left device)) (Consumes-nil (r.left device));
  lines = rw h.lines refl;
  judged = tt;
  going = (h.spent, record { counted = rw h.piece (omega arith); limit = rw h.piece (λ some. absurd (omega (arith, some))) });
}
