-- The order of a graph's arcs plays no part in what is said of trees.
use Rattle.std.proofs.Common.{◌≡◌, ℕ, List, [], ◌∷◌, get_or, refl, sym, ◌∙◌, subst}
use Rattle.std.proofs.lemmas.List.{get_or_default}
use Rattle.std.proofs.lemmas.List.Elements.{All-contains}
use Rattle.sp_word.specs.Word.{Word, Unreached, Pair, max_dist}
use Rattle.sp_word.specs.History.{Table}
use Rattle.std.specs.Prelude.{IsPermutation, All, Option, None, Some}
use Rattle.std.proofs.lemmas.List.Sorted.{Contains-permutation, IsPermutation-sym}
use Rattle.sp_paths.specs.declared.arc.Arc.{Arc}
use Rattle.sp_paths.specs.Paths.{Graph, IsGraph, IsArc, IsVertex, IsNear, IsTreeWord, EndsInTree, Found}
use Rattle.sp_paths.specs.Bags.{AreSame}
use Rattle.sp_paths.proofs.SameArcs.{same_arcs_same_answers}
use Rattle.sp_answer.specs.Table.{TreeTable, table_of}
use Rattle.sp_answer.specs.ForestTable.{ForestTable, IsForestTable}
use Rattle.sp_files.specs.declared.either.TreeOrForest.{TreeOrForest}
use Rattle.sp_files.specs.declared.either.TreeOrForest.TheVariants.{Tree, Forest}
use Rattle.sp_files.specs.TreeOrForest.{IsEither}
use Rattle.sp_options.specs.Within.{IsLimit}
use Rattle.sp_cert.specs.declared.rule.Rule.{Rule}
use Rattle.sp_cert.specs.declared.rule.Rule.TheVariants.{Size, OwnSource, NoLesserOffer, NamesPredecessor, OnlyTooFar, BeyondLimit, OtherRoot}
use Rattle.sp_cert.specs.Claims.{Claim, claim_of_tree, claim_of_forest}
use Rattle.sp_cert.specs.Rules.{IsExplained, Breaks, Fails, IsFirstFault, IsCounted}
use Rattle.sp_cert.proofs.Exact.{forest_rules_are_exact}
use Rattle.sp_tools.specs.declared.check.Verdict.{Verdict}
use Rattle.sp_tools.specs.declared.check.Verdict.TheVariants.{Yes, No}
use Rattle.sp_tools.specs.declared.check_all.Judged.{Judged}
use Rattle.sp_tools.specs.Verdict.{IsVerdict, IsForestVerdict, IsVerdictOn}
use Rattle.sp_tools.specs.Verdicts.{AreJudged, FileJudged}

turned : (g h : Graph) → AreSame g h → AreSame h g
turned g h same = record { n = sym same.n; there = same.back; back = same.there }

same_explained : (g h : Graph) → AreSame g h → (words : Table) (v d p : ℕ) → IsExplained g words v d p → IsExplained h words v d p
same_explained g h same words v d p (c, q, l, is, arc, sum) = (c, q, l, is, same.there (record { tail = p; head = v; len = l }) arc, sum)

same_breaks : (g h : Graph) → AreSame g h → (max : ℕ) (c : Claim) (v : ℕ) (rule : Rule) → Breaks g max c v rule → Breaks h max c v rule
same_breaks g h same max c v Size is = absurd is
same_breaks g h same max c v OwnSource is = is
same_breaks g h same max c v NoLesserOffer (u, l, d, p, arc, is, within, low, below) = (u, l, d, p, same.there (record { tail = u; head = v; len = l }) arc, is, within, low, below)
same_breaks g h same max c v NamesPredecessor (d, p, is, other, none) = (d, p, is, other, λ e. none (same_explained h g (turned g h same) c.words v d p e))
same_breaks g h same max c v OnlyTooFar (free, (u, l, d, p, arc, is, above, unreached)) = (free, (u, l, d, p, same.there (record { tail = u; head = v; len = l }) arc, is, above, unreached))
same_breaks g h same max c v BeyondLimit is = is
same_breaks g h same max c v OtherRoot is = is

same_vertex : (g h : Graph) → AreSame g h → (v : ℕ) → IsVertex g.n v → IsVertex h.n v
same_vertex g h same v is = subst (λ (n : ℕ). IsVertex n v) same.n is

same_fails : (g h : Graph) → AreSame g h → (max : ℕ) (a b : Type 0) → (a → b) → (b → a) → (c : Claim) (v : ℕ) (rule : Rule) → Fails g max a c v rule → Fails h max b c v rule
same_fails g h same max a b to back c v Size (zero, other) = (zero, λ is. other (back is))
same_fails g h same max a b to back c v OwnSource (vertex, size, is) = (same_vertex g h same v vertex, to size, same_breaks g h same max c v OwnSource is)
same_fails g h same max a b to back c v NoLesserOffer (vertex, size, is) = (same_vertex g h same v vertex, to size, same_breaks g h same max c v NoLesserOffer is)
same_fails g h same max a b to back c v NamesPredecessor (vertex, size, is) = (same_vertex g h same v vertex, to size, same_breaks g h same max c v NamesPredecessor is)
same_fails g h same max a b to back c v OnlyTooFar (vertex, size, is) = (same_vertex g h same v vertex, to size, same_breaks g h same max c v OnlyTooFar is)
same_fails g h same max a b to back c v BeyondLimit (vertex, size, is) = (same_vertex g h same v vertex, to size, same_breaks g h same max c v BeyondLimit is)
same_fails g h same max a b to back c v OtherRoot (vertex, size, is) = (same_vertex g h same v vertex, to size, same_breaks g h same max c v OtherRoot is)

same_first : (g h : Graph) → AreSame g h → (max : ℕ) (a b : Type 0) → (a → b) → (b → a) → (c : Claim) (v : ℕ) (rule : Rule) → IsFirstFault g max a c v rule → IsFirstFault h max b c v rule
same_first g h same max a b to back c v rule is = record {
  fails = same_fails g h same max a b to back c v rule is.fails;
  first = λ w other fails. is.first w other (same_fails h g (turned g h same) max b a back to c w other fails);
}

-- the part of a tree within a limit
same_part : (g h : Graph) → AreSame g h → (s limit : ℕ) (words : Table) → EndsInTree g s limit words → EndsInTree h s limit words
same_part g h same s limit words is = record {
  near = λ v near. word v (words v) refl (back v near) (is.near v (back v near));
  others = λ v at far. is.others v (same_vertex h g (turned g h same) v at) (λ near. far (near.0, (same_arcs_same_answers g h same).least s v near.0 near.1, near.2));
}
  where
    back : (v : ℕ) → IsNear h s limit v → IsNear g s limit v
    back v (d, least, low) = (d, (same_arcs_same_answers h g (turned g h same)).least s v d least, low)

    word : (v : ℕ) (w : Word) → words v ≡ w → IsNear g s limit v → IsTreeWord g s v (words v) → IsTreeWord h s v (words v)
    word v Unreached e near t = let none : IsTreeWord g s v Unreached = subst (IsTreeWord g s v) e t in absurd (none near.0 near.1.walk)
    word v (Pair d p) e near t = subst (IsTreeWord h s v) (sym e) ((same_arcs_same_answers g h same).pair s v limit (Found d p) (near, subst (IsTreeWord g s v) e t)).1

-- the rows of a graph whose arcs are arcs between its vertices
pub sound_rows : (n : ℕ) (arcs rows : List Arc) → All (IsArc n) arcs → IsPermutation arcs rows → All (IsArc n) rows
sound_rows n arcs rows all same k d lt =
    let a = get_or rows k d in
    All-contains (IsArc n) arcs a all (Contains-permutation rows arcs a (IsPermutation-sym arcs rows same) (k, lt, get_or_default rows k a d lt))

same_sound : (g h : Graph) → AreSame g h → IsGraph g → IsGraph h
same_sound g h same gr k d lt =
    let a = get_or h.arcs k d in
    subst (λ n. IsArc n a) same.n (All-contains (IsArc g.n) g.arcs a gr (same.back a (k, lt, get_or_default h.arcs k a d lt)))

pub same_verdict : (P : ℕ) (limit : Option ℕ) (g h : Graph) → AreSame g h → (t : TreeTable) (verdict : Verdict) → IsVerdict P limit g t verdict → IsVerdict P limit h t verdict
same_verdict P None g h same t Yes is =
    let all = same_arcs_same_answers g h same in
    record { size = is.size ∙ same.n; tree = all.tree t.source (table_of t) is.tree; none_far = all.far t.source (max_dist P) None is.none_far }
same_verdict P (Some limit) g h same t Yes is = record { size = is.size ∙ same.n; part = same_part g h same t.source limit (table_of t) is.part }
same_verdict P limit g h same t (No v rule) is =
    same_first g h same (max_dist P) (t.n ≡ g.n) (t.n ≡ h.n) (λ size. size ∙ same.n) (λ size. size ∙ sym same.n) (claim_of_tree t limit) v rule is

counted_too : (g h : Graph) → AreSame g h → (f : ForestTable) (count : ℕ) → IsCounted g f count → IsCounted h f count
counted_too g h same f count (size, sources) = (size ∙ same.n, sources)

-- what is said of a forest: the rules decide it, and the same rules fail
pub same_forest_verdict : (P : ℕ) (limit : Option ℕ) (g h : Graph) → AreSame g h → IsGraph g → IsLimit P limit → (f : ForestTable) (count : ℕ) → IsForestTable P f → (verdict : Verdict) → IsForestVerdict P limit g f count verdict → IsForestVerdict P limit h f count verdict
same_forest_verdict P limit g h same gr low f count table Yes is =
    (forest_rules_are_exact P h f count limit (same_sound g h same gr) table low).0
    (λ v rule fails. (forest_rules_are_exact P g f count limit gr table low).1 is v rule
    (same_fails h g (turned g h same) (max_dist P) (IsCounted h f count) (IsCounted g f count) (counted_too h g (turned g h same) f count) (counted_too g h same f count) (claim_of_forest f limit) v rule fails))
same_forest_verdict P limit g h same gr low f count table (No v rule) is =
    same_first g h same (max_dist P) (IsCounted g f count) (IsCounted h f count) (counted_too g h same f count) (counted_too h g (turned g h same) f count) (claim_of_forest f limit) v rule is

pub same_verdict_on : {P : ℕ} (limit : Option ℕ) (g h : Graph) → AreSame g h → IsGraph g → IsLimit P limit → (held : TreeOrForest P) → IsEither held → (verdict : Verdict) → IsVerdictOn limit g held verdict → IsVerdictOn limit h held verdict
same_verdict_on {P} limit g h same gr low (Tree tree) within verdict is = same_verdict P limit g h same tree verdict is
same_verdict_on {P} limit g h same gr low (Forest file) within verdict is = same_forest_verdict P limit g h same gr low file.forest file.sources within.table verdict is

same_judged : (P : ℕ) (limit : Option ℕ) (g h : Graph) → AreSame g h → (trees : List TreeTable) (all : List Judged) → AreJudged P limit g trees all → AreJudged P limit h trees all
same_judged P limit g h same [] [] is = is
same_judged P limit g h same [] (judged ∷ more) is = absurd is
same_judged P limit g h same (tree ∷ trees) [] is = absurd is
same_judged P limit g h same (tree ∷ trees) (judged ∷ more) is = (is.0, same_verdict P limit g h same tree judged.verdict is.1, same_judged P limit g h same trees more is.2)

pub same_file : (P : ℕ) (limit : Option ℕ) (g h : Graph) → AreSame g h → (text : List ℕ) (all : List Judged) → FileJudged P limit g text all → FileJudged P limit h text all
same_file P limit g h same text all (trees, is, judged) = (trees, is, same_judged P limit g h same trees all judged)
