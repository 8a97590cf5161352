-- From the earliest fault to what a check says.
use Rattle.std.proofs.Common.{◌≡◌, ℕ, ◌+◌, ◌≤◌, ◌⊎◌, ◌↔◌, inl, inr, List, Option, Some, None, Result, Ok, Err, sym, refl, ap, ◌∙◌, subst, arith}
use Rattle.std.specs.Prelude.{Contains, OnOk, IfErr}
use Rattle.sp_word.specs.Word.{Word, Pair, IsBelow, max_dist}
use Rattle.sp_word.specs.History.{Table}
use Rattle.sp_paths.specs.declared.arc.Arc.{Arc}
use Rattle.sp_paths.specs.Paths.{Graph, IsGraph, IsVertex, HasArc, word_at}
use Rattle.sp_paths.proofs.Walks.{arc_in}
use Rattle.sp_answer.specs.Table.{TreeTable, IsTable, table_of as table_of_tree}
use Rattle.sp_answer.specs.ForestTable.{ForestTable, table_of, root_of}
use Rattle.sp_cert.specs.declared.rule.Rule.{Rule}
use Rattle.sp_cert.specs.declared.rule.Rule.TheVariants.{Size, OwnSource, NoLesserOffer, NamesPredecessor, OnlyTooFar, BeyondLimit, OtherRoot}
use Rattle.sp_cert.specs.declared.fault.BrokenRule.{BrokenRule}
use Rattle.sp_cert.specs.declared.sources.SourceRule.{SourceRule}
use Rattle.sp_cert.specs.declared.sources.SourceRule.TheVariants.{One, WithoutPred}
use Rattle.sp_cert.specs.Claims.{Claim, claim_of_tree, claim_of_forest, IsSource}
use Rattle.sp_cert.specs.Rules.{IsExplained, Breaks, Fails, Passes, IsCounted, NoLater}
use Rattle.sp_cert.specs.Faults.{IsFirstOf, earlier_of, BreaksAt, BreaksRoot, FaultOfArc, FaultOfVertex, FaultOfWords}
use Rattle.sp_cert.specs.declared.checking.CheckError.{CheckError}
use Rattle.sp_cert.specs.declared.checking.CheckError.TheVariants.{Fault as Told, Memory}
use Rattle.sp_cert.specs.Certificate.{IsAnswer, answer_of, TellsFirst, FailsOfTree, FailsOfForest, wrong_size, IsCertified, IsCertifiedWithin}
use Rattle.sp_cert.proofs.FirstSteps.{first_of_both, first_same}
use Rattle.sp_cert.proofs.Checker.{Roots, claim}
use Rattle.sp_cert.proofs.TreeSteps.{table_within}
use Rattle.sp_cert.proofs.Exact.{rules_are_exact, part_rules_are_exact}

-- ## Words

-- every fault of words without roots is an arc's or a vertex's
module _ (g : Graph) (gr : IsGraph g) (max : ℕ) (sources : SourceRule) (limit : Option ℕ) (words : Table) where
  abbrev Words : ℕ → Rule → Type 0
  Words v rule = FaultOfWords g max sources limit words v rule

  by_arc : (arc : Arc) (v : ℕ) → Contains g.arcs arc → v ≡ arc.head → HasArc g arc.tail v arc.len
  by_arc arc v c e = subst (λ x. HasArc g arc.tail x arc.len) (sym e) c

  abbrev Vertex : (roots : Roots) → ℕ → Rule → Type 0
  Vertex roots v rule = IsVertex g.n v × Breaks g max (claim sources limit words roots) v rule

  joined : (roots : Roots) (v : ℕ) (rule : Rule) → Words v rule → Vertex roots v rule
  joined roots v Size (inl (arc, c, (e, b))) = absurd b
  joined roots v OwnSource (inl (arc, c, (e, b))) = absurd b
  joined roots v NoLesserOffer (inl (arc, c, (e, (d, p, from, fits, low, less)))) =
      let a = by_arc arc v c e in
      ((arc_in g gr arc.tail v arc.len a).1, (arc.tail, arc.len, d, p, a, from, fits, low, subst (λ x. IsBelow (Pair (d + arc.len) arc.tail) (words x)) (sym e) less))
  joined roots v NamesPredecessor (inl (arc, c, (e, b))) = absurd b
  joined roots v OnlyTooFar (inl (arc, c, (e, (free, (d, p, from, over, to))))) =
      let a = by_arc arc v c e in
      ((arc_in g gr arc.tail v arc.len a).1, (free, (arc.tail, arc.len, d, p, a, from, over, ap words e ∙ to)))
  joined roots v BeyondLimit (inl (arc, c, (e, b))) = absurd b
  joined roots v OtherRoot (inl (arc, c, (e, b))) = absurd b
  joined roots v Size (inr h) = absurd h.1
  joined roots v OwnSource (inr h) = (h.0, (h.1.0, inl h.1.1))
  joined roots v NoLesserOffer (inr h) = absurd h.1
  joined roots v NamesPredecessor (inr h) = (h.0, h.1)
  joined roots v OnlyTooFar (inr h) = absurd h.1
  joined roots v BeyondLimit (inr h) = (h.0, h.1)
  joined roots v OtherRoot (inr h) = absurd h.1

  offered : (v : ℕ) → Breaks g max (claim sources limit words None) v NoLesserOffer → Words v NoLesserOffer
  offered v (u, l, d, p, a, from, fits, low, less) = inl (record { tail = u; head = v; len = l }, a, (refl, (d, p, from, fits, low, less)))

  too_far : (v : ℕ) → Breaks g max (claim sources limit words None) v OnlyTooFar → Words v OnlyTooFar
  too_far v (free, (u, l, d, p, a, from, over, to)) = inl (record { tail = u; head = v; len = l }, a, (refl, (free, (d, p, from, over, to))))

  parted : (v : ℕ) (rule : Rule) → Vertex None v rule → Words v rule
  parted v Size f = absurd f.1
  parted v OwnSource (k, (source, inl other)) = inr (k, (source, other))
  parted v OwnSource (k, (source, inr foreign)) = absurd foreign
  parted v NoLesserOffer f = offered v f.1
  parted v NamesPredecessor f = inr (f.0, f.1)
  parted v OnlyTooFar f = too_far v f.1
  parted v BeyondLimit f = inr (f.0, f.1)
  parted v OtherRoot (k, (d, p, is, other, foreign)) = absurd foreign

-- every fault of a forest is one of its words or of its roots
module _ (g : Graph) (gr : IsGraph g) (max : ℕ) (limit : Option ℕ) (words : Table) (roots : ℕ → Option ℕ) where
  abbrev Parts : ℕ → Rule → Type 0
  Parts v rule = FaultOfWords g max WithoutPred limit words v rule ⊎ FaultOfVertex g.n (BreaksRoot words roots) v rule

  all_joined : (v : ℕ) (rule : Rule) → Parts v rule → IsVertex g.n v × Breaks g max (claim WithoutPred limit words (Some roots)) v rule
  all_joined v rule (inl h) = joined g gr max WithoutPred limit words (Some roots) v rule h
  all_joined v Size (inr h) = absurd h.1
  all_joined v OwnSource (inr h) = (h.0, (h.1.0, inr h.1.1))
  all_joined v NoLesserOffer (inr h) = absurd h.1
  all_joined v NamesPredecessor (inr h) = absurd h.1
  all_joined v OnlyTooFar (inr h) = absurd h.1
  all_joined v BeyondLimit (inr h) = absurd h.1
  all_joined v OtherRoot (inr h) = (h.0, h.1)

  all_parted : (v : ℕ) (rule : Rule) → IsVertex g.n v × Breaks g max (claim WithoutPred limit words (Some roots)) v rule → Parts v rule
  all_parted v Size f = absurd f.1
  all_parted v OwnSource (k, (source, inl other)) = inl (inr (k, (source, other)))
  all_parted v OwnSource (k, (source, inr foreign)) = inr (k, (source, foreign))
  all_parted v NoLesserOffer f = inl (offered g gr max WithoutPred limit words v f.1)
  all_parted v NamesPredecessor f = inl (inr (f.0, f.1))
  all_parted v OnlyTooFar f = inl (too_far g gr max WithoutPred limit words v f.1)
  all_parted v BeyondLimit f = inl (inr (f.0, f.1))
  all_parted v OtherRoot f = inr (f.0, f.1)

-- where the numbers are right, a rule fails where it is broken
module _ (g : Graph) (max : ℕ) (sized : Type 0) (c : Claim) (size : sized) where
  fails_of : (v : ℕ) (rule : Rule) → IsVertex g.n v × Breaks g max c v rule → Fails g max sized c v rule
  fails_of v Size f = absurd f.1
  fails_of v OwnSource f = (f.0, size, f.1)
  fails_of v NoLesserOffer f = (f.0, size, f.1)
  fails_of v NamesPredecessor f = (f.0, size, f.1)
  fails_of v OnlyTooFar f = (f.0, size, f.1)
  fails_of v BeyondLimit f = (f.0, size, f.1)
  fails_of v OtherRoot f = (f.0, size, f.1)

  of_fails : (v : ℕ) (rule : Rule) → Fails g max sized c v rule → IsVertex g.n v × Breaks g max c v rule
  of_fails v Size f = absurd (f.1 size)
  of_fails v OwnSource f = (f.0, f.2)
  of_fails v NoLesserOffer f = (f.0, f.2)
  of_fails v NamesPredecessor f = (f.0, f.2)
  of_fails v OnlyTooFar f = (f.0, f.2)
  of_fails v BeyondLimit f = (f.0, f.2)
  of_fails v OtherRoot f = (f.0, f.2)

-- tables that agree at the vertices of the graph break the same rules
module _ (g : Graph) (gr : IsGraph g) (max : ℕ) (sources : SourceRule) (limit : Option ℕ) (a b : Table) (same : (v : ℕ) → IsVertex g.n v → a v ≡ b v) where
  source_same : (sources : SourceRule) (v : ℕ) → IsVertex g.n v → IsSource sources a v → IsSource sources b v
  source_same (One s) v k is = is
  source_same WithoutPred v k (d, is) = (d, sym (same v k) ∙ is)

  source_back : (sources : SourceRule) (v : ℕ) → IsVertex g.n v → IsSource sources b v → IsSource sources a v
  source_back (One s) v k is = is
  source_back WithoutPred v k (d, is) = (d, same v k ∙ is)

  explained_back : (v d p : ℕ) → IsExplained g b v d p → IsExplained g a v d p
  explained_back v d p (c, q, l, from, arc, sum) = (c, q, l, same p (arc_in g gr p v l arc).0 ∙ from, arc, sum)

  at_same : (v : ℕ) (rule : Rule) → IsVertex g.n v → BreaksAt g sources limit a v rule → BreaksAt g sources limit b v rule
  at_same v Size k h = h
  at_same v OwnSource k (source, other) = (source_same sources v k source, λ is. other (same v k ∙ is))
  at_same v NoLesserOffer k h = h
  at_same v NamesPredecessor k (d, p, is, other, none) = (d, p, sym (same v k) ∙ is, λ source. other (source_back sources v k source), λ e. none (explained_back v d p e))
  at_same v OnlyTooFar k h = h
  at_same v BeyondLimit k (d, p, is, high) = (d, p, sym (same v k) ∙ is, high)
  at_same v OtherRoot k h = h

  arc_same : (v : ℕ) (rule : Rule) → FaultOfArc max limit a g.arcs v rule → FaultOfArc max limit b g.arcs v rule
  arc_same v Size (arc, c, (e, h)) = absurd h
  arc_same v OwnSource (arc, c, (e, h)) = absurd h
  arc_same v NoLesserOffer (arc, c, (e, (d, p, from, fits, low, less))) =
      let ends = arc_in g gr arc.tail arc.head arc.len c in
      (arc, c, (e, (d, p, sym (same arc.tail ends.0) ∙ from, fits, low, subst (λ w. IsBelow (Pair (d + arc.len) arc.tail) w) (same arc.head ends.1) less)))
  arc_same v NamesPredecessor (arc, c, (e, h)) = absurd h
  arc_same v OnlyTooFar (arc, c, (e, (free, (d, p, from, over, to)))) =
      let ends = arc_in g gr arc.tail arc.head arc.len c in
      (arc, c, (e, (free, (d, p, sym (same arc.tail ends.0) ∙ from, over, sym (same arc.head ends.1) ∙ to))))
  arc_same v BeyondLimit (arc, c, (e, h)) = absurd h
  arc_same v OtherRoot (arc, c, (e, h)) = absurd h

  words_same : (v : ℕ) (rule : Rule) → FaultOfWords g max sources limit a v rule → FaultOfWords g max sources limit b v rule
  words_same v rule (inl h) = inl (arc_same v rule h)
  words_same v rule (inr h) = inr (h.0, at_same v rule h.0 h.1)

first_same_words : (g : Graph) → IsGraph g → (max : ℕ) (sources : SourceRule) (limit : Option ℕ) (a b : Table) → ((v : ℕ) → IsVertex g.n v → a v ≡ b v) → (r : Option BrokenRule) → IsFirstOf (FaultOfWords g max sources limit a) r → IsFirstOf (FaultOfWords g max sources limit b) r
first_same_words g gr max sources limit a b same r h =
    first_same (FaultOfWords g max sources limit a) (FaultOfWords g max sources limit b) (words_same g gr max sources limit a b same) (words_same g gr max sources limit b a (λ v k. sym (same v k))) r h

-- the earliest fault of the tree is that of its words by vertex
pub tree_first : (P : ℕ) (t : TreeTable) (limit : Option ℕ) (g : Graph) (words : List Word) (source : ℕ) (r : Option BrokenRule) → IsGraph g → t.n ≡ g.n → source ≡ t.source
    → ((v : ℕ) → IsVertex t.n v → word_at words v ≡ table_of_tree t v)
    → IsFirstOf (FaultOfWords g (max_dist P) (One source) limit (word_at words)) r → IsFirstOf (FailsOfTree P limit g t) r
tree_first P t limit g words source r gr size same copied first =
    let table = table_of_tree t in
    let agree = λ (v : ℕ) (k : IsVertex g.n v). copied v (subst (λ n. IsVertex n v) (sym size) k) in
    let mine = subst (λ s. IsFirstOf (FaultOfWords g (max_dist P) (One s) limit (word_at words)) r) same first in
    let all = first_same_words g gr (max_dist P) (One t.source) limit (word_at words) table agree r mine in
    let c = claim_of_tree t limit in
    first_same (FaultOfWords g (max_dist P) (One t.source) limit table) (FailsOfTree P limit g t)
    (λ v rule h. fails_of g (max_dist P) (t.n ≡ g.n) c size v rule (joined g gr (max_dist P) (One t.source) limit table None v rule h))
    (λ v rule f. parted g gr (max_dist P) (One t.source) limit table v rule (of_fails g (max_dist P) (t.n ≡ g.n) c size v rule f)) r all

-- the earliest fault of a forest is that of its words and its roots
pub forest_first : (P : ℕ) (f : ForestTable) (limit : Option ℕ) (g : Graph) (words : List Word) (a b r : Option BrokenRule) → IsGraph g → f.n ≡ g.n
    → ((v : ℕ) → IsVertex f.n v → word_at words v ≡ table_of f v)
    → IsFirstOf (FaultOfWords g (max_dist P) WithoutPred limit (word_at words)) a → IsFirstOf (FaultOfVertex f.n (BreaksRoot (table_of f) (root_of f))) b → r ≡ earlier_of a b
    → (count : ℕ) → IsCounted g f count → IsFirstOf (FailsOfForest P count limit g f) r
forest_first P f limit g words a b r gr size copied x y e count counted =
    let agree = λ (v : ℕ) (k : IsVertex g.n v). copied v (subst (λ n. IsVertex n v) (sym size) k) in
    let mine = first_same_words g gr (max_dist P) WithoutPred limit (word_at words) (table_of f) agree a x in
    let its = subst (λ n. IsFirstOf (FaultOfVertex n (BreaksRoot (table_of f) (root_of f))) b) size y in
    let both = first_of_both (FaultOfWords g (max_dist P) WithoutPred limit (table_of f)) (FaultOfVertex g.n (BreaksRoot (table_of f) (root_of f))) a b mine its in
    let c = claim_of_forest f limit in
    let all = first_same (λ v rule. FaultOfWords g (max_dist P) WithoutPred limit (table_of f) v rule ⊎ FaultOfVertex g.n (BreaksRoot (table_of f) (root_of f)) v rule) (FailsOfForest P count limit g f)
    (λ v rule h. fails_of g (max_dist P) (IsCounted g f count) c counted v rule (all_joined g gr (max_dist P) limit (table_of f) (root_of f) v rule h))
    (λ v rule h. all_parted g gr (max_dist P) limit (table_of f) (root_of f) v rule (of_fails g (max_dist P) (IsCounted g f count) c counted v rule h)) (earlier_of a b) both in
    subst (IsFirstOf (FailsOfForest P count limit g f)) (sym e) all

-- where the numbers are wrong, that is the first fault
pub wrong_first : (g : Graph) (max : ℕ) (sized : Type 0) (c : Claim) → (sized → ⊥) → IsFirstOf (Fails g max sized c) wrong_size
wrong_first g max sized c wrong = ((refl, wrong), least)
  where
    least : (w : ℕ) (other : Rule) → Fails g max sized c w other → NoLater 0 Size w other
    least w Size f = inr (sym f.0, omega arith)
    least w OwnSource f = absurd (wrong f.1)
    least w NoLesserOffer f = absurd (wrong f.1)
    least w NamesPredecessor f = absurd (wrong f.1)
    least w OnlyTooFar f = absurd (wrong f.1)
    least w BeyondLimit f = absurd (wrong f.1)
    least w OtherRoot f = absurd (wrong f.1)

-- ## What the earliest fault says

pub answered : (F : ℕ → Rule → Type 0) (first : Option BrokenRule) (result : Result (Unit {0}) CheckError) → IsFirstOf F first → result ≡ answer_of first → IsAnswer F result
answered F None result h e = subst (IsAnswer F) (sym e) h
answered F (Some f) result h e = subst (IsAnswer F) (sym e) h

-- what the answer means, where the rules decide X
module _ (g : Graph) (max : ℕ) (sized : Type 0) (c : Claim) (X : Type 0) (exact : Passes g max sized c ↔ X) where
  pub says_yes : (result : Result (Unit {0}) CheckError) → IsAnswer (Fails g max sized c) result → OnOk result X
  says_yes (Ok done) h = exact.0 h
  says_yes (Err (Told v rule)) h = tt
  says_yes (Err Memory) h = tt

  pub says_no : (result : Result (Unit {0}) CheckError) → IsAnswer (Fails g max sized c) result → IfErr result (TellsFirst g max sized c)
  says_no (Ok done) h = tt
  says_no (Err (Told v rule)) h = record { fails = h.0; first = h.1 }
  says_no (Err Memory) h = tt

  pub says_memory : (result : Result (Unit {0}) CheckError) → IsAnswer (Fails g max sized c) result → X → IfErr result (λ error. error ≡ Memory)
  says_memory (Ok done) h right = tt
  says_memory (Err (Told v rule)) h right = absurd (exact.1 right v rule h.0)
  says_memory (Err Memory) h right = refl

-- the same of a tree, of its part within a limit, and of a forest
module _ (P : ℕ) (g : Graph) (t : TreeTable) (gr : IsGraph g) (table : IsTable P t) where
  pub tree_exact : Passes g (max_dist P) (t.n ≡ g.n) (claim_of_tree t None) ↔ IsCertified P g t
  tree_exact = rules_are_exact g (max_dist P) t.n t.source (table_of_tree t) gr (table.source_least, table.source_most) (table_within P t table g.n)

  pub part_exact : (limit : ℕ) → limit ≤ max_dist P → Passes g (max_dist P) (t.n ≡ g.n) (claim_of_tree t (Some limit)) ↔ IsCertifiedWithin limit g t
  part_exact limit low = part_rules_are_exact g (max_dist P) limit t.n t.source (table_of_tree t) gr (table.source_least, table.source_most) low
