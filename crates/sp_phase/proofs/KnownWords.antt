-- What a caller knows of a run, as its words fall.
use Rattle.std.proofs.Common.{◌≡◌, ℕ, ◌+◌, ◌<◌, ◌≤◌, ◌⊎◌, inl, inr, List, Some, sym, ◌∙◌, subst, arith, ⊎_elim}
use Rattle.std.proofs.lemmas.Bool.{cases_lt}
use Rattle.sp_word.specs.Word.{Word, Unreached, Pair, Fits, dist_of, max_dist}
use Rattle.sp_word.specs.History.{Table}
use Rattle.sp_paths.specs.Paths.{Graph, IsGraph, IsVertex, HasArc, HasWalk, HasWalkBy, IsLeast, IsPredecessor, IsTreePair, IsLawful, IsTreeWord, IsAtMost}
use Rattle.sp_paths.proofs.Walks.{arc_in, walk_from_by, walk_by_parts, walk_cases, walk_more}
use Rattle.sp_offer.specs.Order.{IsKnownWord, IsNoMore}
use Rattle.sp_offer.proofs.Orders.{at_most-both}
use Rattle.sp_phase.specs.declared.marks.LeaderMark.{LeaderMark}
use Rattle.sp_phase.specs.Stage.{Stage, law_of, Falls}
use Rattle.sp_phase.specs.Rounds.{IsRunning}
use Rattle.sp_run.proofs.LawfulWalks.{lawful_walk}

-- a word that is no more than one that is at most a pair
pub at_most_pair : (a b : Word) (d p : ℕ) → IsNoMore a b → IsAtMost b d p → IsAtMost a d p
at_most_pair Unreached Unreached d p le h = h
at_most_pair Unreached (Pair e q) d p le h = absurd le
at_most_pair (Pair f r) Unreached d p le h = absurd h
at_most_pair (Pair f r) (Pair e q) d p le h =
    ⊎_elim
    (λ (less : f < e). ⊎_elim (λ (k : e < d). inl (omega arith)) (λ (k : (e ≡ d) × (q ≤ p)). let same = k.0 in inl (omega arith)) h)
    (λ (one : (f ≡ e) × (r ≤ q)). let same = one.0 in let low = one.1 in ⊎_elim (λ (k : e < d). inl (omega arith)) (λ (k : (e ≡ d) × (q ≤ p)). let too = k.0 in let more = k.1 in inr (omega arith, omega arith)) h)
    le

-- nothing is less than (0, 0)
pub zero_stays : (a b : Word) → b ≡ Pair 0 0 → IsNoMore a b → a ≡ Pair 0 0
zero_stays Unreached b is le = absurd (let none : IsNoMore Unreached (Pair 0 0) = rw is at le in none)
zero_stays (Pair d p) b is le =
    let low : IsNoMore (Pair d p) (Pair 0 0) = rw is at le in
    ⊎_elim (λ (k : d < 0). absurd (omega arith)) (λ (k : (d ≡ 0) × (p ≤ 0)). let one = k.0 in let two : p ≡ 0 = (let low' = k.1 in omega arith) in λ i. Pair (one i) (two i)) low

-- a run goes on as more becomes known
pub running_falls : (P : ℕ) (st : Stage) (before after : Table) (marks : List LeaderMark) → Falls before after → ((v : ℕ) → IsKnownWord (law_of P st) v (after v)) → IsRunning P st before marks → IsRunning P st after marks
running_falls P st before after marks falls lawful run = record {
  source = zero_stays (after st.source) (before st.source) run.source (falls st.source);
  lawful = lawful;
  size = run.size;
  relaxed = record {
    light_arcs = λ u v l d a short at fits. at_most_pair (after v) (before v) (d + l) u (falls v) (run.relaxed.light_arcs u v l d a short at fits);
    heavy_arcs = λ u v l d a long at fits. at_most_pair (after v) (before v) (d + l) u (falls v) (run.relaxed.heavy_arcs u v l d a long at fits);
  };
}

-- ## Lawful words

pub dist_pair : (w : Word) (d : ℕ) → dist_of w ≡ Some d → (p : ℕ) × (w ≡ Pair d p)
dist_pair Unreached d is = absurd (cc)
dist_pair (Pair e q) d is = let same : e ≡ d = cc in (q, λ i. Pair (same i) q)

-- what is known of a vertex as a pair is the length of a walk, and fits
pub known_pair : (P : ℕ) (st : Stage) (v : ℕ) (w : Word) (d p : ℕ) → IsKnownWord (law_of P st) v w → w ≡ Pair d p → IsLawful st.graph st.source v (Pair d p) × (d ≤ max_dist P)
known_pair P st v Unreached d p known is = absurd (cc)
known_pair P st v (Pair e q) d p (inl none) is = absurd (cc)
known_pair P st v (Pair e q) d p (inr law) is =
    let F : Word → Type 0 = λ w. IsLawful st.graph st.source v w in
    let G : Word → Type 0 = λ w. Fits P w in
    let fits : Fits P (Pair d p) = subst G is law.1 in
    (subst F is law.2, fits.0)

pub known_lawful : (P : ℕ) (st : Stage) (v : ℕ) (w : Word) → IsKnownWord (law_of P st) v w → IsLawful st.graph st.source v w
known_lawful P st v Unreached known = tt
known_lawful P st v (Pair d p) (inl none) = absurd (cc)
known_lawful P st v (Pair d p) (inr law) = law.2

-- walks end at vertices
pub walk_vertex : (g : Graph) (s v d : ℕ) → IsGraph g → IsVertex g.n s → HasWalk g s v d → IsVertex g.n v
walk_vertex g s v d gr at walk = go (walk_cases g s v d walk)
  where
    go : ((s ≡ v) × (d ≡ 0)) ⊎ ((u c l : ℕ) × HasWalk g s u c × HasArc g u v l × (c + l ≡ d)) → IsVertex g.n v
    go (inl same) = rw (sym same.0) at
    go (inr (u, c, l, w, a, e)) = (arc_in g gr u v l a).1

-- a word of the tree is no more than any lawful word
zero_first : (d p e q : ℕ) → d ≡ 0 → p ≡ 0 → IsNoMore (Pair d p) (Pair e q)
zero_first d p e q one two = ⊎_elim (λ (k : d < e). inl k) (λ (k : e ≤ d). inr (omega arith, omega arith)) (cases_lt d e)

tree_first : (g : Graph) (s v d p e q : ℕ) → IsTreePair g s v d p → HasWalkBy g s v e q → IsNoMore (Pair d p) (Pair e q)
tree_first g s v d p e q tree by = go (walk_by_parts g s v e q by) (cases_lt d e) (tree.least.least e (walk_from_by g s v e q by))
  where
    go : (c l : ℕ) × HasWalk g s q c × HasArc g q v l × (c + l ≡ e) → (d < e) ⊎ (e ≤ d) → d ≤ e → IsNoMore (Pair d p) (Pair e q)
    go parts (inl less) low = inl less
    go (c, l, w, a, sum) (inr more) low =
        let same : d ≡ e = omega arith in
        let least : IsLeast g s q c = record { walk = w; least = λ x x_walk. (let h = tree.least.least (x + l) (walk_more g s q v x l x_walk a) in omega arith) } in
        let before : IsPredecessor g s v d q = (c, l, least, a, sum ∙ sym same) in
        inr (same, tree.smallest q before)

tree_lowest : (g : Graph) (s v : ℕ) (w x : Word) → IsTreeWord g s v w → IsLawful g s v x → IsNoMore w x
tree_lowest g s v w Unreached tree law = tt
tree_lowest g s v Unreached (Pair e q) tree law = absurd (tree e (lawful_walk g s v e q law))
tree_lowest g s v (Pair d p) (Pair e q) (inl own) law = zero_first d p e q own.1 own.2
tree_lowest g s v (Pair d p) (Pair e q) (inr tree) (inl own) = absurd (tree.0 own.0)
tree_lowest g s v (Pair d p) (Pair e q) (inr tree) (inr by) = tree_first g s v d p e q tree.1 by

-- what is known, and no more than a word of the tree, is that word
pub tree_known : (P : ℕ) (st : Stage) (v : ℕ) (w x : Word) → IsTreeWord st.graph st.source v w → IsKnownWord (law_of P st) v x → IsNoMore x w → x ≡ w
tree_known P st v w x tree known le = at_most-both x w le (tree_lowest st.graph st.source v w x tree (known_lawful P st v x known))
