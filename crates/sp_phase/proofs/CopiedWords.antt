-- What a leader's copy of the words shows, and the tree that is made of it.
use Rattle.std.proofs.Common.{◌≡◌, ℕ, ◌+◌, ◌-◌, ◌<◌, ◌≤◌, ◌⊎◌, inl, inr, List, [], ◌∷◌, ◌++◌, length, get_or, take, Option, Some, None, true, refl, sym, ap, ◌∙◌, subst, arith}
use Rattle.std.specs.Prelude.{All, IfSome, IfNone, option_to_list, slice_get}
use Rattle.std.specs.List.Sorted.{IsPermutation}
use Rattle.std.proofs.lemmas.Bool.{cases_lt}
use Rattle.std.proofs.lemmas.List.{get_or_default, append-nil}
use Rattle.std.proofs.lemmas.List.Elements.{All-push}
use Rattle.std.proofs.lemmas.Option.{unwrap_or-slice_get}
use Rattle.std.specs.Option.{unwrap_or}
use Rattle.sp_word.specs.Word.{Word, Unreached, Pair, dist_of, max_dist, is_layout}
use Rattle.sp_word.specs.History.{Table}
use Rattle.sp_word.proofs.Layouts.{by_layout}
use Rattle.sp_paths.specs.Paths.{Graph, IsGraph, IsVertex, IsLawful, IsAtMost, IsTree, IsTreeWord, IsFar, word_at}
use Rattle.sp_paths.specs.declared.arc.Arc.{Arc}
use Rattle.sp_paths.specs.Phase.{IsMarkedCopy, SweptIsTree, SweptIsFar}
use Rattle.sp_graph.specs.LeftOut.{network, IsLeastLeftOut}
use Rattle.sp_paths.proofs.Walks.{arc_in, walk_by_parts}
use Rattle.sp_offer.specs.Order.{IsKnownWord, IsNoMore}
use Rattle.sp_offer.specs.Story.{Knowledge, known_table, IsCopy}
use Rattle.sp_bins.specs.declared.entry.Entry.{Entry}
use Rattle.sp_rounds.specs.Content.{BucketsContent}
use Rattle.sp_answer.specs.Table.{TreeTable, HasPredWithin, table_of, tree_of}
use Rattle.sp_phase.specs.declared.marks.LeaderMark.{LeaderMark}
use Rattle.sp_answer.specs.declared.answer.RunError.TheVariants.{TooFar}
use Rattle.sp_phase.specs.Stage.{Stage, IsStage, law_of}
use Rattle.sp_phase.specs.Marks.{NotedMarks, mark_of, light_at, heavy_at}
use Rattle.sp_phase.proofs.TaskMarks.{some_same}
use Rattle.sp_phase.specs.declared.sweeping.RelaxedBelow.{RelaxedBelow}
use Rattle.sp_phase.specs.Lead.{Lead}
use Rattle.sp_phase.specs.Running.{IsQueued, Holds, Leads}
use Rattle.sp_phase.specs.Sweep.{IsMarkedAt, IsRelaxedAtDist, IsRelaxedHere, AreRelaxed, IsOpen, IsCopied, IsSwept, HasCopied, HasWords}
use Rattle.sp_answer.specs.Answer.{IsAnswer, IsRefusal}
use Rattle.sp_run.proofs.LawfulWalks.{lawful_walk}
use Rattle.sp_phase.proofs.KnownWords.{dist_pair, at_most_pair, zero_stays, known_pair, known_lawful, walk_vertex, tree_known}
use Rattle.sp_phase.proofs.LeaderHolds.{leads_queued, put_queued}

-- nothing is known of what is no vertex
known_outside : (P : ℕ) (st : Stage) (v : ℕ) (w : Word) (d p : ℕ) → IsStage P st → (IsVertex st.graph.n v → ⊥) → IsKnownWord (law_of P st) v w → IsAtMost w d p → ⊥
known_outside P st v Unreached d p stage out known_table le = le
known_outside P st v (Pair e q) d p stage out known_table le =
    out (walk_vertex st.graph st.source v e stage.graph stage.source (lawful_walk st.graph st.source v e q (known_pair P st v (Pair e q) e q known_table refl).0))

is_vertex : (n v : ℕ) → IsVertex n v ⊎ (IsVertex n v → ⊥)
is_vertex n v = go (cases_lt 0 v) (cases_lt n v)
  where
    go : (0 < v) ⊎ (v ≤ 0) → (n < v) ⊎ (v ≤ n) → IsVertex n v ⊎ (IsVertex n v → ⊥)
    go (inr low) _ = inr (λ at. absurd (let h = at.0 in omega arith))
    go (inl low) (inl high) = inr (λ at. absurd (let h = at.1 in omega arith))
    go (inl low) (inr high) = inl (omega arith, high)

module _ (P : ℕ) (st : Stage) (stage : IsStage P st) (before after : Knowledge) (m : NotedMarks) (words : List Word) (h : Holds P st before m) (size : length words ≡ st.graph.n) (copy : IsCopy (law_of P st) words before.story after.story) (lawful : (v : ℕ) → IsKnownWord (law_of P st) v (known_table after.story v)) where
  low_enough : (v : ℕ) → IsVertex st.graph.n v → v ≤ length words
  low_enough v at = let k = at.1 in omega arith

  known_word : (v : ℕ) → IsVertex st.graph.n v → IsKnownWord (law_of P st) v (word_at words v)
  known_word v at = copy.lawful v at.0 (low_enough v at)

  below : (v : ℕ) → IsVertex st.graph.n v → IsNoMore (word_at words v) (known_table before.story v)
  below v at = copy.below v at.0 (low_enough v at)

  no_greater : (v d p : ℕ) → IsVertex st.graph.n v ⊎ (IsVertex st.graph.n v → ⊥) → IsAtMost (known_table before.story v) d p → IsAtMost (word_at words v) d p
  no_greater v d p (inl at) le = at_most_pair (word_at words v) (known_table before.story v) d p (below v at) le
  no_greater v d p (inr out) le = absurd (known_outside P st v (known_table before.story v) d p stage out (h.running.lawful v) le)

  of_copy : IsMarkedCopy st.graph st.source (max_dist P) st.delta (known_table before.story) (word_at words) (light_at m.each) (heavy_at m.each)
  of_copy = record {
    graph = stage.graph;
    source = stage.source;
    wide = stage.wide;
    table = record {
      lawful = λ v at. known_lawful P st v (word_at words v) (known_word v at);
      source = zero_stays (word_at words st.source) (known_table before.story st.source) h.running.source (below st.source stage.source);
    };
    within = λ v d p at is. (known_pair P st v (word_at words v) d p (known_word v at) is).1;
    relaxed = h.running.relaxed;
    below = λ v d p le. no_greater v d p (is_vertex st.graph.n v) le;
  }

  pub copied : IsCopied P st after m.each words
  copied = record {
    words = known_table before.story;
    of = of_copy;
    size = size;
    above = λ v at. copy.above v at.0 (low_enough v at);
    stage = stage;
    lawful = lawful;
  }

-- distances fit 64 bits, with one number to spare
pub dist_fits : (P d : ℕ) → is_layout P ≡ true → d ≤ max_dist P → d < 18446744073709551615
dist_fits P d layout low = by_layout (λ Q. d ≤ max_dist Q → d < 18446744073709551615) P layout (λ h. omega arith) (λ h. omega arith) (λ h. omega arith) (λ h. omega arith) low

-- where no entry is open, no vertex is
pub none_open : (P : ℕ) (st : Stage) (c : Knowledge) (marks : List LeaderMark) (words : List Word) (b : RelaxedBelow) → b.light ≡ 18446744073709551615 → b.heavy ≡ 18446744073709551615 → IsCopied P st c marks words
    → AreRelaxed words marks b (length words) → IsSwept P st c marks words
none_open P st c marks words b light heavy copy all = (
  copy,
  λ u d p at is.
      let fits = dist_fits P d copy.stage.layout (copy.of.within u d p at is) in
      let r = all u d p (let k = at.1 in let s = copy.size in (at.0, omega arith)) is in
      (r.0 (omega arith), r.1 (omega arith)),
)

-- ## The tree

pred_within : (g : Graph) (s v : ℕ) (w : Word) → IsGraph g → IsLawful g s v w → HasPredWithin g.n w
pred_within g s v Unreached gr law = tt
pred_within g s v (Pair d p) gr (inl own) = let zero_is = own.2 in omega arith
pred_within g s v (Pair d p) gr (inr by) = let parts = walk_by_parts g s v d p by in (arc_in g gr p v parts.1 parts.3).0.1

pub preds_within : (P : ℕ) (st : Stage) (c : Knowledge) (marks : List LeaderMark) (words : List Word) → IsCopied P st c marks words → All (HasPredWithin (length words)) words
preds_within P st c marks words copy k d lt =
    let at : IsVertex st.graph.n (k + 1) = (let s = copy.size in (omega arith, omega arith)) in
    let law : IsLawful st.graph st.source (k + 1) (word_at words (k + 1)) = copy.of.table.lawful (k + 1) at in
    let place : k + 1 - 1 ≡ k = omega arith in
    let is : word_at words (k + 1) ≡ get_or words k d = ap (λ i. get_or words i Unreached) place ∙ get_or_default words k Unreached d lt in
    subst (λ n. HasPredWithin n (get_or words k d)) (sym copy.size) (subst (HasPredWithin st.graph.n) is (pred_within st.graph st.source (k + 1) (word_at words (k + 1)) copy.of.graph law))

module _ (P : ℕ) (st : Stage) (c : Knowledge) (marks : List LeaderMark) (words : List Word) (copy : IsCopied P st c marks words) (t : TreeTable) (is : t ≡ tree_of st.source words) (each : (v : ℕ) → 1 ≤ v → v ≤ t.n → slice_get words (v - 1) ≡ Some (table_of t v)) where
  pub has_words : HasWords t st.graph.n (word_at words)
  has_words v at =
      let n : t.n ≡ length words = ap (λ x. x.n) is in
      let s = copy.size in
      let k = at.1 in
      sym (unwrap_or-slice_get words (v - 1) Unreached) ∙ ap (λ o. unwrap_or o Unreached) (each v at.0 (omega arith))

  pub is_answer : IsTree st.graph st.source (word_at words) → IsFar st.graph st.source (max_dist P) None → IsAnswer P st.graph st.source t
  is_answer tree far = record {
    vertex = copy.stage.source;
    n = ap (λ x. x.n) is ∙ copy.size;
    source = ap (λ x. x.source) is;
    tree = λ v at. subst (IsTreeWord st.graph st.source v) (has_words v at) (tree v at);
    far = far;
  }

-- the leader knows no more than the tree's words, and no less
pub known_words : (P : ℕ) (st : Stage) (c : Knowledge) (marks : List LeaderMark) (words : List Word) (t : TreeTable) → IsCopied P st c marks words → IsTree st.graph st.source (table_of t) → HasWords t st.graph.n (word_at words)
    → HasWords t st.graph.n (known_table c.story)
known_words P st c marks words t copy tree has v at =
    tree_known P st v (table_of t v) (known_table c.story v) (tree v at) (copy.lawful v) (subst (IsNoMore (known_table c.story v)) (has v at) (copy.above v at))

-- ## The search for open vertices

relaxed_more : (words : List Word) (marks : List LeaderMark) (b : RelaxedBelow) (k : ℕ) → AreRelaxed words marks b k → IsRelaxedHere words marks b (k + 1) → AreRelaxed words marks b (k + 1)
relaxed_more words marks b k before here u d p at is = go (cases_lt k u)
  where
    go : (k < u) ⊎ (u ≤ k) → IsRelaxedAtDist marks b u d
    go (inr low) = before u d p (at.0, low) is
    go (inl high) =
        let same : k + 1 ≡ u = (let h = at.1 in omega arith) in
        let H : ℕ → Type 0 = λ x. IsRelaxedHere words marks b x in
        subst H same here d p is

nothing_more : (xs : List Entry) (x : Entry) → xs ++ x ∷ [] ≡ [] → ⊥
nothing_more [] x e = absurd (cc)
nothing_more (y ∷ ys) x e = absurd (cc)

pub open_more : (words : List Word) (marks : List LeaderMark) (b : RelaxedBelow) (k : ℕ) (old new : List Entry) (o : Option Entry) → new ≡ old ++ option_to_list o → (old ≡ [] → AreRelaxed words marks b k)
    → IfNone o (IsRelaxedHere words marks b (k + 1)) → new ≡ [] → AreRelaxed words marks b (k + 1)
open_more words marks b k old new None is before here none = relaxed_more words marks b k (before (sym (append-nil old) ∙ (sym is ∙ none))) here
open_more words marks b k old new (Some e) is before here none = absurd (nothing_more old e (sym is ∙ none))

pub entries_more : (F : Entry → Type 0) (old new : List Entry) (o : Option Entry) → new ≡ old ++ option_to_list o → All F old → IfSome o F → All F new
entries_more F old new None is all one = subst (λ xs. All F xs) (sym (is ∙ append-nil old)) all
entries_more F old new (Some e) is all one = subst (λ xs. All F xs) (sym is) (All-push F old e all one)

-- a vertex with no distance, and one with a distance
pub none_here : (words : List Word) (marks : List LeaderMark) (b : RelaxedBelow) (u : ℕ) (w : Word) → w ≡ word_at words u → dist_of w ≡ None → IsRelaxedHere words marks b u
none_here words marks b u Unreached read is d p at = absurd (let e : Unreached ≡ Pair d p = read ∙ at in cc)
none_here words marks b u (Pair e q) read is d p at = absurd (cc)

pub relaxed_here : (words : List Word) (marks : List LeaderMark) (b : RelaxedBelow) (u dist : ℕ) (w : Word) (m : LeaderMark) → w ≡ word_at words u → dist_of w ≡ Some dist → m ≡ mark_of marks u
    → IsMarkedAt m b dist → IsRelaxedHere words marks b u
relaxed_here words marks b u dist w m read is mark h d p at =
    let same : dist ≡ d = some_same dist d (sym is ∙ ap dist_of (read ∙ at)) in
    let H : ℕ → Type 0 = λ x. IsRelaxedAtDist marks b u x in
    subst H same (λ lt. ap (λ k. k.light) (sym mark) ∙ h.0 lt, λ lt. ap (λ k. k.heavy) (sym mark) ∙ h.1 lt)

pub open_here : (words : List Word) (marks : List LeaderMark) (b : RelaxedBelow) (u dist : ℕ) (w : Word) (m : LeaderMark) → IsVertex (length words) u → w ≡ word_at words u → dist_of w ≡ Some dist → m ≡ mark_of marks u
    → (IsMarkedAt m b dist → ⊥) → IsOpen words marks b (record { vertex = u; dist = dist })
open_here words marks b u dist w m at read is mark h =
    let pair = dist_pair w dist is in
    (at, (pair.0, sym read ∙ pair.1), λ r. h (λ lt. ap (λ k. k.light) mark ∙ r.0 lt, λ lt. ap (λ k. k.heavy) mark ∙ r.1 lt))

pub kept_here : (words : List Word) (marks : List LeaderMark) (b : RelaxedBelow) (u dist : ℕ) (w : Word) (m : LeaderMark) (o : Option Entry) → w ≡ word_at words u → dist_of w ≡ Some dist → m ≡ mark_of marks u → IfNone o (IsMarkedAt m b dist) → IfNone o (IsRelaxedHere words marks b u)
kept_here words marks b u dist w m None read is mark h = relaxed_here words marks b u dist w m read is mark h
kept_here words marks b u dist w m (Some e) read is mark h = tt

pub told_open : (words : List Word) (marks : List LeaderMark) (b : RelaxedBelow) (u dist : ℕ) (w : Word) (m : LeaderMark) (o : Option Entry) → IsVertex (length words) u → w ≡ word_at words u → dist_of w ≡ Some dist → m ≡ mark_of marks u
    → IfSome o (λ e. e ≡ record { vertex = u; dist = dist }) → IfSome o (λ _. IsMarkedAt m b dist → ⊥) → IfSome o (IsOpen words marks b)
told_open words marks b u dist w m None at read is mark same h = tt
told_open words marks b u dist w m (Some e) at read is mark same h = subst (IsOpen words marks b) (sym same) (open_here words marks b u dist w m at read is mark h)

-- what is open may be queued
open_queued : (P : ℕ) (st : Stage) (c : Knowledge) (marks : List LeaderMark) (words : List Word) (b : RelaxedBelow) (open' : List Entry) → IsCopied P st c marks words → All (IsOpen words marks b) open' → All (IsQueued P st) open'
open_queued P st c marks words b open' copy all k d lt =
    let h = all k d lt in
    let e = get_or open' k d in
    let size = copy.size in
    let low = h.0.1 in
    let at : IsVertex st.graph.n e.vertex = (h.0.0, omega arith) in
    (at, copy.of.within e.vertex e.dist h.1.0 at h.1.1)

-- some of the open vertices were queued
pub leads_opened : (P : ℕ) (l : Lead) (q : BucketsContent) (b : RelaxedBelow) (open' xs : List Entry) (k : ℕ) → HasCopied P l → xs ≡ open' → All (IsOpen l.words l.marks.each b) open' → q.delta ≡ l.buckets.delta
    → IsPermutation (l.buckets.entries ++ take k xs) q.entries → Leads P l.stage l → Leads P l.stage (record l { buckets = q })
leads_opened P l q b open' xs k copy is all width moved led =
    let queued = subst (λ es. All (IsQueued P l.stage) es) (sym is) (open_queued P l.stage l.caller l.marks.each l.words b open' copy all) in
    leads_queued P l.stage l q width (put_queued (IsQueued P l.stage) l.buckets.entries xs q.entries k moved led.entries queued) led

-- ## Vertices that are left out

pub left_of_graph : (g : Graph) (n : ℕ) (arcs : List Arc) (words : Table) (o : Option ℕ) → n ≡ g.n → arcs ≡ g.arcs → IsLeastLeftOut (network n arcs) words o → IsLeastLeftOut g words o
left_of_graph g n arcs words o size same h =
    let L : ℕ → List Arc → Type 0 = λ m as'. IsLeastLeftOut (network m as') words o in
    subst (λ as'. L g.n as') same (subst (λ m. L m arcs) size h)

pub told_far : (P : ℕ) (st : Stage) (c : Knowledge) (marks : List LeaderMark) (words : List Word) (v : ℕ) → SweptIsFar → IsSwept P st c marks words → IsLeastLeftOut st.graph (word_at words) (Some v) → IsRefusal P st.graph st.source (TooFar v)
told_far P st c marks words v far swept out =
    (swept.0.stage.source, far st.graph st.source (max_dist P) st.delta swept.0.words (word_at words) (light_at marks) (heavy_at marks) swept.0.of swept.1 v out.0 out.1)

pub told_tree : (P : ℕ) (st : Stage) (c : Knowledge) (marks : List LeaderMark) (words : List Word) → SweptIsTree → IsSwept P st c marks words → IsLeastLeftOut st.graph (word_at words) None → IsTree st.graph st.source (word_at words) × IsFar st.graph st.source (max_dist P) None
told_tree P st c marks words tree swept out = tree st.graph st.source (max_dist P) st.delta swept.0.words (word_at words) (light_at marks) (heavy_at marks) swept.0.of swept.1 out
