-- From a copy's words to what is known, and what stays known.
use Rattle.std.proofs.Common.{◌≡◌, ℕ, true, refl, ◌+◌, ◌*◌, ◌/◌, ◌%◌, ◌<◌, ◌≤◌, List, length, Option, Some, None, sym, subst, arith}
use Rattle.std.specs.Prelude.{All}
use Rattle.std.proofs.lemmas.Nat.{div-add-mod'}
use Rattle.sp_word.specs.Word.{Word, Unreached, Pair, max_dist, is_layout}
use Rattle.sp_word.specs.History.{Table}
use Rattle.sp_word.proofs.Layouts.{by_layout}
use Rattle.sp_paths.specs.Paths.{IsVertex, IsLeast, IsNear, IsTreeWord, IsSettled, EndsInTree, IsPair, Found, TooFar, NoWalk, word_at}
use Rattle.sp_paths.specs.Phase.{PassesTest, TestedIsSettled, TestedIsPair, SweptEndsInTree, SweptIsPair}
use Rattle.sp_paths.proofs.Least.{least_exists}
use Rattle.sp_graph.specs.LeftOut.{IsLeastLeftOut}
use Rattle.sp_offer.specs.Order.{IsKnownWord}
use Rattle.sp_offer.specs.Story.{Knowledge, known_table}
use Rattle.sp_bins.specs.declared.entry.Entry.{Entry}
use Rattle.sp_rounds.specs.Content.{BucketsContent, IsLowest}
use Rattle.sp_phase.specs.declared.marks.LeaderMark.{LeaderMark}
use Rattle.sp_phase.specs.Stage.{Stage, IsStage, Falls, law_of}
use Rattle.sp_phase.specs.Marks.{light_at, heavy_at}
use Rattle.sp_phase.specs.declared.sweeping.RelaxedBelow.{RelaxedBelow}
use Rattle.sp_phase.specs.Running.{IsQueued}
use Rattle.sp_phase.specs.Sweep.{AreRelaxed, IsCopied, IsSwept}
use Rattle.sp_phase.specs.Settling.{IsTold, IsSettledExactly, EndsExactly}
use Rattle.sp_run.proofs.LawfulWalks.{lawful_walk}
use Rattle.sp_phase.proofs.KnownWords.{tree_known, known_pair, walk_vertex}

-- a vertex of which a pair is known is near
module _ (P : ℕ) (st : Stage) (stage : IsStage P st) (words : Table) (lawful : (v : ℕ) → IsKnownWord (law_of P st) v (words v)) where
  pub far_unknown : (v : ℕ) → (w : Word) → words v ≡ w → (IsNear st.graph st.source (max_dist P) v → ⊥) → w ≡ Unreached
  far_unknown v Unreached is far = refl
  far_unknown v (Pair d p) is far =
      let told = known_pair P st v (words v) d p (lawful v) is in
      let least = least_exists st.graph stage.graph st.source v d (lawful_walk st.graph st.source v d p told.0) in
      absurd (far (least.0, least.1, (let low = least.2 in let most = told.1 in omega arith)))

  -- its least length is at most the distance of the pair, which fits a word
  pair_near : (v d p : ℕ) → words v ≡ Pair d p → (c : ℕ) × IsLeast st.graph st.source v c × (c ≤ d) × (d ≤ max_dist P)
  pair_near v d p is =
      let told = known_pair P st v (words v) d p (lawful v) is in
      let least = least_exists st.graph stage.graph st.source v d (lawful_walk st.graph st.source v d p told.0) in
      (least.0, least.1, least.2, told.1)

  -- where all is settled below a bound, each pair below it is of the tree
  pub exactly : (bound : ℕ) → IsSettled st.graph st.source (max_dist P) bound words → IsSettledExactly st.graph st.source (max_dist P) bound words
  exactly bound settled = record {
    settled = settled;
    pairs = λ v d p at is low.
        let near = pair_near v d p is in
        let least = near.2 in
        let most = near.3 in
        subst (IsTreeWord st.graph st.source v) is (settled v near.0 near.1 (omega arith) (omega arith));
  }

  pub ends_exactly : EndsInTree st.graph st.source (max_dist P) words → EndsExactly st.graph st.source (max_dist P) words
  ends_exactly ends = record {
    ends = ends;
    pairs = λ v d p at is.
        let near = pair_near v d p is in
        let least = near.2 in
        let most = near.3 in
        subst (IsTreeWord st.graph st.source v) is (ends.near v (near.0, near.1, omega arith));
  }

-- ## Copies

module _ (P : ℕ) (st : Stage) (c : Knowledge) (marks : List LeaderMark) (words : List Word) (copy : IsCopied P st c marks words) where
  -- where the copy has the tree's word, the caller knows it
  pub same_word : (v : ℕ) → IsVertex st.graph.n v → IsTreeWord st.graph st.source v (word_at words v) → known_table c.story v ≡ word_at words v
  same_word v at tree = tree_known P st v (word_at words v) (known_table c.story v) tree (copy.lawful v) (copy.above v at)

  tree_word : (v : ℕ) → IsVertex st.graph.n v → IsTreeWord st.graph st.source v (word_at words v) → IsTreeWord st.graph st.source v (known_table c.story v)
  tree_word v at tree = subst (IsTreeWord st.graph st.source v) (sym (same_word v at tree)) tree

  pub settled_known : (bound : ℕ) → IsSettled st.graph st.source (max_dist P) bound (word_at words) → IsSettled st.graph st.source (max_dist P) bound (known_table c.story)
  settled_known bound settled v d least below fits = tree_word v (walk_vertex st.graph st.source v d copy.stage.graph copy.stage.source least.walk) (settled v d least below fits)

  pub ends_known : EndsInTree st.graph st.source (max_dist P) (word_at words) → EndsInTree st.graph st.source (max_dist P) (known_table c.story)
  ends_known ends = record {
    near = λ v near. tree_word v (walk_vertex st.graph st.source v near.0 copy.stage.graph copy.stage.source near.1.walk) (ends.near v near);
    others = λ v at far. far_unknown P st copy.stage (known_table c.story) copy.lawful v (known_table c.story v) refl far;
  }

  -- the test of a bucket passed
  module _ (i : ℕ) (b : RelaxedBelow) (light : b.light ≡ (i + 1) * st.delta) (heavy : b.heavy ≡ i * st.delta) (all : AreRelaxed words marks b (length words)) where
    in_copy : (u : ℕ) → IsVertex st.graph.n u → IsVertex (length words) u
    in_copy u h = subst (λ k. IsVertex k u) (sym copy.size) h

    passes : PassesTest st.graph st.delta i (word_at words) (light_at marks) (heavy_at marks)
    passes = record {
      light_below = λ u d p h is lt. (all u d p (in_copy u h) is).0 (subst (λ k. d < k) (sym light) lt);
      heavy_below = λ u d p h is lt. (all u d p (in_copy u h) is).1 (subst (λ k. d < k) (sym heavy) lt);
    }

    test_settled : TestedIsSettled → IsSettled st.graph st.source (max_dist P) ((i + 1) * st.delta) (word_at words)
    test_settled law = law st.graph st.source (max_dist P) st.delta i copy.words (word_at words) (light_at marks) (heavy_at marks) copy.of passes

    -- so a target whose copied word lies below its end has its answer
    pub test_pair : TestedIsPair → (t d p : ℕ) → IsVertex st.graph.n t → word_at words t ≡ Pair d p → d < b.light → IsPair st.graph st.source t (max_dist P) (Found d p)
    test_pair law t d p vertex is low =
        law st.graph st.source (max_dist P) st.delta i copy.words (word_at words) (light_at marks) (heavy_at marks) copy.of passes t d p vertex is (subst (λ k. d < k) light low)

  pub test_told : TestedIsSettled → (i : ℕ) (b : RelaxedBelow) → b.light ≡ (i + 1) * st.delta → b.heavy ≡ i * st.delta → AreRelaxed words marks b (length words) → IsTold P st (Some i) c
  test_told law i b light heavy all =
      exactly P st copy.stage (known_table c.story) copy.lawful ((i + 1) * st.delta) (settled_known ((i + 1) * st.delta) (test_settled i b light heavy all law))

-- a sweep found no open vertex
pub sweep_told : (P : ℕ) (st : Stage) (c : Knowledge) (marks : List LeaderMark) (words : List Word) → IsSwept P st c marks words → SweptEndsInTree → IsTold P st None c
sweep_told P st c marks words swept law =
    ends_exactly P st swept.0.stage (known_table c.story) swept.0.lawful
    (ends_known P st c marks words swept.0 (law st.graph st.source (max_dist P) st.delta swept.0.words (word_at words) (light_at marks) (heavy_at marks) swept.0.of swept.1))

-- and the copy has the answer for each target that it has a word of
pub sweep_pair : (P : ℕ) (st : Stage) (c : Knowledge) (marks : List LeaderMark) (words : List Word) → IsSwept P st c marks words → SweptIsPair
    → (t d p : ℕ) → IsVertex st.graph.n t → word_at words t ≡ Pair d p → IsPair st.graph st.source t (max_dist P) (Found d p)
sweep_pair P st c marks words swept law t d p vertex is =
    (law st.graph st.source (max_dist P) st.delta swept.0.words (word_at words) (light_at marks) (heavy_at marks) swept.0.of swept.1 t).found d p vertex is

-- where it has none, the vertex left out tells what is so
pub sweep_far : (P : ℕ) (st : Stage) (c : Knowledge) (marks : List LeaderMark) (words : List Word) → IsSwept P st c marks words → SweptIsPair
    → (t v : ℕ) → word_at words t ≡ Unreached → IsLeastLeftOut st.graph (word_at words) (Some v) → IsPair st.graph st.source t (max_dist P) (TooFar v)
sweep_far P st c marks words swept law t v none out =
    (law st.graph st.source (max_dist P) st.delta swept.0.words (word_at words) (light_at marks) (heavy_at marks) swept.0.of swept.1 t).too_far v none out.0 out.1

pub sweep_none : (P : ℕ) (st : Stage) (c : Knowledge) (marks : List LeaderMark) (words : List Word) → IsSwept P st c marks words → SweptIsPair
    → (t : ℕ) → word_at words t ≡ Unreached → IsLeastLeftOut st.graph (word_at words) None → IsPair st.graph st.source t (max_dist P) NoWalk
sweep_none P st c marks words swept law t none out =
    (law st.graph st.source (max_dist P) st.delta swept.0.words (word_at words) (light_at marks) (heavy_at marks) swept.0.of swept.1 t).no_walk none out

-- ## What was told stays true

module _ (P : ℕ) (st : Stage) (before after : Table) (falls : Falls before after) (lawful : (v : ℕ) → IsKnownWord (law_of P st) v (after v)) where
  -- a word of the tree falls no further
  word_stays : (v : ℕ) → IsTreeWord st.graph st.source v (before v) → after v ≡ before v
  word_stays v tree = tree_known P st v (before v) (after v) tree (lawful v) (falls v)

  pub tree_stays : (v : ℕ) → IsTreeWord st.graph st.source v (before v) → IsTreeWord st.graph st.source v (after v)
  tree_stays v tree = subst (IsTreeWord st.graph st.source v) (sym (word_stays v tree)) tree

  settled_stays : (bound : ℕ) → IsSettled st.graph st.source (max_dist P) bound before → IsSettled st.graph st.source (max_dist P) bound after
  settled_stays bound settled v d least below fits = tree_stays v (settled v d least below fits)

module _ (P : ℕ) (st : Stage) (stage : IsStage P st) (before after : Knowledge) (falls : Falls (known_table before.story) (known_table after.story)) (lawful : (v : ℕ) → IsKnownWord (law_of P st) v (known_table after.story v)) where
  pub told_stays : (bucket : Option ℕ) → IsTold P st bucket before → IsTold P st bucket after
  told_stays None told = ends_exactly P st stage (known_table after.story) lawful (record {
    near = λ v near. tree_stays P st (known_table before.story) (known_table after.story) falls lawful v (told.ends.near v near);
    others = λ v at far. far_unknown P st stage (known_table after.story) lawful v (known_table after.story v) refl far;
  })
  told_stays (Some i) told =
      exactly P st stage (known_table after.story) lawful ((i + 1) * st.delta)
      (settled_stays P st (known_table before.story) (known_table after.story) falls lawful ((i + 1) * st.delta) told.settled)

-- ## The end of a bucket fits 64 bits

twice_fits : (P a b : ℕ) → is_layout P ≡ true → a ≤ max_dist P → b ≤ max_dist P → a + b < 18446744073709551616
twice_fits P a b layout one two =
    by_layout (λ Q. a ≤ max_dist Q → b ≤ max_dist Q → a + b < 18446744073709551616) P layout (λ h k. omega arith) (λ h k. omega arith) (λ h k. omega arith) (λ h k. omega arith) one two

pub bucket_fits : (P : ℕ) (st : Stage) → IsStage P st → (b : BucketsContent) (i : ℕ) → b.delta ≡ st.delta → All (IsQueued P st) b.entries → IsLowest b i → i * st.delta + st.delta < 18446744073709551616
bucket_fits P st stage b i width all lowest =
    let e : Entry = lowest.here.1 in
    let there = all lowest.here.0 e lowest.here.2 in
    let queued = subst (IsQueued P st) lowest.here.3 there in
    let number : e.dist / b.delta ≡ i = lowest.here.4 in
    let whole : e.dist / b.delta * b.delta + e.dist % b.delta ≡ e.dist = div-add-mod' e.dist b.delta in
    let D : ℕ → ℕ → Type 0 = λ n m. n * m + e.dist % b.delta ≡ e.dist in
    let same : i * st.delta + e.dist % b.delta ≡ e.dist = subst (λ m. D i m) width (subst (λ n. D n b.delta) number whole) in
    let low = queued.1 in
    twice_fits P (i * st.delta) st.delta stage.layout (omega arith) stage.narrow
