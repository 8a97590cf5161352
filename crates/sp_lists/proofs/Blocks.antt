-- Blocks of n places, one after the other.
use Rattle.std.proofs.Common.{◌≡◌, ◌<◌, ◌≤◌, ◌+◌, ◌-◌, ◌*◌, ◌⊎◌, inl, inr, ℕ, List, length, Some, refl, sym, ap, ◌∙◌, subst, add-one, arith}
use Rattle.std.specs.Prelude.{slice_get, slice_index}
use Rattle.std.proofs.Math.Nat.{suc-mul, mul-le-mul_right}
use Rattle.std.proofs.lemmas.Option.{get_or_from_slice_get, slice_get-get_or}
use Rattle.sp_paths.specs.Paths.{Graph, IsVertex}
use Rattle.sp_lists.specs.declared.outcomes.Outcome.{Outcome}
use Rattle.sp_lists.specs.declared.outcomes.Outcome.TheVariants.{Done, TooFar, Memory}
use Rattle.sp_lists.specs.Blocks.{Slices, IsCell, HasSameAt, HasTreeAt, KeepsOthers, IsSolvedAt, AreDone, AreSolved}

pub next_block : (i n : ℕ) → (i + 1) * n ≡ i * n + n
next_block i n = ap (λ k. k * n) (add-one i) ∙ suc-mul i n

-- A block before another ends where that one begins, or earlier.
earlier : (i place n : ℕ) → i < place → i * n + n ≤ place * n
earlier i place n h =
    let step : i + 1 ≤ place = omega arith in
    let P : ℕ → Type 0 = λ k. k ≤ place * n in
    subst P (next_block i n) (mul-le-mul_right n step)

cell_below : (low n k v : ℕ) → k + n ≤ low → IsVertex n v → k + (v - 1) < low
cell_below low n k v h is =
    let a : 1 ≤ v = is.0 in
    let b : v ≤ n = is.1 in
    omega arith

-- A tree stands where its places hold what they held.
stays : (max : ℕ) (g : Graph) (s low at : ℕ) (old new : Slices) → low + g.n ≤ at → KeepsOthers at g.n old new → HasTreeAt max g s low old → HasTreeAt max g s low new
stays max g s low at old new behind same is = record {
  words = is.words;
  tree = is.tree;
  far = is.far;
  cells = λ v vertex.
      let k = low + (v - 1) in
      let both : HasSameAt old new k = same.below k (cell_below at g.n low v behind vertex) in
      let D : ℕ → Type 0 = λ x. IsCell (is.words v) x (slice_index new.pred k) in
      let E : ℕ → Type 0 = λ x. IsCell (is.words v) (slice_index old.dist k) x in
      subst D (sym both.0) (subst E (sym both.1) (is.cells v vertex));
}

-- What blocks of n places hold, one after the other, with one block more.
pub next_holds : {S : Type 0} (Holds : (s low : ℕ) → S → Type 0) (sources : List ℕ) (n place : ℕ) (mid new : S) → ((i s : ℕ) → i * n + n ≤ place * n → Holds s (i * n) mid → Holds s (i * n) new)
    → ((i s : ℕ) → i < place → slice_get sources i ≡ Some s → Holds s (i * n) mid) → Holds (slice_index sources place) (place * n) new → (i s : ℕ) → i < place + 1 → slice_get sources i ≡ Some s → Holds s (i * n) new
next_holds Holds sources n place mid new stay before last i s h there =
    let which : (i < place) ⊎ (i ≡ place) = grind arith in
    elim which [
      | inl below ↦ stay i s (earlier i place n below) (before i s below there)
      | inr e ↦
          let here : slice_get sources place ≡ Some s = subst (λ k. slice_get sources k ≡ Some s) e there in
          let source : slice_index sources place ≡ s = get_or_from_slice_get sources place s 0 here in
          let T : ℕ → Type 0 = λ x. Holds x (place * n) new in
          let L : ℕ → Type 0 = λ x. Holds s (x * n) new in
          subst L (sym e) (subst T source last)
    ]

kept_twice : (old mid new : Slices) (k : ℕ) → HasSameAt old mid k → HasSameAt mid new k → HasSameAt old new k
kept_twice old mid new k first then = (then.0 ∙ first.0, then.1 ∙ first.1)

-- One source more is done.
pub one_more : (max : ℕ) (g : Graph) (sources : List ℕ) (place low : ℕ) (old mid new : Slices) → low ≡ place * g.n → AreDone max g sources place old mid
    → IsSolvedAt max g (slice_index sources place) low mid new Done → AreDone max g sources (place + 1) old new
one_more max g sources place low old mid new at done solved =
    let R : ℕ → Type 0 = λ x. IsSolvedAt max g (slice_index sources place) x mid new Done in
    let block : R (place * g.n) = subst R at solved in record {
      trees = next_holds (HasTreeAt max g) sources g.n place mid new (λ i s behind is. stays max g s (i * g.n) (place * g.n) mid new behind block.1 is) done.trees block.0;
      rest = λ k h.
          let beyond : place * g.n + g.n ≤ k = subst (λ x. x ≤ k) (next_block place g.n) h in
          let above : place * g.n ≤ k = omega arith in
          kept_twice old mid new k (done.rest k above) (block.1.beyond k beyond);
    }

-- Why a source has no tree is why there are no more.
pub stopped : (max : ℕ) (g : Graph) (sources : List ℕ) (place low : ℕ) (old mid new : Slices) (told : Outcome) → place < length sources → (told ≡ Done → ⊥) → AreDone max g sources place old mid
    → IsSolvedAt max g (slice_index sources place) low mid new told → AreSolved max g sources old new (record { done = place; told = told })
stopped max g sources place low old mid new Done within not done is = absurd (not refl)
stopped max g sources place low old mid new (TooFar v) within not done is = (
  subst (λ x. AreDone max g sources place old x) (sym is.1) done,
  (slice_index sources place, slice_get-get_or sources place 0 within, is.0),
)
stopped max g sources place low old mid new Memory within not done is = (
  subst (λ x. AreDone max g sources place old x) (sym is) done,
  inl within,
)
stopped max g sources place low old mid new told within not done is = absurd is
