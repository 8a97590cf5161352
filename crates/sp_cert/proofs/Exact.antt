-- What the rules decide of a tree, of its part within a limit, and of a forest.
use Rattle.std.proofs.Common.{◌≡◌, ℕ, ◌≤◌, ◌⊎◌, ◌↔◌, inl, inr, List, [], ◌∷◌, Option, None, Some, sym, refl, subst, arith}
use Rattle.std.specs.Prelude.{Contains, All, IfSome, length, slice_index_or}
use Rattle.std.proofs.lemmas.Bool.{cases_eq}
use Rattle.std.proofs.lemmas.List.{get_or_default}
use Rattle.sp_word.specs.Word.{max_dist}
use Rattle.sp_word.specs.History.{Table}
use Rattle.sp_paths.specs.Paths.{Graph, IsVertex, IsBeyond}
use Rattle.sp_paths.specs.Forests.{IsBeyond as IsBeyondAll}
use Rattle.sp_answer.specs.ForestTable.{ForestTable, IsForestTable, table_of, root_of}
use Rattle.sp_answer.specs.Nearest.{IsForestUpTo}
use Rattle.sp_paths.specs.ForestLaws.{OneSource}
use Rattle.sp_paths.proofs.ForestWalks.{contains_first, contains_front}
use Rattle.sp_paths.proofs.OneForest.{forest_of_one_is_tree}
use Rattle.sp_cert.specs.declared.rule.Rule.TheVariants.{Size}
use Rattle.sp_cert.specs.declared.sources.SourceRule.TheVariants.{One, WithoutPred}
use Rattle.sp_cert.specs.Claims.{tree_claim, claim_of_forest, sources_in}
use Rattle.sp_cert.specs.Rules.{Passes, IsTreeOf, RulesAreExact, IsPartOfTree, PartRulesAreExact, IsCounted, IsForestOf, ForestRulesAreExact}
use Rattle.sp_cert.proofs.Checker.{IsRight, IsBounded, rules_right, right_rules}
use Rattle.sp_cert.proofs.ForestRows.{source_listed, listed_source, listed_vertex, forest_within}

-- ## One source

module _ (s : ℕ) where
  listed : (v : ℕ) → v ≡ s → Contains (s ∷ []) v
  listed v e = subst (Contains (s ∷ [])) (sym e) (contains_first s [])

  named : (v : ℕ) → Contains (s ∷ []) v → v ≡ s
  named v here = go (contains_front s v [] here)
    where
      go : (s ≡ v) ⊎ Contains [] v → v ≡ s
      go (inl e) = sym e
      go (inr none) = absurd (omega (arith, none.1))

all_listed : (xs : List ℕ) (P : ℕ → Type 0) → ((x : ℕ) → Contains xs x → P x) → All P xs
all_listed xs P each k d lt = let x = slice_index_or xs k d in each x (k, lt, get_or_default xs k x d lt)

module _ (g : Graph) (s max : ℕ) where
  one : OneSource g s
  one = forest_of_one_is_tree g s

  beyond_one : (v : ℕ) → IsBeyondAll g (s ∷ []) max v → IsBeyond g s max v
  beyond_one v b = record {
    dist = b.dist;
    least = (one.nearest v b.dist).0 b.least;
    above = b.above;
    tail = b.tail;
    tail_dist = b.tail_dist;
    tail_least = (one.nearest b.tail b.tail_dist).0 b.tail_least;
    tail_within = b.tail_within;
    len = b.len;
    arc = b.arc;
  }

  beyond_all : (v : ℕ) → IsBeyond g s max v → IsBeyondAll g (s ∷ []) max v
  beyond_all v b = record {
    dist = b.dist;
    least = (one.nearest v b.dist).1 b.least;
    above = b.above;
    tail = b.tail;
    tail_dist = b.tail_dist;
    tail_least = (one.nearest b.tail b.tail_dist).1 b.tail_least;
    tail_within = b.tail_within;
    len = b.len;
    arc = b.arc;
  }

-- if the numbers are wrong, the rule of the size fails
sized_or : (sized X : Type 0) → sized ⊎ (sized → ⊥) → ((sized → ⊥) → ⊥) → (sized → X) → X
sized_or sized X (inl size) passes from = from size
sized_or sized X (inr other) passes from = absurd (passes other)

pub rules_are_exact : RulesAreExact
rules_are_exact g max n s words gr source within = (λ passes. sized_or (n ≡ g.n) (IsTreeOf g max n s words) (cases_eq n g.n) (λ other. passes 0 Size (refl, other)) (there passes), back)
  where
    in' : n ≡ g.n → All (IsVertex g.n) (s ∷ [])
    in' size = all_listed (s ∷ []) (IsVertex g.n) (λ x here. subst (IsVertex g.n) (sym (named s x here)) (subst (λ m. IsVertex m s) size source))

    there : Passes g max (n ≡ g.n) (tree_claim s None words) → n ≡ g.n → IsTreeOf g max n s words
    there passes size =
        let (right, rooted) = rules_right g gr max (One s) words (s ∷ []) (in' size) (λ v h. (listed s v, named s v)) (n ≡ g.n) None None within size passes in
        record { size = size; tree = ((one g s max).forest words).0 right.0; none_far = λ v b. right.1 v (beyond_all g s max v b) }

    back : IsTreeOf g max n s words → Passes g max (n ≡ g.n) (tree_claim s None words)
    back t = right_rules g gr max (One s) words (s ∷ []) (in' t.size) (λ v h. (listed s v, named s v)) (n ≡ g.n) None None t.size (((one g s max).forest words).1 t.tree, λ v b. t.none_far v (beyond_one g s max v b)) tt

pub part_rules_are_exact : PartRulesAreExact
part_rules_are_exact g max limit n s words gr source low = (λ passes. sized_or (n ≡ g.n) (IsPartOfTree g limit n s words) (cases_eq n g.n) (λ other. passes 0 Size (refl, other)) (there passes), back)
  where
    in' : n ≡ g.n → All (IsVertex g.n) (s ∷ [])
    in' size = all_listed (s ∷ []) (IsVertex g.n) (λ x here. subst (IsVertex g.n) (sym (named s x here)) (subst (λ m. IsVertex m s) size source))

    there : Passes g max (n ≡ g.n) (tree_claim s (Some limit) words) → n ≡ g.n → IsPartOfTree g limit n s words
    there passes size =
        let (right, rooted) = rules_right g gr max (One s) words (s ∷ []) (in' size) (λ v h. (listed s v, named s v)) (n ≡ g.n) (Some limit) None low size passes in
        record { size = size; part = ((one g s max).within limit words).0 right }

    back : IsPartOfTree g limit n s words → Passes g max (n ≡ g.n) (tree_claim s (Some limit) words)
    back t = right_rules g gr max (One s) words (s ∷ []) (in' t.size) (λ v h. (listed s v, named s v)) (n ≡ g.n) (Some limit) None t.size (((one g s max).within limit words).1 t.part) tt

-- ## Forests

right_up_to : (P : ℕ) (g : Graph) (ss : List ℕ) (limit : Option ℕ) (words : Table) → IsRight (max_dist P) g ss limit words ↔ IsForestUpTo P g ss limit words
right_up_to P g ss None words = (λ h. h, λ h. h)
right_up_to P g ss (Some limit) words = (λ h. h, λ h. h)

counted_or : (g : Graph) (f : ForestTable) (count : ℕ) → IsCounted g f count ⊎ (IsCounted g f count → ⊥)
counted_or g f count = go (cases_eq f.n g.n) (cases_eq count (length (sources_in f)))
  where
    go : (f.n ≡ g.n) ⊎ (f.n ≡ g.n → ⊥) → (count ≡ length (sources_in f)) ⊎ (count ≡ length (sources_in f) → ⊥) → IsCounted g f count ⊎ (IsCounted g f count → ⊥)
    go (inl a) (inl b) = inl (a, b)
    go (inr a) _ = inr (λ h. a h.0)
    go (inl a) (inr b) = inr (λ h. b h.1)

bounded : (P : ℕ) (g : Graph) (f : ForestTable) (limit : Option ℕ) → IsForestTable P f → IfSome limit (λ l. l ≤ max_dist P) → IsBounded (max_dist P) g limit (table_of f)
bounded P g f None table low = forest_within P f table g.n
bounded P g f (Some limit) table low = low

pub forest_rules_are_exact : ForestRulesAreExact
forest_rules_are_exact P g f count limit gr table low = (λ passes. sized_or (IsCounted g f count) (IsForestOf P g f count limit) (counted_or g f count) (λ other. passes 0 Size (refl, other)) (there passes), back)
  where
    in' : f.n ≡ g.n → All (IsVertex g.n) (sources_in f)
    in' size = all_listed (sources_in f) (IsVertex g.n) (λ x here. subst (λ n. IsVertex n x) size (listed_vertex P f table x here))

    there : Passes g (max_dist P) (IsCounted g f count) (claim_of_forest f limit) → IsCounted g f count → IsForestOf P g f count limit
    there passes size =
        let (right, rooted) = rules_right g gr (max_dist P) WithoutPred (table_of f) (sources_in f) (in' size.0) (λ v h. (source_listed P f table v, listed_source P f table v)) (IsCounted g f count) limit (Some (root_of f)) (bounded P g f limit table low) size passes in
        record { size = size; forest = (right_up_to P g (sources_in f) limit (table_of f)).0 right; roots = rooted }

    back : IsForestOf P g f count limit → Passes g (max_dist P) (IsCounted g f count) (claim_of_forest f limit)
    back t = right_rules g gr (max_dist P) WithoutPred (table_of f) (sources_in f) (in' t.size.0) (λ v h. (source_listed P f table v, listed_source P f table v)) (IsCounted g f count) limit (Some (root_of f)) t.size ((right_up_to P g (sources_in f) limit (table_of f)).1 t.forest) t.roots
