-- The answer of a run, from its words and their roots.
use Rattle.std.proofs.Common.{◌≡◌, ℕ, List, length, Option, Some, None, sym, subst, ◌∙◌}
use Rattle.std.specs.Prelude.{All, Contains}
use Rattle.sp_word.specs.Word.{Word}
use Rattle.sp_word.specs.History.{Table}
use Rattle.sp_paths.specs.Paths.{Graph, IsGraph, IsVertex, IsLeast, word_at}
use Rattle.sp_paths.specs.Forests.{IsForestWord}
use Rattle.sp_paths.specs.Roots.{IsRoot}
use Rattle.sp_paths.specs.ForestLaws.{HasRoots as HasRootsByLaw}
use Rattle.sp_paths.proofs.ForestWalks.{any_vertex}
use Rattle.sp_paths.proofs.Chains.{forest_has_roots, part_has_roots}
use Rattle.sp_answer.specs.ForestTable.{ForestTable, table_of}
use Rattle.sp_answer.specs.Rooted.{HoldsWords, HoldsRoots}
use Rattle.sp_answer.specs.Nearest.{IsForestUpTo, HasRoots, IsForestAnswer}
use Rattle.sp_answer.proofs.RootSteps.{leads_same}

module _ (P : ℕ) (g : Graph) (graph : IsGraph g) (sources : List ℕ) (vertices : All (IsVertex g.n) sources) where
  -- a table with the same words is the same forest
  up_to_same : (limit : Option ℕ) (words other : Table) → ((v : ℕ) → IsVertex g.n v → other v ≡ words v) → IsForestUpTo P g sources limit words → IsForestUpTo P g sources limit other
  up_to_same None words other same h = (λ v at. subst (IsForestWord g sources v) (sym (same v at)) (h.0 v at), h.1)
  up_to_same (Some limit) words other same h = record {
    near = λ v near. subst (IsForestWord g sources v) (sym (same v (any_vertex g graph sources vertices v near.0 near.1.walk))) (h.near v near);
    others = λ v at far. same v at ∙ h.others v at far;
  }

  pub law_of : (limit : Option ℕ) (words : Table) → IsForestUpTo P g sources limit words → HasRootsByLaw g sources words
  law_of None words h = forest_has_roots g sources words graph vertices h.0
  law_of (Some limit) words h = part_has_roots g sources limit words graph h

  pub answer_is : (limit : Option ℕ) (words : List Word) → length words ≡ g.n → IsForestUpTo P g sources limit (word_at words) → (f : ForestTable) → f.n ≡ length words → HoldsWords words f → HoldsRoots words f → IsForestAnswer P g sources limit f
  answer_is limit words size h f n holds rooted = record {
    vertices = vertices;
    n = n ∙ size;
    forest = forest;
    roots = roots;
  }
    where
      place : (v : ℕ) → IsVertex g.n v → IsVertex (length words) v
      place v at = subst (λ k. IsVertex k v) (sym size) at

      same : (v : ℕ) → IsVertex g.n v → table_of f v ≡ word_at words v
      same v at = holds v (place v at)

      forest : IsForestUpTo P g sources limit (table_of f)
      forest = up_to_same limit (word_at words) (table_of f) same h

      roots : HasRoots g sources f
      roots v d p at is =
          let told = rooted v d p (place v at) (sym (same v at) ∙ is) in
          let r = told.0 in
          let chain : IsRoot (table_of f) v r = (told.2.0, leads_same g.n (word_at words) (law_of limit (word_at words) h).falls (table_of f) same told.2.0 v r at told.2.1) in
          let law = (law_of limit (table_of f) forest).roots v d p at is in
          let root : r ≡ law.root = law.one r chain in (
            r,
            told.1,
            record {
              chain = chain;
              source = subst (Contains sources) (sym root) law.source;
              dist = subst (λ x. IsLeast g x v d) (sym root) (law.dist d p is);
            },
          )
