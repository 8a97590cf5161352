-- What the words of a run from one source tell: its tree, and the part of it within a limit.
use Rattle.std.proofs.Common.{◌≡◌, ℕ, ◌-◌, ◌≤◌, List, [], ◌∷◌, length, Option, Some, None, sym, ap, ◌∙◌, subst, arith}
use Rattle.std.specs.Prelude.{All, map, slice_get}
use Rattle.std.specs.Option.{unwrap_or}
use Rattle.std.proofs.lemmas.List.{length-map}
use Rattle.std.proofs.lemmas.Option.{unwrap_or-slice_get}
use Rattle.sp_word.specs.Word.{Word, Unreached, max_dist}
use Rattle.sp_paths.specs.Paths.{Graph, IsGraph, IsVertex, IsFar as IsFarOne, IsTreeWord, EndsInTree, word_at}
use Rattle.sp_paths.proofs.Walks.{walk_vertex}
use Rattle.sp_answer.specs.Table.{TreeTable, table_of, tree_of}
use Rattle.sp_answer.specs.Answer.{IsAnswer}
use Rattle.sp_answer.specs.Within.{IsTreeWithin, up_to}
use Rattle.sp_paths.specs.ForestLaws.{OneSource}
use Rattle.sp_answer.specs.Run.{AreWholeWords, ArePartWords}
use Rattle.sp_paths.proofs.OneForest.{forest_of_one_is_tree}
use Rattle.sp_answer.proofs.ForestWords.{cut_word}

module _ (P : ℕ) (g : Graph) (s : ℕ) where
  law : OneSource g s
  law = forest_of_one_is_tree g s

  vertex_of : All (IsVertex g.n) (s ∷ []) → IsVertex g.n s
  vertex_of h = h 0 0 (omega arith)

  -- ## The rows of words

  module _ (words : List Word) (t : TreeTable) (is : t ≡ tree_of s words) (each : (v : ℕ) → 1 ≤ v → v ≤ t.n → slice_get words (v - 1) ≡ Some (table_of t v)) where
    same : t.n ≡ g.n → (v : ℕ) → IsVertex g.n v → word_at words v ≡ table_of t v
    same n v at = let k = at.1 in sym (unwrap_or-slice_get words (v - 1) Unreached) ∙ ap (λ o. unwrap_or o Unreached) (each v at.0 (omega arith))

    pub whole_tree : AreWholeWords P g s words None → IsAnswer P g s t
    whole_tree are =
        let n : t.n ≡ g.n = ap (λ x. x.n) is ∙ are.size in
        record {
          vertex = vertex_of are.vertices;
          n = n;
          source = ap (λ x. x.source) is;
          tree = λ v at. subst (IsTreeWord g s v) (same n v at) ((law.word v (word_at words v)).0 (are.tells.0 v at));
          far = (law.far (max_dist P) None).0 are.tells.1;
        }

    pub part_tree : (limit : ℕ) (all : List Word) (far : Option ℕ) → words ≡ map (up_to limit) all → IsGraph g → ArePartWords P g s limit all far → IsTreeWithin g s limit t
    part_tree limit all far made graph are =
        let n : t.n ≡ g.n = ap (λ x. x.n) is ∙ ap (λ (ws : List Word). length ws) made ∙ length-map all (up_to limit) ∙ are.size in
        let source : IsVertex g.n s = vertex_of are.vertices in
        let ends : EndsInTree g s limit (λ v. up_to limit (word_at all v)) = (law.within limit (λ v. up_to limit (word_at all v))).0 are.tells.0 in
        let there : (v : ℕ) → IsVertex g.n v → up_to limit (word_at all v) ≡ table_of t v = λ v at. sym (cut_word limit all v) ∙ ap (λ (ws : List Word). word_at ws v) (sym made) ∙ same n v at in
        record {
          vertex = source;
          n = n;
          source = ap (λ x. x.source) is;
          tree = record {
            near = λ v near. subst (IsTreeWord g s v) (there v (walk_vertex g graph s source v near.0 near.1.walk)) (ends.near v near);
            others = λ v at far. sym (there v at) ∙ ends.others v at far;
          };
        }

  pub far_of : (words : List Word) (v : ℕ) → AreWholeWords P g s words (Some v) → IsVertex g.n s × IsFarOne g s (max_dist P) (Some v)
  far_of words v are = (vertex_of are.vertices, (law.far (max_dist P) (Some v)).0 are.tells)
