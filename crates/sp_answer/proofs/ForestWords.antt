-- The forest of the words of a run.
use Rattle.std.proofs.Common.{◌≡◌, ℕ, ◌-◌, List, length, Option, Some, None, refl, sym, ap, ◌∙◌, subst}
use Rattle.std.specs.Prelude.{map}
use Rattle.std.proofs.Math.ListN.{get_or-map}
use Rattle.std.proofs.lemmas.List.{length-map}
use Rattle.sp_word.specs.Word.{Word, Unreached}
use Rattle.sp_paths.specs.Paths.{Graph, word_at}
use Rattle.sp_answer.specs.Within.{up_to}
use Rattle.sp_answer.specs.declared.answer.RunError.TheVariants.{TooFar}
use Rattle.sp_paths.specs.Forests.{IsForestWord}
use Rattle.sp_answer.specs.Nearest.{IsForestUpTo, IsRefusal}
use Rattle.sp_answer.specs.Run.{AreForestWords, words_within}

-- the word of a vertex after a cut
pub cut_word : (limit : ℕ) (words : List Word) (v : ℕ) → word_at (map (up_to limit) words) v ≡ up_to limit (word_at words v)
cut_word limit words v = get_or-map (up_to limit) words (v - 1) Unreached

none_some : {v : ℕ} → Some v ≡ None → ⊥
none_some e = cc

size_within : (limit : Option ℕ) (words : List Word) → length (words_within limit words) ≡ length words
size_within None words = refl
size_within (Some limit) words = length-map words (up_to limit)

module _ (P : ℕ) (g : Graph) (sources : List ℕ) where
  pub forest_size : (limit : Option ℕ) (words cut : List Word) (far : Option ℕ) → cut ≡ words_within limit words → AreForestWords P g sources limit words far → length cut ≡ g.n
  forest_size limit words cut far made are = ap (λ (ws : List Word). length ws) made ∙ size_within limit words ∙ are.size

  pub forest_up_to : (limit : Option ℕ) (words cut : List Word) → cut ≡ words_within limit words → AreForestWords P g sources limit words None → IsForestUpTo P g sources limit (word_at cut)
  forest_up_to None words cut made are = subst (λ (ws : List Word). IsForestUpTo P g sources None (word_at ws)) (sym made) are.tells
  forest_up_to (Some limit) words cut made are =
      let same : (v : ℕ) → up_to limit (word_at words v) ≡ word_at cut v = λ v. sym (cut_word limit words v) ∙ ap (λ (ws : List Word). word_at ws v) (sym made) in
      let part = are.tells.0 in
      record {
        near = λ v n. subst (IsForestWord g sources v) (same v) (part.near v n);
        others = λ v at far. sym (same v) ∙ part.others v at far;
      }

  pub too_far : (limit : Option ℕ) (words : List Word) (v : ℕ) → AreForestWords P g sources limit words (Some v) → IsRefusal P g sources limit (TooFar v)
  too_far None words v are = (are.vertices, are.tells)
  too_far (Some limit) words v are = absurd (none_some are.tells.1)
