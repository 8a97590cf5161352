-- Steps that lower words.
use Rattle.std.proofs.Common.{ℕ, ◌-◌, List, [], ◌∷◌, ◌++◌, refl, subst}
use Rattle.std.specs.Prelude.{Contains, slice_set}
use Rattle.sp_word.specs.Word.{Word}
use Rattle.sp_paths.specs.declared.arc.Arc.{Arc}
use Rattle.sp_paths.specs.Paths.{word_at}
use Rattle.sp_judge.specs.Passing.{IsLesserOffer}
use Rattle.sp_judge.specs.Lowering.{Step, AreSteps, IsLowered}

module _ (max : ℕ) (arcs : List Arc) where
  -- no step leaves the words as they are
  pub lowered_none : (words : List Word) → IsLowered max arcs words words
  lowered_none words = ([], refl)

  pub lowered_one : (words : List Word) (arc : Arc) (word : Word) → Contains arcs arc → IsLesserOffer max (word_at words arc.tail) arc (word_at words arc.head) word → IsLowered max arcs words (slice_set words (arc.head - 1) word)
  lowered_one words arc word here lesser = ((arc, word) ∷ [], (here, lesser, refl))

  steps_append : (xs ys : List Step) (a b c : List Word) → AreSteps max arcs xs a b → AreSteps max arcs ys b c → AreSteps max arcs (xs ++ ys) a c
  steps_append [] ys a b c first second = subst (λ words. AreSteps max arcs ys words c) first second
  steps_append (x ∷ xs) ys a b c first second = (first.0, first.1, steps_append xs ys (slice_set a (x.0.head - 1) x.1) b c first.2 second)

  -- steps behind steps
  pub lowered_then : (a b c : List Word) → IsLowered max arcs a b → IsLowered max arcs b c → IsLowered max arcs a c
  lowered_then a b c first second = (first.0 ++ second.0, steps_append first.0 second.0 a b c first.1 second.1)
