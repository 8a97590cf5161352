-- What a programme's items are.
use Rattle.std.proofs.Common.{◌≡◌, ◌∙◌, ℕ, ◌-◌, ◌<◌, List, [], ◌∷◌, length, length-set, refl, slice_set, get_or, Option, Some, None, sym, subst, IfSome}
use Rattle.std.specs.Prelude.{All}
use Rattle.sp_word.specs.Word.{Word}
use Rattle.sp_machine.specs.declared.item.Item.{Item}
use Rattle.sp_machine.specs.Programme.{Programme, IsProgramme, IsNumber, IsItem, item_of, named_words}

pub within_words : {P : ℕ} (p : Programme P) → IsProgramme p → (actor k : ℕ) (found : Option (Item P)) → found ≡ item_of p.rows actor k → IfSome found (IsItem p.words)
within_words p is actor k None same = tt
within_words p is actor k (Some item) same = is.items actor k item (sym same)

-- each vertex that is named is one of the programme's
pub vertex_there : (n : ℕ) (named : List (ℕ × Word)) (i : ℕ) (x : ℕ × Word) → All (λ y. IsNumber n y.0) named → i < length named → x ≡ get_or named i x → IsNumber n x.0
vertex_there n named i x all within is = subst (λ (y : ℕ × Word). IsNumber n y.0) (sym is) (all i x within)

-- names change no number of words
pub length-named_words : (words : List Word) (named : List (ℕ × Word)) → length (named_words words named) ≡ length words
length-named_words words [] = refl
length-named_words words (x ∷ more) = length-named_words (slice_set words (x.0 - 1) x.1) more ∙ length-set words (x.0 - 1) x.1
