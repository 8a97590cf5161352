-- The words that the offers of a programme leave, in any order.
use Rattle.std.specs.Prelude.{◌≡◌, ℕ, ◌⊎◌, List, length, Some}
use Rattle.sp_word.specs.Word.{Word, Unreached}
use Rattle.sp_machine.specs.Programme.{Programme, IsNumber, item_of}
use Rattle.sp_machine.specs.declared.item.Item.TheVariants.{Offer}
use Rattle.sp_offer.specs.Order.{IsNoMore}
use Rattle.sp_offer.specs.Story.{copied_word}

-- Some actor offers this pair to the vertex.
abbrev pub IsOffered : {P : ℕ} → Programme P → (vertex : ℕ) → Word → Type 0
IsOffered p v w = (actor k : ℕ) × IsNumber p.actors actor × (item_of p.rows actor k ≡ Some (Offer v w))

-- The word is unreached or one of the pairs offered to the vertex, and at most each of them.
pub record IsLeastOffer {P : ℕ} (p : Programme P) (v : ℕ) (w : Word) : Type 0 where
  pub known : (w ≡ Unreached) ⊎ IsOffered p v w
  pub least : (other : Word) → IsOffered p v other → IsNoMore w other

-- There is a word for each vertex: the least one offered to it.
pub record AreLeast {P : ℕ} (p : Programme P) (words : List Word) : Type 0 where
  pub wide : length words ≡ p.words
  pub least : (v : ℕ) → IsNumber p.words v → IsLeastOffer p v (copied_word words v)
