-- The texts of pages, which are sent while others are made.
use Rattle.std.proofs.Common.{◌≡◌, ℕ, ◌+◌, ◌<◌, List, [], ◌∷◌, ◌++◌, length, take, get_or, refl, sym, ap, ◌∙◌}
use Rattle.std.proofs.lemmas.List.{append-nil, take_more}
use Rattle.std.proofs.lemmas.List.Folds.{concat-append}
use Rattle.std.specs.List.{concat}

-- One page more with no text.
pub one_more_empty : (pages all : List (List ℕ)) (page : List ℕ) → concat pages ≡ [] → page ≡ [] → all ≡ pages ++ page ∷ [] → concat all ≡ []
one_more_empty pages all page none empty is = rw (is, concat-append pages (page ∷ []), none, empty) refl

-- The text of one page more.
pub page_behind : (place : ℕ) (pages : List (List ℕ)) (page : List ℕ) → place < length pages → page ≡ get_or pages place page → concat (take (place + 1) pages) ≡ concat (take place pages) ++ page
page_behind place pages page within is =
    ap concat (take_more pages place page within ∙ ap (λ (p : List ℕ). take place pages ++ p ∷ []) (sym is))
    ∙ (concat-append (take place pages) (page ∷ []) ∙ ap (λ (t : List ℕ). concat (take place pages) ++ t) (append-nil page))

-- The texts of pages in two parts.
pub both_made : (left right : List (List ℕ)) (group later whole : List ℕ) → concat left ≡ group → concat right ≡ later → whole ≡ group ++ later → concat (left ++ right) ≡ whole
both_made left right group later whole left_made right_made is = rw (is, concat-append left right, left_made, right_made) refl
