-- The next line, piece by piece.
use Rattle.std.proofs.Common.{◌≡◌, ℕ, ◌+◌, List, ◌∷◌, ◌++◌, length, drop, sym, ap, ◌∙◌, append_assoc}
use Rattle.std.proofs.Math.Seq.{drop-append-add}

-- What came is what came of the line, and what waits.
pub came_on : (all room waits line next : List ℕ) → all ≡ room ++ waits → line ≡ room ++ waits → all ++ next ≡ line ++ next
came_on all room waits line next is line_is = ap (λ (t : List ℕ). t ++ next) (is ∙ sym line_is)

pub came_behind : (all room waits run line after : List ℕ) → all ≡ room ++ waits → waits ≡ run ++ after → line ≡ room ++ run → all ≡ line ++ after
came_behind all room waits run line after is parts line_is = is ∙ (ap (λ (t : List ℕ). room ++ t) parts ∙ (sym (append_assoc room run after) ∙ ap (λ (t : List ℕ). t ++ after) (sym line_is)))

-- What stands behind a line and its LF.
pub behind_lf : (line more : List ℕ) → drop (length line + 1) (line ++ 10 ∷ more) ≡ more
behind_lf line more = drop-append-add line (10 ∷ more) 1
