-- How a history goes on.
use Rattle.std.proofs.Common.{◌≡◌, ℕ, List, [], ◌∷◌, ◌++◌, refl}
use Rattle.sp_word.specs.History.{Table, Event, IsAnswered, after, run, IsLegal}

-- the table after one more event
pub run_push : (t : Table) (es : List Event) (e : Event) (v : ℕ) → run t (es ++ e ∷ []) v ≡ after (run t es) e v
run_push t [] e v = refl
run_push t (x ∷ xs) e v = run_push (after t x) xs e v

-- a history stays legal with one more event that is answered as it should be
pub legal_push : (t : Table) (es : List Event) (e : Event) → IsLegal t es → IsAnswered (run t es e.vertex) e.call → IsLegal t (es ++ e ∷ [])
legal_push t [] e legal answered = (answered, tt)
legal_push t (x ∷ xs) e legal answered = (legal.0, legal_push (after t x) xs e legal.1 answered)
