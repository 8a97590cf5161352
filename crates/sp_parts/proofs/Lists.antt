-- Lists that grow.
use Rattle.std.proofs.Common.{◌≡◌, Bool, true, false, cond, List, ◌++◌}
use Rattle.std.specs.List.{All}
use Rattle.std.proofs.lemmas.List.Elements.{All-append}

-- Some elements are put behind others, or nothing changes.
pub all_with : {X : Type 0} (P : X → Type 0) (added : Bool) (xs ys new : List X) → new ≡ cond added (xs ++ ys) xs → All P xs → All P ys → All P new
all_with P true xs ys new is all more = rw is (All-append P xs ys all more)
all_with P false xs ys new is all more = rw is all
