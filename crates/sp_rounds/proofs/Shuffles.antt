-- The same entries in another order.
use Rattle.std.proofs.Common.{List, [], ◌∷◌, ◌++◌, subst, append_assoc}
use Rattle.std.specs.Prelude.{IsPermutation}
use Rattle.std.proofs.lemmas.List.Sorted.{IsPermutation-sym, IsPermutation-trans, IsPermutation-middle, IsPermutation-append_left, IsPermutation-append_right, IsPermutation-append_comm}

module _ {X : Type 0} where
  -- one more at the end of the first list
  pub one_more : (x : X) (a b : List X) → IsPermutation (x ∷ (a ++ b)) ((a ++ x ∷ []) ++ b)
  one_more x a b = rw append_assoc (IsPermutation-sym (a ++ x ∷ b) (x ∷ (a ++ b)) (IsPermutation-middle a x b))

  -- one more in the second list
  pub one_more_behind : (x : X) (a b c : List X) → IsPermutation (x ∷ b) c → IsPermutation (x ∷ (a ++ b)) (a ++ c)
  one_more_behind x a b c more = IsPermutation-trans (x ∷ (a ++ b)) (a ++ x ∷ b) (a ++ c) (IsPermutation-sym (a ++ x ∷ b) (x ∷ (a ++ b)) (IsPermutation-middle a x b)) (IsPermutation-append_right a (x ∷ b) c more)

  -- a part of the second list comes to the front
  pub to_front : (a b part c : List X) → IsPermutation b (part ++ c) → IsPermutation (a ++ b) (part ++ (a ++ c))
  to_front a b part c same =
      let front : IsPermutation (a ++ b) ((a ++ part) ++ c) = rw append_assoc (IsPermutation-append_right a b (part ++ c) same) in
      let turned : IsPermutation ((a ++ part) ++ c) ((part ++ a) ++ c) = IsPermutation-append_left c (a ++ part) (part ++ a) (IsPermutation-append_comm a part) in
      let back : IsPermutation ((a ++ part) ++ c) (part ++ (a ++ c)) = subst (IsPermutation ((a ++ part) ++ c)) (append_assoc part a c) turned in
      IsPermutation-trans (a ++ b) ((a ++ part) ++ c) (part ++ (a ++ c)) front back
