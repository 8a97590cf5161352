use Rattle.std.proofs.Common.{◌≡◌, ◌<◌, ◌^◌, ℕ, List, Option, None, arith, rules, sym, subst}
use Rattle.sp_options.specs.Numbers.{SpellsNumber}
use Rattle.sp_options.specs.Places.{SpellsPlaces, AreInOrder, ArePlacesIn}
use Rattle.sp_options.proofs.places.places_of.Goals as goal

none_in : (word : List ℕ) (r : Option (ℕ × ℕ)) → r ≡ None → ((places : ℕ × ℕ) → SpellsPlaces word places → AreInOrder places → ⊥) → ArePlacesIn word r
none_in word r e h = subst (ArePlacesIn word) (sym e) h

pub returns-in_err-number_in : goal.returns-in_err-number_in
returns-in_err-number_in c = none_in _ _ c.from_residual-in_err-number_in.ensures (λ places spelled ordered.
    let small : places.0 < 2 ^ 32 = omega arith in
    let parts = c.in_ok-first.ensures.byte (search rules) (λ w o found. found) in
    c.in_err-number_in.ensures places.0 small (subst (λ word. SpellsNumber word places.0) (sym parts.0) spelled.first))
