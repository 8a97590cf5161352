-- That the next step of an actor is possible, and stays so.
use Rattle.std.proofs.Common.{◌≡◌, ℕ, ◌+◌, ◌≤◌, Bool, true, false, List, Option, Some, None, refl, subst, arith, IfSome, IsSome}
use Rattle.std.proofs.lemmas.Bool.{leb-true}
use Rattle.std.specs.Prelude.{nat_le, if◌then◌else◌}
use Rattle.sp_word.proofs.Layouts.{by_layout}
use Rattle.sp_word.specs.Word.{Word, Unreached, Pair, IsPair, is_below, is_same, dist_of, is_layout, max_dist, max_pred}
use Rattle.sp_machine.specs.declared.item.Item.{Item}
use Rattle.sp_machine.specs.declared.item.Item.TheVariants.{Offer, Read, Relax}
use Rattle.sp_machine.specs.declared.actor.Actor.{Actor}
use Rattle.sp_machine.specs.declared.turn.Turn.{Turn}
use Rattle.sp_machine.specs.declared.turn.Turn.TheVariants.{Rests, Keeps, Holds, Wins, LosesAndKeeps, LosesAndHolds, EndsRead, EndsLoad, GoesOn}
use Rattle.sp_machine.specs.Programme.{IsItem, item_of}
use Rattle.sp_machine.specs.Step.{at, offer_word, offer_turn, turn, ends_item, actor_after}
use Rattle.sp_machine.specs.Cases.{IsReady}
use Rattle.sp_machine.specs.MachineView.{SumFits}

-- the least layout has room for the greatest number of words
pub room_for_words : (P u : ℕ) → is_layout P ≡ true → u ≤ 65536 → u ≤ max_pred P
room_for_words P u layout few = by_layout (λ Q. u ≤ max_pred Q) P layout (omega arith) (omega arith) (omega arith) (omega arith)

pub ready : {P : ℕ} (n : ℕ) (item : Option (Item P)) (loaded : Option ℕ) → is_layout P ≡ true → n ≤ 65536 → IfSome item (IsItem n) → SumFits item loaded → IsReady item loaded
ready n None loaded layout few within fits = tt
ready n (Some (Offer v w)) loaded layout few within fits = tt
ready n (Some (Read v)) loaded layout few within fits = tt
ready n (Some (Relax u v l)) None layout few within fits = tt
ready {P = P} n (Some (Relax u v l)) (Some d) layout few within fits = (layout, fits u v l d refl refl, room_for_words P u layout (omega (arith, within)))

-- a load of a tail doesn't win
load_no_win : (max l d : ℕ) (fits : Bool) → (if fits then GoesOn else EndsLoad) ≡ Wins → ⊥
load_no_win max l d true won = cc
load_no_win max l d false won = cc

-- a win stores a pair
pub wins_pair : {P : ℕ} (n : ℕ) (item : Option (Item P)) (loaded : Option ℕ) (held : Option Word) (x : Word) → IfSome item (IsItem n) → turn (max_dist P) (at item loaded) held x ≡ Wins → IsPair (offer_word (at item loaded))
wins_pair n None loaded held x within won = cc
wins_pair n (Some (Offer v w)) loaded held x within won = within.1
wins_pair n (Some (Read v)) loaded held x within won = cc
wins_pair n (Some (Relax u v l)) None held Unreached within won = cc
wins_pair {P = P} n (Some (Relax u v l)) None held (Pair d p) within won = load_no_win (max_dist P) l d (nat_le (d + l) (max_dist P)) won
wins_pair n (Some (Relax u v l)) (Some d) held x within won = tt

-- only an item ends
pub ends_some : {P : ℕ} (item : Option (Item P)) (loaded : Option ℕ) (held : Option Word) (x : Word) → ends_item (turn (max_dist P) (at item loaded) held x) ≡ true → IsSome item
ends_some None loaded held x ends = cc
ends_some (Some item) loaded held x ends = refl

-- an actor goes on to an offer only where the sum fits
goes_fitting : (max l d : ℕ) (fits : Bool) → nat_le (d + l) max ≡ fits → (if fits then GoesOn else EndsLoad) ≡ GoesOn → d + l ≤ max
goes_fitting max l d true fits goes = leb-true (d + l) max fits
goes_fitting max l d false fits goes = cc

no_offer_goes : (w : Word) (held : Option Word) (x : Word) → offer_turn w held x ≡ GoesOn → ⊥
no_offer_goes w None x goes = bare (is_below w x) goes
  where
    bare : (below : Bool) → (if below then Holds else Keeps) ≡ GoesOn → ⊥
    bare true goes = cc
    bare false goes = cc
no_offer_goes w (Some h) x goes = holding (is_same x h) (is_below w x) goes
  where
    holding : (same below : Bool) → (if same then Wins else if below then LosesAndHolds else LosesAndKeeps) ≡ GoesOn → ⊥
    holding true below goes = cc
    holding false true goes = cc
    holding false false goes = cc

goes_with_sum : (P u v l : ℕ) (loaded : Option ℕ) (held : Option Word) (x : Word) → turn (max_dist P) (at {P = P} (Some (Relax u v l)) loaded) held x ≡ GoesOn → (d : ℕ) → dist_of x ≡ Some d → d + l ≤ max_dist P
goes_with_sum P u v l None held Unreached goes d e = cc
goes_with_sum P u v l None held (Pair c p) goes d e =
    let same : c ≡ d = cc in
    subst (λ k. k + l ≤ max_dist P) same (goes_fitting (max_dist P) l c (nat_le (c + l) (max_dist P)) refl goes)
goes_with_sum P u v l (Some c) held x goes d e = absurd (no_offer_goes (Pair (c + l) u) held x goes)

-- a step keeps the sum that is about to be offered within what fits
pub keeps_sum : {P : ℕ} (rows : List (List (Item P))) (actor : ℕ) (a : Actor P) (x : Word) (t : Turn) → turn (max_dist P) (at (item_of rows actor a.next) a.loaded) a.held x ≡ t
    → SumFits (item_of rows actor a.next) a.loaded → SumFits (item_of rows actor (actor_after a t x).next) (actor_after a t x).loaded
keeps_sum rows actor a x Rests is fits = fits
keeps_sum rows actor a x Keeps is fits = λ u v l d i e. cc
keeps_sum rows actor a x Holds is fits = fits
keeps_sum rows actor a x Wins is fits = λ u v l d i e. cc
keeps_sum rows actor a x LosesAndKeeps is fits = λ u v l d i e. cc
keeps_sum rows actor a x LosesAndHolds is fits = fits
keeps_sum rows actor a x EndsRead is fits = λ u v l d i e. cc
keeps_sum rows actor a x EndsLoad is fits = λ u v l d i e. cc
keeps_sum {P = P} rows actor a x GoesOn is fits = λ u v l d i e.
    let at_arc : turn (max_dist P) (at {P = P} (Some (Relax u v l)) a.loaded) a.held x ≡ GoesOn = subst (λ (item : Option (Item P)). turn (max_dist P) (at item a.loaded) a.held x ≡ GoesOn) i is in
    goes_with_sum P u v l a.loaded a.held x at_arc d e
