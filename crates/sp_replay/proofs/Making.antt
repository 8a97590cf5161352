-- What becomes known as offers are made and callers are joined.
use Rattle.std.proofs.Common.{◌≡◌, ℕ, ◌+◌, ◌<◌, ◌≤◌, ◌⊎◌, inl, inr, arith, List, length, subst, ⊎_elim}
use Rattle.std.specs.Prelude.{Some, None, slice_get}
use Rattle.std.proofs.lemmas.Option.{slice_get_within, slice_get_cases}
use Rattle.sp_word.specs.Word.{Word}
use Rattle.sp_machine.specs.Programme.{Programme, IsNumber, row_of, item_of}
use Rattle.sp_machine.specs.declared.item.Item.{Item}
use Rattle.sp_machine.specs.declared.item.Item.TheVariants.{Offer, Read, Relax}
use Rattle.sp_offer.specs.Story.{Story, Follows, known_table}
use Rattle.sp_offer.proofs.Orders.{at_most-trans}
use Rattle.sp_replay.specs.Made.{KnowsNoLess, KnowsItem, KnowsItems, KnowsActor, KnowsOffers, KnowsActors}

-- what was known of an item stays known
pub item_stays : {P : ℕ} (s t : Story) (item : Item P) → KnowsNoLess s t → KnowsItem s item → KnowsItem t item
item_stays s t (Offer v w) falls known = at_most-trans (known_table t v) (known_table s v) w (falls v) known
item_stays s t (Read v) falls known = tt
item_stays s t (Relax u v l) falls known = tt

-- one more item was made
pub items_more : {P : ℕ} (p : Programme P) (actor n : ℕ) (made : Item P) (s t : Story)
    → KnowsItems p actor n s → item_of p.rows actor n ≡ Some made → KnowsNoLess s t → KnowsItem t made
    → KnowsItems p actor (n + 1) t
items_more {P} p actor n made s t before here falls known k item below at =
    ⊎_elim
    (λ (low : k < n). item_stays s t item falls (before k item low at))
    (λ (same : k ≡ n).
    let one : made ≡ item = (let e : item_of p.rows actor n ≡ Some item = subst (λ j. item_of p.rows actor j ≡ Some item) same at in cc) in
    subst (KnowsItem t) one known)
    (less_or_same k n below)
  where
    less_or_same : (k n : ℕ) → k < n + 1 → (k < n) ⊎ (k ≡ n)
    less_or_same k n h = grind arith

-- beyond the last item there is none
pub items_all : {P : ℕ} (p : Programme P) (actor n : ℕ) (s : Story)
    → KnowsItems p actor n s → item_of p.rows actor n ≡ None → KnowsActor p actor s
items_all {P} p actor n s made none = record { items = each }
  where
    less_or_not : (k n : ℕ) → (k < n) ⊎ (n ≤ k)
    less_or_not k n = grind arith

    no_more : {X : Type 0} (xs : List X) (i : ℕ) → slice_get xs i ≡ None → length xs ≤ i
    no_more xs i none = elim (slice_get_cases xs i).1 [ inl here ↦ absurd (let e = here.2 in cc) | inr past ↦ past.0 ]

    each : (k : ℕ) (item : Item P) → item_of p.rows actor k ≡ Some item → KnowsItem s item
    each k item at =
        ⊎_elim
        (λ (low : k < n). made k item low at)
        (λ (past : n ≤ k).
        let long : length (row_of p.rows actor) ≤ n = no_more (row_of p.rows actor) n none in
        let short : k < length (row_of p.rows actor) = slice_get_within (row_of p.rows actor) k item at in
        absurd (omega arith))
        (less_or_not k n)

-- what was known of an actor stays known
pub actor_stays : {P : ℕ} (p : Programme P) (actor : ℕ) (s t : Story) → KnowsNoLess s t → KnowsActor p actor s → KnowsActor p actor t
actor_stays p actor s t falls known = record { items = λ k item at. item_stays s t item falls (known.items k item at) }

-- what either of two callers knew is known to the one that joins them
pub actor_joined : {P : ℕ} (p : Programme P) (actor : ℕ) (law : ℕ → Word → Type 0) (r s t : Story) → Follows law r s t → KnowsActor p actor s → KnowsActor p actor t
actor_joined p actor law r s t both known = actor_stays p actor s t (λ v. (both.falls v).1) known

-- two ranges of actors, whose callers are joined
pub actors_joined : {P : ℕ} (p : Programme P) (before middle last : ℕ) (law : ℕ → Word → Type 0) (s r t : Story) → Follows law s r t
    → KnowsActors p before middle s → KnowsActors p middle last r → KnowsActors p before last t
actors_joined {P} p before middle last law s r t both first second = record { each = each }
  where
    near_or_far : (actor middle : ℕ) → (actor ≤ middle) ⊎ (middle < actor)
    near_or_far actor middle = grind arith

    each : (actor : ℕ) → before < actor → actor ≤ last → KnowsActor p actor t
    each actor low high =
        ⊎_elim
        (λ (near : actor ≤ middle). actor_stays p actor s t (λ v. (both.falls v).0) (first.each actor low near))
        (λ (far : middle < actor). actor_joined p actor law s r t both (second.each actor far high))
        (near_or_far actor middle)

-- where all actors' offers are known, all offers are
pub all_known : {P : ℕ} (p : Programme P) (s : Story) → KnowsActors p 0 p.actors s → KnowsOffers p s
all_known p s all v w (actor, k, is, at) = (all.each actor is.0 is.1).items k (Offer v w) at

-- of one actor
pub one_known : {P : ℕ} (p : Programme P) (before last : ℕ) (s : Story) → last ≡ before + 1 → KnowsActor p last s → KnowsActors p before last s
one_known {P} p before last s next known = record { each = each }
  where
    only : (actor before last : ℕ) → last ≡ before + 1 → before < actor → actor ≤ last → last ≡ actor
    only actor before last next low high = grind arith

    each : (actor : ℕ) → before < actor → actor ≤ last → KnowsActor p actor s
    each actor low high = subst (λ a. KnowsActor p a s) (only actor before last next low high) known

-- of none
pub none_known : {P : ℕ} (p : Programme P) (before last : ℕ) (s : Story) → last ≡ before → KnowsActors p before last s
none_known {P} p before last s same = record { each = each }
  where
    none : (actor before last : ℕ) → last ≡ before → before < actor → actor ≤ last → ⊥
    none actor before last same low high = grind arith

    each : (actor : ℕ) → before < actor → actor ≤ last → KnowsActor p actor s
    each actor low high = absurd (none actor before last same low high)
