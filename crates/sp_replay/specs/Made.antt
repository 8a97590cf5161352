-- Which offers a law allows, and which offers a caller knows to have been made.
use Rattle.std.specs.Prelude.{◌≡◌, ℕ, ◌<◌, ◌≤◌, Some}
use Rattle.sp_word.specs.Word.{Word}
use Rattle.sp_machine.specs.Programme.{Programme, IsNumber, item_of}
use Rattle.sp_machine.specs.declared.item.Item.{Item}
use Rattle.sp_machine.specs.declared.item.Item.TheVariants.{Offer, Read, Relax}
use Rattle.sp_offer.specs.Order.{IsNoMore}
use Rattle.sp_offer.specs.Story.{Story, known_table}
use Rattle.sp_replay.specs.Least.{IsOffered}

-- ## What a law allows

-- The law allows the pair that the item offers.
abbrev pub AllowsItem : {P : ℕ} → (ℕ → Word → Type 0) → Item P → Type 0
AllowsItem allows (Offer v w) = allows v w
AllowsItem allows (Read v) = Unit {0}
AllowsItem allows (Relax u v l) = Unit {0}

-- The law allows each pair that an actor offers.
abbrev pub AllowsOffers : {P : ℕ} → (ℕ → Word → Type 0) → Programme P → Type 0
AllowsOffers allows p = (v : ℕ) (w : Word) → IsOffered p v w → allows v w

-- ## What is known

-- The known word of no vertex has risen.
abbrev pub KnowsNoLess : Story → Story → Type 0
KnowsNoLess s t = (v : ℕ) → IsNoMore (known_table t v) (known_table s v)

-- The vertex's word is at most the pair that the item offers.
abbrev pub KnowsItem : {P : ℕ} → Story → Item P → Type 0
KnowsItem s (Offer v w) = IsNoMore (known_table s v) w
KnowsItem s (Read v) = Unit {0}
KnowsItem s (Relax u v l) = Unit {0}

-- This holds for the actor's first n items.
abbrev pub KnowsItems : {P : ℕ} → Programme P → (actor n : ℕ) → Story → Type 0
KnowsItems {P} p actor n s = (k : ℕ) (item : Item P) → k < n → item_of p.rows actor k ≡ Some item → KnowsItem s item

-- This holds for all its items.
pub record KnowsActor {P : ℕ} (p : Programme P) (actor : ℕ) (s : Story) : Type 0 where
  pub items : (k : ℕ) (item : Item P) → item_of p.rows actor k ≡ Some item → KnowsItem s item

-- This holds for all pairs that actors offer.
abbrev pub KnowsOffers : {P : ℕ} → Programme P → Story → Type 0
KnowsOffers p s = (v : ℕ) (w : Word) → IsOffered p v w → IsNoMore (known_table s v) w

-- This holds for the actors after one and up to another.
pub record KnowsActors {P : ℕ} (p : Programme P) (before last : ℕ) (s : Story) : Type 0 where
  pub each : (actor : ℕ) → before < actor → actor ≤ last → KnowsActor p actor s
