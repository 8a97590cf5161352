-- What a step does to the words and to what its actor holds, case by case.
use Rattle.std.proofs.Common.{◌≡◌, ℕ, ◌+◌, ◌-◌, Bool, true, false, cond, eqb, leb, List, [], length, get_or, set, Option, Some, None, refl, sym, arith}
use Rattle.std.specs.Prelude.{slice_get}
use Rattle.std.proofs.lemmas.Bool.{cond_both, eqb-true, eqb-false}
use Rattle.std.proofs.lemmas.List.{get_or-set_same, get_or-set_other, length-set}
use Rattle.sp_word.specs.declared.reply.Reply.TheVariants.{Kept}
use Rattle.sp_word.specs.Word.{Word, Unreached, Pair, is_below, is_same, lesser}
use Rattle.sp_word.specs.Reply.{reply_to}
use Rattle.sp_word.specs.History.{IsAnswered, left_by}
use Rattle.sp_machine.specs.declared.item.Item.{Item}
use Rattle.sp_machine.specs.declared.item.Item.TheVariants as items
use Rattle.sp_machine.specs.declared.turn.At.{At}
use Rattle.sp_machine.specs.declared.turn.At.TheVariants.{Idle, Offering, Reading, Loading}
use Rattle.sp_machine.specs.declared.turn.Turn.{Turn}
use Rattle.sp_machine.specs.declared.turn.Turn.TheVariants.{Rests, Keeps, Holds, Wins, LosesAndKeeps, LosesAndHolds, EndsRead, EndsLoad, GoesOn}
use Rattle.sp_machine.specs.declared.effect.Call.{Call}
use Rattle.sp_machine.specs.declared.effect.Call.TheVariants.{Offer, Read}
use Rattle.sp_machine.specs.declared.actor.Actor.{Actor}
use Rattle.sp_paths.specs.Paths.{word_at}
use Rattle.sp_machine.specs.Programme.{IsNumber, IsItem}
use Rattle.sp_machine.specs.Step.{at, fresh_actor, vertex_at, offer_word, turn, load_turn, words_after, call_ended, actor_after}
use Rattle.sp_machine.specs.Linear.{question_of}
use Rattle.sp_machine.proofs.WordSteps.{kept_reply, lesser_kept, lesser_stored, same_words}

-- the actor in place i, counted from 0
abbrev pub actor_at : {P : ℕ} → List (Actor P) → ℕ → Actor P
actor_at actors i = get_or actors i fresh_actor

-- at what it is
abbrev pub place_at : {P : ℕ} → List (List (Item P)) → ℕ → Actor P → At P
place_at rows i a = at (slice_get (get_or rows i []) a.next) a.loaded

-- a place is at a vertex of the programme
abbrev pub IsPlace : {P : ℕ} → ℕ → At P → Type 0
IsPlace n Idle = Unit {0}
IsPlace n (Offering v w) = IsNumber n v
IsPlace n (Reading v) = IsNumber n v
IsPlace n (Loading u v l) = IsNumber n u

-- the offer is below a word that is held
abbrev pub HoldsAbove : {P : ℕ} → At P → Option Word → Type 0
HoldsAbove place None = Unit {0}
HoldsAbove place (Some h) = is_below (offer_word place) h ≡ true

-- the same of the actor in place i
abbrev pub HoldsAt : {P : ℕ} → List (List (Item P)) → ℕ → Actor P → Type 0
HoldsAt rows i a = HoldsAbove (place_at rows i a) a.held

-- the call that ends has the right answer, and the words change as it says
pub record IsRight {P : ℕ} (n : ℕ) (old new : List Word) (vertex : ℕ) (call : Call P) : Type 0 where
  pub number : IsNumber n vertex
  pub answered : IsAnswered (word_at old vertex) (question_of call)
  pub leaves : (u : ℕ) → IsNumber n u → word_at new u ≡ cond (eqb u vertex) (left_by (question_of call) (word_at old u)) (word_at old u)

-- where no call ends, the words stay
abbrev pub EndsRight : {P : ℕ} → ℕ → (old new : List Word) → (vertex : ℕ) → Option (Call P) → Type 0
EndsRight n old new vertex None = (u : ℕ) → word_at new u ≡ word_at old u
EndsRight n old new vertex (Some call) = IsRight n old new vertex call

-- an actor's place is one of the programme
pub place_within : {P : ℕ} (n : ℕ) (item : Option (Item P)) (loaded : Option ℕ) → ((i : Item P) → item ≡ Some i → IsItem n i) → IsPlace n (at item loaded)
place_within n None loaded each = tt
place_within n (Some (items.Offer v w)) loaded each = (each (items.Offer v w) refl).0
place_within n (Some (items.Read v)) loaded each = each (items.Read v) refl
place_within n (Some (items.Relax u v l)) None each = (each (items.Relax u v l) refl).0
place_within n (Some (items.Relax u v l)) (Some d) each = (each (items.Relax u v l) refl).1

-- what a step does at a place, where it finds the word there
abbrev pub TurnIsRight : {P : ℕ} (n : ℕ) (words : List Word) → At P → Turn → Type 0
TurnIsRight n words place t = EndsRight n words (words_after words place t) (vertex_at place) (call_ended place t (word_at words (vertex_at place)))

module _ (P n : ℕ) (words : List Word) (v : ℕ) (number : IsNumber n v) where
  -- a call that leaves the word it found
  stays_right : (call : Call P) → IsAnswered (word_at words v) (question_of call) → left_by (question_of call) (word_at words v) ≡ word_at words v → IsRight n words words v call
  stays_right call answered same = record {
    number = number;
    answered = answered;
    leaves = λ u k. cond_both (eqb u v) (left_by (question_of call) (word_at words u)) (word_at words u) (λ x. word_at words u ≡ x) (λ e. rw (eqb-true u v e) (sym same)) (λ e. refl);
  }

  -- a read
  read_right : IsRight {P = P} n words words v (Read (word_at words v))
  read_right = stays_right (Read (word_at words v)) refl refl

  -- the load of an arc's tail
  tail_right : (head max l : ℕ) (x : Word) → TurnIsRight {P = P} n words (Loading v head l) (load_turn max l x)
  tail_right head max l Unreached = read_right
  tail_right head max l (Pair d p) = elim (leb (d + l) max) as (λ fits. TurnIsRight {P = P} n words (Loading v head l) (cond fits GoesOn EndsLoad)) [ true ↦ read_right | false ↦ read_right ]

  module _ (w : Word) where
    -- an offer that is below the word found is stored
    stored_right : length words ≡ n → is_below w (word_at words v) ≡ true → IsRight {P = P} n words (set words (v - 1) w) v (Offer w (word_at words v) (reply_to (word_at words v) w))
    stored_right size lower = record {
      number = number;
      answered = (refl, refl);
      leaves = λ u k. cond_both (eqb u v) (lesser (word_at words u) w) (word_at words u) (λ x. word_at (set words (v - 1) w) u ≡ x)
          (λ e. let same : u ≡ v = eqb-true u v e in rw (same, lesser_stored (word_at words v) w lower) (get_or-set_same words (v - 1) w Unreached (omega arith)))
          (λ e. let other : u - 1 ≡ v - 1 → ⊥ = λ h. eqb-false u v e (omega arith) in get_or-set_other words (v - 1) (u - 1) w Unreached other);
    }

    -- an offer that isn't below the word found ends there
    kept_right : is_below w (word_at words v) ≡ false → IsRight {P = P} n words words v (Offer w (word_at words v) Kept)
    kept_right no_lower = stays_right (Offer w (word_at words v) Kept) (refl, kept_reply (word_at words v) w no_lower) (lesser_kept (word_at words v) w no_lower)

    -- before the load of an offer
    load_right : (lower : Bool) → is_below w (word_at words v) ≡ lower → TurnIsRight {P = P} n words (Offering v w) (cond lower Holds Keeps)
    load_right true is = λ u. refl
    load_right false is = kept_right is

    -- an exchange that is lost
    lost_right : (lower : Bool) → is_below w (word_at words v) ≡ lower → TurnIsRight {P = P} n words (Offering v w) (cond lower LosesAndHolds LosesAndKeeps)
    lost_right true is = λ u. refl
    lost_right false is = kept_right is

    -- an exchange
    exchange_right : (h : Word) → length words ≡ n → is_below w h ≡ true → (same : Bool) → is_same (word_at words v) h ≡ same
        → TurnIsRight {P = P} n words (Offering v w) (cond same Wins (cond (is_below w (word_at words v)) LosesAndHolds LosesAndKeeps))
    exchange_right h size above true is = stored_right size (rw (same_words (word_at words v) h is) above)
    exchange_right h size above false is = lost_right (is_below w (word_at words v)) refl

-- a step ends its call with the right answer
pub turn_right : {P : ℕ} (n max : ℕ) (words : List Word) (place : At P) (held : Option Word) → length words ≡ n → IsPlace n place → HoldsAbove place held → TurnIsRight n words place (turn max place held (word_at words (vertex_at place)))
turn_right n max words Idle held size is above = λ u. refl
turn_right {P} n max words (Offering v w) None size is above = load_right P n words v is w (is_below w (word_at words v)) refl
turn_right {P} n max words (Offering v w) (Some h) size is above = exchange_right P n words v is w h size above (is_same (word_at words v) h) refl
turn_right {P} n max words (Reading v) held size is above = read_right P n words v is
turn_right {P} n max words (Loading u v l) held size is above = tail_right P n words u is v max l (word_at words u)

-- the words stay as many
pub words_size : {P : ℕ} (words : List Word) (place : At P) (t : Turn) → length (words_after words place t) ≡ length words
words_size words (Offering v w) Wins = length-set words (v - 1) w
words_size words (Offering v w) other = refl
words_size words Idle t = refl
words_size words (Reading v) t = refl
words_size words (Loading u v l) t = refl

-- an actor that comes to hold the word found is at an offer below it
abbrev pub OfferIsBelow : Turn → (offer_word found : Word) → Type 0
OfferIsBelow Holds offer_word found = is_below offer_word found ≡ true
OfferIsBelow LosesAndHolds offer_word found = is_below offer_word found ≡ true
OfferIsBelow other offer_word found = Unit {0}

-- so it is at each place
pub turn_below : {P : ℕ} (max : ℕ) (place : At P) (held : Option Word) (x : Word) → OfferIsBelow (turn max place held x) (offer_word place) x
turn_below max Idle held x = tt
turn_below max (Offering v w) None x = go (is_below w x) refl
  where
    go : (lower : Bool) → is_below w x ≡ lower → OfferIsBelow (cond lower Holds Keeps) w x
    go true is = is
    go false is = tt
turn_below max (Offering v w) (Some h) x = go (is_same x h) (is_below w x) refl
  where
    go : (same lower : Bool) → is_below w x ≡ lower → OfferIsBelow (cond same Wins (cond lower LosesAndHolds LosesAndKeeps)) w x
    go true lower is = tt
    go false true is = is
    go false false is = tt
turn_below max (Reading v) held x = tt
turn_below max (Loading u v l) held Unreached = tt
turn_below max (Loading u v l) held (Pair d p) = elim (leb (d + l) max) as (λ fits. OfferIsBelow (cond fits GoesOn EndsLoad) Unreached (Pair d p)) [ true ↦ tt | false ↦ tt ]

-- the offer of an actor stays below the word that it holds
pub held_after : {P : ℕ} (rows : List (List (Item P))) (i : ℕ) (a : Actor P) (t : Turn) (x : Word) → HoldsAt rows i a → OfferIsBelow t (offer_word (place_at rows i a)) x → HoldsAt rows i (actor_after a t x)
held_after rows i a Rests x above lower = above
held_after rows i a Holds x above lower = lower
held_after rows i a LosesAndHolds x above lower = lower
held_after rows i a Keeps x above lower = tt
held_after rows i a Wins x above lower = tt
held_after rows i a LosesAndKeeps x above lower = tt
held_after rows i a EndsRead x above lower = tt
held_after rows i a EndsLoad x above lower = tt
held_after rows i a GoesOn x above lower = tt
