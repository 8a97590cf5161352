-- One step of the machine.
use Rattle.std.specs.Prelude.{ℕ, ◌+◌, ◌-◌, Bool, true, false, List, slice_index_or, slice_set, nat_le, if◌then◌else◌, Option, Some, None}
use Rattle.sp_word.specs.declared.reply.Reply.TheVariants as replies
use Rattle.sp_word.specs.Word.{Word, Unreached, Pair, is_below, is_same, dist_of, max_dist}
use Rattle.sp_word.specs.Reply.{reply_to}
use Rattle.sp_machine.specs.declared.item.Item.{Item}
use Rattle.sp_machine.specs.declared.item.Item.TheVariants as items
use Rattle.sp_machine.specs.declared.turn.At.{At}
use Rattle.sp_machine.specs.declared.turn.At.TheVariants.{Idle, Offering, Reading, Loading}
use Rattle.sp_machine.specs.declared.turn.Turn.{Turn}
use Rattle.sp_machine.specs.declared.turn.Turn.TheVariants.{Rests, Keeps, Holds, Wins, LosesAndKeeps, LosesAndHolds, EndsRead, EndsLoad, GoesOn}
use Rattle.sp_machine.specs.declared.effect.Call.{Call}
use Rattle.sp_machine.specs.declared.effect.Call.TheVariants as calls
use Rattle.sp_machine.specs.declared.effect.Ended.{Ended}
use Rattle.sp_machine.specs.declared.effect.Relaxation.{Relaxation}
use Rattle.sp_machine.specs.declared.effect.ExchangeOutcome.{ExchangeOutcome}
use Rattle.sp_machine.specs.declared.effect.ExchangeOutcome.TheVariants.{Won, Lost}
use Rattle.sp_machine.specs.declared.effect.Effect.{Effect}
use Rattle.sp_machine.specs.declared.actor.Actor.{Actor}
use Rattle.sp_paths.specs.Paths.{word_at}
use Rattle.sp_machine.specs.Programme.{item_of}

-- ## What an actor is at

-- A relaxation is a read of its tail and then, if that found a distance, an offer to its head.
abbrev pub at : {P : ℕ} → Option (Item P) → (loaded : Option ℕ) → At P
at None loaded = Idle
at (Some (items.Offer v w)) loaded = Offering v w
at (Some (items.Read v)) loaded = Reading v
at (Some (items.Relax u v l)) None = Loading u v l
at (Some (items.Relax u v l)) (Some d) = Offering v (Pair (d + l) u)

-- This is the vertex whose word the next step looks at.
abbrev pub vertex_at : {P : ℕ} → At P → ℕ
vertex_at Idle = 0
vertex_at (Offering v w) = v
vertex_at (Reading v) = v
vertex_at (Loading u v l) = u

-- ## The eight cases

-- This is the step of an actor at an offer of w that finds the word x: before its load (cases 1 and 2), or when it holds h
-- (cases 3 to 5).
abbrev pub offer_turn : (w : Word) → (held : Option Word) → (x : Word) → Turn
offer_turn w None x = if is_below w x then Holds else Keeps
offer_turn w (Some h) x = if is_same x h then Wins else if is_below w x then LosesAndHolds else LosesAndKeeps

-- This is the step of an actor before the load of an arc's tail: cases 7 and 8.
abbrev pub load_turn : (max len : ℕ) → (x : Word) → Turn
load_turn max len Unreached = EndsLoad
load_turn max len (Pair d p) = if nat_le (d + len) max then GoesOn else EndsLoad

-- This is the case of a step: what the actor is at, the word that it holds and the word that it finds decide it.
abbrev pub turn : {P : ℕ} → (max : ℕ) → At P → (held : Option Word) → (x : Word) → Turn
turn max Idle held x = Rests
turn max (Offering v w) held x = offer_turn w held x
turn max (Reading v) held x = EndsRead
turn max (Loading u v l) held x = load_turn max l x

-- ## What each case does

-- The actor's item ends.
abbrev pub ends_item : Turn → Bool
ends_item Rests = false
ends_item Keeps = true
ends_item Holds = false
ends_item Wins = true
ends_item LosesAndKeeps = true
ends_item LosesAndHolds = false
ends_item EndsRead = true
ends_item EndsLoad = true
ends_item GoesOn = false

-- The actor is before the load of its next item.
abbrev pub beyond : {P : ℕ} → Actor P → Actor P
beyond a = record { next = a.next + 1; loaded = None; held = None }

-- The actor holds this word.
abbrev pub holding : {P : ℕ} → Actor P → Word → Actor P
holding a x = record { next = a.next; loaded = a.loaded; held = Some x }

-- The actor has loaded the distance of this word.
abbrev pub loading : {P : ℕ} → Actor P → Word → Actor P
loading a x = record { next = a.next; loaded = dist_of x; held = None }

-- This is the actor after a step that found the word x.
abbrev pub actor_after : {P : ℕ} → Actor P → Turn → (x : Word) → Actor P
actor_after a Rests x = a
actor_after a Keeps x = beyond a
actor_after a Holds x = holding a x
actor_after a Wins x = beyond a
actor_after a LosesAndKeeps x = beyond a
actor_after a LosesAndHolds x = holding a x
actor_after a EndsRead x = beyond a
actor_after a EndsLoad x = beyond a
actor_after a GoesOn x = loading a x

-- These are the words after a step: a win stores the offer.
abbrev pub words_after : {P : ℕ} → List Word → At P → Turn → List Word
words_after words (Offering v w) Wins = slice_set words (v - 1) w
words_after words (Offering v w) other = words
words_after words Idle t = words
words_after words (Reading v) t = words
words_after words (Loading u v l) t = words

-- This is the word that the actor offers.
abbrev pub offer_word : {P : ℕ} → At P → Word
offer_word Idle = Unreached
offer_word (Offering v w) = w
offer_word (Reading v) = Unreached
offer_word (Loading u v l) = Unreached

-- This is the call that ends, with its answer.
abbrev pub call_ended : {P : ℕ} → At P → Turn → (x : Word) → Option (Call P)
call_ended place Rests x = None
call_ended place Keeps x = Some (calls.Offer (offer_word place) x replies.Kept)
call_ended place Holds x = None
call_ended place Wins x = Some (calls.Offer (offer_word place) x (reply_to x (offer_word place)))
call_ended place LosesAndKeeps x = Some (calls.Offer (offer_word place) x replies.Kept)
call_ended place LosesAndHolds x = None
call_ended place EndsRead x = Some (calls.Read x)
call_ended place EndsLoad x = Some (calls.Read x)
call_ended place GoesOn x = Some (calls.Read x)

-- This is the call that ended, if one did, with its caller and its vertex.
abbrev pub with_caller : {P : ℕ} → (actor vertex : ℕ) → Option (Call P) → Option (Ended P)
with_caller actor vertex None = None
with_caller actor vertex (Some call) = Some (record { actor = actor; vertex = vertex; call = call })

-- This is the outcome of the step's exchange, if it made one.
abbrev pub exchange_of : Turn → Option ExchangeOutcome
exchange_of Rests = None
exchange_of Keeps = None
exchange_of Holds = None
exchange_of Wins = Some Won
exchange_of LosesAndKeeps = Some Lost
exchange_of LosesAndHolds = Some Lost
exchange_of EndsRead = None
exchange_of EndsLoad = None
exchange_of GoesOn = None

-- This is the relaxation of an item, with the distance that its read of the tail found.
abbrev pub relaxation : {P : ℕ} → Option (Item P) → (loaded : Option ℕ) → (x : Word) → Option Relaxation
relaxation None loaded x = None
relaxation (Some (items.Offer v w)) loaded x = None
relaxation (Some (items.Read v)) loaded x = None
relaxation (Some (items.Relax u v l)) None x = Some (record { tail = u; head = v; len = l; loaded = dist_of x })
relaxation (Some (items.Relax u v l)) (Some d) x = Some (record { tail = u; head = v; len = l; loaded = Some d })

-- A relaxation is finished when its last call is.
abbrev pub effect : {P : ℕ} → ℕ → Option (Item P) → Actor P → Turn → (x : Word) → Effect P
effect actor item a t x = record {
  ended = with_caller actor (vertex_at (at item a.loaded)) (call_ended (at item a.loaded) t x);
  relaxed = if ends_item t then relaxation item a.loaded x else None;
  exchange = exchange_of t;
}

-- ## The machine

-- A machine has the items of each actor, the words, and the progress of each actor.
pub record Machine (P : ℕ) : Type 0 where
  pub rows : List (List (Item P))
  pub words : List Word
  pub actors : List (Actor P)
  -- What the last step did.
  pub last : Effect P

-- The actor is before the load of its first item.
abbrev pub fresh_actor : {P : ℕ} → Actor P
fresh_actor = record { next = 0; loaded = None; held = None }

-- This is the progress of an actor.
abbrev pub actor_of : {P : ℕ} → Machine P → ℕ → Actor P
actor_of m actor = slice_index_or m.actors (actor - 1) fresh_actor

-- This is the machine after a step of an actor, given its item, its progress, the case of the step and the word found.
abbrev pub stepped_by : {P : ℕ} → Machine P → ℕ → Option (Item P) → Actor P → Turn → (x : Word) → Machine P
stepped_by m actor item a t x = record {
  rows = m.rows;
  words = words_after m.words (at item a.loaded) t;
  actors = slice_set m.actors (actor - 1) (actor_after a t x);
  last = effect actor item a t x;
}

-- This is the item at which an actor is.
abbrev pub item_at : {P : ℕ} → Machine P → ℕ → Option (Item P)
item_at m actor = item_of m.rows actor (actor_of m actor).next

-- This is what an actor is at.
abbrev pub place_of : {P : ℕ} → Machine P → ℕ → At P
place_of m actor = at (item_at m actor) (actor_of m actor).loaded

-- This is the vertex whose word the actor's next step looks at.
abbrev pub next_vertex : {P : ℕ} → Machine P → ℕ → ℕ
next_vertex m actor = vertex_at (place_of m actor)

-- This is the word that the actor's next step finds.
abbrev pub found_by : {P : ℕ} → Machine P → ℕ → Word
found_by m actor = word_at m.words (vertex_at (place_of m actor))

-- This is one step of an actor.
abbrev pub machine_after : {P : ℕ} → Machine P → ℕ → Machine P
machine_after {P = P} m actor = stepped_by m actor (item_at m actor) (actor_of m actor) (turn (max_dist P) (place_of m actor) (actor_of m actor).held (found_by m actor)) (found_by m actor)
