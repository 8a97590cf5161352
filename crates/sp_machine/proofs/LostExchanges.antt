-- The lost exchanges are bounded by the won ones: only an actor that holds a word that was replaced loses.
use Rattle.std.proofs.Common.{◌≡◌, ℕ, zero, suc, ◌+◌, ◌-◌, ◌*◌, ◌<◌, ◌≤◌, Bool, true, false, cond, leb, List, [], ◌∷◌, length, get_or, set, replicate, Option, Some, None, refl, ◌∙◌, arith, le_refl}
use Rattle.std.specs.Prelude.{All}
use Rattle.std.proofs.lemmas.List.{length-set, length-replicate, get_or-set_same, get_or-set_other}
use Rattle.std.proofs.lemmas.List.Elements.{All-head, All-tail}
use Rattle.sp_word.specs.Word.{Word, Unreached, Pair, is_below, is_same, max_dist}
use Rattle.sp_machine.specs.declared.item.Item.{Item}
use Rattle.sp_machine.specs.declared.turn.At.{At}
use Rattle.sp_machine.specs.declared.turn.At.TheVariants.{Idle, Offering, Reading, Loading}
use Rattle.sp_machine.specs.declared.turn.Turn.{Turn}
use Rattle.sp_machine.specs.declared.turn.Turn.TheVariants.{Rests, Keeps, Holds, Wins, LosesAndKeeps, LosesAndHolds, EndsRead, EndsLoad, GoesOn}
use Rattle.sp_machine.specs.declared.actor.Actor.{Actor}
use Rattle.sp_paths.specs.Paths.{word_at}
use Rattle.sp_machine.specs.Programme.{Programme, IsNumber, opening_words}
use Rattle.sp_machine.specs.Step.{vertex_at, turn, words_after, actor_after, exchange_of, Machine, fresh_actor, actor_of, place_of, found_by}
use Rattle.sp_machine.specs.Run.{RunState, win, loss, opening_run, run_step, run_from}
use Rattle.sp_machine.specs.Theorems.{LossesAreBounded}
use Rattle.sp_machine.proofs.WordSteps.{same_itself}
use Rattle.sp_machine.proofs.ListSteps.{copy_at}
use Rattle.sp_machine.proofs.Totals.{total, total_falls, total_ones}
use Rattle.sp_machine.proofs.TurnSteps.{actor_at, place_at}

-- 1 where the word that is held isn't the word found, and else 0
abbrev stale : Option Word → (found : Word) → ℕ
stale None found = 0
stale (Some h) found = cond (is_same found h) 0 1

-- it is at most 1
stale_le : (held : Option Word) (found : Word) → stale held found ≤ 1
stale_le None found = omega arith
stale_le (Some h) found = elim (is_same found h) as (λ same. cond same 0 1 ≤ 1) [ true ↦ omega arith | false ↦ omega arith ]

-- an exchange is lost by a stale actor
loss_is_stale : {P : ℕ} (max : ℕ) (place : At P) (held : Option Word) (x : Word) → loss (exchange_of (turn max place held x)) ≤ stale held x
loss_is_stale max Idle held x = omega arith
loss_is_stale max (Offering v w) None x = elim (is_below w x) as (λ lower. loss (exchange_of (cond lower Holds Keeps)) ≤ 0) [ true ↦ omega arith | false ↦ omega arith ]
loss_is_stale max (Offering v w) (Some h) x = go (is_same x h) (is_below w x)
  where
    go : (same lower : Bool) → loss (exchange_of (cond same Wins (cond lower LosesAndHolds LosesAndKeeps))) ≤ cond same 0 1
    go true lower = omega arith
    go false true = omega arith
    go false false = omega arith
loss_is_stale max (Reading v) held x = omega arith
loss_is_stale max (Loading u v l) held Unreached = omega arith
loss_is_stale max (Loading u v l) held (Pair d p) = elim (leb (d + l) max) as (λ fits. loss (exchange_of (cond fits GoesOn EndsLoad)) ≤ stale held (Pair d p)) [ true ↦ omega arith | false ↦ omega arith ]

-- the word that an actor's next step finds
abbrev found_at : {P : ℕ} → List (List (Item P)) → List Word → ℕ → Actor P → Word
found_at rows words i a = word_at words (vertex_at (place_at rows i a))

-- whether the actor that has row i, counted from 0, is stale
abbrev staleness : {P : ℕ} → List (List (Item P)) → List Word → ℕ → Actor P → ℕ
staleness rows words i a = stale a.held (found_at rows words i a)

-- the actor after a turn
abbrev turned : {P : ℕ} → List (List (Item P)) → List Word → ℕ → Actor P → Turn → Actor P
turned rows words i a t = actor_after a t (found_at rows words i a)

-- an actor that loses is no longer stale, where the words stay, and none becomes stale by its own turn
stale_after : {P : ℕ} (rows : List (List (Item P))) (words : List Word) (i : ℕ) (a : Actor P) (t : Turn) → loss (exchange_of t) ≤ staleness rows words i a → staleness rows words i (turned rows words i a t) + loss (exchange_of t) ≤ staleness rows words i a
stale_after rows words i a Rests lost = omega arith
stale_after rows words i a Holds lost = rw (same_itself (found_at rows words i a)) lost
stale_after rows words i a LosesAndHolds lost = rw (same_itself (found_at rows words i a)) lost
stale_after rows words i a Keeps lost = lost
stale_after rows words i a Wins lost = lost
stale_after rows words i a LosesAndKeeps lost = lost
stale_after rows words i a EndsRead lost = lost
stale_after rows words i a EndsLoad lost = lost
stale_after rows words i a GoesOn lost = lost

-- the words change by a win alone
words_kept : {P : ℕ} (words : List Word) (place : At P) (t : Turn) → win (exchange_of t) ≡ 0 → words_after words place t ≡ words
words_kept words (Offering v w) Wins none = absurd (omega arith)
words_kept words (Offering v w) other none = refl
words_kept words Idle t none = refl
words_kept words (Reading v) t none = refl
words_kept words (Loading u v l) t none = refl

-- how many of the first k actors are stale
abbrev stale_actors : {P : ℕ} → List (List (Item P)) → List Word → List (Actor P) → ℕ → ℕ
stale_actors rows words actors k = total (λ i. staleness rows words i (actor_at actors i)) k

module _ {P : ℕ} (k : ℕ) (rows : List (List (Item P))) (actors : List (Actor P)) (i : ℕ) (inside : i < k) (size : length actors ≡ k) where
  -- where the words stay, the stale actors are fewer by what one of them is less stale
  fewer_stale : (words : List Word) (new : Actor P) (by : ℕ) → staleness rows words i new + by ≤ staleness rows words i (actor_at actors i) → stale_actors rows words (set actors i new) k + by ≤ stale_actors rows words actors k
  fewer_stale words new by less = total_falls (λ j. staleness rows words j (actor_at actors j)) (λ j. staleness rows words j (actor_at (set actors i new) j)) k i by inside
      (rw (get_or-set_same actors i new fresh_actor (omega arith)) less)
      (λ j other. rw (get_or-set_other actors i j new fresh_actor other) (le_refl (staleness rows words j (actor_at actors j))))

  -- where one isn't stale, they are fewer than all
  others_stale : (words : List Word) (new : Actor P) → staleness rows words i new ≡ 0 → stale_actors rows words (set actors i new) k + 1 ≤ k
  others_stale words new none = rw total_ones at (total_falls (λ j. 1) (λ j. staleness rows words j (actor_at (set actors i new) j)) k i 1 inside
      (rw (get_or-set_same actors i new fresh_actor (omega arith), none) (omega arith))
      (λ j other. let a : Actor P = actor_at (set actors i new) j in stale_le a.held (found_at rows words j a)))

  -- a turn of the actor in place i keeps the bound
  turn_bounded : (words : List Word) (losses wins : ℕ) (t : Turn) → losses + stale_actors rows words actors k ≤ (k - 1) * wins → loss (exchange_of t) ≤ staleness rows words i (actor_at actors i)
      → losses + loss (exchange_of t) + stale_actors rows (words_after words (place_at rows i (actor_at actors i)) t) (set actors i (turned rows words i (actor_at actors i) t)) k ≤ (k - 1) * (wins + win (exchange_of t))
  turn_bounded words losses wins Wins bound lost =
      let others = others_stale (words_after words (place_at rows i (actor_at actors i)) Wins) (turned rows words i (actor_at actors i) Wins) refl in omega arith
  turn_bounded words losses wins t bound lost =
      let fewer = fewer_stale words (turned rows words i (actor_at actors i) t) (loss (exchange_of t)) (stale_after rows words i (actor_at actors i) t lost) in
      rw (words_kept words (place_at rows i (actor_at actors i)) t refl) (omega arith)

-- what is so of a run of k actors after any number of steps
record IsBounded {P : ℕ} (k : ℕ) (r : RunState P) : Type 0 where
  size : length r.machine.actors ≡ k
  bound : r.log.losses + stale_actors r.machine.rows r.machine.words r.machine.actors k ≤ (k - 1) * r.log.wins

-- a step keeps the bound
bounded_step : {P : ℕ} (k : ℕ) (r : RunState P) (actor : ℕ) → IsNumber k actor → IsBounded k r → IsBounded k (run_step r actor)
bounded_step {P} k r actor number bounded = record {
  size = length-set m.actors (actor - 1) (actor_after a t x) ∙ bounded.size;
  bound = turn_bounded k m.rows m.actors (actor - 1) (omega arith) bounded.size m.words r.log.losses r.log.wins t bounded.bound (loss_is_stale (max_dist P) (place_of m actor) a.held x);
}
  where
    m : Machine P
    m = r.machine

    a : Actor P
    a = actor_of m actor

    x : Word
    x = found_by m actor

    t : Turn
    t = turn (max_dist P) (place_of m actor) a.held x

-- a run keeps it
bounded_run : {P : ℕ} (k : ℕ) (r : RunState P) (actors : List ℕ) → All (IsNumber k) actors → IsBounded k r → IsBounded k (run_from r actors)
bounded_run k r [] numbers bounded = bounded
bounded_run k r (actor ∷ more) numbers bounded = bounded_run k (run_step r actor) more (All-tail (IsNumber k) actor more numbers) (bounded_step k r actor (All-head (IsNumber k) actor more numbers) bounded)

-- before the first step no actor is stale
none_stale : {P : ℕ} (rows : List (List (Item P))) (words : List Word) (n k : ℕ) → stale_actors rows words (replicate n fresh_actor) k ≡ 0
none_stale {P} rows words n zero = refl
none_stale {P} rows words n (suc k) = let here : staleness rows words k (get_or (replicate n (fresh_actor {P = P})) k fresh_actor) ≡ 0 = rw (copy_at n k (fresh_actor {P = P})) refl in omega (arith, none_stale rows words n k)

-- so it holds at the start
bounded_opening : {P : ℕ} (p : Programme P) → IsBounded p.actors (opening_run p)
bounded_opening {P} p = record { size = length-replicate p.actors (fresh_actor {P = P}); bound = omega (arith, none_stale p.rows (opening_words p) p.actors p.actors) }

-- the lost exchanges are at most K - 1 times the won ones
pub losses_are_few : LossesAreBounded
losses_are_few P p actors is numbers = let bounded : IsBounded p.actors (run_from (opening_run p) actors) = bounded_run p.actors (opening_run p) actors numbers (bounded_opening p) in omega (arith, bounded.bound)
