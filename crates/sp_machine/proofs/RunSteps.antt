-- What is so of every run, and that every run is linear.
use Rattle.std.proofs.Common.{◌≡◌, ℕ, ◌+◌, ◌-◌, ◌<◌, ◌≤◌, List, [], ◌∷◌, length, get_or, set, replicate, Option, Some, None, refl, sym, ◌∙◌, subst, arith, map, le_refl}
use Rattle.std.specs.Prelude.{All, unwrap_or}
use Rattle.std.specs.List.Sorted.{IsStrictlyIncreasing}
use Rattle.std.proofs.lemmas.List.{length-replicate, length-set, map_push, map-id}
use Rattle.std.proofs.lemmas.List.Elements.{All-nil, All-push, All-weaker, All-map}
use Rattle.std.proofs.lemmas.List.Sorted.{IsPermutation-refl}
use Rattle.sp_word.specs.Word.{Word, Unreached, max_dist}
use Rattle.sp_word.specs.History.{Table, Event, run, IsLegal}
use Rattle.sp_machine.specs.declared.item.Item.{Item}
use Rattle.sp_machine.specs.declared.turn.At.{At}
use Rattle.sp_machine.specs.declared.turn.Turn.{Turn}
use Rattle.sp_machine.specs.declared.effect.Call.{Call}
use Rattle.sp_machine.specs.declared.effect.Ended.{Ended}
use Rattle.sp_machine.specs.declared.actor.Actor.{Actor}
use Rattle.sp_machine.specs.declared.report.Finished.{Finished}
use Rattle.sp_paths.specs.Paths.{word_at}
use Rattle.sp_machine.specs.Programme.{Programme, IsProgramme, IsNumber, IsItem, item_of, named_words, opening_words}
use Rattle.sp_machine.specs.Step.{actor_of, place_of, item_at, found_by, turn, fresh_actor, vertex_at, call_ended, words_after, actor_after, with_caller, Machine}
use Rattle.sp_machine.specs.Run.{Log, RunState, first_step, begun_after, with_call, opening_run, run_step, run_from, run_of}
use Rattle.sp_machine.specs.Linear.{LinearPoint, IsLinear, event_of, history}
use Rattle.sp_machine.specs.Theorems.{EveryRunIsLinear}
use Rattle.sp_machine.proofs.Histories.{run_push, legal_push}
use Rattle.sp_machine.proofs.ListSteps.{rising_push, map-map, each_set, copy_at}
use Rattle.sp_machine.proofs.TurnSteps.{actor_at, HoldsAt, EndsRight, place_within, turn_right, words_size, turn_below, held_after}

-- a history is legal and ends in the words
record IsTold (n : ℕ) (opening : Table) (events : List Event) (words : List Word) : Type 0 where
  legal : IsLegal opening events
  ends : (v : ℕ) → IsNumber n v → run opening events v ≡ word_at words v

-- a call that ended at one of these steps
abbrev EndedBy : {P : ℕ} → (steps : ℕ) → Finished P → Type 0
EndedBy steps call = (call.first ≤ call.last) × (call.last ≤ steps)

-- each call ended at one of these steps, and no two at one
record IsTimely {P : ℕ} (steps : ℕ) (calls : List (Finished P)) : Type 0 where
  within : All (EndedBy steps) calls
  rising : IsStrictlyIncreasing (map (λ call. call.last) calls)

-- what is so of a run after any number of steps
record IsSound {P : ℕ} (p : Programme P) (r : RunState P) : Type 0 where
  rows : r.machine.rows ≡ p.rows
  size : length r.machine.words ≡ p.words
  held : (i : ℕ) → HoldsAt r.machine.rows i (actor_at r.machine.actors i)
  begun : (i : ℕ) → unwrap_or (get_or r.log.begun i None) (r.log.steps + 1) ≤ r.log.steps + 1
  told : IsTold p.words (word_at (opening_words p)) (map event_of r.log.calls) r.machine.words
  timely : IsTimely r.log.steps r.log.calls

-- the history goes on with the call that a step ends
told_more : {P : ℕ} (n : ℕ) (opening : Table) (calls : List (Finished P)) (old new : List Word) (actor vertex first last : ℕ) (call : Option (Call P))
    → IsTold n opening (map event_of calls) old → EndsRight n old new vertex call → IsTold n opening (map event_of (with_call calls (with_caller actor vertex call) first last)) new
told_more n opening calls old new actor vertex first last None told right = record { legal = told.legal; ends = λ v k. told.ends v k ∙ sym (right v) }
told_more {P} n opening calls old new actor vertex first last (Some call) told right = rw (map_push event_of calls finished) record {
  legal = legal_push opening events (event_of finished) told.legal (rw (told.ends vertex right.number) right.answered);
  ends = λ v k. run_push opening events (event_of finished) v ∙ rw (told.ends v k) (sym (right.leaves v k));
}
  where
    finished : Finished P
    finished = record { ended = record { actor = actor; vertex = vertex; call = call }; first = first; last = last }

    events : List Event
    events = map event_of calls

-- a step ends at most one call, after those that ended before
timely_more : {P : ℕ} (steps first : ℕ) (calls : List (Finished P)) (ended : Option (Ended P)) → first ≤ steps + 1 → IsTimely steps calls → IsTimely (steps + 1) (with_call calls ended first (steps + 1))
timely_more {P} steps first calls ended begun timely = go ended
  where
    within : All (EndedBy (steps + 1)) calls
    within = All-weaker (EndedBy steps) (EndedBy (steps + 1)) (λ call h. (h.0, omega arith)) calls timely.within

    before : All (λ last. last < steps + 1) (map (λ call. call.last) calls)
    before = All-map (λ last. last < steps + 1) (λ call. call.last) calls (All-weaker (EndedBy steps) (λ call. call.last < steps + 1) (λ call h. omega arith) calls timely.within)

    go : (ended : Option (Ended P)) → IsTimely (steps + 1) (with_call calls ended first (steps + 1))
    go None = record { within = within; rising = timely.rising }
    go (Some ended) = let call : Finished P = record { ended = ended; first = first; last = steps + 1 } in record {
      within = All-push (EndedBy (steps + 1)) calls call within (begun, omega arith);
      rising = rw (map_push (λ (call : Finished P). call.last) calls call) (rising_push (map (λ call. call.last) calls) (steps + 1) timely.rising before);
    }

-- what begins where a call ends or goes on
begun_step : {P : ℕ} (steps first : ℕ) (ended : Option (Ended P)) → first ≤ steps → unwrap_or (begun_after ended first) (steps + 1) ≤ steps + 1
begun_step steps first None h = omega arith
begun_step steps first (Some ended) h = omega arith

-- a call that has begun goes on
begun_before : (steps : ℕ) (begun : Option ℕ) → unwrap_or begun steps ≤ steps → unwrap_or begun (steps + 1) ≤ steps + 1
begun_before steps None h = omega arith
begun_before steps (Some first) h = omega arith

-- a step keeps a run sound
sound_step : {P : ℕ} (p : Programme P) (r : RunState P) (actor : ℕ) → IsProgramme p → IsSound p r → IsSound p (run_step r actor)
sound_step {P} p r actor is sound = record {
  rows = sound.rows;
  size = words_size m.words place t ∙ sound.size;
  held = each_set (HoldsAt m.rows) m.actors (actor - 1) (actor_after a t x) fresh_actor (held_after m.rows (actor - 1) a t x (sound.held (actor - 1)) (turn_below (max_dist P) place a.held x)) sound.held;
  begun = each_set (λ j begun. unwrap_or begun (log.steps + 1 + 1) ≤ log.steps + 1 + 1) log.begun (actor - 1) (begun_after (with_caller actor (vertex_at place) call) first) None
      (begun_step (log.steps + 1) first (with_caller actor (vertex_at place) call) (sound.begun (actor - 1))) (λ j. begun_before (log.steps + 1) (get_or log.begun j None) (sound.begun j));
  told = told_more p.words (word_at (opening_words p)) log.calls m.words (words_after m.words place t) actor (vertex_at place) first (log.steps + 1) call sound.told
      (turn_right p.words (max_dist P) m.words place a.held sound.size (place_within p.words (item_at m actor) a.loaded item) (sound.held (actor - 1)));
  timely = timely_more log.steps first log.calls (with_caller actor (vertex_at place) call) (sound.begun (actor - 1)) sound.timely;
}
  where
    m : Machine P
    m = r.machine

    log : Log P
    log = r.log

    a : Actor P
    a = actor_of m actor

    place : At P
    place = place_of m actor

    x : Word
    x = found_by m actor

    t : Turn
    t = turn (max_dist P) place a.held x

    call : Option (Call P)
    call = call_ended place t x

    first : ℕ
    first = first_step log actor

    item : (i : Item P) → item_at m actor ≡ Some i → IsItem p.words i
    item i e = is.items actor a.next i (subst (λ rows. item_of rows actor a.next ≡ Some i) sound.rows e)

-- a run stays sound
sound_run : {P : ℕ} (p : Programme P) → IsProgramme p → (r : RunState P) (actors : List ℕ) → IsSound p r → IsSound p (run_from r actors)
sound_run p is r [] sound = sound
sound_run p is r (actor ∷ more) sound = sound_run p is (run_step r actor) more (sound_step p r actor is sound)

-- words that are named stay as many
named_size : (words : List Word) (named : List (ℕ × Word)) → length (named_words words named) ≡ length words
named_size words [] = refl
named_size words (x ∷ more) = named_size (set words (x.0 - 1) x.1) more ∙ length-set words (x.0 - 1) x.1

-- a run is sound before its first step
sound_opening : {P : ℕ} (p : Programme P) → IsSound p (opening_run p)
sound_opening {P} p = record {
  rows = refl;
  size = named_size (replicate p.words Unreached) p.named ∙ length-replicate p.words Unreached;
  held = λ i. subst (HoldsAt p.rows i) (sym (copy_at p.actors i fresh_actor)) tt;
  begun = λ i. rw (copy_at {A = Option ℕ} p.actors i None) (omega arith);
  told = record { legal = tt; ends = λ v k. refl };
  timely = record { within = All-nil (EndedBy 0); rising = λ k inside. absurd (omega arith) };
}

-- a finished call acts at its last step
abbrev point_of : {P : ℕ} → Finished P → LinearPoint P
point_of call = record { step = call.last; call = call }

-- a sound run is linear
linear_run : {P : ℕ} (p : Programme P) (r : RunState P) → IsSound p r → IsLinear p.words (word_at (opening_words p)) r.log.calls (word_at r.machine.words)
linear_run {P} p r sound = record {
  points = map point_of calls;
  each_once = rw (map-map (λ (point : LinearPoint P). point.call) point_of calls, map-id calls) (IsPermutation-refl calls);
  rising = rw (map-map (λ (point : LinearPoint P). point.step) point_of calls) sound.timely.rising;
  within = All-map (λ point. (point.call.first ≤ point.step) × (point.step ≤ point.call.last)) point_of calls
      (All-weaker (EndedBy r.log.steps) (λ call. EndedBy call.last call) (λ call h. (h.0, le_refl call.last)) calls sound.timely.within);
  legal = rw same sound.told.legal;
  ends = λ v k. rw same (sound.told.ends v k);
}
  where
    calls : List (Finished P)
    calls = r.log.calls

    same : history (map point_of calls) ≡ map event_of calls
    same = map-map (λ (point : LinearPoint P). event_of point.call) point_of calls

-- every run is linear
pub run_is_linear : EveryRunIsLinear
run_is_linear P p actors is numbers = linear_run p (run_from (opening_run p) actors) (sound_run p is (opening_run p) actors (sound_opening p))

-- the calls of a run by rising last step are a legal history, and end in its words
pub run_is_told : {P : ℕ} (p : Programme P) (actors : List ℕ) → IsProgramme p
    → IsLegal (word_at (opening_words p)) (map event_of (run_of p actors).log.calls) × ((v : ℕ) → IsNumber p.words v → run (word_at (opening_words p)) (map event_of (run_of p actors).log.calls) v ≡ word_at (run_of p actors).machine.words v)
run_is_told p actors is = let sound : IsSound p (run_of p actors) = sound_run p is (opening_run p) actors (sound_opening p) in (sound.told.legal, sound.told.ends)
