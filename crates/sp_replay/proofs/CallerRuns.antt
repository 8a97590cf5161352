-- Every interleaving of offers and reads is a run of the machine.
use Rattle.std.proofs.Common.{◌≡◌, ◌≢◌, ℕ, ◌+◌, ◌-◌, ◌<◌, ◌≤◌, List, [], ◌∷◌, ◌++◌, map, length, replicate, get_or, set, refl, sym, ap, ap₂, ◌∙◌, subst, arith, append-nil, length-set, get_or-set_other, get_or-set_same, Option, Some, None}
use Rattle.std.specs.List.{slice_get, range_with_len}
use Rattle.std.proofs.lemmas.List.{map-append, get_or-replicate, length-replicate}
use Rattle.std.proofs.lemmas.List.FromFn.{get_or-map-range_with_len}
use mathlib.Core.Logic.{dite}
use mathlib.Core.List.{IsPrefix}
use native.Mathlib.Decide.{ℕ_discrete}
use Rattle.sp_word.specs.Word.{Word, Unreached, max_dist}
use Rattle.sp_word.specs.History.{Event, run}
use Rattle.sp_paths.specs.Paths.{word_at}
use Rattle.sp_offer.specs.Histories.{blank}
use Rattle.sp_offer.specs.Interleaving.{TakenStep, Doing, doing, doing_after, ended, calls_of, MayFollow, IsInterleaving, AreWithin}
use Rattle.sp_machine.specs.declared.item.Item.{Item}
use Rattle.sp_machine.specs.declared.turn.Turn.{Turn}
use Rattle.sp_machine.specs.declared.actor.Actor.{Actor}
use Rattle.sp_machine.specs.Programme.{Programme, IsNumber, row_of}
use Rattle.sp_machine.specs.Step.{Machine, fresh_actor, actor_of, item_at, place_of, next_vertex, found_by, at, vertex_at, turn, actor_after, stepped_by, machine_after}
use Rattle.sp_machine.specs.Run.{RunState, first_step, log_after, opening_run, run_step, run_from, run_of}
use Rattle.sp_machine.specs.Linear.{event_of}
use Rattle.sp_replay.specs.CallerRuns.{items_of, row, programme_of, actors_of, AreFound, by_actor, IsRun, HasItem, HaveItems, by_exchanges, EveryInterleavingIsARun, EveryEndIsARun}
use Rattle.sp_replay.proofs.CallerRows.{asked_item, passed_here, doing_here, doing_else, items_else, row_else, row_before, item_there}
use Rattle.sp_replay.proofs.SingleSteps.{Same, all_by_exchanges, as_they_are}
use Rattle.sp_replay.proofs.CallerSteps.{held_of, actor_at, place_asked, turn_asked, vertex_asked, all_above, exceeds, actor_step, told_step, long_step, words_step}

run_more : {P : ℕ} (r : RunState P) (xs : List ℕ) (a : ℕ) → run_from r (xs ++ a ∷ []) ≡ run_step (run_from r xs) a
run_more r [] a = refl
run_more r (x ∷ xs) a = run_more (run_step r x) xs a

module _ (P n callers : ℕ) (all : List TakenStep) where
  abbrev plan : Programme P
  plan = programme_of P n callers all

  -- the run stands where the callers do
  record Agrees (steps : List TakenStep) (r : RunState P) : Type 0 where
    rows : r.machine.rows ≡ plan.rows
    long : length r.machine.words ≡ n
    words : (v : ℕ) → IsNumber n v → word_at r.machine.words v ≡ run blank (calls_of steps) v
    many : length r.machine.actors ≡ callers
    actors : (k : ℕ) → k < callers → actor_of r.machine (k + 1) ≡ actor_at P (length (items_of P k (calls_of steps))) (doing steps k)
    calls : map event_of r.log.calls ≡ map by_actor (calls_of steps)

  opens : Agrees [] (opening_run plan)
  opens = record {
    rows = refl;
    long = length-replicate n Unreached;
    words = λ v inside. let below : v - 1 < n = omega (arith, inside.0, inside.1) in get_or-replicate n (v - 1) Unreached Unreached below;
    many = length-replicate callers fresh_actor;
    actors = λ k below. let here : k + 1 - 1 < callers = omega arith in get_or-replicate callers (k + 1 - 1) fresh_actor fresh_actor here;
    calls = refl;
  }

  module _ (s : TakenStep) (before : List TakenStep) (r : RunState P) (finds : run blank (calls_of before) s.vertex ≡ s.found) (may : MayFollow s s.asked (doing before s.by)) (low : 0 < s.vertex) (few : s.vertex ≤ n) (one : s.by < callers)
      (has : HasItem s.asked) (fits : IsPrefix (row P (s ∷ before) s.by) (row_of plan.rows (s.by + 1))) (agrees : Agrees before r) where
    abbrev m : Machine P
    m = r.machine

    abbrev a : ℕ
    a = s.by + 1

    abbrev i : ℕ
    i = length (items_of P s.by (calls_of before))

    abbrev d : Doing
    d = doing before s.by

    abbrev it : Item P
    it = asked_item P s s.asked

    act : actor_of m a ≡ actor_at P i d
    act = agrees.actors s.by one

    item : item_at m a ≡ Some it
    item = (λ j. slice_get (row_of (agrees.rows j) a) (act j).next) ∙ item_there P s before (row_of plan.rows a) has fits

    vertex : next_vertex m a ≡ s.vertex
    vertex = (λ j. vertex_at (at (item j) (act j).loaded)) ∙ vertex_asked P s s.asked

    found : found_by m a ≡ s.found
    found = ap (word_at m.words) vertex ∙ (agrees.words s.vertex (low, few) ∙ finds)

    abbrev moved : Machine P
    moved = stepped_by m a (Some it) (actor_at P i d) (turn_asked P s s.asked d) s.found

    is_moved : machine_after m a ≡ moved
    is_moved = λ j. stepped_by m a (item j) (act j) (turn (max_dist P) (at (item j) (act j).loaded) (act j).held (found j)) (found j)

    abbrev with_log : Machine P → RunState P
    with_log z = record { machine = z; log = log_after r.log a z.last }

    actor_is : (k : ℕ) → k < callers → actor_of moved (k + 1) ≡ actor_at P (length (items_of P k (calls_of (s ∷ before)))) (doing (s ∷ before) k)
    actor_is k below =
        let b : Actor P = actor_after (actor_at P i d) (turn_asked P s s.asked d) s.found in
        let many : length m.actors ≡ callers = agrees.many in
        dite (ℕ_discrete k s.by)
        (λ same. subst (λ (z : ℕ). actor_of moved (z + 1) ≡ actor_at P (length (items_of P z (calls_of (s ∷ before)))) (doing (s ∷ before) z)) (sym same)
        (get_or-set_same m.actors (a - 1) b fresh_actor (omega (arith, one, many))
        ∙ (actor_step P i s s.asked d has ∙ ap₂ (actor_at P) (sym (passed_here P s before)) (sym (doing_here P s before)))))
        (λ other. get_or-set_other m.actors (a - 1) (k + 1 - 1) b fresh_actor (λ h. other (omega (arith, h)))
        ∙ (agrees.actors k below ∙ ap₂ (actor_at P) (sym (ap length (items_else P s before k other))) (sym (doing_else P s before k other))))

    goes : Agrees (s ∷ before) (with_log moved)
    goes = record {
      rows = agrees.rows;
      long = long_step P m.words s s.asked d has ∙ agrees.long;
      words = λ u inside. words_step P m.words s (calls_of before) finds low (omega (arith, few, agrees.long)) u inside.0 (agrees.words u inside) s.asked d has (exceeds s s.asked d (all_above before s.by) may);
      many = length-set m.actors (a - 1) _ ∙ agrees.many;
      actors = actor_is;
      calls = told_step P r.log.calls (first_step r.log a) (r.log.steps + 1) s s.asked d has
          ∙ (ap (λ (l : List Event). l ++ map by_actor (ended s s.asked d)) agrees.calls ∙ sym (map-append by_actor (calls_of before) (ended s s.asked d)));
    }

    one_step : Agrees (s ∷ before) (run_step r a)
    one_step = subst (λ (z : Machine P). Agrees (s ∷ before) (with_log z)) (sym is_moved) goes

    looks_at : next_vertex m a ≡ s.vertex
    looks_at = vertex

    finds_there : found_by m a ≡ s.found
    finds_there = found

  fits_before : (s : TakenStep) (before : List TakenStep) → MayFollow s s.asked (doing before s.by) → HasItem s.asked → ((k : ℕ) → k < callers → IsPrefix (row P (s ∷ before) k) (row_of plan.rows (k + 1)))
      → (k : ℕ) → k < callers → IsPrefix (row P before k) (row_of plan.rows (k + 1))
  fits_before s before may has fits k below = dite (ℕ_discrete k s.by)
      (λ same. subst (λ (z : ℕ). IsPrefix (row P before z) (row_of plan.rows (z + 1))) (sym same)
      (row_before P s before (row_of plan.rows (s.by + 1)) has may (subst (λ (z : ℕ). IsPrefix (row P (s ∷ before) z) (row_of plan.rows (z + 1))) same (fits k below))))
      (λ other. subst (λ (l : List (Item P)). IsPrefix l (row_of plan.rows (k + 1))) (row_else P s before k other) (fits k below))

  runs : (steps : List TakenStep) → IsInterleaving steps → AreWithin n callers steps → HaveItems steps → ((k : ℕ) → k < callers → IsPrefix (row P steps k) (row_of plan.rows (k + 1)))
      → Agrees steps (run_of plan (actors_of steps)) × AreFound plan steps
  runs [] is within have fits = (opens, tt)
  runs (s ∷ before) is within have fits =
      let r : RunState P = run_of plan (actors_of before) in
      let rest = runs before is.2 within.3 have.1 (fits_before s before is.1 have.0 fits) in
      let here : IsPrefix (row P (s ∷ before) s.by) (row_of plan.rows (s.by + 1)) = fits s.by within.2 in (
        subst (Agrees (s ∷ before)) (sym (run_more (opening_run plan) (actors_of before) (s.by + 1))) (one_step s before r is.0 is.1 within.0 within.1 within.2 have.0 here rest.0),
        (looks_at s before r is.0 is.1 within.0 within.1 within.2 have.0 here rest.0, finds_there s before r is.0 is.1 within.0 within.1 within.2 have.0 here rest.0, rest.1),
      )

  rows_fit : (k : ℕ) → k < callers → IsPrefix (row P all k) (row_of plan.rows (k + 1))
  rows_fit k below = ([], append-nil (row P all k) ∙ sym (get_or-map-range_with_len (row P all) 0 callers (k + 1 - 1) k [] (omega arith) (omega arith)))

pub interleaving_is_run : EveryInterleavingIsARun
interleaving_is_run P n callers steps is within have = let r = runs P n callers steps steps is within have (rows_fit P n callers steps) in record {
  found = r.1;
  calls = r.0.calls;
  words = r.0.words;
}

pub end_is_run : {L : Type 0} (allows : L → ℕ → Word → Type 0) → EveryEndIsARun allows
end_is_run allows P law caller words end =
    let same : Same (length words) (length end.owns) end.steps (by_exchanges end.steps) = all_by_exchanges (length words) (length end.owns) end.steps end.interleaved end.within in
    let is_run : IsRun P (length words) (length end.owns) (by_exchanges end.steps) = interleaving_is_run P (length words) (length end.owns) (by_exchanges end.steps) same.interleaved same.within same.have in record {
      is_run = is_run;
      as_made = as_they_are end.steps;
      calls = same.calls ∙ sym end.calls;
      words_left = λ v inside. end.ends v inside.0 inside.1 ∙ (ap (λ (l : List Event). run blank l v) (end.calls ∙ sym same.calls) ∙ sym (is_run.words v inside));
    }
