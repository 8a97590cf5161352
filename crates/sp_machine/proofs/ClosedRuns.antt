-- A run of relaxations and reads keeps to the arcs of its graph, and where it is closed it ends in the tree.
use Rattle.std.proofs.Common.{◌≡◌, ℕ, ◌+◌, ◌-◌, ◌≤◌, ◌⊎◌, inl, inr, Bool, true, false, cond, leb, List, [], ◌∷◌, ◌++◌, get_or, set, Option, Some, None, refl, sym, ap, ◌∙◌, subst, arith, map}
use Rattle.std.specs.Prelude.{Contains, slice_get}
use Rattle.std.proofs.lemmas.Bool.{leb-true, leb-false}
use Rattle.std.proofs.lemmas.Option.{same_Some, none-some}
use Rattle.std.proofs.lemmas.List.{map_push}
use Rattle.std.proofs.lemmas.List.Elements.{All-contains, Contains-append_left, Contains-push, Contains-push_cases}
use Rattle.sp_word.specs.declared.reply.Reply.{Reply}
use Rattle.sp_word.specs.declared.reply.Reply.TheVariants.{Kept}
use Rattle.sp_word.specs.Reply.{reply_to}
use Rattle.sp_word.specs.Word.{Word, Unreached, Pair, dist_of, max_dist, is_below, is_same}
use Rattle.sp_word.specs.History.{Table, Event, run, IsLegal}
use Rattle.sp_word.specs.History as asks
use Rattle.sp_paths.specs.Paths.{Graph, HasArc, word_at}
use Rattle.sp_paths.specs.Calls.{HasRead, HasOffer, IsByArcs}
use Rattle.sp_paths.proofs.CallSteps.{one_call_more, closed_ends_in_tree}
use Rattle.sp_machine.specs.declared.item.Item.{Item}
use Rattle.sp_machine.specs.declared.item.Item.TheVariants.{Offer, Read, Relax}
use Rattle.sp_machine.specs.declared.turn.At.{At}
use Rattle.sp_machine.specs.declared.turn.Turn.{Turn}
use Rattle.sp_machine.specs.declared.turn.Turn.TheVariants.{Keeps, Holds, Wins, LosesAndKeeps, LosesAndHolds, EndsLoad, GoesOn}
use Rattle.sp_machine.specs.declared.effect.Call.{Call}
use Rattle.sp_machine.specs.declared.effect.Relaxation.{Relaxation}
use Rattle.sp_machine.specs.declared.actor.Actor.{Actor}
use Rattle.sp_machine.specs.declared.report.Finished.{Finished}
use Rattle.sp_machine.specs.Programme.{Programme, IsNumber, opening_words}
use Rattle.sp_machine.specs.Step.{Machine, at, vertex_at, turn, offer_turn, load_turn, ends_item, beyond, actor_after, call_ended, with_caller, relaxation, fresh_actor, actor_of, item_at, place_of, found_by}
use Rattle.sp_machine.specs.Run.{RunState, first_step, with_call, with_relaxation, opening_run, run_step, run_from, run_of, IsItemClosed}
use Rattle.sp_machine.specs.Linear.{question_of, event_of}
use Rattle.sp_machine.specs.Relaxing.{graph_of, IsRelaxOrRead}
use Rattle.sp_machine.specs.Theorems.{ClosedRunEndsInTree}
use Rattle.sp_machine.proofs.Arcs.{arc_of_rows, arcs_all, item_has, programme_graph}
use Rattle.sp_machine.proofs.ListSteps.{each_set, copy_at}
use Rattle.sp_machine.proofs.RunSteps.{run_is_told}
use Rattle.sp_machine.proofs.TurnSteps.{actor_at}

-- an actor between the two parts of a relaxation has read the tail at the distance that it loaded, and the sum fits
abbrev HasLoaded : {P : ℕ} → List Event → List (Item P) → Actor P → Type 0
HasLoaded {P} events row a = (u v l d : ℕ) → slice_get row a.next ≡ Some (Relax u v l) → a.loaded ≡ Some d → HasRead events u d × (d + l ≤ max_dist P)

abbrev finish : (u v l d : ℕ) → Relaxation
finish u v l d = record { tail = u; head = v; len = l; loaded = Some d }

-- what is so of a run of relaxations and reads after any number of steps
record IsByRelaxing {P : ℕ} (g : Graph) (rows : List (List (Item P))) (events : List Event) (actors : List (Actor P)) (relaxed : List Relaxation) : Type 0 where
  by_arcs : IsByArcs g (max_dist P) events
  loaded : (i : ℕ) → HasLoaded events (get_or rows i []) (actor_at actors i)
  -- each finished relaxation whose sum fits made its offer
  offered : (u v l d : ℕ) → Contains relaxed (finish u v l d) → d + l ≤ max_dist P → HasOffer events v (d + l) u

-- the events after a step that ends this call, or none
abbrev events_with : {P : ℕ} → List Event → (actor vertex : ℕ) → Option (Call P) → List Event
events_with events actor vertex None = events
events_with events actor vertex (Some call) = events ++ record { by = actor; vertex = vertex; call = question_of call } ∷ []

events_after : {P : ℕ} (calls : List (Finished P)) (actor vertex first last : ℕ) (call : Option (Call P)) → map event_of (with_call calls (with_caller actor vertex call) first last) ≡ events_with (map event_of calls) actor vertex call
events_after calls actor vertex first last None = refl
events_after calls actor vertex first last (Some call) = map_push event_of calls (record { ended = record { actor = actor; vertex = vertex; call = call }; first = first; last = last })

-- what was told stays told
stays : {P : ℕ} (events : List Event) (actor vertex : ℕ) (call : Option (Call P)) (e : Event) → Contains events e → Contains (events_with events actor vertex call) e
stays events actor vertex None e has = has
stays events actor vertex (Some call) e has = Contains-append_left events (record { by = actor; vertex = vertex; call = question_of call } ∷ []) e has

-- ## One step

-- what a step leaves: its events, its actor, and the relaxation that it finished
record IsGoodStep {P : ℕ} (g : Graph) (row : List (Item P)) (events : List Event) (now : Actor P) (finished : Option Relaxation) : Type 0 where
  by_arcs : IsByArcs g (max_dist P) events
  loaded : HasLoaded events row now
  offered : (u v l d : ℕ) → finished ≡ Some (finish u v l d) → d + l ≤ max_dist P → HasOffer events v (d + l) u

-- the parts of a finished relaxation
same_finish : (u v l d u' v' l' d' : ℕ) → Some (finish u v l d) ≡ Some (finish u' v' l' d') → (u ≡ u') × (v ≡ v') × (d + l ≡ d' + l')
same_finish u v l d u' v' l' d' e =
    let same : finish u v l d ≡ finish u' v' l' d' = same_Some (finish u v l d) (finish u' v' l' d') e in
    let dist : d ≡ d' = same_Some d d' (ap (λ (r : Relaxation). r.loaded) same) in
    let len : l ≡ l' = ap (λ (r : Relaxation). r.len) same in
    (ap (λ (r : Relaxation). r.tail) same, ap (λ (r : Relaxation). r.head) same, omega (arith, dist, len))

module _ {P : ℕ} (g : Graph) (row : List (Item P)) (events : List Event) (actor : ℕ) (a : Actor P) (x : Word) (by_arcs : IsByArcs g (max_dist P) events) (loaded : HasLoaded events row a) where
  abbrev StepIsGood : (item : Option (Item P)) → (loaded : Option ℕ) → Turn → Type 0
  StepIsGood item loaded t = IsGoodStep g row (events_with events actor (vertex_at (at item loaded)) (call_ended (at item loaded) t x)) (actor_after a t x) (cond (ends_item t) (relaxation item loaded x) None)

  abbrev reading : (v : ℕ) → Event
  reading v = record { by = actor; vertex = v; call = asks.Read x }

  -- a read ends, and its item
  read_good : (v : ℕ) (finished : Option Relaxation) → ((u v l d : ℕ) → finished ≡ Some (finish u v l d) → d + l ≤ max_dist P → ⊥) → IsGoodStep g row (events ++ reading v ∷ []) (beyond a) finished
  read_good v finished none = record {
    by_arcs = one_call_more g (max_dist P) events (reading v) by_arcs tt;
    loaded = λ u w l d i e. cc;
    offered = λ u w l d is fits. absurd (none u w l d is fits);
  }

  module _ (u v l : ℕ) (is : slice_get row a.next ≡ Some (Relax u v l)) where
    -- an offer ends, and its relaxation
    offer_good : (d : ℕ) (reply : Reply) → a.loaded ≡ Some d → HasArc g u v l
        → IsGoodStep g row (events ++ record { by = actor; vertex = v; call = asks.Offer (Pair (d + l) u) x reply } ∷ []) (beyond a) (Some (finish u v l d))
    offer_good d reply at_sum arc = record {
      by_arcs = one_call_more g (max_dist P) events now by_arcs (record { tail = u; dist = d; len = l; arc = arc; read = (loaded u v l d is at_sum).0; offered = refl; fits = (loaded u v l d is at_sum).1 });
      loaded = λ u' v' l' d' i e. cc;
      offered = λ u' v' l' d' e fits. let same = same_finish u v l d u' v' l' d' e in rw (sym same.0, sym same.1, sym same.2) (actor, x, reply, Contains-push events now);
    }
      where
        now : Event
        now = record { by = actor; vertex = v; call = asks.Offer (Pair (d + l) u) x reply }

    -- a step at an offer before its load
    before_load_good : (d : ℕ) → a.loaded ≡ Some d → HasArc g u v l → (lower : Bool) → StepIsGood (Some (Relax u v l)) (Some d) (cond lower Holds Keeps)
    before_load_good d at_sum arc true = record { by_arcs = by_arcs; loaded = loaded; offered = λ u' v' l' d' e fits. cc }
    before_load_good d at_sum arc false = offer_good d Kept at_sum arc

    -- an exchange
    exchange_good : (d : ℕ) → a.loaded ≡ Some d → HasArc g u v l → (same lower : Bool) → StepIsGood (Some (Relax u v l)) (Some d) (cond same Wins (cond lower LosesAndHolds LosesAndKeeps))
    exchange_good d at_sum arc true lower = offer_good d (reply_to x (Pair (d + l) u)) at_sum arc
    exchange_good d at_sum arc false true = record { by_arcs = by_arcs; loaded = loaded; offered = λ u' v' l' d' e fits. cc }
    exchange_good d at_sum arc false false = offer_good d Kept at_sum arc

    -- the load of the tail finds no distance, or one that leaves no room for the sum
    none_good : x ≡ Unreached → StepIsGood (Some (Relax u v l)) None EndsLoad
    none_good found = read_good u (relaxation {P = P} (Some (Relax u v l)) None x) (λ u' v' l' d' e fits. absurd (no_distance u' v' l' d' (rw found at e)))
      where
        no_distance : (u' v' l' d' : ℕ) → Some (record { tail = u; head = v; len = l; loaded = None }) ≡ Some (finish u' v' l' d') → ⊥
        no_distance u' v' l' d' e = none-some d' (ap (λ (r : Relaxation). r.loaded) (same_Some _ (finish u' v' l' d') e))

    load_good : (d q : ℕ) → x ≡ Pair d q → (fits : Bool) → leb (d + l) (max_dist P) ≡ fits → StepIsGood (Some (Relax u v l)) None (cond fits GoesOn EndsLoad)
    load_good d q found true fit = record {
      by_arcs = one_call_more g (max_dist P) events (reading u) by_arcs tt;
      loaded = λ u' v' l' d' i e.
          let arc : Item P = Relax u v l in
          let other : Item P = Relax u' v' l' in
          let item : arc ≡ other = same_Some arc other (sym is ∙ i) in
          let tail : u ≡ u' = cc in
          let len : l ≡ l' = cc in
          let dist : d ≡ d' = same_Some d d' (sym (ap dist_of found) ∙ e) in
          ((actor, q, rw (sym tail, sym dist, sym found) (Contains-push events (reading u))), omega (arith, leb-true (d + l) (max_dist P) fit));
      offered = λ u' v' l' d' e fits. cc;
    }
    load_good d q found false past = read_good u (relaxation {P = P} (Some (Relax u v l)) None x) (λ u' v' l' d' e fits.
        let same = same_finish u v l d u' v' l' d' (rw found at e) in
        absurd (omega (arith, same.2, leb-false (d + l) (max_dist P) past)))

    tail_good : (y : Word) → x ≡ y → StepIsGood (Some (Relax u v l)) None (load_turn (max_dist P) l y)
    tail_good Unreached found = none_good found
    tail_good (Pair d q) found = load_good d q found (leb (d + l) (max_dist P)) refl

    sum_good : (d : ℕ) (held : Option Word) → a.loaded ≡ Some d → HasArc g u v l → StepIsGood (Some (Relax u v l)) (Some d) (offer_turn (Pair (d + l) u) held x)
    sum_good d None at_sum arc = before_load_good d at_sum arc (is_below (Pair (d + l) u) x)
    sum_good d (Some h) at_sum arc = exchange_good d at_sum arc (is_same x h) (is_below (Pair (d + l) u) x)

  -- any step of an actor that offers by relaxations alone
  step_good : (item : Option (Item P)) (at_sum : Option ℕ) → slice_get row a.next ≡ item → a.loaded ≡ at_sum → ((i : Item P) → item ≡ Some i → IsRelaxOrRead i) → ((u v l : ℕ) → item ≡ Some (Relax u v l) → HasArc g u v l)
      → StepIsGood item at_sum (turn (max_dist P) (at item at_sum) a.held x)
  step_good None at_sum is loads allowed arcs = record { by_arcs = by_arcs; loaded = loaded; offered = λ u v l d e fits. cc }
  step_good (Some (Offer v w)) at_sum is loads allowed arcs = absurd (allowed (Offer v w) refl)
  step_good (Some (Read v)) at_sum is loads allowed arcs = read_good v None (λ u w l d e fits. cc)
  step_good (Some (Relax u v l)) None is loads allowed arcs = tail_good u v l is x refl
  step_good (Some (Relax u v l)) (Some d) is loads allowed arcs = sum_good u v l is d a.held loads (arcs u v l refl)

-- ## A run

-- what is told and finished before a step stays so, and what the step adds is good
more_relaxed : {P : ℕ} (g : Graph) (rows : List (List (Item P))) (events : List Event) (actors : List (Actor P)) (relaxed : List Relaxation) (actor vertex : ℕ) (call : Option (Call P)) (now : Actor P) (finished : Option Relaxation)
    → IsByRelaxing g rows events actors relaxed → IsGoodStep g (get_or rows (actor - 1) []) (events_with events actor vertex call) now finished
    → IsByRelaxing g rows (events_with events actor vertex call) (set actors (actor - 1) now) (with_relaxation relaxed finished)
more_relaxed {P} g rows events actors relaxed actor vertex call now finished before good = record {
  by_arcs = good.by_arcs;
  loaded = each_set (λ j b. HasLoaded after (get_or rows j []) b) actors (actor - 1) now fresh_actor good.loaded (λ j u v l d i e. let was = before.loaded j u v l d i e in (read_stays u d was.0, was.1));
  offered = λ u v l d has fits. offered finished good.offered u v l d has fits;
}
  where
    after : List Event
    after = events_with events actor vertex call

    read_stays : (u d : ℕ) → HasRead events u d → HasRead after u d
    read_stays u d (by, q, has) = (by, q, stays events actor vertex call (record { by = by; vertex = u; call = asks.Read (Pair d q) }) has)

    offer_stays : (v d u : ℕ) → HasOffer events v d u → HasOffer after v d u
    offer_stays v d u (by, found, reply, has) = (by, found, reply, stays events actor vertex call (record { by = by; vertex = v; call = asks.Offer (Pair d u) found reply }) has)

    offered : (finished : Option Relaxation) → ((u v l d : ℕ) → finished ≡ Some (finish u v l d) → d + l ≤ max_dist P → HasOffer after v (d + l) u)
        → (u v l d : ℕ) → Contains (with_relaxation relaxed finished) (finish u v l d) → d + l ≤ max_dist P → HasOffer after v (d + l) u
    offered None good u v l d has fits = offer_stays v (d + l) u (before.offered u v l d has fits)
    offered (Some r) good u v l d has fits = go (Contains-push_cases relaxed r (finish u v l d) has)
      where
        go : Contains relaxed (finish u v l d) ⊎ (r ≡ finish u v l d) → HasOffer after v (d + l) u
        go (inl old) = offer_stays v (d + l) u (before.offered u v l d old fits)
        go (inr same) = good u v l d (ap Some same) fits

-- of a run
abbrev IsRelaxingRun : {P : ℕ} → Graph → RunState P → Type 0
IsRelaxingRun g r = IsByRelaxing g r.machine.rows (map event_of r.log.calls) r.machine.actors r.log.relaxed

relaxing_step : {P : ℕ} (g : Graph) (r : RunState P) (actor : ℕ) → ((i : Item P) → item_at r.machine actor ≡ Some i → IsRelaxOrRead i) → ((u v l : ℕ) → item_at r.machine actor ≡ Some (Relax u v l) → HasArc g u v l)
    → IsRelaxingRun g r → IsRelaxingRun g (run_step r actor)
relaxing_step {P} g r actor allowed arcs before =
    let good = step_good g (get_or m.rows (actor - 1) []) events actor a x before.by_arcs (before.loaded (actor - 1)) (item_at m actor) a.loaded refl refl allowed arcs in
    let more = more_relaxed g m.rows events m.actors r.log.relaxed actor (vertex_at place) call (actor_after a t x) (cond (ends_item t) (relaxation (item_at m actor) a.loaded x) None) before good in
    subst (λ told. IsByRelaxing g m.rows told (set m.actors (actor - 1) (actor_after a t x)) (with_relaxation r.log.relaxed (cond (ends_item t) (relaxation (item_at m actor) a.loaded x) None)))
    (sym (events_after r.log.calls actor (vertex_at place) (first_step r.log actor) (r.log.steps + 1) call)) more
  where
    m : Machine P
    m = r.machine

    events : List Event
    events = map event_of r.log.calls

    a : Actor P
    a = actor_of m actor

    place : At P
    place = place_of m actor

    x : Word
    x = found_by m actor

    t : Turn
    t = turn (max_dist P) place a.held x

    call : Option (Call P)
    call = call_ended place t x

relaxing_run : {P : ℕ} (g : Graph) (r : RunState P) (actors : List ℕ) → ((i k : ℕ) (item : Item P) → slice_get (get_or r.machine.rows i []) k ≡ Some item → IsRelaxOrRead item)
    → ((i k u v l : ℕ) → slice_get (get_or r.machine.rows i []) k ≡ Some (Relax u v l) → HasArc g u v l) → IsRelaxingRun g r → IsRelaxingRun g (run_from r actors)
relaxing_run g r [] allowed arcs before = before
relaxing_run g r (actor ∷ more) allowed arcs before =
    relaxing_run g (run_step r actor) more allowed arcs (relaxing_step g r actor (allowed (actor - 1) (actor_of r.machine actor).next) (arcs (actor - 1) (actor_of r.machine actor).next) before)

-- nothing was told yet
no_call : (g : Graph) (max : ℕ) → IsByArcs g max []
no_call g max [] e later is = absurd (cc)
no_call g max (b ∷ before) e later is = absurd (cc)

relaxing_opening : {P : ℕ} (g : Graph) (p : Programme P) → IsRelaxingRun g (opening_run p)
relaxing_opening {P} g p = record {
  by_arcs = no_call g (max_dist P);
  loaded = λ i. subst (HasLoaded {P = P} [] (get_or p.rows i [])) (sym (copy_at p.actors i fresh_actor)) (λ u v l d is e. cc);
  offered = λ u v l d has fits. absurd (omega (arith, has.1));
}

-- a closed run of relaxations and reads ends in the tree
pub closed_run_ends_in_tree : ClosedRunEndsInTree
closed_run_ends_in_tree P p actors s is numbers from closed = closed_ends_in_tree g s (max_dist P) (word_at (opening_words p)) final (map event_of r.log.calls) (record {
  graph = programme_graph p is;
  source = from.source;
  opened = from.opened;
  legal = told.0;
  by_arcs = relaxing.by_arcs;
  ends = told.1;
  closed = λ u v l d q arc reached fits. relaxing.offered u v l d (finished u v l arc d q reached) fits;
})
  where
    g : Graph
    g = graph_of p

    r : RunState P
    r = run_of p actors

    final : Table
    final = word_at r.machine.words

    told : IsLegal (word_at (opening_words p)) (map event_of r.log.calls) × ((v : ℕ) → IsNumber p.words v → run (word_at (opening_words p)) (map event_of r.log.calls) v ≡ final v)
    told = run_is_told p actors is

    relaxing : IsRelaxingRun g r
    relaxing = relaxing_run g (opening_run p) actors (item_has IsRelaxOrRead p.rows from.items) (arc_of_rows p.rows) (relaxing_opening g p)

    finished : (u v l : ℕ) → HasArc g u v l → IsItemClosed {P = P} r.machine.words r.log.relaxed (Relax u v l)
    finished u v l arc = All-contains (λ b. IsItemClosed {P = P} r.machine.words r.log.relaxed (Relax b.tail b.head b.len)) g.arcs (record { tail = u; head = v; len = l })
        (arcs_all (IsItemClosed r.machine.words r.log.relaxed) p.rows closed) arc
