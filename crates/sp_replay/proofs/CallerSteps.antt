-- What the machine's cases do beside a step of a caller.
use Rattle.std.proofs.Common.{◌≡◌, ◌≢◌, ℕ, ◌+◌, ◌-◌, ◌<◌, ◌≤◌, ◌==◌, Bool, true, false, if◌then◌else◌, List, [], ◌∷◌, ◌++◌, map, length, get_or, set, refl, sym, ap, ap₂, ◌∙◌, subst, arith, append-nil, length-set, eq-eqb, ne_eqb, get_or-set_other, get_or-set_same, Option, Some, None}
use Rattle.std.proofs.lemmas.Bool.{cond-true, cond-false}
use Rattle.std.proofs.lemmas.List.{map-append}
use mathlib.Core.Logic.{dite}
use native.Mathlib.Decide.{ℕ_discrete}
use Rattle.sp_word.specs.declared.reply.Reply.{Reply}
use Rattle.sp_word.specs.declared.reply.Reply.TheVariants.{Kept}
use Rattle.sp_word.specs.Word.{Word, Unreached, is_below, is_same, lesser, max_dist}
use Rattle.sp_word.specs.History.{Table, Event, Call, Offer, Read, left_by, run}
use Rattle.sp_word.specs.Reply.{reply_to}
use Rattle.sp_word.specs.Offering.{OfferStage, Before, Holding, Over, Overrun, offer_step}
use Rattle.sp_paths.specs.Paths.{word_at}
use Rattle.sp_offer.specs.Histories.{blank, event}
use Rattle.sp_offer.specs.Interleaving as doings
use Rattle.sp_offer.specs.Interleaving.{AskedStep, OfOffer, OfRead, OfMin, TakenStep, Doing, Rests, stage_at, doing_at, doing_after, doing, call_over, ended, calls_of, MayFollow}
use Rattle.sp_offer.proofs.Histories.{run_append}
use Rattle.sp_offer.proofs.Trails.{same_is}
use Rattle.sp_machine.specs.declared.turn.At.{At}
use Rattle.sp_machine.specs.declared.turn.At.TheVariants.{Offering, Reading}
use Rattle.sp_machine.specs.declared.turn.Turn.{Turn}
use Rattle.sp_machine.specs.declared.turn.Turn.TheVariants.{Keeps, Holds, Wins, LosesAndKeeps, LosesAndHolds, EndsRead}
use Rattle.sp_machine.specs.declared.actor.Actor.{Actor}
use Rattle.sp_machine.specs.declared.report.Finished.{Finished}
use Rattle.sp_machine.specs.Step.{at, vertex_at, offer_turn, turn, actor_after, words_after, call_ended, with_caller}
use Rattle.sp_machine.specs.Run.{with_call}
use Rattle.sp_machine.specs.Linear.{event_of}
use Rattle.sp_replay.specs.CallerRuns.{by_actor, HasItem}
use Rattle.sp_replay.proofs.CallerRows.{asked_item, passed, stage_of_step}

abbrev pub held_of : Doing → Option Word
held_of Rests = None
held_of (doings.Offering v w h) = Some h

-- the actor of a caller, some of whose calls have ended
abbrev pub actor_at : (P : ℕ) → ℕ → Doing → Actor P
actor_at P i d = record { next = i; loaded = None; held = held_of d }

abbrev pub place_asked : (P : ℕ) → TakenStep → AskedStep → At P
place_asked P s asked = at (Some (asked_item P s asked)) None

abbrev pub turn_asked : (P : ℕ) → TakenStep → AskedStep → Doing → Turn
turn_asked P s asked d = turn (max_dist P) (place_asked P s asked) (held_of d) s.found

pub vertex_asked : (P : ℕ) (s : TakenStep) (asked : AskedStep) → vertex_at (place_asked P s asked) ≡ s.vertex
vertex_asked P s (OfOffer w) = refl
vertex_asked P s OfRead = refl
vertex_asked P s (OfMin w) = refl

-- ## A caller holds words that are greater than what it offers

abbrev pub IsAbove : Doing → Type 0
IsAbove Rests = Unit {0}
IsAbove (doings.Offering v w h) = is_below w h ≡ true

above_load : (v : ℕ) (w x : Word) (b : Bool) → is_below w x ≡ b → IsAbove (doing_at v w (if b then Holding x else Over x Kept))
above_load v w x true is = is
above_load v w x false is = tt

above_exchange : (v : ℕ) (w x : Word) (same b : Bool) → is_below w x ≡ b → IsAbove (doing_at v w (if same then Over x (reply_to x w) else if b then Holding x else Over x Kept))
above_exchange v w x true b is = tt
above_exchange v w x false true is = is
above_exchange v w x false false is = tt

above_offer : (v : ℕ) (w x : Word) (d : Doing) → IsAbove (doing_at v w (offer_step w (stage_at d) x))
above_offer v w x Rests = above_load v w x (is_below w x) refl
above_offer v w x (doings.Offering u y h) = above_exchange v w x (is_same x h) (is_below w x) refl

above_after : (s : TakenStep) (asked : AskedStep) (d : Doing) → IsAbove (doing_after s asked d)
above_after s (OfOffer w) d = above_offer s.vertex w s.found d
above_after s OfRead d = tt
above_after s (OfMin w) d = tt

above_if : (b : Bool) (d e : Doing) → IsAbove d → IsAbove e → IsAbove (if b then d else e)
above_if true d e one two = one
above_if false d e one two = two

pub all_above : (steps : List TakenStep) (k : ℕ) → IsAbove (doing steps k)
all_above [] k = tt
all_above (s ∷ before) k = above_if (k == s.by) (doing_after s s.asked (doing before k)) (doing before k) (above_after s s.asked (doing before k)) (all_above before k)

-- a word held is greater than the offer of the step
abbrev pub Exceeds : AskedStep → Doing → Type 0
Exceeds (OfOffer w) Rests = Unit {0}
Exceeds (OfOffer w) (doings.Offering v y h) = is_below w h ≡ true
Exceeds OfRead d = Unit {0}
Exceeds (OfMin w) d = Unit {0}

pub exceeds : (s : TakenStep) (asked : AskedStep) (d : Doing) → IsAbove d → MayFollow s asked d → Exceeds asked d
exceeds s (OfOffer w) Rests above may = tt
exceeds s (OfOffer w) (doings.Offering v y h) above may = subst (λ (z : Word). is_below z h ≡ true) may.1 above
exceeds s OfRead d above may = tt
exceeds s (OfMin w) d above may = tt

-- ## The actor

module _ (P i : ℕ) (s : TakenStep) (w : Word) where
  abbrev x : Word
  x = s.found

  abbrev leads : OfferStage → Actor P
  leads g = actor_at P (passed P i (OfOffer w) g) (doing_at s.vertex w g)

  actor_load : (b : Bool) → actor_after (actor_at P i Rests) (if b then Holds else Keeps) x ≡ leads (if b then Holding x else Over x Kept)
  actor_load true = refl
  actor_load false = refl

  actor_exchange : (d : Doing) (same b : Bool) → actor_after (actor_at P i d) (if same then Wins else if b then LosesAndHolds else LosesAndKeeps) x ≡ leads (if same then Over x (reply_to x w) else if b then Holding x else Over x Kept)
  actor_exchange d true b = refl
  actor_exchange d false true = refl
  actor_exchange d false false = refl

  actor_offer : (d : Doing) → actor_after (actor_at P i d) (offer_turn w (held_of d) x) x ≡ leads (offer_step w (stage_at d) x)
  actor_offer Rests = actor_load (is_below w x)
  actor_offer (doings.Offering u y h) = actor_exchange (doings.Offering u y h) (is_same x h) (is_below w x)

pub actor_step : (P i : ℕ) (s : TakenStep) (asked : AskedStep) (d : Doing) → HasItem asked
    → actor_after (actor_at P i d) (turn_asked P s asked d) s.found ≡ actor_at P (passed P i asked (stage_of_step P s asked d)) (doing_after s asked d)
actor_step P i s (OfOffer w) d has = actor_offer P i s w d
actor_step P i s OfRead d has = refl
actor_step P i s (OfMin w) d has = absurd has

-- ## The calls

module _ (P : ℕ) (calls : List (Finished P)) (first last : ℕ) (s : TakenStep) where
  abbrev told_by : At P → Turn → List Event
  told_by place t = map event_of (with_call calls (with_caller (s.by + 1) s.vertex (call_ended place t s.found)) first last)

  abbrev told_of : List Event → List Event
  told_of es = map event_of calls ++ map by_actor es

  module _ (w : Word) where
    told_load : (b : Bool) → told_by (Offering s.vertex w) (if b then Holds else Keeps) ≡ told_of (call_over s w (if b then Holding s.found else Over s.found Kept))
    told_load true = sym (append-nil (map event_of calls))
    told_load false = map-append event_of calls _

    told_exchange : (same b : Bool) → told_by (Offering s.vertex w) (if same then Wins else if b then LosesAndHolds else LosesAndKeeps)
        ≡ told_of (call_over s w (if same then Over s.found (reply_to s.found w) else if b then Holding s.found else Over s.found Kept))
    told_exchange true b = map-append event_of calls _
    told_exchange false true = sym (append-nil (map event_of calls))
    told_exchange false false = map-append event_of calls _

    told_offer : (d : Doing) → told_by (Offering s.vertex w) (offer_turn w (held_of d) s.found) ≡ told_of (call_over s w (offer_step w (stage_at d) s.found))
    told_offer Rests = told_load (is_below w s.found)
    told_offer (doings.Offering u y h) = told_exchange (is_same s.found h) (is_below w s.found)

  pub told_step : (asked : AskedStep) (d : Doing) → HasItem asked
      → map event_of (with_call calls (with_caller (s.by + 1) (vertex_at (place_asked P s asked)) (call_ended (place_asked P s asked) (turn_asked P s asked d) s.found)) first last) ≡ told_of (ended s asked d)
  told_step (OfOffer w) d has = told_offer w d
  told_step OfRead d has = map-append event_of calls _
  told_step (OfMin w) d has = absurd has

-- ## The words

module _ (log : List Event) (k v : ℕ) (x : Word) (finds : run blank log v ≡ x) (u : ℕ) where
  abbrev now : Word
  now = run blank log u

  -- the word of u after one more call of v
  more : (c : Call) → run blank (log ++ event k v c ∷ []) u ≡ (if u == v then left_by c now else now)
  more c = ap (λ (t : Table). t u) (run_append blank log (event k v c ∷ []))

  pub read_leaves : run blank (log ++ event k v (Read x) ∷ []) u ≡ now
  read_leaves = more (Read x) ∙ either_way (u == v)
    where
      either_way : (b : Bool) → (if b then now else now) ≡ now
      either_way true = refl
      either_way false = refl

  module _ (w : Word) (r : Reply) where
    here : u ≡ v → run blank (log ++ event k v (Offer w x r) ∷ []) u ≡ lesser now w
    here same = more (Offer w x r) ∙ cond-true (u == v) (lesser now w) now (eq-eqb u v same)

    elsewhere : u ≢ v → run blank (log ++ event k v (Offer w x r) ∷ []) u ≡ now
    elsewhere other = more (Offer w x r) ∙ cond-false (u == v) (lesser now w) now (ne_eqb u v other)

    below_now : u ≡ v → is_below w now ≡ is_below w x
    below_now same = ap (λ (z : ℕ). is_below w (run blank log z)) same ∙ ap (is_below w) finds

    pub kept_leaves : is_below w x ≡ false → run blank (log ++ event k v (Offer w x r) ∷ []) u ≡ now
    kept_leaves small = dite (ℕ_discrete u v) (λ same. here same ∙ cond-false (is_below w now) w now (below_now same ∙ small)) elsewhere

    pub won_leaves : (ws : List Word) → 0 < v → v ≤ length ws → 0 < u → is_below w x ≡ true → word_at ws u ≡ now → word_at (set ws (v - 1) w) u ≡ run blank (log ++ event k v (Offer w x r) ∷ []) u
    won_leaves ws low few some great was = dite (ℕ_discrete u v)
        (λ same. ap (λ (z : ℕ). get_or (set ws (v - 1) w) (z - 1) Unreached) same ∙ (get_or-set_same ws (v - 1) w Unreached (omega arith) ∙ sym (here same ∙ cond-true (is_below w now) w now (below_now same ∙ great))))
        (λ other. get_or-set_other ws (v - 1) (u - 1) w Unreached (λ h. other (omega arith)) ∙ (was ∙ sym (elsewhere other)))

module _ (P : ℕ) (ws : List Word) (s : TakenStep) where
  module _ (w : Word) where
    long_load : (b : Bool) → length (words_after {P = P} ws (Offering s.vertex w) (if b then Holds else Keeps)) ≡ length ws
    long_load true = refl
    long_load false = refl

    long_exchange : (same b : Bool) → length (words_after {P = P} ws (Offering s.vertex w) (if same then Wins else if b then LosesAndHolds else LosesAndKeeps)) ≡ length ws
    long_exchange true b = length-set ws (s.vertex - 1) w
    long_exchange false true = refl
    long_exchange false false = refl

    long_offer : (d : Doing) → length (words_after {P = P} ws (Offering s.vertex w) (offer_turn w (held_of d) s.found)) ≡ length ws
    long_offer Rests = long_load (is_below w s.found)
    long_offer (doings.Offering u y h) = long_exchange (is_same s.found h) (is_below w s.found)

  pub long_step : (asked : AskedStep) (d : Doing) → HasItem asked → length (words_after ws (place_asked P s asked) (turn_asked P s asked d)) ≡ length ws
  long_step (OfOffer w) d has = long_offer w d
  long_step OfRead d has = refl
  long_step (OfMin w) d has = absurd has

  module _ (log : List Event) (finds : run blank log s.vertex ≡ s.found) (low : 0 < s.vertex) (few : s.vertex ≤ length ws) (u : ℕ) (some : 0 < u) (was : word_at ws u ≡ run blank log u) where
    abbrev left : List Event → Word
    left es = run blank (log ++ es) u

    nothing : word_at ws u ≡ left []
    nothing = was ∙ sym (ap (λ (l : List Event). run blank l u) (append-nil log))

    module _ (w : Word) where
      words_load : (b : Bool) → is_below w s.found ≡ b → word_at (words_after {P = P} ws (Offering s.vertex w) (if b then Holds else Keeps)) u ≡ left (call_over s w (if b then Holding s.found else Over s.found Kept))
      words_load true is = nothing
      words_load false is = was ∙ sym (kept_leaves log s.by s.vertex s.found finds u w Kept is)

      words_exchange : (same b : Bool) → is_below w s.found ≡ b → (same ≡ true → is_below w s.found ≡ true)
          → word_at (words_after {P = P} ws (Offering s.vertex w) (if same then Wins else if b then LosesAndHolds else LosesAndKeeps)) u
          ≡ left (call_over s w (if same then Over s.found (reply_to s.found w) else if b then Holding s.found else Over s.found Kept))
      words_exchange true b is wins = won_leaves log s.by s.vertex s.found finds u w (reply_to s.found w) ws low few some (wins refl) was
      words_exchange false true is wins = nothing
      words_exchange false false is wins = was ∙ sym (kept_leaves log s.by s.vertex s.found finds u w Kept is)

      words_offer : (d : Doing) → Exceeds (OfOffer w) d → word_at (words_after {P = P} ws (Offering s.vertex w) (offer_turn w (held_of d) s.found)) u ≡ left (call_over s w (offer_step w (stage_at d) s.found))
      words_offer Rests above = words_load (is_below w s.found) refl
      words_offer (doings.Offering v y h) above = words_exchange (is_same s.found h) (is_below w s.found) refl (λ same. ap (is_below w) (same_is s.found h same) ∙ above)

    pub words_step : (asked : AskedStep) (d : Doing) → HasItem asked → Exceeds asked d → word_at (words_after ws (place_asked P s asked) (turn_asked P s asked d)) u ≡ left (ended s asked d)
    words_step (OfOffer w) d has above = words_offer w d above
    words_step OfRead d has above = was ∙ sym (read_leaves log s.by s.vertex s.found finds u)
    words_step (OfMin w) d has above = absurd has
