-- A machine at a step of an actor.
use Rattle.std.proofs.Common.{◌≡◌, ℕ, ◌-◌, ◌<◌, ◌≤◌, ◌⊎◌, inl, inr, true, List, [], Option, Some, None, length, refl, replicate, slice_index_or, slice_set, slice_get, sym, ap, ◌∙◌, subst, arith, IfSome, length-set, get_or-set_same, get_or-set_other}
use Rattle.std.proofs.lemmas.Bool.{cases_eq, cases_lt}
use Rattle.std.proofs.lemmas.List.{get_or_default, get_or_past, get_or-replicate, length-replicate}
use Rattle.sp_word.specs.Word.{Word, IsPair, is_layout, max_dist}
use Rattle.sp_machine.specs.declared.item.Item.{Item}
use Rattle.sp_machine.specs.declared.actor.Actor.{Actor}
use Rattle.sp_machine.specs.declared.effect.Effect.{Effect}
use Rattle.sp_machine.specs.declared.turn.At.{At}
use Rattle.sp_machine.specs.declared.turn.At.TheVariants.{Idle, Offering, Reading, Loading}
use Rattle.sp_machine.specs.declared.turn.Turn.{Turn}
use Rattle.sp_machine.specs.declared.turn.Turn.TheVariants.{Rests, Keeps, Holds, Wins, LosesAndKeeps, LosesAndHolds, EndsRead, EndsLoad, GoesOn}
use Rattle.sp_machine.specs.Programme.{Programme, IsNumber, IsItem, item_of}
use Rattle.sp_machine.specs.Step.{Machine, at, offer_word, turn, words_after, actor_after, actor_of, fresh_actor}
use Rattle.sp_machine.specs.Cases.{IsReady}
use Rattle.sp_machine.specs.MachineView.{IsMachine, SumFits}
use Rattle.sp_machine.proofs.Ready.{ready, wins_pair, keeps_sum}

-- the actor's record and its item
pub record IsAt {P : ℕ} (p : Programme P) (m : Machine P) (actor : ℕ) (state : Actor P) (item : Option (Item P)) : Type 0 where
  pub state_is : state ≡ actor_of m actor
  pub item_is : item ≡ item_of m.rows actor state.next
  pub within : IfSome item (IsItem p.words)

pub is_at : {P : ℕ} (p : Programme P) (m : Machine P) (actor : ℕ) (state : Actor P) (item seen : Option (Item P)) → IsNumber (length m.actors) actor
    → state ≡ slice_index_or m.actors (actor - 1) state → item ≡ item_of m.rows actor state.next → IfSome item (IsItem p.words) → seen ≡ item → IsAt p m actor state seen
is_at p m actor state item seen number state_is item_is within seen_is = record {
  state_is = state_is ∙ get_or_default m.actors (actor - 1) state fresh_actor (omega (arith, number));
  item_is = seen_is ∙ item_is;
  within = subst (λ (i : Option (Item _)). IfSome i (IsItem p.words)) (sym seen_is) within;
}

-- what its relaxation is about to offer fits
sum_there : {P : ℕ} (p : Programme P) (m : Machine P) (actor : ℕ) (state : Actor P) (item : Option (Item P)) → IsMachine p m → IsAt p m actor state item → SumFits item state.loaded
sum_there p m actor state item machine is =
    let there : SumFits (item_of m.rows actor state.next) state.loaded = subst (λ (a : Actor _). SumFits (item_of m.rows actor a.next) a.loaded) (sym is.state_is) (machine.sums actor) in
    subst (λ (i : Option (Item _)). SumFits i state.loaded) (sym is.item_is) there

pub ready_there : {P : ℕ} (p : Programme P) (m : Machine P) (actor : ℕ) (state : Actor P) (item : Option (Item P)) → IsMachine p m → IsAt p m actor state item → IsReady item state.loaded
ready_there p m actor state item machine is = ready p.words item state.loaded machine.layout machine.few is.within (sum_there p m actor state item machine is)

pub pair_there : {P : ℕ} (p : Programme P) (m : Machine P) (actor : ℕ) (state : Actor P) (item : Option (Item P)) (x : Word) (t : Turn) → IsAt p m actor state item
    → t ≡ turn (max_dist P) (at item state.loaded) state.held x → t ≡ Wins → IsPair (offer_word (at item state.loaded))
pair_there p m actor state item x t is turn_is won = wins_pair p.words item state.loaded state.held x is.within (sym turn_is ∙ won)

-- a step changes no number of words
pub length-words_after : {P : ℕ} (words : List Word) (place : At P) (t : Turn) → length (words_after words place t) ≡ length words
length-words_after words Idle t = refl
length-words_after words (Reading v) t = refl
length-words_after words (Loading u v l) t = refl
length-words_after words (Offering v w) Rests = refl
length-words_after words (Offering v w) Keeps = refl
length-words_after words (Offering v w) Holds = refl
length-words_after words (Offering v w) Wins = length-set words (v - 1) w
length-words_after words (Offering v w) LosesAndKeeps = refl
length-words_after words (Offering v w) LosesAndHolds = refl
length-words_after words (Offering v w) EndsRead = refl
length-words_after words (Offering v w) EndsLoad = refl
length-words_after words (Offering v w) GoesOn = refl

-- the machine after the step keeps what a machine keeps
pub goes_on : {P : ℕ} (p : Programme P) (m : Machine P) (actor : ℕ) (state : Actor P) (item : Option (Item P)) (x : Word) (t : Turn) (words : List Word) (after : Actor P) (last : Effect P)
    → IsMachine p m → IsNumber (length m.actors) actor → IsAt p m actor state item → t ≡ turn (max_dist P) (at item state.loaded) state.held x
    → words ≡ words_after m.words (at item state.loaded) t → after ≡ actor_after state t x
    → IsMachine p (record { rows = m.rows; words = words; actors = slice_set m.actors (actor - 1) after; last = last })
goes_on {P = P} p m actor state item x t words after last machine number is turn_is words_is after_is = record {
  layout = machine.layout;
  few = machine.few;
  words = ap length words_is ∙ length-words_after m.words (at item state.loaded) t ∙ machine.words;
  actors = length-set m.actors (actor - 1) after ∙ machine.actors;
  sums = λ other. each other (cases_eq (other - 1) (actor - 1));
}
  where
    turned : turn (max_dist P) (at (item_of m.rows actor state.next) state.loaded) state.held x ≡ t
    turned = subst (λ (i : Option (Item P)). turn (max_dist P) (at i state.loaded) state.held x ≡ t) is.item_is (sym turn_is)

    there : SumFits (item_of m.rows actor state.next) state.loaded
    there = subst (λ (i : Option (Item P)). SumFits i state.loaded) is.item_is (sum_there p m actor state item machine is)

    moved : SumFits (item_of m.rows actor after.next) after.loaded
    moved = subst (λ (a : Actor P). SumFits (item_of m.rows actor a.next) a.loaded) (sym after_is) (keeps_sum m.rows actor state x t turned there)

    each : (other : ℕ) → ((other - 1) ≡ (actor - 1)) ⊎ ((other - 1) ≡ (actor - 1) → ⊥)
        → SumFits (item_of m.rows other (slice_index_or (slice_set m.actors (actor - 1) after) (other - 1) fresh_actor).next) (slice_index_or (slice_set m.actors (actor - 1) after) (other - 1) fresh_actor).loaded
    each other (inl same) =
        let written : slice_index_or (slice_set m.actors (actor - 1) after) (actor - 1) fresh_actor ≡ after = get_or-set_same m.actors (actor - 1) after fresh_actor (omega (arith, number)) in
        let F : ℕ → Type 0 = λ j. SumFits (slice_get (slice_index_or m.rows j []) (slice_index_or (slice_set m.actors (actor - 1) after) j fresh_actor).next) (slice_index_or (slice_set m.actors (actor - 1) after) j fresh_actor).loaded in
        subst F (sym same) (subst (λ (a : Actor P). SumFits (item_of m.rows actor a.next) a.loaded) (sym written) moved)
    each other (inr differs) =
        let kept : slice_index_or (slice_set m.actors (actor - 1) after) (other - 1) fresh_actor ≡ slice_index_or m.actors (other - 1) fresh_actor = get_or-set_other m.actors (actor - 1) (other - 1) after fresh_actor differs in
        subst (λ (a : Actor P). SumFits (item_of m.rows other a.next) a.loaded) (sym kept) (machine.sums other)

nothing_loaded : {P : ℕ} (a : Actor P) → a ≡ fresh_actor → (d : ℕ) → a.loaded ≡ Some d → ⊥
nothing_loaded a still d e = let none : None ≡ Some d = sym (ap (λ b. b.loaded) still) ∙ e in cc

fresh_everywhere : {P : ℕ} (n i : ℕ) → slice_index_or (replicate n (fresh_actor {P = P})) i fresh_actor ≡ fresh_actor
fresh_everywhere {P = P} n i = go (cases_lt i n)
  where
    go : (i < n) ⊎ (n ≤ i) → slice_index_or (replicate n (fresh_actor {P = P})) i fresh_actor ≡ fresh_actor
    go (inl within) = get_or-replicate n i fresh_actor fresh_actor within
    go (inr past) = get_or_past (replicate n fresh_actor) i fresh_actor (simp length-replicate past)

-- the machine before any step
pub opens : {P : ℕ} (p : Programme P) (words : List Word) (actors : List (Actor P)) (last : Effect P) → is_layout P ≡ true → IsNumber 65536 p.words → length words ≡ p.words → actors ≡ replicate p.actors fresh_actor
    → IsMachine p (record { rows = p.rows; words = words; actors = actors; last = last })
opens p words actors last layout few size fresh = record {
  layout = layout;
  few = few.1;
  words = size;
  actors = ap length fresh ∙ length-replicate p.actors fresh_actor;
  sums = λ actor. let still = ap (λ (a : List (Actor _)). slice_index_or a (actor - 1) fresh_actor) fresh ∙ fresh_everywhere p.actors (actor - 1) in λ u v l d i e. absurd (nothing_loaded _ still d e);
}
