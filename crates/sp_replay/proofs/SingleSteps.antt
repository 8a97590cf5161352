-- An offer by one step is an offer by a load and an exchange that nothing comes between.
use Rattle.std.proofs.Common.{◌≡◌, ◌≢◌, ℕ, ◌<◌, ◌≤◌, ◌==◌, Bool, true, false, if◌then◌else◌, List, [], ◌∷◌, ◌++◌, refl, sym, ap, ap₂, ◌∙◌, subst, append-nil, eq-eqb}
use Rattle.std.proofs.lemmas.Bool.{cond-true, cond-false, and_from}
use mathlib.Core.Logic.{dite}
use native.Mathlib.Decide.{ℕ_discrete}
use Rattle.sp_word.specs.declared.reply.Reply.{Reply}
use Rattle.sp_word.specs.declared.reply.Reply.TheVariants.{Shorter, SmallerPred, Kept}
use Rattle.sp_word.specs.Word.{Word, Unreached, Pair, is_below, is_same}
use Rattle.sp_word.specs.History.{Event, Offer, run}
use Rattle.sp_word.specs.Reply.{reply_to}
use Rattle.sp_word.specs.Offering.{OfferStage, Before, Holding, Over, offer_step}
use Rattle.sp_offer.specs.Histories.{blank, event, is_smaller}
use Rattle.sp_offer.specs.Interleaving.{AskedStep, OfOffer, OfRead, OfMin, TakenStep, Doing, Rests, Offering, stage_at, doing_at, doing_after, doing, call_over, ended, calls_of, IsAt, MayFollow, IsInterleaving, AreWithin}
use Rattle.sp_offer.proofs.Orders.{smaller_is_below}
use Rattle.sp_replay.specs.CallerRuns.{HasItem, HaveItems, offering, in_exchanges, by_exchanges}
use Rattle.sp_replay.proofs.CallerRows.{doing_here, doing_else}

same_itself : (a : Word) → is_same a a ≡ true
same_itself Unreached = refl
same_itself (Pair d p) = and_from (d == d) (p == p) (eq-eqb d d refl) (eq-eqb p p refl)

kept_reply : (r : Reply) → is_smaller r ≡ false → r ≡ Kept
kept_reply Shorter h = cc
kept_reply SmallerPred h = cc
kept_reply Kept h = refl

-- an offer that isn't below the word found is answered Kept
is_kept : (x w : Word) → is_below w x ≡ false → reply_to x w ≡ Kept
is_kept x w more = kept_reply (reply_to x w) (smaller_is_below x w ∙ more)

-- the same calls have ended, all are at the same, and no offer was made by one step
pub record Same (n callers : ℕ) (steps next : List TakenStep) : Type 0 where
  pub doings : (k : ℕ) → doing next k ≡ doing steps k
  pub calls : calls_of next ≡ calls_of steps
  pub interleaved : IsInterleaving next
  pub within : AreWithin n callers next
  pub have : HaveItems next

module _ (n callers : ℕ) (s : TakenStep) (before B : List TakenStep) (same : Same n callers before B) (finds : run blank (calls_of before) s.vertex ≡ s.found) (may : MayFollow s s.asked (doing before s.by))
    (low : 0 < s.vertex) (few : s.vertex ≤ n) (one : s.by < callers) where
  finds_too : run blank (calls_of B) s.vertex ≡ s.found
  finds_too = ap (λ (l : List Event). run blank l s.vertex) same.calls ∙ finds

  keep : HasItem s.asked → Same n callers (s ∷ before) (s ∷ B)
  keep has = record {
    doings = λ k. ap (λ (d : Doing). if k == s.by then doing_after s s.asked d else d) (same.doings k);
    calls = ap₂ (λ (l : List Event) (d : Doing). l ++ ended s s.asked d) same.calls (same.doings s.by);
    interleaved = (finds_too, subst (MayFollow s s.asked) (sym (same.doings s.by)) may, same.interleaved);
    within = (low, few, one, same.within);
    have = (has, same.have);
  }

  module _ (w : Word) (asked : s.asked ≡ OfMin w) where
    abbrev t : TakenStep
    t = offering s w

    abbrev x : Word
    x = s.found

    abbrev call : List Event
    call = event s.by s.vertex (Offer w x (reply_to x w)) ∷ []

    rests : doing B s.by ≡ Rests
    rests = same.doings s.by ∙ subst (λ (z : AskedStep). MayFollow s z (doing before s.by)) asked may

    at_rest : IsAt s.vertex w (doing B s.by)
    at_rest = subst (IsAt s.vertex w) (sym rests) tt

    calls_are : calls_of (s ∷ before) ≡ calls_of before ++ call
    calls_are = ap (λ (z : AskedStep). calls_of before ++ ended s z (doing before s.by)) asked

    doings_are : (next : List TakenStep) → doing next s.by ≡ Rests → ((k : ℕ) → k ≢ s.by → doing next k ≡ doing B k) → (k : ℕ) → doing next k ≡ doing (s ∷ before) k
    doings_are next here others k = dite (ℕ_discrete k s.by)
        (λ h. subst (λ (z : ℕ). doing next z ≡ doing (s ∷ before) z) (sym h) (here ∙ sym (doing_here 0 s before ∙ ap (λ (z : AskedStep). doing_after s z (doing before s.by)) asked)))
        (λ other. others k other ∙ (same.doings k ∙ sym (doing_else 0 s before k other)))

    -- the stage after the load
    first : (b : Bool) → is_below w x ≡ b → offer_step w (stage_at (doing B s.by)) x ≡ (if b then Holding x else Over x Kept)
    first b is = ap (λ (d : Doing). offer_step w (stage_at d) x) rests ∙ ap (λ (c : Bool). if c then Holding x else Over x Kept) is

    kept : is_below w x ≡ false → Same n callers (s ∷ before) (t ∷ B)
    kept small = record {
      doings = doings_are (t ∷ B) (doing_here 0 t B ∙ ap (doing_at s.vertex w) (first false small)) (doing_else 0 t B);
      calls = ap (λ (g : OfferStage). calls_of B ++ call_over t w g) (first false small) ∙ (ap₂ (λ (l : List Event) (r : Reply). l ++ event s.by s.vertex (Offer w x r) ∷ []) same.calls (sym (is_kept x w small)) ∙ sym calls_are);
      interleaved = (finds_too, at_rest, same.interleaved);
      within = (low, few, one, same.within);
      have = (tt, same.have);
    }

    module _ (great : is_below w x ≡ true) where
      holds : doing (t ∷ B) s.by ≡ Offering s.vertex w x
      holds = doing_here 0 t B ∙ ap (doing_at s.vertex w) (first true great)

      no_call : calls_of (t ∷ B) ≡ calls_of B
      no_call = ap (λ (g : OfferStage). calls_of B ++ call_over t w g) (first true great) ∙ append-nil (calls_of B)

      second : offer_step w (stage_at (doing (t ∷ B) s.by)) x ≡ Over x (reply_to x w)
      second = ap (λ (d : Doing). offer_step w (stage_at d) x) holds ∙ cond-true (is_same x x) (Over x (reply_to x w)) (if is_below w x then Holding x else Over x Kept) (same_itself x)

      won : Same n callers (s ∷ before) (t ∷ t ∷ B)
      won = record {
        doings = doings_are (t ∷ t ∷ B) (doing_here 0 t (t ∷ B) ∙ ap (doing_at s.vertex w) second) (λ k other. doing_else 0 t (t ∷ B) k other ∙ doing_else 0 t B k other);
        calls = ap₂ (λ (l : List Event) (g : OfferStage). l ++ call_over t w g) (no_call ∙ same.calls) second ∙ sym calls_are;
        interleaved = (ap (λ (l : List Event). run blank l s.vertex) no_call ∙ finds_too, subst (IsAt s.vertex w) (sym holds) (refl, refl), (finds_too, at_rest, same.interleaved));
        within = (low, few, one, (low, few, one, same.within));
        have = (tt, (tt, same.have));
      }

    either_way : (b : Bool) → is_below w x ≡ b → Same n callers (s ∷ before) ((if b then t ∷ t ∷ [] else t ∷ []) ++ B)
    either_way true great = won great
    either_way false small = kept small

  go : (asked : AskedStep) → s.asked ≡ asked → Same n callers (s ∷ before) (in_exchanges s asked ++ B)
  go (OfOffer w) is = keep (subst HasItem (sym is) tt)
  go OfRead is = keep (subst HasItem (sym is) tt)
  go (OfMin w) is = either_way w is (is_below w s.found) refl

pub all_by_exchanges : (n callers : ℕ) (steps : List TakenStep) → IsInterleaving steps → AreWithin n callers steps → Same n callers steps (by_exchanges steps)
all_by_exchanges n callers [] is within = record { doings = λ k. refl; calls = refl; interleaved = tt; within = tt; have = tt }
all_by_exchanges n callers (s ∷ before) is within = go n callers s before (by_exchanges before) (all_by_exchanges n callers before is.2 within.3) is.0 is.1 within.0 within.1 within.2 s.asked refl

-- steps of offers by exchanges and of reads are left as they are
as_it_is : (s : TakenStep) (asked : AskedStep) → HasItem asked → in_exchanges s asked ≡ s ∷ []
as_it_is s (OfOffer w) has = refl
as_it_is s OfRead has = refl
as_it_is s (OfMin w) has = absurd has

pub as_they_are : (steps : List TakenStep) → HaveItems steps → by_exchanges steps ≡ steps
as_they_are [] have = refl
as_they_are (s ∷ before) have = ap₂ (λ (l m : List TakenStep). l ++ m) (as_it_is s s.asked have.0) (as_they_are before have.1)
