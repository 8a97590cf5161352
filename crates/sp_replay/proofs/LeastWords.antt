-- The words that are left.
use Rattle.std.proofs.Common.{◌≡◌, ℕ, ◌<◌, ◌≤◌, inl, inr, ⊎_elim, refl, sym, subst, arith, List, length}
use Rattle.sp_word.specs.Word.{Word, Unreached}
use Rattle.sp_word.specs.History.{run}
use Rattle.sp_machine.specs.Programme.{Programme, IsNumber}
use Rattle.sp_offer.specs.Order.{lawful, IsKnownWord, IsNoMore}
use Rattle.sp_offer.specs.Histories.{blank}
use Rattle.sp_offer.specs.Story.{Knowledge, known_table, copied_word}
use Rattle.sp_offer.specs.Ending.{IsEnd}
use Rattle.sp_offer.proofs.Orders.{at_most-trans}
use Rattle.sp_offer.proofs.Histories.{known_run, falls_along}
use Rattle.sp_replay.proofs.CallerRuns.{end_is_run}
use Rattle.sp_replay.specs.Least.{IsOffered, IsLeastOffer, AreLeast}
use Rattle.sp_replay.specs.Made.{KnowsOffers}
use Rattle.sp_replay.specs.Ran.{AreLeftByRun}

-- where the last caller knows all offers, the words at the end are the least
pub least_words : {P : ℕ} (p : Programme P) (words : List Word) (caller : Knowledge)
    → length words ≡ p.words → IsEnd (lawful P (IsOffered p)) caller words → KnowsOffers p caller.story → AreLeast p words
least_words {P} p words caller wide end known = record { wide = wide; least = least }
  where
    least : (v : ℕ) → IsNumber p.words v → IsLeastOffer p v (copied_word words v)
    least v is =
        let some : 0 < v = (let low = is.0 in omega arith) in
        let within : v ≤ length words = (let high = is.1 in omega arith) in
        let left : copied_word words v ≡ run blank end.history v = end.ends v some within in
        record {
          known =
              ⊎_elim
              (λ (none : copied_word words v ≡ Unreached). inl none)
              (λ (allowed : lawful P (IsOffered p) v (copied_word words v)). inr allowed.2)
              (subst (IsKnownWord (lawful P (IsOffered p)) v) (sym left) (known_run (lawful P (IsOffered p)) blank end.history end.lawful (λ u. inl refl) v));
          least = λ other offered. at_most-trans (copied_word words v) (known_table caller.story v) other
              (subst (λ (w : Word). IsNoMore w (known_table caller.story v)) (sym left) (falls_along caller.story.seen end.history v end.seen)) (known v other offered);
        }

pub left_by_run : {P : ℕ} (p : Programme P) (words : List Word) (caller : Knowledge) → IsEnd (lawful P (IsOffered p)) caller words → AreLeftByRun p words
left_by_run {P} p words caller end = record { caller = caller; end = end; run = end_is_run {L = Programme P} IsOffered P p caller words end }
