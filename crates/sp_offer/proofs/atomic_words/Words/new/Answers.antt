use Rattle.std.proofs.Common.{◌≡◌, ◌∙◌, ℕ, ap, List, length, replicate, get_or}
use Rattle.std.proofs.lemmas.List.{get_or-replicate, length-replicate}
use Rattle.sp_offer.proofs.Steps.{opens}
use Rattle.sp_offer.proofs.atomic_words.Words.new.Goals as goal

pub of_words-requires : goal.of_words-requires
of_words-requires g c = let words : c.as_slice.result.now ≡ replicate c.args.n 18446744073709551615 = c.as_slice.ensures.value ∙ c.in_ok-words.ensures in
    opens _ _ _ _ (ap length words ∙ length-replicate c.args.n 18446744073709551615) (λ i below. ap (λ (l : List ℕ). get_or l i 0) words ∙ get_or-replicate c.args.n i 18446744073709551615 0 below)
