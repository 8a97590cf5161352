-- The steps of an offer on the word of its vertex: one load, and then exchanges.
use Rattle.std.specs.Prelude.{◌≡◌, List, [], ◌∷◌, if◌then◌else◌}
use Rattle.sp_word.specs.declared.reply.Reply.{Reply}
use Rattle.sp_word.specs.declared.reply.Reply.TheVariants.{Kept}
use Rattle.sp_word.specs.Word.{Word, is_below, is_same}
use Rattle.sp_word.specs.Reply.{reply_to}

-- The state of an offer between two steps: before its load; before an exchange of the word that it holds; or at its
-- end, with the word found last and the reply. An offer that took a step beyond its end is overrun.
pub data OfferStage : Type 0 where
  Before : OfferStage
  Holding : (held : Word) → OfferStage
  Over : (found : Word) (reply : Reply) → OfferStage
  Overrun : OfferStage

-- This is the stage of an offer of w after one step that finds the word x.
abbrev pub offer_step : (w : Word) → OfferStage → (x : Word) → OfferStage
offer_step w Before x = if is_below w x then Holding x else Over x Kept
offer_step w (Holding h) x = if is_same x h then Over x (reply_to x w) else if is_below w x then Holding x else Over x Kept
offer_step w (Over y r) x = Overrun
offer_step w Overrun x = Overrun

-- This is the word that the step leaves: an exchange that finds the word held stores the offer.
abbrev pub left_by_step : (w : Word) → OfferStage → (x : Word) → Word
left_by_step w Before x = x
left_by_step w (Holding h) x = if is_same x h then w else x
left_by_step w (Over y r) x = x
left_by_step w Overrun x = x

-- This is the stage after steps that find these words.
abbrev pub offer_steps : (w : Word) → OfferStage → List Word → OfferStage
offer_steps w s [] = s
offer_steps w s (x ∷ xs) = offer_steps w (offer_step w s x) xs

-- Steps that find these words are an offer of w from before its load to its end, no more and no fewer. It ends with the
-- word x and the reply.
abbrev pub IsOffer : (w : Word) → List Word → (x : Word) → Reply → Type 0
IsOffer w xs x reply = offer_steps w Before xs ≡ Over x reply
