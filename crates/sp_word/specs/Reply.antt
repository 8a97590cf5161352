-- The reply of the table of least offers.
use Rattle.std.specs.Prelude.{if◌then◌else◌, nat_lt, ◌==◌, ◌&&◌}
use Rattle.sp_word.specs.Word.{Word, Unreached, Pair}
use Rattle.sp_word.specs.declared.reply.Reply.{Reply}
use Rattle.sp_word.specs.declared.reply.Reply.TheVariants.{Shorter, SmallerPred, Kept}

-- The reply to an offer is Shorter if the distance becomes smaller, also from unreached; SmallerPred if the distances
-- are equal and the predecessor becomes smaller; and Kept if the word found stays.
abbrev pub reply_to : (found offered : Word) → Reply
reply_to found Unreached = Kept
reply_to Unreached (Pair d p) = Shorter
reply_to (Pair e q) (Pair d p) = if nat_lt d e then Shorter else if (d == e) && nat_lt p q then SmallerPred else Kept
