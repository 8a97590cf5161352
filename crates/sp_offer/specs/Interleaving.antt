-- The atomic steps of all callers, in one order. In each list of steps the latest comes first.
use Rattle.std.specs.Prelude.{◌≡◌, ℕ, ◌<◌, ◌≤◌, ◌==◌, if◌then◌else◌, List, [], ◌∷◌, ◌++◌}
use Rattle.sp_word.specs.Word.{Word}
use Rattle.sp_word.specs.History.{Event, Offer, Read, run}
use Rattle.sp_word.specs.Reply.{reply_to}
use Rattle.sp_word.specs.Offering.{OfferStage, Before, Holding, Over, Overrun, offer_step}
use Rattle.sp_offer.specs.Histories.{blank, event}

-- A step is one of an offer of a word by a load and exchanges, or it is a whole read, or a whole offer of a word.
pub data AskedStep : Type 0 where
  OfOffer : (word : Word) → AskedStep
  OfRead : AskedStep
  OfMin : (word : Word) → AskedStep

-- A step of a caller found this word of the vertex.
pub record TakenStep : Type 0 where
  pub by : ℕ
  pub vertex : ℕ
  pub asked : AskedStep
  pub found : Word

-- Between two of its steps a caller rests, or it is at an offer of a word to a vertex, and holds a word to exchange.
pub data Doing : Type 0 where
  Rests : Doing
  Offering : (vertex : ℕ) (word held : Word) → Doing

-- This is the stage of the caller's offer; at rest it is before one.
abbrev pub stage_at : Doing → OfferStage
stage_at Rests = Before
stage_at (Offering v w h) = Holding h

-- This is what a caller does when its offer is at this stage; it rests before an offer and after it.
abbrev pub doing_at : (vertex : ℕ) (word : Word) → OfferStage → Doing
doing_at v w Before = Rests
doing_at v w (Holding h) = Offering v w h
doing_at v w (Over x reply) = Rests
doing_at v w Overrun = Rests

-- This is what its caller does after a step, by what it did before.
abbrev pub doing_after : TakenStep → AskedStep → Doing → Doing
doing_after s (OfOffer w) d = doing_at s.vertex w (offer_step w (stage_at d) s.found)
doing_after s OfRead d = Rests
doing_after s (OfMin w) d = Rests

-- This is what a caller does after these steps.
abbrev pub doing : List TakenStep → (caller : ℕ) → Doing
doing [] k = Rests
doing (s ∷ before) k = if k == s.by then doing_after s s.asked (doing before k) else doing before k

-- An offer that is over is a call of the history.
abbrev pub call_over : TakenStep → Word → OfferStage → List Event
call_over s w Before = []
call_over s w (Holding h) = []
call_over s w (Over x reply) = event s.by s.vertex (Offer w x reply) ∷ []
call_over s w Overrun = []

-- This is the call that ends at a step, if one does.
abbrev pub ended : TakenStep → AskedStep → Doing → List Event
ended s (OfOffer w) d = call_over s w (offer_step w (stage_at d) s.found)
ended s OfRead d = event s.by s.vertex (Read s.found) ∷ []
ended s (OfMin w) d = event s.by s.vertex (Offer w s.found (reply_to s.found w)) ∷ []

-- These are the calls that end at the steps, each at its last one.
abbrev pub calls_of : List TakenStep → List Event
calls_of [] = []
calls_of (s ∷ before) = calls_of before ++ ended s s.asked (doing before s.by)

-- The caller rests, or is at this offer.
abbrev pub IsAt : (vertex : ℕ) (word : Word) → Doing → Type 0
IsAt v w Rests = Unit {0}
IsAt v w (Offering u x h) = (u ≡ v) × (x ≡ w)

-- The step may follow: a caller begins a call when it rests, and continues its offer until that is over.
abbrev pub MayFollow : TakenStep → AskedStep → Doing → Type 0
MayFollow s (OfOffer w) d = IsAt s.vertex w d
MayFollow s OfRead d = d ≡ Rests
MayFollow s (OfMin w) d = d ≡ Rests

-- The steps are whole calls of their callers, and begun ones, in some interleaving: each finds the word to which all
-- calls that ended before it have led.
abbrev pub IsInterleaving : List TakenStep → Type 0
IsInterleaving [] = Unit {0}
IsInterleaving (s ∷ before) = (run blank (calls_of before) s.vertex ≡ s.found) × MayFollow s s.asked (doing before s.by) × IsInterleaving before

-- The steps are those of this number of callers, numbered from 0, on this number of vertices.
abbrev pub AreWithin : (vertices callers : ℕ) → List TakenStep → Type 0
AreWithin n callers [] = Unit {0}
AreWithin n callers (s ∷ before) = (0 < s.vertex) × (s.vertex ≤ n) × (s.by < callers) × AreWithin n callers before
