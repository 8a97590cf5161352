-- What a keeper of offers has of the lines so far.
use Rattle.std.specs.Prelude.{ℕ, ◌≤◌, List, [], map}
use Rattle.sp_text.specs.Text.{ItemLine as Line}
use Rattle.sp_machine.specs.Programme.{Programme}
use Rattle.sp_replay.specs.declared.offers.OfferKeeper.{OfferKeeper}
use Rattle.sp_replay.specs.declared.offers.OfferParts.{OfferParts}
use Rattle.sp_replay.specs.Offers.{HasOffers, IsOffers}

-- The keeper has kept the offers of these lines.
abbrev pub KeepsOffers : {P : ℕ} → OfferKeeper P → List Line → Type 0
KeepsOffers k lines = (actor : ℕ) → 1 ≤ actor → HasOffers k.rows actor lines

-- These are the parts as a programme.
abbrev pub plan_of : {P : ℕ} → OfferParts P → Programme P
plan_of parts = record { words = parts.words; actors = parts.actors; named = []; rows = map (λ row. row.items) parts.rows.items }

-- The problem line and the offers give these parts.
abbrev pub SaysOffers : {P : ℕ} → List ℕ → List Line → OfferParts P → Type 0
SaysOffers problem lines parts = IsOffers problem lines (plan_of parts)
