use Rattle.std.proofs.Common.{[], sym, subst, ◌∙◌}
use Rattle.sp_rounds.specs.Content.{BucketsContent, Takes}
use Rattle.sp_rounds.specs.Window.{content_of}
use Rattle.sp_rounds.specs.Beside.{both, AreApart}
use Rattle.sp_rounds.proofs.BesideSteps.{empty_is_none, full_is_some, take_from_ring, take_from_map}
use Rattle.sp_rounds.proofs.beside.RingBesideMap.take.Goals as goal

from_map : (c : goal.After-drop-taken) → AreApart (content_of c.take-taken.new.self) c.take.new.self
    × Takes c.args.number c.take.result.items (both (content_of c.self.inside.ring) c.self.inside.map) (both (content_of c.take-taken.new.self) c.take.new.self)
from_map c =
    let none = empty_is_none c.take-taken.result (sym c.is_empty.ensures ∙ c.if-is_empty.true) in
    let emptied = subst (λ es. Takes c.args.number es (content_of c.move_to.new.self) (content_of c.take-taken.new.self)) none c.take-taken.ensures in
    let from_old = subst (λ (s : BucketsContent). Takes c.args.number [] s (content_of c.take-taken.new.self)) c.move_to.ensures emptied in
    take_from_map (content_of c.self.inside.ring) c.self.inside.map c.self.invariant c.args.number c.take.result.items (content_of c.take-taken.new.self) c.take.new.self from_old c.take.ensures

pub invariant_of-self : goal.invariant_of-self
invariant_of-self c = (from_map c).0

pub returns-then-is_empty : goal.returns-then-is_empty
returns-then-is_empty c =
    subst (λ (s : BucketsContent). Takes c.args.number c.take.result.items s (both (content_of c.take-taken.new.self) c.take.new.self)) c.self.view_is (from_map c).1

from_ring : (c : goal.Else-is_empty) → AreApart (content_of c.take-taken.new.self) c.self.inside.map
    × Takes c.args.number c.take-taken.result.items (both (content_of c.self.inside.ring) c.self.inside.map) (both (content_of c.take-taken.new.self) c.self.inside.map)
from_ring c =
    let took = subst (λ (s : BucketsContent). Takes c.args.number c.take-taken.result.items s (content_of c.take-taken.new.self)) c.move_to.ensures c.take-taken.ensures in
    take_from_ring (content_of c.self.inside.ring) c.self.inside.map c.self.invariant c.args.number c.take-taken.result.items (content_of c.take-taken.new.self)
    (full_is_some c.take-taken.result (sym c.is_empty.ensures ∙ c.if-is_empty.false)) took

pub invariant_of-self-else-is_empty : goal.invariant_of-self-else-is_empty
invariant_of-self-else-is_empty c = (from_ring c).0

pub returns : goal.returns
returns c = subst (λ (s : BucketsContent). Takes c.args.number c.take-taken.result.items s (both (content_of c.take-taken.new.self) c.self.inside.map)) c.self.view_is (from_ring c).1
