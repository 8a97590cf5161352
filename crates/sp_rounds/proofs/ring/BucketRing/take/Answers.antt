use Rattle.std.proofs.Common.{rules, ap, subst, ◌∙◌}
use Rattle.std.specs.Prelude.{slice_set}
use Rattle.sp_rounds.specs.Content.{Takes}
use Rattle.sp_rounds.specs.Window.{Window, IsRing, window_of, content_of}
use Rattle.sp_rounds.proofs.RingSteps.{take_from, slot_of}
use Rattle.sp_rounds.proofs.ring.BucketRing.take.Goals as goal

taken : (c : goal.After-self-1) → IsRing c.self.inside.delta c.self.inside.first c.self.inside.head (slice_set c.self.inside.slots.items c.slot-at.result c.replace.new.dest)
    × Takes c.args.number c.replace.result.items (content_of (window_of c.self.inside.delta c.self.inside.first c.self.inside.slots.items)) (content_of (window_of c.self.inside.delta c.self.inside.first (slice_set c.self.inside.slots.items c.slot-at.result c.replace.new.dest)))
taken c =
    let r = c.self.inside in
    let covered = c.covers.ensures.covered (search rules) in
    let place = slot_of r.delta r.first r.head r.slots.items c.self.invariant c.args.self.now c.self.view_is c.args.number c.slot-at.result covered c.slot-at.ensures.below c.slot-at.ensures.place in
    rw c.replace.ensures.value (take_from r.delta r.first r.head r.slots.items c.self.invariant c.args.number c.slot-at.result c.index_mut.result.now c.replace.new.dest place.0 place.1 place.2 c.index_mut.ensures.value (ap (λ u. u.items) c.replace.ensures.after ∙ c.new-2.ensures.items))

pub invariant_of-self : goal.invariant_of-self
invariant_of-self c = (taken c).0

pub returns : goal.returns
returns c = subst (λ (w : Window). Takes c.args.number c.replace.result.items (content_of w) (content_of (window_of c.self.inside.delta c.self.inside.first (slice_set c.self.inside.slots.items c.slot-at.result c.replace.new.dest)))) c.self.view_is (taken c).1
