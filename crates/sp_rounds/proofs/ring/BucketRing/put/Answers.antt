use Rattle.std.proofs.Common.{◌≡◌, length, sym, ap, subst, ◌∙◌, arith}
use Rattle.std.proofs.lemmas.Result.{err_from_is_err_and}
use Rattle.std.specs.Prelude.{slice_set}
use Rattle.sp_rounds.specs.Content.{Puts, bucket_of}
use Rattle.sp_rounds.specs.Window.{Window, IsRing, window_of, content_of}
use Rattle.sp_rounds.proofs.RingSteps.{put_in, refused_in, slot_of}
use Rattle.sp_rounds.proofs.ring.BucketRing.put.Goals as goal

-- the slots as they are when the bucket had no room
refused : (c : goal.After-from_residual) → IsRing c.self.inside.delta c.self.inside.first c.self.inside.head (slice_set c.self.inside.slots.items c.slot-at.result c.push.new.self)
    × (window_of c.self.inside.delta c.self.inside.first (slice_set c.self.inside.slots.items c.slot-at.result c.push.new.self) ≡ window_of c.self.inside.delta c.self.inside.first c.self.inside.slots.items)
refused c =
    let r = c.self.inside in
    let len : length r.slots.items ≡ c.args.self.now.len = ap (λ (w : Window). w.len) c.self.view_is in
    refused_in r.delta r.first r.head r.slots.items c.self.invariant c.slot-at.result c.index_mut.result.now c.push.new.self (omega (arith, len, c.slot-at.ensures.below)) c.index_mut.ensures.value c.in_err-push.ensures.items

pub invariant_of-self : goal.invariant_of-self
invariant_of-self c = (refused c).0

pub returns-in_err-push-clause-refused : goal.returns-in_err-push-clause-refused
returns-in_err-push-clause-refused c =
    let p = err_from_is_err_and c.from_residual.result c.from_residual.ensures.1 in
    rw (p.1, p.2) ((refused c).1 ∙ c.self.view_is)

put : (c : goal.In_ok-push) → IsRing c.self.inside.delta c.self.inside.first c.self.inside.head (slice_set c.self.inside.slots.items c.slot-at.result c.push.new.self)
    × Puts c.args.entry (content_of (window_of c.self.inside.delta c.self.inside.first c.self.inside.slots.items)) (content_of (window_of c.self.inside.delta c.self.inside.first (slice_set c.self.inside.slots.items c.slot-at.result c.push.new.self)))
put c =
    let r = c.self.inside in
    let place = slot_of r.delta r.first r.head r.slots.items c.self.invariant c.args.self.now c.self.view_is c.args.number c.slot-at.result c.requires.covered c.slot-at.ensures.below c.slot-at.ensures.place in
    let bucket : bucket_of r.delta c.args.entry ≡ c.args.number = sym (c.requires.number ∙ ap (λ (w : Window). bucket_of w.delta c.args.entry) (sym c.self.view_is)) in
    put_in r.delta r.first r.head r.slots.items c.self.invariant c.args.number c.slot-at.result c.index_mut.result.now c.push.new.self c.args.entry place.0 place.1 place.2 bucket c.index_mut.ensures.value c.in_ok-push.ensures.items

pub invariant_of-self-2 : goal.invariant_of-self-2
invariant_of-self-2 c = (put c).0

pub returns-clause-put : goal.returns-clause-put
returns-clause-put c = subst (λ (w : Window). Puts c.args.entry (content_of w) (content_of (window_of c.self.inside.delta c.self.inside.first (slice_set c.self.inside.slots.items c.slot-at.result c.push.new.self)))) c.self.view_is (put c).1
