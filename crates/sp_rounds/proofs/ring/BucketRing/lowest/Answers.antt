use Rattle.std.proofs.Common.{◌≡◌, ◌≢◌, [], ℕ, ◌+◌, ◌≤◌, ◌<◌, length, All, refl, sym, ap, subst, ◌∙◌, true≢false, arith}
use Rattle.sp_bins.specs.declared.entry.Entry.{Entry}
use Rattle.sp_rounds.specs.Content.{IsLowest, bucket_of}
use Rattle.sp_rounds.specs.Window.{Window, window_of, content_of}
use Rattle.sp_rounds.proofs.RingSteps.{first_found, next_up, all_passed, offset_slot}
use Rattle.sp_rounds.proofs.EntryPlaces.{Any-nonempty, first_is, empty_is}
use Rattle.sp_rounds.proofs.ring.BucketRing.lowest.Goals as goal

-- no entry is below the bucket that the loop has come to
abbrev Low : ℕ → Window → Type 0
Low k w = All (λ (entry : Entry). w.first + k ≤ bucket_of w.delta entry) w.entries

found : (c : goal.In-Some) → IsLowest (content_of c.args.self.now) (bucket_of c.self.inside.delta c.in-Some.entry.now)
found c =
    let r = c.self.inside in
    let k = c.loop-offset.offset in
    let place = offset_slot r.delta r.first r.head r.slots.items c.self.invariant c.args.self.now c.self.view_is k c.slot.result c.slot.ensures.below c.slot.ensures.place in
    let low = subst (Low k) (sym c.self.view_is) c.loop-offset.invariant in
    let head = first_is (λ (_ : Entry). Unit {0}) c.deref.result.now c.in-Some.entry.now c.in-Some.ensures.value in
    let len : length r.slots.items ≡ c.args.self.now.len = ap (λ (w : Window). w.len) c.self.view_is in
    let near : k < length r.slots.items = omega arith in
    subst (λ w. IsLowest (content_of w) (bucket_of r.delta c.in-Some.entry.now)) c.self.view_is
    (first_found r.delta r.first r.head r.slots.items c.self.invariant k c.slot.result c.index.result.now c.in-Some.entry.now head.0 near place.0 place.1 c.index.ensures (sym c.deref.ensures.value ∙ head.1) low)

pub returns-in-Some-clause-none : goal.returns-in-Some-clause-none
returns-in-Some-clause-none c =
    let some : c.args.self.now.entries ≢ [] = Any-nonempty _ _ (found c).here in
    ((λ e. absurd (true≢false e)), (λ e. absurd (some e)))

pub returns-in-Some-clause-lowest : goal.returns-in-Some-clause-lowest
returns-in-Some-clause-lowest c = found c

pub loop-offset-preserved : goal.loop-offset-preserved
loop-offset-preserved c =
    let r = c.self.inside in
    let k = c.loop-offset.offset in
    let place = offset_slot r.delta r.first r.head r.slots.items c.self.invariant c.args.self.now c.self.view_is k c.slot.result c.slot.ensures.below c.slot.ensures.place in
    let low = subst (Low k) (sym c.self.view_is) c.loop-offset.invariant in
    let none : c.index.result.now.items ≡ [] = sym c.deref.ensures.value ∙ empty_is (λ (_ : Entry). Unit {0}) c.deref.result.now c.in_default.ensures.item.3 in
    subst (Low (k + 1)) c.self.view_is (next_up r.delta r.first r.head r.slots.items c.self.invariant k c.slot.result c.index.result.now place.0 place.1 c.index.ensures none low)

pub returns-clause-none : goal.returns-clause-none
returns-clause-none c =
    let r = c.self.inside in
    let k = c.loop-offset.offset in
    let low = subst (Low k) (sym c.self.view_is) c.loop-offset.invariant in
    let end : k ≡ length r.slots.items = omega arith in
    let past = subst (λ (n : ℕ). Low n (window_of r.delta r.first r.slots.items)) end low in
    ((λ _. sym (ap (λ (w : Window). w.entries) c.self.view_is) ∙ all_passed r.delta r.first r.head r.slots.items c.self.invariant past), (λ _. refl))
