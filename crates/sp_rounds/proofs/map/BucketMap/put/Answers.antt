use Rattle.std.proofs.Common.{◌≡◌, ℕ, ◌++◌, ◌∷◌, [], sym, ap, subst, ◌∙◌, BTreeMap, Vec, nat_cmp}
use Rattle.std.proofs.lemmas.Result.{err_from_is_err_and}
use Rattle.std.specs.BTreeMap.{insert_entry}
use Rattle.std.specs.declared.alloc.Global.{Global}
use Rattle.sp_bins.specs.declared.entry.Entry.{Entry}
use Rattle.sp_rounds.specs.Content.{BucketsContent, Puts, bucket_of}
use Rattle.sp_rounds.specs.Filed.{IsFiled}
use Rattle.sp_rounds.proofs.BucketMap.{content_of, put_there, refused_there, put_first}
use Rattle.sp_rounds.proofs.map.BucketMap.put.Goals as goal

pub invariant_of-self : goal.invariant_of-self
invariant_of-self c =
    let m = c.self.inside in
    let k : ℕ = c.number_of-number.result in
    let after = c.get_mut.follows.lender c.push.new.self in
    let changed = (c.get_mut.follows.holds c.push.new.self).0 in
    (c.self.invariant.0, (refused_there k m.delta m.buckets.entries after.entries c.self.invariant.1 c.in-Some.bucket.now c.push.new.self (sym c.in-Some.ensures.value) c.in_err-push.ensures.items changed).0)

pub returns-in_err-push-clause-refused : goal.returns-in_err-push-clause-refused
returns-in_err-push-clause-refused c =
    let m = c.self.inside in
    let k : ℕ = c.number_of-number.result in
    let after = c.get_mut.follows.lender c.push.new.self in
    let changed = (c.get_mut.follows.holds c.push.new.self).0 in
    let same = refused_there k m.delta m.buckets.entries after.entries c.self.invariant.1 c.in-Some.bucket.now c.push.new.self (sym c.in-Some.ensures.value) c.in_err-push.ensures.items changed in
    let p = err_from_is_err_and c.from_residual.result c.from_residual.ensures.1 in
    rw (p.1, p.2) (same.1 ∙ c.self.view_is)

bucket : (c : goal.In_ok-push) → bucket_of c.self.inside.delta c.args.entry ≡ c.number_of-number.result
bucket c = sym (c.number_of-number.ensures ∙ ap (λ (s : BucketsContent). bucket_of s.delta c.args.entry) (sym c.self.view_is))

bucket_new : (c : goal.Joined-branch-4) → bucket_of c.self.inside.delta c.args.entry ≡ c.number_of-number.result
bucket_new c = sym (c.number_of-number.ensures ∙ ap (λ (s : BucketsContent). bucket_of s.delta c.args.entry) (sym c.self.view_is))

pub invariant_of-self-in-Some : goal.invariant_of-self-in-Some
invariant_of-self-in-Some c =
    let m = c.self.inside in
    let k : ℕ = c.number_of-number.result in
    let after = c.get_mut.follows.lender c.push.new.self in
    let changed = (c.get_mut.follows.holds c.push.new.self).0 in (
      c.self.invariant.0,
      (put_there k m.delta m.buckets.entries after.entries c.self.invariant.1 c.in-Some.bucket.now c.push.new.self c.args.entry (sym c.in-Some.ensures.value) c.in_ok-push.ensures.items (bucket c) changed).0,
    )

pub returns-in-Some-clause-put : goal.returns-in-Some-clause-put
returns-in-Some-clause-put c =
    let m = c.self.inside in
    let k : ℕ = c.number_of-number.result in
    let after = c.get_mut.follows.lender c.push.new.self in
    let changed = (c.get_mut.follows.holds c.push.new.self).0 in
    let put = put_there k m.delta m.buckets.entries after.entries c.self.invariant.1 c.in-Some.bucket.now c.push.new.self c.args.entry (sym c.in-Some.ensures.value) c.in_ok-push.ensures.items (bucket c) changed in
    subst (λ old. Puts c.args.entry old (content_of m.delta after.entries)) c.self.view_is put.1

put_new : (c : goal.Joined-branch-4) → IsFiled c.self.inside.delta c.insert.new.self.entries × Puts c.args.entry (content_of c.self.inside.delta c.self.inside.buckets.entries) (content_of c.self.inside.delta c.insert.new.self.entries)
put_new c =
    let m = c.self.inside in
    let k : ℕ = c.number_of-number.result in
    let w = c.push-2.new.self in
    let one = c.in_ok-push-2.ensures.items ∙ ap (λ xs. xs ++ c.args.entry ∷ []) c.new-bucket.ensures.items in
    let changed = c.in_ok-insert.ensures.entries ∙ ap (λ (b : BTreeMap ℕ (Vec Entry Global)). insert_entry nat_cmp b.entries k w) c.get_mut.follows.holds-at-none in
    put_first k m.delta m.buckets.entries c.insert.new.self.entries c.self.invariant.1 w c.args.entry (sym c.in_default.ensures.value) one (bucket_new c) changed

pub invariant_of-self-2 : goal.invariant_of-self-2
invariant_of-self-2 c = (c.self.invariant.0, (put_new c).0)

pub returns-clause-put : goal.returns-clause-put
returns-clause-put c = subst (λ old. Puts c.args.entry old (content_of c.self.inside.delta c.insert.new.self.entries)) c.self.view_is (put_new c).1
