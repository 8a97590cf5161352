use Rattle.std.proofs.Common.{◌≤◌, ◌<◌, true, false, refl, sym, ◌∙◌, inl, inr}
use Rattle.std.proofs.lemmas.Bool.{le-leb, lt-leb}
use Rattle.std.proofs.lemmas.List.{length-set}
use Rattle.sp_text.specs.Text.{top, count}
use Rattle.sp_text.proofs.KeptLine.{is_fresh_place, count_fault, numbers_are, on_ok_at, counted}
use Rattle.sp_text.proofs.collecting.Collector.take_item.Goals as goal

pub named_letter-requires : goal.named_letter-requires
named_letter-requires g c = λ fresh.
    let item = c.requires.item in
    is_fresh_place g.K.Keep.format c.args.place item.0.form item.1 (rw item.2 fresh)

pub returns-then-greatest-count : goal.returns-then-greatest-count
returns-then-greatest-count g c = λ problem items item h kind place is are.
    let some = sym h.problem_is ∙ c.in-Some.is in
    let form = c.args.form.now in
    let named = c.named_letter.ensures items h.kept_are in
    let le : top g.K.Keep.ranges c.in-Some.problem form.limit ≤ count form.group items = rw (← c.ranges-2.ensures, ← c.greatest.ensures, ← h.counts_are form.group c.requires.small.group) c.if-greatest-count.true in
    inl (count_fault g.K.Keep.ranges problem c.in-Some.problem items item form c.args.place c.args.numbers c.first.result c.named_letter.result c.in-Within.values true some is kind are c.first.ensures named c.in_default-named_letter.is c.in-Within.is (le-leb _ _ le))

pub returns-then-is_err : goal.returns-then-is_err
returns-then-is_err g c = λ problem items item h kind place is are.
    let some = sym h.problem_is ∙ c.in-Some.is in
    let form = c.args.form.now in
    let named = c.named_letter.ensures items h.kept_are in
    let lt : count form.group items < top g.K.Keep.ranges c.in-Some.problem form.limit = rw (← c.ranges-2.ensures, ← c.greatest.ensures, ← h.counts_are form.group c.requires.small.group) c.if-greatest-count.false in
    inr (count_fault g.K.Keep.ranges problem c.in-Some.problem items item form c.args.place c.args.numbers c.first.result c.named_letter.result c.in-Within.values false some is kind are c.first.ensures named c.in_default-named_letter.is c.in-Within.is (lt-leb _ _ lt), refl, refl)

pub returns : goal.returns
returns g c = λ problem items item h kind place is are.
    let some = sym h.problem_is ∙ c.in-Some.is in
    let form = c.args.form.now in
    let named = c.named_letter.ensures items h.kept_are in
    let lt : count form.group items < top g.K.Keep.ranges c.in-Some.problem form.limit = rw (← c.ranges-2.ensures, ← c.greatest.ensures, ← h.counts_are form.group c.requires.small.group) c.if-greatest-count.false in
    let kept = c.keep.ensures items item h.kept_are kind (numbers_are g.K.Keep.ranges problem c.in-Some.problem item c.args.numbers c.in-Within.values some are c.in-Within.is) in (
      count_fault g.K.Keep.ranges problem c.in-Some.problem items item form c.args.place c.args.numbers c.first.result c.named_letter.result c.in-Within.values false some is kind are c.first.ensures named c.in_default-named_letter.is c.in-Within.is (lt-leb _ _ lt),
      record {
        problem_is = h.problem_is;
        counts_are = counted c.args.self.now.counts items item form is h.length_is h.counts_are;
        length_is = length-set _ _ _ ∙ h.length_is;
        kept_are = on_ok_at c.keep.result (sym c.is_err.ensures.value ∙ c.if-is_err.false) kept;
      },
    )
