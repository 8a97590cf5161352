use Rattle.std.proofs.Common.{◌≡◌, ◌+◌, ◌≤◌, ◌∙◌, true, List, [], Vec, sym, subst, arith, true≢false}
use Rattle.std.specs.Prelude.{All, IsTrue, take}
use Rattle.std.specs.declared.alloc.Global.{Global}
use Rattle.std.proofs.lemmas.List.Elements.{All-same, All-nil}
use Rattle.sp_word.specs.Word.{max_dist}
use Rattle.sp_offer.specs.Order.{lawful}
use Rattle.sp_offer.specs.Story.{Knowledge, known_table}
use Rattle.sp_team.specs.declared.relax.Request.{Request}
use Rattle.sp_team.specs.Later.{IsLater}
use Rattle.sp_team.specs.Requests.{IsRequest, request}
use Rattle.sp_team.specs.Marked.{WillBeMet, RowWillBeMet}
use Rattle.sp_team.proofs.Later.{later_along}
use Rattle.sp_team.proofs.Marks.{fallen_itself, answered, all_along, row_along, waited_before, one_arc_more, all_reached}
use Rattle.sp_team.proofs.Rows.{asked}
use Rattle.sp_team.proofs.relax.ask_each.Goals as goal
use Rattle.sp_team.proofs.relax.ask_each.Goals.{then-whole, else-whole, then-len-ge-MOST+in_ok-answer, else-len-ge-MOST}

pub ask_arc-requires : goal.ask_arc-requires
ask_arc-requires g c = (
  omega arith,
  (
    c.requires.layout,
    (
      c.requires.dist,
      λ fits. (c.requires.allowed c.loop-arc.arc-index _ c.loop-arc-test.true fits).1.1,
    ),
  ),
)

pub answer-requires : goal.answer-requires
answer-requires g c =
    let law = lawful g.row.P (g.L.Lawful.allows c.args.table.now.law) in
    let i = c.loop-arc.arc-index in (
      omega arith,
      (
        omega arith,
        (
          c.requires.layout,
          (
            asked g.row.P law (max_dist g.row.P) c.args.table.now.vertices _ c.args.dist c.in_ok-fits.fits _ _ (c.requires.arcs i _ c.loop-arc-test.true)
                (c.requires.allowed i _ c.loop-arc-test.true) c.loop-arc.invariant.requests c.in_ok-fits.ensures,
            c.loop-arc.invariant.later.table ∙ c.requires.caller,
          ),
        ),
      ),
    )

pub returns-in_err-answer-clause-later : goal.returns-in_err-answer-clause-later
returns-in_err-answer-clause-later g c = later_along _ _ _ _ c.loop-arc.invariant.later c.answer.ensures.later

pub loop-arc-preserved : goal.loop-arc-preserved
loop-arc-preserved g c =
    let law = lawful g.row.P (g.L.Lawful.allows c.args.table.now.law) in
    let max = max_dist g.row.P in
    let dist = c.args.dist in
    let i = c.loop-arc.arc-index in
    let low = c.loop-arc-test.true in
    let so_far = c.loop-arc.invariant in
    let known = known_table c.loop-arc.caller.story in
    let fits = c.in_ok-fits.fits in
    let first = c.args.requests.now.items in
    let rs = c.loop-arc.requests.items in
    let ss = c.ask_arc.new.requests.items in
    let more = take (i + 1) c.args.row.now in
    let IsLeft : Knowledge → List (Request g.row.P) → Type 0 = λ k waiting. record {
      later : IsLater law c.args.caller.now k;
      requests : All (IsRequest law c.args.table.now.vertices) waiting;
      before : All (WillBeMet (known_table k.story) waiting) first;
      row : IsTrue c.if-whole.whole → RowWillBeMet max (known_table k.story) waiting dist more;
    } in
    let both : c.if-whole.whole ≡ true → (c.loop-arc.whole ≡ true) × (fits ≡ true) = elim c.if-whole.branch [
      | then-whole w ↦ λ h. (w.if-whole.true, sym w.whole-is ∙ h)
      | else-whole w ↦ λ h. absurd (true≢false ((sym h ∙ w.whole-is) ∙ w.if-whole.false))
    ] in
    let here : IsLeft c.loop-arc.caller ss = record {
      later = so_far.later;
      requests = asked g.row.P law max c.args.table.now.vertices _ dist fits rs ss (c.requires.arcs i _ low) (c.requires.allowed i _ low) so_far.requests c.in_ok-fits.ensures;
      before = all_along known known rs ss first (fallen_itself known) (waited_before max known _ dist fits rs ss c.in_ok-fits.ensures) so_far.before;
      row = λ h. one_arc_more max known dist c.args.row.now i _ fits c.loop-arc.whole rs ss low c.in_ok-fits.ensures so_far.row (both h);
    } in
    elim c.if-len-ge-MOST.branch [
      | then-len-ge-MOST+in_ok-answer w ↦ let told = w.answer.ensures in let after = known_table w.answer.new.caller.story in let none = w.answer.new.requests.items in
          let fell = told.later.falls in
          let stand = answered after ss none w.in_ok-answer.ensures.met in
          let there : IsLeft w.answer.new.caller none = record {
            later = later_along law _ _ _ so_far.later told.later;
            requests = All-same (IsRequest law c.args.table.now.vertices) none [] w.in_ok-answer.ensures.none (All-nil (IsRequest law c.args.table.now.vertices));
            before = all_along known after ss none first fell stand here.before;
            row = λ h. row_along max known after ss none dist more fell stand (here.row h);
          } in
          subst (λ k. IsLeft k c.if-len-ge-MOST.requests.items) (sym w.caller-is) (subst (λ (v : Vec (Request g.row.P) Global). IsLeft w.answer.new.caller v.items) (sym w.requests-is) there)
      | else-len-ge-MOST w ↦ subst (λ k. IsLeft k c.if-len-ge-MOST.requests.items) (sym w.caller-is)
          (subst (λ (v : Vec (Request g.row.P) Global). IsLeft c.loop-arc.caller v.items) (sym w.requests-is) here)
    ]

pub returns-clause-row : goal.returns-clause-row
returns-clause-row g c =
    let max = max_dist g.row.P in let waiting = c.loop-arc.requests.items in
    λ h. all_reached (λ a. (c.args.dist + a.len ≤ max) × WillBeMet (known_table c.loop-arc.caller.story) waiting (request g.row.P c.args.dist a)) c.args.row.now c.loop-arc.arc-index c.loop-arc-test.false (c.loop-arc.invariant.row h)
