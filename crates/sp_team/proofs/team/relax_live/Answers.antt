use Rattle.std.proofs.Common.{◌∙◌, sym, subst, arith}
use Rattle.std.specs.Prelude.{[], All}
use Rattle.std.proofs.lemmas.List.Elements.{All-same, All-nil}
use Rattle.std.proofs.lemmas.Result.{on_ok_weaker}
use Rattle.sp_word.specs.Word.{max_dist}
use Rattle.sp_offer.specs.Order.{lawful}
use Rattle.sp_offer.specs.Story.{known_table}
use Rattle.sp_team.specs.Live.{IsLive}
use Rattle.sp_team.specs.Requests.{IsRequest}
use Rattle.sp_team.proofs.Later.{later_itself, later_along}
use Rattle.sp_team.proofs.Marks.{true_will_be, will_be_true}
use Rattle.sp_team.proofs.team.relax_live.Goals as goal

pub returns-in_err-ask-clause-later : goal.returns-in_err-ask-clause-later
returns-in_err-ask-clause-later g c = later_along _ _ _ _ c.loop-entry.invariant.later c.ask.ensures.later

pub loop-entry-init : goal.loop-entry-init
loop-entry-init g c =
    let law = lawful g.row.P (g.L.Lawful.allows c.args.table.now.law) in
    let max = max_dist g.row.P in
    let IsOne = IsRequest {P = g.row.P} law c.args.table.now.vertices in
    let waiting = c.clear.new.self.items in record {
      later = later_itself law c.args.caller.now;
      requests = All-same IsOne waiting [] c.clear.ensures.items (All-nil IsOne);
      marks = true_will_be max c.args.graph.now (known_table c.args.caller.now.story) waiting c.args.batch.now.notes.marks.items c.requires.marks;
    }

pub ask-requires : goal.ask-requires
ask-requires g c =
    let law = lawful g.row.P (g.L.Lawful.allows c.args.table.now.law) in
    let so_far = c.loop-entry.invariant in
    let live = subst (All (IsLive law c.args.graph.now)) (sym c.as_slice-entry-items.ensures.value) c.requires.live in (
      omega arith,
      (
        omega arith,
        (
          c.requires.ready,
          (
            live c.loop-entry.entry-index _ c.loop-entry-test.true,
            (
              so_far.requests,
              (
                so_far.marks,
                so_far.later.table ∙ c.requires.caller,
              ),
            ),
          ),
        ),
      ),
    )

pub loop-entry-preserved : goal.loop-entry-preserved
loop-entry-preserved g c = record {
  later = later_along _ _ _ _ c.loop-entry.invariant.later c.ask.ensures.later;
  requests = c.in_ok-ask.ensures.requests;
  marks = c.in_ok-ask.ensures.marks;
}

pub returns-clause-later : goal.returns-clause-later
returns-clause-later g c = later_along _ _ _ _ c.loop-entry.invariant.later c.answer.ensures.later

pub returns-clause-marks : goal.returns-clause-marks
returns-clause-marks g c =
    let so_far = c.loop-entry.invariant in
    let notes = c.loop-entry.notes in
    on_ok_weaker c.answer.result
    (λ met. will_be_true (max_dist g.row.P) c.args.graph.now (known_table c.loop-entry.caller.story) (known_table c.answer.new.caller.story) notes.requests.items notes.marks.items c.answer.ensures.later.falls met so_far.marks)
    c.answer.ensures.met
