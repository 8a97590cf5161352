use Rattle.std.proofs.Common.{◌∙◌, sym, subst, arith}
use Rattle.std.specs.Prelude.{All}
use Rattle.sp_word.specs.Word.{max_dist}
use Rattle.sp_offer.specs.Order.{lawful}
use Rattle.sp_offer.specs.Story.{known_table}
use Rattle.sp_team.specs.Live.{LeadsOn}
use Rattle.sp_team.proofs.Later.{later_along}
use Rattle.sp_team.proofs.Marks.{marks_still}
use Rattle.sp_team.proofs.team.run_some.Goals as goal

pub returns-in_err-relaxed-clause-later : goal.returns-in_err-relaxed-clause-later
returns-in_err-relaxed-clause-later g c = later_along _ _ _ _ c.warm_vertices-leading.ensures c.take_live.ensures.later

pub returns-then-leading-eq0-clause-later : goal.returns-then-leading-eq0-clause-later
returns-then-leading-eq0-clause-later g c = later_along _ _ _ _ c.warm_vertices-leading.ensures c.take_live.ensures.later

pub end_bits-requires : goal.end_bits-requires
end_bits-requires g c = subst (All (LeadsOn c.args.graph.now)) (sym c.deref.ensures.value) (λ k e low. (c.in_ok-relaxed.ensures.live k e low).0)

pub relax_live-requires : goal.relax_live-requires
relax_live-requires g c =
    let later = later_along (lawful g.row.P (g.L.Lawful.allows c.args.table.now.law)) _ _ _ c.warm_vertices-leading.ensures c.take_live.ensures.later in (
      omega arith,
      (
        omega arith,
        (
          c.requires.ready,
          (
            c.in_ok-relaxed.ensures.live,
            (
              later.table ∙ c.requires.caller,
              marks_still (max_dist g.row.P) c.args.graph.now (known_table c.args.caller.now.story) (known_table c.take_live.new.caller.story) c.args.batch.now.notes.marks.items later.falls c.requires.marks,
            ),
          ),
        ),
      ),
    )

pub returns-clause-later : goal.returns-clause-later
returns-clause-later g c = later_along _ _ _ _ c.warm_vertices-leading.ensures (later_along _ _ _ _ c.take_live.ensures.later c.relax_live.ensures.later)
