use Rattle.std.proofs.Common.{Vec, refl, sym, subst, arith}
use Rattle.std.specs.Prelude.{All}
use Rattle.std.specs.declared.alloc.Global.{Global}
use Rattle.sp_word.specs.Word.{max_dist}
use Rattle.sp_paths.specs.Paths.{IsArc}
use Rattle.sp_paths.specs.Rows.{row_of}
use Rattle.sp_offer.specs.Order.{lawful}
use Rattle.sp_offer.specs.Story.{known_table}
use Rattle.sp_team.specs.declared.relax.Request.{Request}
use Rattle.sp_team.specs.Marked.{WillBeTrue}
use Rattle.sp_team.proofs.Marks.{marks_along, noted, mark_of_row}
use Rattle.sp_team.proofs.Rows.{row_allowed, row_arcs}
use Rattle.sp_team.proofs.relax.ask.Goals as goal

pub ask_row-requires : goal.ask_row-requires
ask_row-requires g c =
    let ready = c.requires.ready in
    let held = c.requires.live.1 in
    let graph = c.args.graph.now in
    let vertex = c.args.entry.vertex in
    let row = row_of graph.arcs vertex in
    let law = lawful g.row.P (g.L.Lawful.allows c.args.table.now.law) in (
      omega arith,
      (
        omega arith,
        (
          ready.layout,
          (
            c.requires.live.0.0,
            (
              held.1.1.0,
              (
                subst (λ n. All (IsArc n) row) (sym ready.words) (row_arcs graph vertex c.n.ensures.graph),
                (
                  row_allowed law (max_dist g.row.P) graph vertex c.args.entry.dist held.0 row ready.arcs held.1 refl,
                  (
                    c.requires.requests,
                    c.requires.caller,
                  ),
                ),
              ),
            ),
          ),
        ),
      ),
    )

pub returns-then-branch-clause-marks : goal.returns-then-branch-clause-marks
returns-then-branch-clause-marks g c =
    let max = max_dist g.row.P in
    let graph = c.args.graph.now in
    let vertex = c.args.entry.vertex in
    let dist = c.args.entry.dist in
    let after = known_table c.ask_row.new.caller.story in
    let rs = c.args.notes.now.requests.items in
    let ss = c.ask_row.new.requests.items in
    let before = c.args.notes.now.marks.items in
    let told = c.in_ok-ask_row.ensures in
    let held = marks_along max graph (known_table c.args.caller.now.story) after rs ss before c.ask_row.ensures.later.falls told.before c.requires.marks in
    let here = mark_of_row max graph after ss vertex dist (row_of graph.arcs vertex) refl (told.row c.if-branch.true) in
    let marks = c.note.new.self.marks.items in
    subst (λ (v : Vec (Request g.row.P) Global). All (WillBeTrue max graph after v.items) marks) (sym c.note.ensures.requests)
    (noted (WillBeTrue max graph after ss) vertex dist before marks c.note.ensures.marks held here)

pub returns-else-branch-clause-marks : goal.returns-else-branch-clause-marks
returns-else-branch-clause-marks g c =
    marks_along (max_dist g.row.P) c.args.graph.now (known_table c.args.caller.now.story) (known_table c.ask_row.new.caller.story) c.args.notes.now.requests.items c.ask_row.new.requests.items
    c.args.notes.now.marks.items c.ask_row.ensures.later.falls c.in_ok-ask_row.ensures.before c.requires.marks
