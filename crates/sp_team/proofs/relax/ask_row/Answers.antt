use Rattle.std.proofs.Common.{Vec, subst, arith}
use Rattle.std.specs.Prelude.{All, OnOk}
use Rattle.std.specs.declared.alloc.Global.{Global}
use Rattle.sp_word.specs.Word.{max_dist}
use Rattle.sp_paths.specs.Rows.{row_of}
use Rattle.sp_offer.specs.Order.{lawful}
use Rattle.sp_offer.specs.Story.{known_table}
use Rattle.sp_team.specs.declared.relax.Request.{Request}
use Rattle.sp_team.specs.Marked.{WillBeMet}
use Rattle.sp_team.proofs.Marks.{answered, all_along, row_along, waits_before, row_waits}
use Rattle.sp_team.proofs.Rows.{row_asked, rows_tails}
use Rattle.sp_team.proofs.relax.ask_row.Goals as goal

pub ask_few-is_asked-requires : goal.ask_few-is_asked-requires
ask_few-is_asked-requires g c = (
  omega arith,
  (
    c.requires.layout,
    (
      c.requires.vertex,
      (
        c.requires.dist,
        rows_tails g.row.P (max_dist g.row.P) c.args.entry.dist (g.L.Lawful.allows c.args.table.now.law) (row_of c.args.graph.now.arcs c.args.entry.vertex) c.requires.allowed,
      ),
    ),
  ),
)

pub answer-requires : goal.answer-requires
answer-requires g c = (
  omega arith,
  (
    omega arith,
    (
      c.requires.layout,
      (
        row_asked g.row.P (lawful g.row.P (g.L.Lawful.allows c.args.table.now.law)) (max_dist g.row.P) c.args.table.now.vertices (row_of c.args.graph.now.arcs c.args.entry.vertex) c.args.entry.dist c.args.requests.now.items
            c.ask_few-is_asked.new.requests.items c.requires.arcs c.requires.allowed c.requires.requests (c.ask_few-is_asked.ensures.asked c.if-is_asked.true),
        c.requires.caller,
      ),
    ),
  ),
)

pub returns-in_ok-answer-clause-before : goal.returns-in_ok-answer-clause-before
returns-in_ok-answer-clause-before g c =
    let known = known_table c.args.caller.now.story in
    let after = known_table c.answer.new.caller.story in
    let rs = c.args.requests.now.items in
    let ss = c.ask_few-is_asked.new.requests.items in
    let none = c.answer.new.requests.items in
    all_along known after ss none rs c.answer.ensures.later.falls (answered after ss none c.in_ok-answer.ensures.met)
    (waits_before known rs _ ss (c.ask_few-is_asked.ensures.asked c.if-is_asked.true).1)

pub returns-in_ok-answer-clause-row : goal.returns-in_ok-answer-clause-row
returns-in_ok-answer-clause-row g c = λ whole.
    let max = max_dist g.row.P in
    let known = known_table c.args.caller.now.story in
    let after = known_table c.answer.new.caller.story in
    let ss = c.ask_few-is_asked.new.requests.items in
    let none = c.answer.new.requests.items in
    row_along max known after ss none c.args.entry.dist (row_of c.args.graph.now.arcs c.args.entry.vertex) c.answer.ensures.later.falls (answered after ss none c.in_ok-answer.ensures.met)
    (row_waits max known (row_of c.args.graph.now.arcs c.args.entry.vertex) c.args.entry.dist c.args.requests.now.items ss (c.ask_few-is_asked.ensures.asked c.if-is_asked.true))

pub returns-else-len-ge-MOST-clause-requests : goal.returns-else-len-ge-MOST-clause-requests
returns-else-len-ge-MOST-clause-requests g c =
    row_asked g.row.P (lawful g.row.P (g.L.Lawful.allows c.args.table.now.law)) (max_dist g.row.P) c.args.table.now.vertices (row_of c.args.graph.now.arcs c.args.entry.vertex) c.args.entry.dist c.args.requests.now.items
    c.ask_few-is_asked.new.requests.items c.requires.arcs c.requires.allowed c.requires.requests (c.ask_few-is_asked.ensures.asked c.if-is_asked.true)

pub returns-else-len-ge-MOST-clause-before : goal.returns-else-len-ge-MOST-clause-before
returns-else-len-ge-MOST-clause-before g c =
    waits_before (known_table c.args.caller.now.story) c.args.requests.now.items _ c.ask_few-is_asked.new.requests.items (c.ask_few-is_asked.ensures.asked c.if-is_asked.true).1

pub returns-else-len-ge-MOST-clause-row : goal.returns-else-len-ge-MOST-clause-row
returns-else-len-ge-MOST-clause-row g c = λ whole.
    row_waits (max_dist g.row.P) (known_table c.args.caller.now.story) (row_of c.args.graph.now.arcs c.args.entry.vertex) c.args.entry.dist c.args.requests.now.items c.ask_few-is_asked.new.requests.items (c.ask_few-is_asked.ensures.asked c.if-is_asked.true)

pub returns-else-is_asked-clause-before : goal.returns-else-is_asked-clause-before
returns-else-is_asked-clause-before g c =
    let known = known_table c.ask_each.new.caller.story in
    let waiting = c.ask_each.new.requests.items in
    subst (λ (v : Vec (Request g.row.P) Global). OnOk c.ask_each.result (All (WillBeMet known waiting) v.items)) (c.ask_few-is_asked.ensures.refused c.if-is_asked.false) c.ask_each.ensures.before
