use Rattle.std.proofs.Common.{◌-◌, ◌≤◌, refl, rules}
use Rattle.std.proofs.lemmas.List.Elements.{All-contains}
use Rattle.sp_word.specs.Word.{max_dist}
use Rattle.sp_paths.specs.Paths.{IsArc, IsLeast}
use Rattle.sp_paths.specs.Rows.{row_of}
use Rattle.sp_pairs.specs.Near.{IsNext}
use Rattle.sp_pairs.proofs.NearPairs.{step_back, rest_of_way, turned_ends}
use Rattle.sp_pairs.proofs.near.turned_end.Goals as goal

pub loop-first-preserved : goal.loop-first-preserved
loop-first-preserved g c =
    let graph = c.args.graph.now in
    let s = c.args.source in
    let t = c.args.target in
    let l = c.loop-first in
    let inv = l.invariant in
    let arc = c.in-Some-2.arc in
    let next : IsNext graph s l.rest (row_of graph.arcs l.first) arc = search rules in
    let row = rw c.row.ensures.row at c.row.ensures.arcs in
    record {
      room = search rules;
      here = (All-contains (IsArc graph.n) (row_of graph.arcs l.first) arc row next.there).1;
      least = rest_of_way graph s t arc l.rest (l.rest - arc.len) next.first refl;
      on = step_back graph s t l.first l.rest arc l.later.items c.push.new.self.items c.in_ok-push.ensures.items c.loop-first-test.true inv.least next inv.on;
    }

pub returns-clause-end : goal.returns-clause-end
returns-clause-end g c =
    let graph = c.args.graph.now in
    let s = c.args.source in
    let t = c.args.target in
    let dist = c.in-Some.dist in
    let max = max_dist g.row.P in
    let least : IsLeast graph t s dist = search rules in
    let most : dist ≤ max = search rules in
    turned_ends graph s t max dist c.loop-first.first (record { source = s; target = t; dist = dist; first = c.loop-first.first; later = c.loop-first.later }) refl refl refl refl least most c.loop-first.invariant.on
